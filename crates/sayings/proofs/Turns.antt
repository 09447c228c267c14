-- Which saying of a list is a number's: the first, or one behind it. Assumes nothing.
use Rattle.std.specs.Prelude.{List, ◌∷◌, refl, ◌≡◌, ℕ}
use Rattle.std.proofs.Common.{eq-eqb, ne_eqb}
use Rattle.text.specs.Putting.{Put}
use Rattle.phrases.specs.Said.{saying_text}
use Rattle.phrases.specs.Saying.{Saying, saying_in}

pub this_one : (k : ℕ) (s : Saying) (l : List Saying) → k ≡ s.number → saying_in k (s ∷ l) ≡ s
unfolding saying_in
this_one k s l e = rw (eq-eqb k s.number e) refl

pub one_behind : (k : ℕ) (s : Saying) (l : List Saying) → (k ≡ s.number → ⊥) → saying_in k (s ∷ l) ≡ saying_in k l
unfolding saying_in
one_behind k s l e = rw (ne_eqb k s.number e) refl

pub said_later : (k : ℕ) (s : Saying) (l : List Saying) (at : ℕ) (o : List ℕ) (r : ℕ) (o' : List ℕ)
    → (k ≡ s.number → ⊥) → Put (saying_text (saying_in k l)) at o r o' → Put (saying_text (saying_in k (s ∷ l))) at o r o'
unfolding saying_in
said_later k s l at o r o' e t = rw (ne_eqb k s.number e) t
