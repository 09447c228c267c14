-- Words and fields, piece by piece, as a loop writes them. Assumes nothing.
use Rattle.std.specs.Prelude.{List, [], ◌++◌, ◌∷◌, refl, ◌≡◌, ℕ, ◌+◌, ◌<◌, ◌≤◌, drop, get_or, length}
use Rattle.std.proofs.Common.{subst, add-one, drop_of_length-le, drop-cons}
use Rattle.text.specs.Fields.{field, fields}
use Rattle.text.specs.Putting.{Put, Rest}

-- the next byte of a word, and those behind it
pub word_turn : (w : List ℕ) (i : ℕ) → i < length w → drop i w ≡ (get_or w i 0 ∷ []) ++ drop (i + 1) w
word_turn w i h = rw (add-one i) (drop-cons w i 0 h)

-- the next field, and those behind it
pub fields-turn : (l : List ℕ) (i : ℕ) → i < length l → fields (drop i l) ≡ field (get_or l i 0) ++ fields (drop (i + 1) l)
unfolding fields
fields-turn l i h = rw (add-one i, drop-cons l i 0 h) refl

-- nothing is left behind the last
pub drop_none : (l : List ℕ) (i : ℕ) → length l ≤ i → drop i l ≡ []
drop_none l i h = drop_of_length-le l {i = i} h

pub fields_end : (l : List ℕ) (i : ℕ) → length l ≤ i → fields (drop i l) ≡ []
unfolding fields
fields_end l i h = rw (drop_none l i h) refl

-- what is left to write, said otherwise
pub rest_same : {m m' : List ℕ} {p : ℕ} {o text : List ℕ} {p₀ : ℕ} {o₀ : List ℕ} → m ≡ m' → Rest m p o text p₀ o₀ → Rest m' p o text p₀ o₀
rest_same {p = p} {o} {text} {p₀} {o₀} e r = subst (λ (x : List ℕ). Rest x p o text p₀ o₀) e r

-- and what was written
pub put_same : {m m' : List ℕ} {p : ℕ} {o : List ℕ} {p' : ℕ} {o' : List ℕ} → m ≡ m' → Put m p o p' o' → Put m' p o p' o'
put_same {p = p} {o} {p'} {o'} e t = subst (λ (x : List ℕ). Put x p o p' o') e t
