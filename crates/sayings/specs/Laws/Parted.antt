-- Words that differ at a place that both have: texts that begin with them differ, whatever follows. Assumes nothing.
use Rattle.std.specs.Prelude.{Bool, false, not, true, ◌||◌, List, [], ◌++◌, ◌∷◌, ◌≡◌, ℕ, eqb}
use Rattle.std.proofs.lemmas.Bool.{false≢true, eqb-false}
use Rattle.std.proofs.Common.{eqb-true}
use borrow.Table.Steps.{cases}
use Rattle.text.specs.Fields.{fields}
use Rattle.text.specs.Words.{bytes_of}
use Rattle.phrases.specs.Saying.{Saying}
use Rattle.phrases.specs.Said.{saying_text}

abbrev pub parted : List ℕ → List ℕ → Bool
parted [] m = false
parted (x ∷ l) [] = false
parted (x ∷ l) (y ∷ m) = not (eqb x y) || parted l m

pub parted-differ : (l m x y : List ℕ) → parted l m ≡ true → l ++ x ≡ m ++ y → ⊥
parted-differ [] m x y e f = false≢true e
parted-differ (a ∷ l) [] x y e f = false≢true e
parted-differ (a ∷ l) (b ∷ m) x y e f =
    cases (eqb a b) (λ h. parted-differ l m x y (rw h at e) (cc)) (λ h. eqb-false a b h (cc))

-- of two sayings, that they are of one number or parted; the numbers come first, so that the two shapes of one saying are not compared
abbrev pub apart : Saying → Saying → Bool
apart s t = eqb s.number t.number || parted (bytes_of s.words) (bytes_of t.words)

pub apart_same : (s t : Saying) → apart s t ≡ true → saying_text s ≡ saying_text t → s.number ≡ t.number
unfolding saying_text
apart_same s t e f =
    let v = bytes_of s.words in
    let w = bytes_of t.words in
    cases (eqb s.number t.number) (λ h. eqb-true s.number t.number h)
    (λ h. absurd (parted-differ v w (fields s.places) (fields t.places) (rw h at e) f))
