-- What is said of a refusal, whatever its number, passes each test that the sayings of the list and that of any other number pass. So a law
-- about all texts is one test that antt computes. Assumes nothing.
use Rattle.std.specs.Prelude.{Bool, false, true, ◌&&◌, ◌||◌, List, [], ◌∷◌, refl, ◌≡◌, ℕ, eqb}
use Rattle.std.proofs.lemmas.Bool.{false≢true}
use Rattle.std.proofs.Common.{sym, eqb-true}
use borrow.Table.Steps.{cases}
use Rattle.ground.specs.Laws.Tests.{and_l, and_r}
use Rattle.phrases.specs.Saying.{Saying, saying_in, unknown}
use Rattle.sayings.specs.Sayings.{sayings}

abbrev pub all_pass : (Saying → Bool) → List Saying → Bool
all_pass p [] = true
all_pass p (s ∷ l) = p s && all_pass p l

-- by whether the places a and b are 0, which the words of some refusals depend on
pub by_zeros : {X : Type 0} (a b : ℕ) → (eqb a 0 ≡ true → eqb b 0 ≡ true → X) → (eqb a 0 ≡ true → eqb b 0 ≡ false → X)
    → (eqb a 0 ≡ false → eqb b 0 ≡ true → X) → (eqb a 0 ≡ false → eqb b 0 ≡ false → X) → X
by_zeros a b both row column neither =
    cases (eqb a 0) (λ e. cases (eqb b 0) (both e) (row e)) (λ e. cases (eqb b 0) (column e) (neither e))

pub said_passes : (p : Saying → Bool) (k : ℕ) (l : List Saying) → all_pass p l ≡ true → p (unknown k) ≡ true → p (saying_in k l) ≡ true
unfolding saying_in
said_passes p k [] e u = u
said_passes p k (s ∷ l) e u =
    let ih = said_passes p k l (and_r (p s) (all_pass p l) e) u in
    cases (eqb k s.number) (λ h. rw h (and_l (p s) (all_pass p l) e)) (λ h. rw h ih)

-- ## A number that some refusal has

-- a saying of the list has it
abbrev pub known_in : ℕ → List Saying → Bool
known_in k [] = false
known_in k (s ∷ l) = eqb k s.number || known_in k l

-- some refusal has the number
abbrev pub known : ℕ → Bool
known k = known_in k (sayings 0 0 0 0)

-- what is said of it passes each test that the list passes
pub known-passes : (p : Saying → Bool) (k : ℕ) (l : List Saying) → known_in k l ≡ true → all_pass p l ≡ true → p (saying_in k l) ≡ true
unfolding saying_in
known-passes p k [] h e = absurd (false≢true h)
known-passes p k (s ∷ l) h e =
    cases (eqb k s.number) (λ g. rw g (and_l (p s) (all_pass p l) e))
    (λ g. rw g (known-passes p k l (rw g at h) (and_r (p s) (all_pass p l) e)))

-- and what is said of any number is said under that number
pub said_number : (k : ℕ) (l : List Saying) → (saying_in k l).number ≡ k
unfolding saying_in
said_number k [] = refl
said_number k (s ∷ l) = cases (eqb k s.number) (λ g. rw g (sym (eqb-true k s.number g))) (λ g. rw g (said_number k l))
