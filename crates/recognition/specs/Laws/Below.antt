-- A test of every number below another, as a loop goes up. Assumes nothing.
use Rattle.std.specs.Prelude.{Bool, false, true, refl, ◌≡◌, suc, zero, ℕ, ◌+◌, ◌<◌, ◌≤◌, eqb}
use Rattle.std.proofs.lemmas.Bool.{false≢true, eqb-false}
use Rattle.std.proofs.Common.{ap, sym, ◌∙◌, add-one, arith, eqb-true}
use borrow.Table.Steps.{cases}
use Rattle.ground.specs.Laws.Tests.{and_l, and_r}
use Rattle.recognition.specs.Recognition.{all_below}

pub all-below : (t : ℕ → Bool) (m : ℕ) → all_below t m ≡ true → (j : ℕ) → j < m → t j ≡ true
unfolding all_below
all-below t zero e j h = absurd (omega arith)
all-below t (suc m) e j h =
    cases (eqb j m) (λ q. ap t (eqb-true j m q) ∙ and_r (all_below t m) (t m) e)
    (λ q. all-below t m (and_l (all_below t m) (t m) e) j (omega (arith, eqb-false j m q)))

pub below_all : (t : ℕ → Bool) (m : ℕ) → ((j : ℕ) → j < m → t j ≡ true) → all_below t m ≡ true
unfolding all_below
below_all t zero h = refl
below_all t (suc m) h = rw (below_all t m (λ j l. h j (omega arith)), h m (omega arith))

-- as a loop goes up
pub below_none : (t : ℕ → Bool) → all_below t 0 ≡ true
unfolding all_below
below_none t = refl

pub below_more : (t : ℕ → Bool) (j : ℕ) → all_below t j ≡ true → t j ≡ true → all_below t (j + 1) ≡ true
unfolding all_below
below_more t j e h = rw (add-one j, e, h)

pub below_fails : (t : ℕ → Bool) (j m : ℕ) → j < m → t j ≡ false → false ≡ all_below t m
below_fails t j m h e = cases (all_below t m) (λ s. absurd (false≢true (sym e ∙ all-below t m s j h))) (λ s. sym s)

pub below_end : (t : ℕ → Bool) (j m : ℕ) → j ≤ m → m ≤ j → all_below t j ≡ true → true ≡ all_below t m
below_end t j m h l e = let q : j ≡ m = omega arith in sym (rw (← q) e)
