-- How long a number is of which it is known that it is small. Assumes nothing.
use Rattle.std.specs.Prelude.{suc, zero, ℕ, ◌/◌, ◌<◌, ◌^◌, ◌≤◌, ltb, length}
use Rattle.std.proofs.Common.{arith, length-append, ltb-false}
use borrow.Table.Steps.{cases}
use Rattle.text.specs.Decimal.{decimal, digits}
use Rattle.text.specs.Fields.{field}

-- a number below a power of ten has no more digits than this says
digits-below : (m k x : ℕ) → x < 10 ^ suc k → length (digits m x) ≤ suc k
unfolding digits
digits-below zero k x h = omega arith
digits-below (suc m) zero x h = cases (ltb x 10) (λ e. rw e (omega arith)) (λ e. absurd (omega (arith, ltb-false x 10 e)))
digits-below (suc m) (suc k) x h =
    let ih = digits-below m k (x / 10) (omega arith) in
    cases (ltb x 10) (λ e. rw e (omega arith)) (λ e. rw e (simp length-append (omega arith)))

-- with its blank
pub field_below : (k x : ℕ) → x < 10 ^ suc k → length (field x) ≤ suc (suc k)
unfolding field decimal
field_below k x h = omega (arith, digits-below 20 k x h)
