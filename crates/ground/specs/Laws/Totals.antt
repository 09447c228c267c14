-- Laws of sums over the numbers below a bound. Assumes nothing.
use mathlib.Core.List.Memᴰ
use Rattle.std.specs.Prelude.{List, [], ◌∷◌, refl, ◌≡◌, suc, zero, ℕ, ◌+◌, ◌<◌, ◌≤◌, eqb, length}
use Rattle.std.proofs.Common.{ap, arith, eqb-true, ne_eqb}
use Rattle.std.proofs.lemmas.Bool.{eqb-false}
use borrow.Table.Steps.{cases}
use Rattle.ground.specs.Counts.{one_if}
use Rattle.ground.specs.Filters.{Each}
use Rattle.ground.specs.Members.{occurs}
use Rattle.ground.specs.Totals.{total}

pub total-add : (n : ℕ) (g h : ℕ → ℕ) → total n (λ t. g t + h t) ≡ total n g + total n h
total-add zero g h = omega arith
total-add (suc n) g h = omega (arith, total-add n g h)

pub total_none : (n y : ℕ) → n ≤ y → total n (λ t. one_if (eqb t y)) ≡ 0
total_none zero y h = refl
total_none (suc n) y h = rw (ne_eqb n y (λ e. omega arith)) (omega (arith, total_none n y (omega arith)))

pub total-one : (n y : ℕ) → y < n → total n (λ t. one_if (eqb t y)) ≡ 1
total-one zero y h = absurd (omega arith)
total-one (suc n) y h =
    cases (eqb n y) (λ e. rw e (omega (arith, total_none n y (omega (arith, eqb-true n y e)))))
    (λ e. rw e (omega (arith, total-one n y (omega (arith, eqb-false n y e)))))

pub total_zero : (n : ℕ) → total n (λ t. 0) ≡ 0
total_zero zero = refl
total_zero (suc n) = omega (arith, total_zero n)

pub total-occurs : (n : ℕ) (l : List ℕ) → Each l (λ i. i < n) → total n (λ t. occurs t l) ≡ length l
total-occurs n [] h = total_zero n
total-occurs n (y ∷ l) h =
    omega
    (arith, total-add n (λ t. one_if (eqb t y)) (λ t. occurs t l), total-one n y (h y (Memᴰ.head refl)), total-occurs n l (λ i m. h i (Memᴰ.tail m)))

pub total-most : (n : ℕ) (g : ℕ → ℕ) → ((t : ℕ) → t < n → g t ≤ 1) → total n g ≤ n
total-most zero g h = omega arith
total-most (suc n) g h = omega (arith, h n (omega arith), total-most n g (λ t l. h t (omega arith)))

pub total_each : (n : ℕ) (g : ℕ → ℕ) → ((t : ℕ) → t < n → g t ≤ 1) → n ≤ total n g → (t : ℕ) → t < n → g t ≡ 1
total_each zero g h s t l = absurd (omega arith)
total_each (suc n) g h s t l =
    cases (eqb t n)
    (λ e. let r = eqb-true t n e in omega (arith, ap g r, h n (omega arith), total-most n g (λ t l. h t (omega arith))))
    (λ e. total_each n g (λ t l. h t (omega arith)) (omega (arith, h n (omega arith))) t (omega (arith, eqb-false t n e)))

pub total_least : (n : ℕ) (g : ℕ → ℕ) → ((t : ℕ) → t < n → 1 ≤ g t) → n ≤ total n g
total_least zero g h = omega arith
total_least (suc n) g h = omega (arith, h n (omega arith), total_least n g (λ t l. h t (omega arith)))
