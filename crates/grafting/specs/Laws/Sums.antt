-- What the costs of the path and of the closed rows add up to: for two images, the height at which their paths part. Assumes nothing.
use Rattle.std.specs.Prelude.{Bool, false, true, ◌&&◌, List, [], map, ◌∷◌, refl, ◌≡◌, leb, ltb}
use Rattle.std.proofs.Common.{ap}
use Prim.Native.Nat.{max, suc, zero, ℕ, ◌*◌, ◌+◌, ◌-◌, ◌<◌, ◌≤◌}
use native.Mathlib.Omega.{arith}
use borrow.Author.Tests.{le-leb, leb-false, leb-true, lt-leb, ltb-true}
use borrow.Table.Steps.{cases}
use Rattle.ground.specs.Laws.Sums.{sum-append, sum-map, sum_same, sum_zero}
use Rattle.ground.specs.Ranges.{from}
use Rattle.ground.specs.Sums.{sum, when}
use Rattle.ground.specs.Tests.{one_of}
use Rattle.theory.specs.FarSides.{holds}
use Rattle.theory.specs.LinkTables.{Row, path}
use Rattle.theory.specs.Tables.{WellFormed}
use Rattle.path_cuts.specs.Cuts.{closed, height}
use Rattle.grafting.specs.Grafting.{closed_to, path_to}
use Rattle.grafting.specs.Sides.{above, side}
use Rattle.recognition.specs.Recognition.{Places, Recognised}
use Rattle.grafting.specs.Laws.Heights.{height-first, height-next, height-step}
use Rattle.grafting.specs.Laws.Path.{closed-rows, path_is, step_sum}
use Rattle.rows.specs.Rows.{cost_if}
use Rattle.grafting.specs.Laws.Sides.{side-holds}

-- S holds both x and y
abbrev pub both_in : ℕ → ℕ → ℕ → Bool
both_in x y S = holds S x && holds S y

-- path costs by what far sides hold: twice the common part is missing from the two ways to the first image
pub path-both : (x y : ℕ) (R : List Row) → path R x y + 2 * sum R (cost_if (both_in x y)) ≡ sum R (cost_if (both_in x x)) + sum R (cost_if (both_in y y))
path-both x y [] = refl
path-both x y (r ∷ R) = let ih = path-both x y R in go (holds r.0 x) (holds r.0 y) ih
  where
    go : (a b : Bool) → path R x y + 2 * sum R (cost_if (both_in x y)) ≡ sum R (cost_if (both_in x x)) + sum R (cost_if (both_in y y))
        → (when (one_of a b) r.1 + path R x y) + 2 * (when (a && b) r.1 + sum R (cost_if (both_in x y)))
        ≡ (when (a && a) r.1 + sum R (cost_if (both_in x x))) + (when (b && b) r.1 + sum R (cost_if (both_in y y)))
    go true true ih = omega arith
    go true false ih = omega arith
    go false true ih = omega arith
    go false false ih = omega arith

module _ (L : ℕ) (e : ℕ → ℕ → ℕ) (n : ℕ) (c : WellFormed L e (suc n)) (t : Recognised e n) (o : ℕ → ℕ) (w : Places o (suc n)) where
  -- the places i ≤ j, both among the places after r up to p
  both-side : (i j p r : ℕ) → i ≤ j → j ≤ p → p ≤ n → both_in (o i) (o j) (side o (suc r) p) ≡ ltb r i
  both-side i j p r l m h =
      let si = side-holds o (suc n) w (suc r) (omega arith) p i (omega arith) (omega arith) in
      let sj = side-holds o (suc n) w (suc r) (omega arith) p j (omega arith) (omega arith) in
      rw (si, sj, le-leb i p (omega arith), le-leb j p m)
      (cases (ltb r i)
      (λ s. rw (s, le-leb (suc r) j (omega (arith, ltb-true r i s))))
      (λ s. rw s))

  late_side : (i j p r : ℕ) → i ≤ j → p < j → j ≤ n → both_in (o i) (o j) (side o (suc r) p) ≡ false
  late_side i j p r l m h =
      rw (side-holds o (suc n) w (suc r) (omega arith) p j (omega arith) (omega arith), lt-leb j p m)
      (cases (holds (side o (suc r) p) (o i)) (λ s. rw s (cases (leb (suc r) j) (λ z. rw z) (λ z. rw z))) (λ s. rw s))

  -- the rows of a growing f over the places after 0, 1, .. up to p
  module _ (f : ℕ → ℕ) (p : ℕ) (h : p ≤ n) (up : (r : ℕ) → r < p → f r ≤ f (suc r)) where
    rows-sum : (i j : ℕ) → i ≤ j → j ≤ p → sum (map (λ r. (side o (suc r) p, f (suc r) - f r)) (from 0 p)) (cost_if (both_in (o i) (o j))) + f 0 ≡ f i
    rows-sum i j l m =
        let a = sum-map (λ (r : ℕ). (side o (suc r) p, f (suc r) - f r)) (cost_if (both_in (o i) (o j))) (from 0 p) in
        let b = sum_same (λ r. when (both_in (o i) (o j) (side o (suc r) p)) (f (suc r) - f r)) (λ r. when (ltb r i) (f (suc r) - f r)) (from 0 p)
        (λ r x. ap (λ z. when z (f (suc r) - f r)) (both-side i j p r l m h)) in
        omega (arith, step_sum f 0 p i (λ r x y. up r (omega arith)) (omega arith) (omega arith))

    rows_late : (i j : ℕ) → i ≤ j → p < j → j ≤ n → sum (map (λ r. (side o (suc r) p, f (suc r) - f r)) (from 0 p)) (cost_if (both_in (o i) (o j))) ≡ 0
    rows_late i j l m g =
        let a = sum-map (λ (r : ℕ). (side o (suc r) p, f (suc r) - f r)) (cost_if (both_in (o i) (o j))) (from 0 p) in
        let b = sum_same (λ r. when (both_in (o i) (o j) (side o (suc r) p)) (f (suc r) - f r)) (λ r. 0) (from 0 p)
        (λ r x. ap (λ z. when z (f (suc r) - f r)) (late_side i j p r l m g)) in
        omega (arith, sum_zero (from 0 p))

  pub path-sum : (i j : ℕ) → i ≤ j → j ≤ n → sum (path_to e o n) (cost_if (both_in (o i) (o j))) ≡ height e i n
  path-sum i j l m =
      rw (path_is L e n c t o n (omega arith))
      (let s = rows-sum (λ r. height e r n) n (omega arith) (λ r x. height-step L e n c t r n (omega arith) x) i j l m in
      omega (arith, s, height-first L e n c t n (omega arith)))

  -- what the graft after p closes
  closed-part : (i j p : ℕ) → i ≤ j → j ≤ p → p < n
      → sum (closed (height e p (suc p)) (path_to e o p)) (cost_if (both_in (o i) (o j))) + height e i (suc p) ≡ height e i p
  closed-part i j p l m h =
      rw (closed-rows L e n c t o p h)
      (let s = rows-sum (above e p) p (omega arith) (λ r x. omega (arith, height-step L e n c t r p (omega arith) x)) i j l m in
      let z = height-first L e n c t p (omega arith) in
      let q = height-next L e n c t i p h (omega arith) in
      omega arith)

  closed_late : (i j p : ℕ) → i ≤ j → p < j → j ≤ n → sum (closed (height e p (suc p)) (path_to e o p)) (cost_if (both_in (o i) (o j))) ≡ 0
  closed_late i j p l m h =
      rw (closed-rows L e n c t o p (omega arith))
      (rows_late (above e p) p (omega arith) (λ r x. omega (arith, height-step L e n c t r p (omega arith) x)) i j l m h)

  pub closed-sum : (i j p : ℕ) → i ≤ j → j ≤ n → p ≤ n → sum (closed_to e o p) (cost_if (both_in (o i) (o j))) + height e i (max j p) ≡ height e i j
  unfolding closed_to
  closed-sum i j zero l m h = let q : max j 0 ≡ j = omega arith in rw q (omega arith)
  closed-sum i j (suc p) l m h =
      let ih = closed-sum i j p l m (omega arith) in
      let a = sum-append (cost_if (both_in (o i) (o j))) (closed_to e o p) (closed (height e p (suc p)) (path_to e o p)) in
      cases (leb j p)
      (λ s. let q : max j (suc p) ≡ suc p = omega (arith, leb-true j p s) in
      let u : max j p ≡ p = omega (arith, leb-true j p s) in
      rw q (let ih = rw u at ih in omega (arith, closed-part i j p l (leb-true j p s) (omega arith))))
      (λ s. let q : max j (suc p) ≡ j = omega (arith, leb-false j p s) in
      let u : max j p ≡ j = omega (arith, leb-false j p s) in
      rw q (let ih = rw u at ih in omega (arith, closed_late i j p l (leb-false j p s) m)))

  -- together
  pub all-sum : (i j : ℕ) → i ≤ j → j ≤ n → sum (path_to e o n) (cost_if (both_in (o i) (o j))) + sum (closed_to e o n) (cost_if (both_in (o i) (o j))) ≡ height e i j
  all-sum i j l m = let q : max j n ≡ n = omega arith in let s = closed-sum i j n l m (omega arith) in let s = rw q at s in omega (arith, path-sum i j l m)
