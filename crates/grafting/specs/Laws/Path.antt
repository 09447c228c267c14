-- The path and the closed rows, place by place, and what their costs add up to. Assumes nothing.
use mathlib.Core.List.{[], map, ◌++◌, ◌∷◌}
use Rattle.std.proofs.Math.Path.{ap, ap₂, refl, sym}
use Rattle.std.proofs.Common.{◌∙◌, arith, le-ltb, leb-false, leb-true, ltb-false, ltb-true}
use Rattle.std.specs.Prelude.{◌≡◌, leb, ltb}
use Prim.Native.Nat.{min, suc, zero, ℕ, ◌+◌, ◌-◌, ◌<◌, ◌^◌, ◌≤◌}
use borrow.Table.Steps.{cases}
use Rattle.ground.specs.Laws.Maps.{map-append}
use Rattle.ground.specs.Laws.Ranges.{from_last}
use Rattle.ground.specs.Ranges.{from}
use Rattle.ground.specs.Sums.{sum, when}
use Rattle.theory.specs.LinkTables.{Row}
use Rattle.theory.specs.Tables.{WellFormed}
use Rattle.path_cuts.specs.Cuts.{closed, height, kept, own_cost}
use Rattle.grafting.specs.Grafting.{path_to}
use Rattle.grafting.specs.Sides.{closed_row, path_row, side}
use Rattle.recognition.specs.Recognition.{Recognised}
use Rattle.grafting.specs.Laws.Heights.{height-first, height-next, height-own, height-step}
use Rattle.grafting.specs.Laws.Sides.{side-more, side-own}

-- a cut at a, between x and y, above them or below
cut_togo : (a x y : ℕ) → x ≤ y → a - x - (y - x) ≡ a - y
cut_togo a x y h = cases (leb x a) (λ s. omega (arith, leb-true x a s)) (λ s. omega (arith, leb-false x a s))

cut-kept : (a x y u v : ℕ) → x ≤ y → u ≡ min a x → v ≡ min a y → min (a - x) (y - x) ≡ v - u
cut-kept a x y u v h p q =
    cases (leb x a)
    (λ s. cases (leb y a) (λ z. omega (arith, leb-true x a s, leb-true y a z)) (λ z. omega (arith, leb-true x a s, leb-false y a z)))
    (λ s. omega (arith, leb-false x a s))

cut-closed : (a x y : ℕ) → x ≤ y → y - x - (a - x) ≡ (y - a) - (x - a)
cut-closed a x y h = cases (leb x a) (λ s. omega (arith, leb-true x a s)) (λ s. omega (arith, leb-false x a s))

-- steps of a growing f, as far as i
pub step_sum : (f : ℕ → ℕ) (a m i : ℕ) → ((r : ℕ) → a ≤ r → r < a + m → f r ≤ f (suc r)) → a ≤ i → i ≤ a + m
    → sum (from a m) (λ r. when (ltb r i) (f (suc r) - f r)) + f a ≡ f i
step_sum f a zero i h l u = let q : i ≡ a = omega arith in rw q (omega arith)
step_sum f a (suc m) i h l u =
    cases (ltb a i)
    (λ s.
    let ih = step_sum f (suc a) m i (λ r x y. h r (omega arith) (omega arith)) (ltb-true a i s) (omega arith) in
    rw s (omega (arith, h a (omega arith) (omega arith), ih)))
    (λ s. let q : i ≡ a = omega (arith, ltb-false a i s) in rw s (omega (arith, nothing (suc a) m (omega arith), ap f q)))
  where
    nothing : (b m : ℕ) → i ≤ b → sum (from b m) (λ r. when (ltb r i) (f (suc r) - f r)) ≡ 0
    nothing b zero g = refl
    nothing b (suc m) g = rw (le-ltb b i g) (omega (arith, nothing (suc b) m (omega arith)))

module _ (L : ℕ) (e : ℕ → ℕ → ℕ) (n : ℕ) (c : WellFormed L e (suc n)) (t : Recognised e n) (o : ℕ → ℕ) where
  -- ## Place by place

  module _ (p : ℕ) (h : p < n) where
    kept_is : (i m : ℕ) → i + m ≡ p
        → kept (height e p (suc p) - height e i p) (2 ^ o (suc p)) (map (path_row e o p) (from i m)) ≡ map (path_row e o (suc p)) (from i m)
    kept_is i zero s = refl
    kept_is i (suc m) s =
        let g = height-step L e n c t i p (omega arith) (omega arith) in
        let q = cut_togo (height e p (suc p)) (height e i p) (height e (suc i) p) g in
        let v = cut-kept (height e p (suc p)) (height e i p) (height e (suc i) p) (height e i (suc p)) (height e (suc i) (suc p)) g
        (height-next L e n c t i p h (omega arith)) (height-next L e n c t (suc i) p h (omega arith)) in
        ap₂ (λ (a : Row) l. a ∷ l) (ap₂ (λ (a b : ℕ). (a, b)) (sym (side-more o (suc i) p (omega arith))) v) (rw q (kept_is (suc i) m (omega arith)))

    closed_is : (i m : ℕ) → i + m ≡ p → closed (height e p (suc p) - height e i p) (map (path_row e o p) (from i m)) ≡ map (closed_row e o p) (from i m)
    closed_is i zero s = refl
    closed_is i (suc m) s =
        let g = height-step L e n c t i p (omega arith) (omega arith) in
        let q = cut_togo (height e p (suc p)) (height e i p) (height e (suc i) p) g in
        let v = cut-closed (height e p (suc p)) (height e i p) (height e (suc i) p) g in
        ap₂ (λ (a : Row) l. a ∷ l) (ap (λ (b : ℕ). (side o (suc i) p, b)) v) (rw q (closed_is (suc i) m (omega arith)))

  pub path_is : (p : ℕ) → p ≤ n → path_to e o p ≡ map (path_row e o p) (from 0 p)
  unfolding path_to
  path_is zero h = refl
  path_is (suc p) h =
      let z : height e p (suc p) ≡ height e p (suc p) - height e 0 p = omega (arith, height-first L e n c t p (omega arith)) in
      let k : kept (height e p (suc p)) (2 ^ o (suc p)) (path_to e o p) ≡ map (path_row e o (suc p)) (from 0 p) =
      ap₂ (λ (a : ℕ) P. kept a (2 ^ o (suc p)) P) z (path_is p (omega arith)) ∙ kept_is p (omega arith) 0 p (omega arith) in
      let v : own_cost e p ≡ height e (suc p) (suc p) - height e p (suc p) = omega (arith, height-own L e n c t p (omega arith)) in
      let l : path_row e o (suc p) p ≡ (2 ^ o (suc p), own_cost e p) = ap₂ (λ (a b : ℕ). (a, b)) (side-own o p) (sym v) in
      let q : from 0 (suc p) ≡ from 0 p ++ (p ∷ []) = from_last 0 p ∙ ap (λ x. from 0 p ++ (x ∷ [])) (omega arith) in
      ap₂ (λ P (a : Row). P ++ (a ∷ [])) k (sym l) ∙ sym (ap (map (path_row e o (suc p))) q ∙ map-append (path_row e o (suc p)) (from 0 p) (p ∷ []))

  pub closed-rows : (p : ℕ) → p < n → closed (height e p (suc p)) (path_to e o p) ≡ map (closed_row e o p) (from 0 p)
  closed-rows p h =
      let z : height e p (suc p) ≡ height e p (suc p) - height e 0 p = omega (arith, height-first L e n c t p (omega arith)) in
      ap₂ closed z (path_is p (omega arith)) ∙ closed_is p h 0 p (omega arith)
