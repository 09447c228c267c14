-- Law O3: on an accepted table the closed sum along the order is the sum of all doubled costs.
-- Assumes nothing.
use mathlib.Core.List.Memᴰ
use Rattle.std.specs.Prelude.{List, [], ◌∷◌, refl, ◌≡◌, ℕ, ◌*◌, ◌-◌, ◌<◌, ltb}
use Rattle.std.proofs.Common.{sym, ◌∙◌, arith, ltb-false, ltb-true}
use borrow.Table.Steps.{cases}
use Rattle.ground.specs.Counts.{one_if}
use Rattle.ground.specs.Filters.{Each}
use Rattle.ground.specs.Sums.{sum, when}
use Rattle.ground.specs.Laws.Sums.{sum-add, sum_same}
use Rattle.theory.proofs.Laws.Paths.{row-far}
use Rattle.theory.proofs.Laws.Ring.{one-run}
use Rattle.theory.proofs.Laws.RowsFound.{row_low}
use Rattle.theory.specs.Laws.Walk.{End, grow_end, range_all, start}
use Rattle.theory.specs.LinkTables.{Row, all_costs, apart, path}
use Rattle.theory.specs.Order.{along, closed, grow, order}
use Rattle.theory.specs.Readings.{Exact}
use Rattle.theory.specs.Tables.{WellFormed}

pub along_same : (n : ℕ) (g h : ℕ → ℕ → ℕ) → ((i j : ℕ) → i < n → j < n → g i j ≡ h i j) → (f x : ℕ) (l : List ℕ) → f < n → Each (x ∷ l) (λ i. i < n)
    → along g f x l ≡ along h f x l
along_same n g h e f x [] hf r = e x f (r x (Memᴰ.head refl)) hf
along_same n g h e f x (y ∷ l) hf r =
    omega (arith, e x y (r x (Memᴰ.head refl)) (r y (Memᴰ.tail (Memᴰ.head refl))), along_same n g h e f y l hf (λ i m. r i (Memᴰ.tail m)))

pub along-twice : (g : ℕ → ℕ → ℕ) (f x : ℕ) (l : List ℕ) → along (λ i j. 2 * g i j) f x l ≡ 2 * along g f x l
along-twice g f x [] = refl
along-twice g f x (y ∷ l) = omega (arith, along-twice g f y l)

pub along-sum : (g : Row → ℕ → ℕ → ℕ) (T : List Row) (f x : ℕ) (l : List ℕ) → along (λ i j. sum T (λ r. g r i j)) f x l ≡ sum T (λ r. along (g r) f x l)
along-sum g T f x [] = refl
along-sum g T f x (y ∷ l) = omega (arith, sum-add (λ r. g r x y) (λ r. along (g r) f y l) T, along-sum g T f y l)

pub along-when : (S v f x : ℕ) (l : List ℕ) → along (λ i j. when (apart S i j) v) f x l ≡ along (λ i j. one_if (apart S i j)) f x l * v
along-when S v f x [] = cases (apart S x f) (λ e. rw e (omega arith)) (λ e. rw e (omega arith))
along-when S v f x (y ∷ l) = let ih = along-when S v f y l in cases (apart S x y) (λ e. rw e (omega arith)) (λ e. rw e (omega arith))

pub sum_twice : (T : List Row) → sum T (λ r. 2 * r.1) ≡ 2 * sum T (λ r. r.1)
sum_twice [] = refl
sum_twice (r ∷ T) = omega (arith, sum_twice T)

-- on an accepted table the closed sum along the order is the sum of all doubled costs
pub closed-sum : (L : ℕ) (d : ℕ → ℕ → ℕ) (n : ℕ) (T : List Row) → WellFormed L d n → Exact L d n T
    → (f last : ℕ) → f < n → last < n → (f ≡ last → ⊥) → closed d (order d n f last) ≡ all_costs T
closed-sum L d n T c x f last hf hl ne =
    go (grow_end d n f hf (λ y l. Unit {0}) (λ y w l p q h. tt) (n - 2) last [] (omega arith) (start d n f hf last hl ne) tt)
  where
    go : End d n f hf (λ y l. Unit {0}) (grow d n f (n - 2) last []) → closed d (order d n f last) ≡ all_costs T
    go e =
        let l = e.head ∷ e.tail in
        let range = range_all d n f hf e.head e.tail e.placed in
        let a = along_same n (λ i j. 2 * d i j) (path T) (λ i j hi hj. sym (x.meets.meets hi hj)) f f l hf range in
        let b = along-sum (λ r i j. when (apart r.0 i j) r.1) T f f l in
        let each : Each T (λ r. along (λ i j. when (apart r.0 i j) r.1) f f l ≡ 2 * r.1) = λ r m.
        along-when r.0 r.1 f f l ∙ cases (ltb 0 r.1)
        (λ t.
        let low = row_low L n T x.tree d x.meets r m in
        let one = one-run L d n c f hf r.0 (row-far L n T x.tree r m)
        (record { low = λ ha ha' hb hb'. omega (arith, low.low ha ha' hb hb', ltb-true 0 r.1 t) }) last hl ne in
        let two = rw e.is at one in
        rw two)
        (λ t. let z : r.1 ≡ 0 = omega (arith, ltb-false 0 r.1 t) in rw z (omega arith)) in
        let s = sum_same (λ r. along (λ i j. when (apart r.0 i j) r.1) f f l) (λ r. 2 * r.1) T each in
        rw e.is (omega (arith, along-twice d f f l, sum_twice T))
