-- Demand 3: entries that move by at most D move every index by at most 4 D (D1).
-- Assumes nothing.
use Rattle.std.proofs.lemmas.Bool.{false≢true}
use mathlib.Core.List.Memᴰ
use mathlib.Core.List.{List, Memᴰ, [], ◌∷◌}
use Rattle.std.proofs.Common.{inl, inr, ap, sym, ◌∙◌, arith, eq-eqb, ltb-false, ltb-true, ne_eqb}
use Rattle.std.specs.Prelude.{◌⊎◌, refl, ◌≡◌, suc, ℕ, ◌*◌, ◌+◌, ◌-◌, ◌<◌, ◌^◌, ◌≤◌, eqb, ltb}
use borrow.Table.Steps.{cases}
use Rattle.ground.specs.Ascending.{Between}
use Rattle.ground.specs.Laws.Ascending.{between_mem}
use Rattle.ground.specs.Bits.{bit}
use Rattle.ground.specs.Filters.{Each}
use Rattle.ground.specs.Sums.{sum, when}
use Rattle.ground.specs.Laws.Sums.{sum-filter, sum-map, sum_same}
use Rattle.theory.specs.FarSides.{FarSide, sides}
use Rattle.theory.specs.Index.{clipped}
use Rattle.theory.specs.Laws.FarSides.{far_image, sides_all, sides_between}
use Rattle.theory.proofs.Laws.Index.{clipped_low, low_clipped}
use Rattle.theory.proofs.Laws.OneTree.{index-drawn}
use Rattle.theory.proofs.Laws.OnlyOne.{unique}
use Rattle.theory.specs.OneMore.{more}
use Rattle.theory.specs.LinkTables.{Row, cost_of}
use Rattle.theory.specs.Readings.{Exact, Near, drawn, measured, row, rows}
use Rattle.theory.specs.Tables.{WellFormed}

pub near_sym : (D : ℕ) (d e : ℕ → ℕ → ℕ) (n : ℕ) → Near D d e n → Near D e d n
near_sym D d e n p = record { up = λ hi hj. p.down hi hj; down = λ hi hj. p.up hi hj }

-- D1.
pub index-near : (L D : ℕ) (d e : ℕ → ℕ → ℕ) (n S : ℕ) → WellFormed L d n → WellFormed L e n → Near D d e n → FarSide n S
    → clipped L d n (bit S) ≤ clipped L e n (bit S) + 4 * D
index-near L D d e n S c c' p f =
    cases (ltb (4 * D) (clipped L d n (bit S)))
    (λ t.
    let more = ltb-true (4 * D) (clipped L d n (bit S)) t in
    let low = clipped_low L d n (bit S) c (omega arith) in
    let b = far_image n S f in
    omega (
      arith,
      low_clipped L e n (bit S) c' (clipped L d n (bit S) - 4 * D) {a = 0} {b = b.0} (omega arith, f.near) (b.1, b.2)
          (record {
            low = λ ha ha' hb hb'. omega
                (arith, low.low ha ha' hb hb', p.down ha.0 ha'.0, p.down hb.0 hb'.0, p.up ha.0 hb.0, p.up ha'.0 hb'.0);
          }),
    ))
    (λ t. omega (arith, ltb-false (4 * D) (clipped L d n (bit S)) t))

-- one element of an ascending list, picked out by its number
sum-at : (g : ℕ → ℕ) (S m k : ℕ) (l : List ℕ) → Between m l k → S < m → sum l (λ x. when (eqb x S) (g x)) ≡ 0
sum-at g S m k [] b h = refl
sum-at g S m k (x ∷ l) b h = rw (ne_eqb x S (λ e. omega arith)) (omega (arith, sum-at g S (suc x) k l b.1 (omega arith)))

sum-pick : (g : ℕ → ℕ) (S m k : ℕ) (l : List ℕ) → Between m l k → Memᴰ S l → sum l (λ x. when (eqb x S) (g x)) ≡ g S
sum-pick g S m k [] b t = absurd (Memᴰ.not-nil t)
sum-pick g S m k (x ∷ l) b t = go (Memᴰ.cases_cons t) (sum-pick g S (suc x) k l b.1)
  where
    go : (S ≡ x) ⊎ Memᴰ S l → (Memᴰ S l → sum l (λ x. when (eqb x S) (g x)) ≡ g S) → when (eqb x S) (g x) + sum l (λ x. when (eqb x S) (g x)) ≡ g S
    go (inl e) ih = rw (eq-eqb x S (sym e)) (omega (arith, ap g e, sum-at g S (suc x) k l b.1 (omega arith)))
    go (inr s) ih = rw (ne_eqb x S (λ e. omega (arith, between_mem (suc x) k l b.1 S s))) (omega (arith, ih s))

-- in the measured reading that is the index: a division that is not drawn has index 0
pub measured-cost : (L : ℕ) (d : ℕ → ℕ → ℕ) (n S : ℕ) → FarSide n S → cost_of (measured L d n) S ≡ clipped L d n (bit S)
measured-cost L d n S f =
    rw (sum-map (row L d n) (λ r. when (eqb r.0 S) r.1) (rows L d n), sum-filter (drawn L d n) (λ x. when (eqb x S) (clipped L d n (bit x))) (sides n))
    (sum_same _ _ (sides n) swap ∙ sum-pick g S 1 (2 ^ n) (sides n) (sides_between n) (sides_all n S f) ∙ same)
  where
    g : ℕ → ℕ
    g x = when (drawn L d n x) (clipped L d n (bit x))

    swap : Each (sides n) (λ x. when (drawn L d n x) (when (eqb x S) (clipped L d n (bit x))) ≡ when (eqb x S) (g x))
    swap x m = cases (eqb x S) (λ e. rw e) (λ e. cases (drawn L d n x) (λ t. rw (e, t)) (λ t. rw (e, t)))

    same : g S ≡ clipped L d n (bit S)
    same = cases (drawn L d n S) (λ e. rw e)
        (λ e. cases (ltb 0 (clipped L d n (bit S)))
        (λ t. absurd (false≢true (sym e ∙ index-drawn L d n S (ltb-true 0 (clipped L d n (bit S)) t))))
        (λ t. rw e (omega (arith, ltb-false 0 (clipped L d n (bit S)) t))))

-- for each division the doubled costs differ by at most 4 D
pub cost-near : (L D : ℕ) (d e : ℕ → ℕ → ℕ) (n : ℕ) (T : List Row) → WellFormed L d n → WellFormed L e n → Exact L d n T → Near D d e n
    → (S : ℕ) → FarSide n S → (cost_of T S ≤ cost_of (measured L e n) S + 4 * D) × (cost_of (measured L e n) S ≤ cost_of T S + 4 * D)
cost-near L D d e n T c c' x p S f =
    let u = unique L d n c T x.tree x.meets in
    let a = ap (λ (t : List Row). cost_of t S) u ∙ measured-cost L d n S f in
    let b = measured-cost L e n S f in
    (omega (arith, index-near L D d e n S c c' p f), omega (arith, index-near L D e d n S c' c (near_sym D d e n p) f))
