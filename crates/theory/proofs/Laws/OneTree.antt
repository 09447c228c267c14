-- What is drawn does not cross (C1, C2), and so the measured reading is a link table.
-- Assumes nothing.
use Rattle.std.specs.Prelude.{false, not, true, ◌⊎◌, refl, ◌≡◌, suc, ℕ, ◌<◌, ◌^◌, ltb}
use Rattle.std.proofs.Common.{true≢false, inl, inr, ap, sym, ◌∙◌, arith, lt-ltb, ltb-true}
use mathlib.Core.List.{List, Memᴰ, [], map, ◌∷◌}
use Rattle.std.proofs.lemmas.Bool.{not-true}
use Rattle.ground.specs.Ascending.{Between}
use Rattle.ground.specs.Laws.Ascending.{between_filter}
use Rattle.ground.specs.Bits.{bit}
use Rattle.ground.specs.Filters.{Each}
use Rattle.ground.specs.Laws.Filters.{filter-mem, mem-filter}
use Rattle.ground.specs.Laws.Maps.{map-mem}
use Rattle.ground.specs.Laws.Tests.{false_not, or_cases, or_l, or_r}
use Rattle.theory.specs.FarSides.{FarSide, inner, own, sides}
use Rattle.theory.specs.Index.{AtLeast, clipped}
use Rattle.theory.proofs.Laws.Divisions.{crossing}
use Rattle.theory.specs.Laws.FarSides.{sides_all, sides_between, sides-far}
use Rattle.theory.proofs.Laws.Index.{clipped_cap, clipped_low}
use Rattle.theory.specs.Laws.Nested.{Uncrossed, holds_false, holds_true, uncrossed_nested, uncrossed_sym}
use Rattle.theory.proofs.Laws.OwnLinks.{own-far, own_not_inner, own_uncrossed}
use Rattle.theory.specs.LinkTables.{LinkTable, Row, fars}
use Rattle.theory.specs.Readings.{drawn, measured, row, rows}
use Rattle.theory.specs.Tables.{WellFormed}
use denote.RattleType.{owns}

module _ (L : ℕ) (d : ℕ → ℕ → ℕ) (n : ℕ) (S : ℕ) where
  pub drawn_cases : drawn L d n S ≡ true → (inner n S ≡ false) ⊎ (0 < clipped L d n (bit S))
  drawn_cases e = go (or_cases (not (inner n S)) (ltb 0 (clipped L d n (bit S))) e)
    where
      go : (not (inner n S) ≡ true) ⊎ (ltb 0 (clipped L d n (bit S)) ≡ true) → (inner n S ≡ false) ⊎ (0 < clipped L d n (bit S))
      go (inl t) = inl (not-true (inner n S) t)
      go (inr t) = inr (ltb-true 0 (clipped L d n (bit S)) t)

  pub own-drawn : inner n S ≡ false → drawn L d n S ≡ true
  own-drawn e = or_l (not (inner n S)) (ltb 0 (clipped L d n (bit S))) (false_not (inner n S) e)

  pub index-drawn : 0 < clipped L d n (bit S) → drawn L d n S ≡ true
  index-drawn h = or_r (not (inner n S)) (ltb 0 (clipped L d n (bit S))) (lt-ltb 0 (clipped L d n (bit S)) h)

-- C1, C2. What is drawn does not cross.
module _ (L : ℕ) (d : ℕ → ℕ → ℕ) (n : ℕ) (c : WellFormed L d n) where
  pub drawn_low : (S : ℕ) → 0 < clipped L d n (bit S) → AtLeast d n (bit S) 1
  drawn_low S h = record { low = λ ha ha' hb hb'. omega (arith, (clipped_low L d n (bit S) c h).low ha ha' hb hb') }

  pub low_uncrossed : (S R : ℕ) → FarSide n S → FarSide n R → AtLeast d n (bit S) 1 → AtLeast d n (bit R) 1 → Uncrossed n S R
  low_uncrossed S R f g p q = record {
    clear = λ {x} {y} {z} hx hy hz sx rx sy ry sz rz.
        crossing d n (bit S) (bit R) p q {w = 0} (omega arith) hz hy hx f.near g.near (holds_false S z sz) (holds_true R z rz) (holds_true S y sy)
        (holds_false R y ry) (holds_true S x sx) (holds_true R x rx);
  }

  pub drawn_uncrossed : (S R : ℕ) → FarSide n S → FarSide n R → drawn L d n S ≡ true → drawn L d n R ≡ true → Uncrossed n S R
  drawn_uncrossed S R f g e t = go (drawn_cases L d n S e) (drawn_cases L d n R t)
    where
      go : (inner n S ≡ false) ⊎ (0 < clipped L d n (bit S)) → (inner n R ≡ false) ⊎ (0 < clipped L d n (bit R)) → Uncrossed n S R
      go (inl o) q = own_uncrossed n S R f g o
      go (inr p) (inl o) = uncrossed_sym n R S (own_uncrossed n R S g f o)
      go (inr p) (inr q) = low_uncrossed S R f g (drawn_low S p) (drawn_low R q)

  pub rows-far : Each (rows L d n) (λ S. (drawn L d n S ≡ true) × FarSide n S)
  rows-far S m = let r = filter-mem (drawn L d n) (sides n) S m in (r.0, sides-far n S r.1)

  pub rows-mem : (S : ℕ) → FarSide n S → drawn L d n S ≡ true → Memᴰ S (rows L d n)
  rows-mem S f e = mem-filter (drawn L d n) S e (sides n) (sides_all n S f)

  pub rows_between : Between 1 (rows L d n) (2 ^ n)
  rows_between = between_filter (drawn L d n) 1 (2 ^ n) (sides n) (sides_between n)

map-fars : (L : ℕ) (d : ℕ → ℕ → ℕ) (n : ℕ) (l : List ℕ) → fars (map (row L d n) l) ≡ l
map-fars L d n [] = refl
map-fars L d n (x ∷ l) = ap (λ r. x ∷ r) (map-fars L d n l)

-- what stands in the reading is drawn
pub fars-drawn : (L : ℕ) (d : ℕ → ℕ → ℕ) (n : ℕ) → WellFormed L d n → (S : ℕ) → Memᴰ S (fars (measured L d n)) → drawn L d n S ≡ true
fars-drawn L d n c S m = (rows-far L d n c S (rw (map-fars L d n (rows L d n)) at m)).0

pub fars-measured : (L : ℕ) (d : ℕ → ℕ → ℕ) (n : ℕ) → fars (measured L d n) ≡ rows L d n
fars-measured L d n = map-fars L d n (rows L d n)

-- The measured reading of every well-formed table is a link table.
pub measured_tree : (L : ℕ) (d : ℕ → ℕ → ℕ) (k : ℕ) → WellFormed L d (suc (suc k)) → LinkTable L (suc (suc k)) (measured L d (suc (suc k)))
measured_tree L d k c = record {
  ascending = rw (fars-measured L d n) (rows_between L d n c);
  near = λ r m. rw (known r m).0 (known r m).2.near;
  owns = λ i h. rw (fars-measured L d n) (rows-mem L d n c (own n i) (own-far k i h) (own-drawn L d n (own n i) (own_not_inner k i h)));
  nested =
      λ r m q s. rw ((known r m).0, (known q s).0)
      (uncrossed_nested n (of r m) (of q s) (drawn_uncrossed L d n c (of r m) (of q s) (known r m).2 (known q s).2 (known r m).1 (known q s).1));
  drawn = λ r m e. positive r m e (drawn_cases L d n (of r m) (known r m).1);
  small = λ r m. rw (cost_of_lem r m) (clipped_cap L d n (bit (of r m)));
}
  where
    n : ℕ
    n = suc (suc k)

    of : (r : Row) → Memᴰ r (measured L d n) → ℕ
    of r m = (map-mem (row L d n) (rows L d n) r m).0

    known : (r : Row) (m : Memᴰ r (measured L d n)) → (r.0 ≡ of r m) × (drawn L d n (of r m) ≡ true) × FarSide n (of r m)
    known r m = let s = map-mem (row L d n) (rows L d n) r m in let f = rows-far L d n c s.0 s.2 in (ap (λ (q : Row). q.0) s.1, f.0, f.1)

    cost_of_lem : (r : Row) (m : Memᴰ r (measured L d n)) → r.1 ≡ clipped L d n (bit (of r m))
    cost_of_lem r m = let s = map-mem (row L d n) (rows L d n) r m in ap (λ (q : Row). q.1) s.1

    positive : (r : Row) (m : Memᴰ r (measured L d n)) → inner n r.0 ≡ true → (inner n (of r m) ≡ false) ⊎ (0 < clipped L d n (bit (of r m))) → 0 < r.1
    positive r m e (inl f) = absurd (true≢false (sym e ∙ ap (inner n) (known r m).0 ∙ f))
    positive r m e (inr h) = omega (arith, cost_of_lem r m)
