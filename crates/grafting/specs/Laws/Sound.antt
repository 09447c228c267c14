-- Rows that do not cross: own links, and divisions of index above 0. Every row with a cost that grafting makes is one. Assumes nothing.
use Rattle.std.specs.Prelude.{false, ◌⊎◌, ◌≡◌, ltb}
use mathlib.Core.List.Memᴰ
use mathlib.Core.List.{List, Memᴰ}
use Rattle.std.proofs.Common.{inl, sym, ltb-true}
use Rattle.std.proofs.Math.Logic.{inr}
use Rattle.std.proofs.Math.Path.{ap, subst}
use Prim.Native.Nat.{max, suc, zero, ℕ, ◌<◌, ◌≤◌}
use native.Mathlib.Omega.{arith}
use Rattle.ground.specs.Bits.{bit}
use Rattle.ground.specs.Filters.{Each}
use Rattle.ground.specs.Laws.Filters.{filter-mem}
use Rattle.ground.specs.Laws.Maps.{map-mem}
use Rattle.ground.specs.Laws.Ranges.{from-mem}
use Rattle.ground.specs.Ranges.{from}
use Rattle.theory.specs.FarSides.{FarSide, inner}
use Rattle.theory.specs.Index.{AtLeast}
use Rattle.theory.specs.Laws.Nested.{Uncrossed, uncrossed_sym}
use Rattle.theory.proofs.Laws.OneTree.{low_uncrossed}
use Rattle.theory.proofs.Laws.OwnLinks.{own-far, own_not_inner, own_uncrossed}
use Rattle.theory.specs.LinkTables.{Row, far}
use Rattle.theory.specs.Tables.{WellFormed}
use Rattle.recognition.specs.Recognition.{Places, Recognised, placed}
use Rattle.rows.proofs.Laws.PutAll.{put_all-sides}
use Rattle.rows.specs.Rows.{costly}
use Rattle.path_cuts.specs.Cuts.{closed, height}
use Rattle.grafting.specs.Grafting.{closed_to, grafted, own_rows, path_to, table_to}
use Rattle.grafting.specs.Laws.OwnRows.{own_row}
use Rattle.grafting.specs.Laws.Path.{closed-rows, path_is}
use Rattle.grafting.specs.Laws.Sides.{side-far}
use Rattle.grafting.specs.Laws.Supported.{row_supported}
use Rattle.grafting.specs.Sides.{closed_row, path_row}

abbrev pub Sound : (ℕ → ℕ → ℕ) → ℕ → ℕ → Type 0
Sound d n S = FarSide n S × ((inner n S ≡ false) ⊎ AtLeast d n (bit S) 1)

pub sound_uncrossed : (L : ℕ) (d : ℕ → ℕ → ℕ) (n S R : ℕ) → WellFormed L d n → Sound d n S → Sound d n R → Uncrossed n S R
sound_uncrossed L d n S R c (f, inl s) (g, z) = own_uncrossed n S R f g s
sound_uncrossed L d n S R c (f, inr s) (g, inl z) = uncrossed_sym n R S (own_uncrossed n R S g f z)
sound_uncrossed L d n S R c (f, inr s) (g, inr z) = low_uncrossed L d n c S R f g s z

pub own_sound : (d : ℕ → ℕ → ℕ) (k : ℕ) → Each (own_rows (suc (suc k))) (λ r. Sound d (suc (suc k)) r.0)
own_sound d k q m =
    let x = own_row (suc (suc k)) (omega arith) q m in
    subst (Sound d (suc (suc k))) (sym x.2) (own-far k x.0 x.1, inl (own_not_inner k x.0 x.1))

costly_sound : (P : ℕ → Type 0) (R : List Row) → Each R (λ r. 0 < r.1 → P r.0) → Each (costly R) (λ r. P r.0)
costly_sound P R h q m = let x = filter-mem (λ r. ltb 0 r.1) R q m in h q x.1 (ltb-true 0 q.1 x.0)

module _ (L : ℕ) (d : ℕ → ℕ → ℕ) (o : ℕ → ℕ) (k : ℕ) (w : Places o (suc (suc k))) (c : WellFormed L (placed d o) (suc (suc k)))
    (t : Recognised (placed d o) (suc k)) where
  abbrev n : ℕ
  n = suc k

  abbrev e : ℕ → ℕ → ℕ
  e = placed d o

  abbrev Fine : ℕ → Type 0
  Fine = Sound d (suc n)

  path_sound : Each (path_to e o n) (λ r. 0 < r.1 → Fine r.0)
  path_sound q m h =
      let x = map-mem (path_row e o n) (from 0 n) q (subst (Memᴰ q) (path_is L e n c t o n (omega arith)) m) in
      let y = from-mem 0 n x.0 x.2 in
      let r = x.0 in
      let v = ap (λ (z : Row). z.1) x.1 in
      subst Fine (sym (ap far x.1)) (
        side-far o (suc n) w (suc r) (omega arith) n (omega arith) (omega arith),
        inr (row_supported L d o n w c t n r (height e r n) (omega arith) (omega arith) (omega arith) (λ z. absurd (omega arith)) (omega arith)),
      )

  closed_sound : (p : ℕ) → p ≤ n → Each (closed_to e o p) (λ r. 0 < r.1 → Fine r.0)
  unfolding closed_to
  closed_sound zero hp q m h = absurd (Memᴰ.not-nil m)
  closed_sound (suc p) hp q m h = go (closed_sound p (omega arith) q) (Memᴰ.append_cases (closed_to e o p) m)
    where
      go : (Memᴰ q (closed_to e o p) → 0 < q.1 → Fine q.0)
          → Memᴰ q (closed_to e o p) ⊎ Memᴰ q (closed (height e p (suc p)) (path_to e o p)) → Fine q.0
      go ih (inl m) = ih m h
      go ih (inr m) =
          let x = map-mem (closed_row e o p) (from 0 p) q (subst (Memᴰ q) (closed-rows L e n c t o p hp) m) in
          let y = from-mem 0 p x.0 x.2 in
          let r = x.0 in
          let v = ap (λ (z : Row). z.1) x.1 in
          let a = max (height e r p) (height e p (suc p)) in
          let u : a < height e (suc r) p = omega arith in
          subst Fine (sym (ap far x.1)) (
            side-far o (suc n) w (suc r) (omega arith) p (omega arith) (omega arith),
            inr (row_supported L d o n w c t p r a (omega arith) (omega arith) (omega arith) (λ z. omega arith) u),
          )

  pub on_path : Each (costly (path_to e o n)) (λ r. Fine r.0)
  on_path = costly_sound Fine (path_to e o n) path_sound

  pub when-closed : Each (costly (closed_to e o n)) (λ r. Fine r.0)
  when-closed = costly_sound Fine (closed_to e o n) (closed_sound n (omega arith))

  pub in_table : Each (table_to e o (suc n) n) (λ r. Fine r.0)
  in_table = put_all-sides Fine (costly (closed_to e o n)) (own_rows (suc n)) when-closed (own_sound d k)

  pub grafted_sound : Each (grafted e o (suc n) n) (λ r. Fine r.0)
  grafted_sound = put_all-sides Fine (costly (path_to e o n)) (table_to e o (suc n) n) on_path in_table
