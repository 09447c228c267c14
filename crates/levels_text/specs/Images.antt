-- The images in the line of a group are those of the group, each once, ascending, counted from 1. Assumes nothing.
use Rattle.std.proofs.Math.Bool.{true}
use mathlib.Core.List.{List, Memᴰ, [], map, ◌∷◌}
use Rattle.std.specs.Prelude.{◌↔◌, ◌≡◌}
use Rattle.std.proofs.Math.Path.{ap}
use Rattle.std.proofs.Common.{◌∙◌}
use Prim.Native.Nat.{suc, ℕ, ◌+◌, ◌<◌}
use native.Mathlib.Omega.{arith}
use Rattle.ground.specs.Ascending.{Between}
use Rattle.ground.specs.Filters.{filter}
use Rattle.ground.specs.Laws.Ascending.{between_filter, from_between}
use Rattle.ground.specs.Laws.Filters.{filter-mem, mem-filter}
use Rattle.ground.specs.Laws.Maps.{map-mem, mem-map}
use Rattle.ground.specs.Laws.Ranges.{mem-from}
use Rattle.ground.specs.Ranges.{from}
use Rattle.theory.specs.FarSides.{holds}
use Rattle.levels_text.specs.Lines.{group_images}

suc_between : (m k : ℕ) (l : List ℕ) → Between m l k → Between (suc m) (map suc l) (suc k)
suc_between m k [] b = omega arith
suc_between m k (x ∷ l) b = (omega (arith, b.0), suc_between (suc x) k l b.1)

module _ (S n : ℕ) where
  -- from 1 to n
  pub images_ascending : Between 1 (group_images S n) (suc n)
  unfolding group_images
  images_ascending =
      let e : 0 + n ≡ n = omega arith in
      suc_between 0 n (filter (holds S) (from 0 n)) (between_filter (holds S) 0 n (from 0 n) (rw e at (from_between 0 n)))

  -- image i, counted from 0, is shown exactly where the group has it
  pub images_are : (i : ℕ) → i < n → Memᴰ (suc i) (group_images S n) ↔ (holds S i ≡ true)
  unfolding group_images
  images_are i h = (to, λ e. mem-map suc (mem-filter (holds S) i e (from 0 n) (mem-from 0 n i (omega arith) (omega arith))))
    where
      to : Memᴰ (suc i) (map suc (filter (holds S) (from 0 n))) → holds S i ≡ true
      to m =
          let r = map-mem suc (filter (holds S) (from 0 n)) (suc i) m in
          let e : i ≡ r.0 = omega (arith, r.1) in
          ap (holds S) e ∙ (filter-mem (holds S) (from 0 n) r.0 r.2).0
