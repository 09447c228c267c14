-- Rows that are the exact reading of some cost table: they can be mended, and are so again. Assumes nothing.
use mathlib.Core.List.Memᴰ
use Rattle.std.specs.Prelude.{List, [], ◌∷◌, refl, suc, ℕ, ◌*◌, ◌+◌, ◌≤◌, get_or, length}
use Rattle.std.proofs.Common.{arith}
use Rattle.ground.specs.Filters.{Each}
use Rattle.theory.proofs.Demands.{one_tree}
use Rattle.theory.proofs.Laws.Paths.{row-far}
use Rattle.theory.specs.LinkTables.{Row, all_costs}
use Rattle.theory.specs.Tables.{limit}
use Rattle.tree.specs.Laws.Held.{rows_in-mem}
use Rattle.tree.specs.Laws.LocalRows.{rows_in-length}
use Rattle.tree.specs.LocalRows.{rows_in}
use Rattle.mending.specs.Leaving.{leave, mend}
use Rattle.mending.specs.Mending.{Kept, Mendable}
use Rattle.mending.proofs.Promises.{mended}
use Rattle.leaving.specs.Standing.{Sound, SoundRows}

-- all costs together
spent : (T : List Row) → Each T (λ r. r.1 ≤ 2 * limit) → all_costs T ≤ 16000000 * length T
spent [] h = omega arith
spent (r ∷ T) h = omega (arith, spent T (λ q m. h q (Memᴰ.tail m)), h r (Memᴰ.head refl))

-- no more rows than 2 n - 3
pub sound_count : (L n : ℕ) (T : List Row) → Sound L n T → length T + 3 ≤ 2 * n
sound_count L n T s = (one_tree L n T s.some s.exact.tree).most

pub sound_mendable : (m : ℕ) (f v : List ℕ) (count : ℕ) → SoundRows limit (suc m) f v count → Mendable m f v count
sound_mendable m f v count r =
    let t = r.sound.exact.tree in
    let n = rows_in-length f v count in
    record {
      sides = λ {i} h. (row-far limit (suc m) (rows_in f v count) t (get_or f i 0, get_or v i 0) (rows_in-mem f v i count h)).fits;
      spent = omega (arith, spent (rows_in f v count) t.small, sound_count limit (suc m) (rows_in f v count) r.sound, n, r.sound.few);
      kept = r.kept;
    }

-- mended, it is the exact reading of the smaller table
pub sound_mend : (L m x : ℕ) (T : List Row) → 3 ≤ m → x ≤ m → Sound L (suc m) T → Sound L m (mend m x T)
sound_mend L m x T h l s =
    let r = mended L s.table m x T h (omega arith) s.formed s.exact in
    record { some = h; few = omega (arith, s.few); table = leave x s.table; formed = r.formed; exact = r.exact }

-- where they are kept
pub sound_kept : (L m x : ℕ) (f v : List ℕ) (count : ℕ) (f' v' : List ℕ) (r : ℕ) → 3 ≤ m → x ≤ m → SoundRows L (suc m) f v count
    → Kept (mend m x (rows_in f v count)) f' v' r → SoundRows L m f' v' r
sound_kept L m x f v count f' v' r h l s k = record {
  sound = rw k.is (sound_mend L m x (rows_in f v count) h l s.sound);
  kept = record { is = refl; far-room = k.far-room; cost-room = k.cost-room; few = k.few };
}
