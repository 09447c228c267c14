-- What a mended link table is worth. Assumes nothing.
use Rattle.std.specs.Prelude.{List, suc, zero, ℕ, ◌<◌, ◌≤◌}
use Rattle.std.proofs.Common.{arith}
use Rattle.theory.proofs.Demands.{one_tree}
use Rattle.theory.specs.LinkTables.{Row}
use Rattle.theory.specs.Readings.{Exact}
use Rattle.theory.specs.Tables.{WellFormed}
use Rattle.mending.proofs.Laws.Mended.{leave_formed, mended_exact, mended_reading}
pub use Rattle.mending.specs.Promises.{Mended}

pub mended : (L : ℕ) (d : ℕ → ℕ → ℕ) (m x : ℕ) (T : List Row) → 3 ≤ m → x < suc m → WellFormed L d (suc m) → Exact L d (suc m) T → Mended L d m x T
mended L d zero x T h l c t = absurd (omega arith)
mended L d (suc zero) x T h l c t = absurd (omega arith)
mended L d (suc (suc k)) x T h l c t =
    let e = mended_exact L k x l T t.tree d c t.meets in
    record {
      formed = leave_formed L d (suc (suc k)) x c;
      exact = e;
      one = one_tree L (suc (suc k)) _ h e.tree;
      answer = mended_reading L k x l T t.tree d c t.meets;
    }
