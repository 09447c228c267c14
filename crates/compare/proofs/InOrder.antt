-- The checks of the comparison by their numbers, and by the table that each is about. Assumes nothing.
use Rattle.ground.specs.Refusals.{refused_in}
use Rattle.std.specs.Prelude.{List, ℕ, Ok}
use Rattle.ground.specs.InOrder.{Decides}
use Rattle.ground.specs.Laws.InOrder.{decides_last, decides_next}
use Rattle.theory.specs.Laws.InOrder.{images-order}
use Rattle.tree.specs.Exact.{exact_sides}
use Rattle.tree.proofs.InOrder.{table-order}
use Rattle.counts.specs.Differ.{differ}
use Rattle.compare.specs.Call.{comparison}
pub use Rattle.compare.specs.InOrder.{compare_steps}

pub compare_decides : (L n : ℕ) (t u : List ℕ)
    → Decides refused_in (compare_steps L n t u) (Ok (differ n (exact_sides L n t) (exact_sides L n u))) (comparison L n t u)
compare_decides L n t u =
    decides_next refused_in 0 (images-order n)
    (decides_next refused_in 1 (table-order L n t)
    (decides_last refused_in 2 (Ok (differ n (exact_sides L n t) (exact_sides L n u))) (table-order L n u)))
