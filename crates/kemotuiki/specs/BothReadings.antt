-- The reading of levels and the exact reading of one table, side by side: what the two calls left in their slices. Assumes nothing.
use Rattle.ground.specs.Refusals.{Written}
use Rattle.std.specs.Prelude.{List, ◌≡◌, ℕ, ◌*◌, ◌-◌, ◌≤◌, length, Ok}
use Rattle.theory.specs.Outcomes.{LeftRows}
use Rattle.theory.specs.Tables.{cost, limit}
use Rattle.levels.specs.Links.{LevelTree}
use Rattle.levels.specs.Outcome.{LeftLevels, levels_outcome}
use Rattle.levels.proofs.Promises.{levels_answer}
use Rattle.tree.proofs.Demands.{exactly_when}
use Rattle.tree.specs.Readings.{exact_outcome}
use Rattle.tree.specs.Writing.{rows_left}

-- Where levels were read, the exact reading of the same table accepts it, given room; and in the rows that it left every group but that of all
-- images is one side of a link, every inner link has a group on one of its sides, and costs are differences of heights.
pub both_readings : (n : ℕ) (t g v f w : List ℕ) (r : ℕ) (g' v' : List ℕ) (q : Written) (f' w' : List ℕ)
    → LeftLevels (levels_outcome limit n t g v) (Ok r) g' v' → LeftRows (exact_outcome limit n t f w) q f' w'
    → 2 * n - 3 ≤ length f → 2 * n - 3 ≤ length w → (k : ℕ) × (q ≡ Ok k) × LevelTree (cost t n) n (rows_left k f' w')
both_readings n t g v f w r g' v' q f' w' l m a b =
    let x = levels_answer limit n t g v r g' v' l in
    let e = exactly_when limit n t f w q f' w' (record { table = x.asked.table; far-room = a; cost-room = b }) m in
    let k = e.by_tree.1 x.reading.tree in
    (k.0, k.1, x.reading.links (rows_left k.0 f' w') (e.answer k.0 k.1).exact)
