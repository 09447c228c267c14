-- Small teams, computed: the trees of document 01's examples A, D, E and G. Assumes nothing.
use Rattle.std.specs.Prelude.{[], ◌++◌, ◌∷◌, refl, ◌≡◌, Ok}
use Rattle.std.specs.Int.Count.{ones}
use Rattle.ground.specs.Least.{least_on}
use Rattle.ground.specs.Lowest.{check_all}
use Rattle.ground.specs.Refusals.{refusal, refused_in}
use Rattle.theory.specs.Index.{shifted}
use Rattle.theory.specs.Tables.{limit}
use Rattle.tree.specs.Exact.{exact_rows, tree_check}
use Rattle.shared_rows.specs.Consensus.{consensus}
use Rattle.consensus.specs.Call.{consensus_outcome, table_by_table, team_check}
use Rattle.consensus.specs.Team.{table_at}
pub use Rattle.consensus.specs.Examples.{rows_a, rows_d, rows_e, rows_g, table_a, table_c, table_d, marks}

-- the smallest cost is taken for own links too; E and G share the own links alone; the far side 12, which two of three trees have, is left
-- out; where all have it, it stands there at its smallest cost
pub small_teams : (consensus 3 (rows_a ∷ rows_d ∷ []) ≡ (2, 1) ∷ (4, 1) ∷ (6, 0) ∷ [])
    × (consensus 4 (rows_e ∷ rows_g ∷ []) ≡ rows_g)
    × (consensus 4 (rows_e ∷ rows_e ∷ rows_g ∷ []) ≡ rows_g)
    × (consensus 4 (rows_e ∷ ((2, 3) ∷ (4, 3) ∷ (8, 1) ∷ (12, 1) ∷ (14, 5) ∷ []) ∷ []) ≡ (2, 2) ∷ (4, 2) ∷ (8, 1) ∷ (12, 1) ∷ (14, 2) ∷ [])
unfolding consensus
small_teams = (refl, refl, refl, refl)

-- the whole call for A and D: three rows, and the fourth place as it was
pub team_ad : consensus_outcome limit 3 2 (table_a ++ table_d) marks marks
    ≡ record { answer = Ok 3; far_list = 2 ∷ 4 ∷ 6 ∷ 9 ∷ []; cost_list = 1 ∷ 1 ∷ 0 ∷ 9 ∷ [] }
unfolding team_check table_by_table table_at tree_check exact_rows consensus check_all least_on shifted ones
team_ad = refl

-- C is refused as the third of A, D and C, with the three images that show why; no table gets 16, before a joined length that fits none gets 2
pub team_refused : ((consensus_outcome limit 3 3 (table_a ++ table_d ++ table_c) marks marks).answer ≡ refused_in 3 (refusal 7 1 1 2 3))
    × ((consensus_outcome limit 3 0 table_a marks marks).answer ≡ refused_in 0 (refusal 16 0 0 0 0))
    × ((consensus_outcome limit 3 17 table_a marks marks).answer ≡ refused_in 0 (refusal 16 0 0 0 0))
    × ((consensus_outcome limit 3 2 table_a marks marks).answer ≡ refused_in 0 (refusal 2 0 0 0 0))
unfolding team_check table_by_table table_at tree_check check_all
team_refused = (refl, refl, refl, refl)
