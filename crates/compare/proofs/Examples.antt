-- Small comparisons, computed: settled examples of document 01, and three trees that show that the disagreement is no distance. Assumes
-- nothing.
use Rattle.std.specs.Prelude.{refl, ◌≡◌}
use Rattle.std.specs.Int.Count.{ones}
use Rattle.ground.specs.Least.{least_on}
use Rattle.ground.specs.Lowest.{check_all}
use Rattle.theory.specs.Index.{shifted}
use Rattle.theory.specs.Tables.{limit}
use Rattle.tree.specs.Exact.{exact_rows, table_check, tree_check}
use Rattle.compare.specs.Call.{comparison}
pub use Rattle.compare.specs.Examples.{table_a, table_e, exchanged_e, table_g, answer, table_low, table_high, table_both}

-- nothing in common is 1, with one inner row or with two; the same is 0; without inner rows it is 0 over 1, of three images and of four
pub compared_examples : (comparison limit 4 table_e table_g ≡ answer 1 0 0 1 1)
    × (comparison limit 4 table_e exchanged_e ≡ answer 1 1 0 2 2)
    × (comparison limit 4 table_e table_e ≡ answer 1 1 1 0 2)
    × (comparison limit 4 table_g table_g ≡ answer 0 0 0 0 1)
    × (comparison limit 3 table_a table_a ≡ answer 0 0 0 0 1)
unfolding table_check tree_check exact_rows check_all least_on shifted ones
compared_examples = (refl, refl, refl, refl, refl)

-- the count is a distance, the disagreement is none: 2 over 2 is more than 1 over 3 and 1 over 3 on the way by the third tree
pub no_distance : (comparison limit 5 table_low table_high ≡ answer 1 1 0 2 2)
    × (comparison limit 5 table_low table_both ≡ answer 1 2 1 1 3)
    × (comparison limit 5 table_both table_high ≡ answer 2 1 1 1 3)
unfolding table_check tree_check exact_rows check_all least_on shifted ones
no_distance = (refl, refl, refl)
