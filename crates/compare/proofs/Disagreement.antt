-- The disagreement of two trees, the last two numbers of the answer: the count over the inner rows of both. Document 02 says when it is
-- 1; here it is a theorem about the call's answer. Nothing is divided and nothing reduced: it is 1 where the two numbers are the same,
-- and 0 where the first is 0. Assumes nothing.
use Rattle.std.specs.Prelude.{List, ◌≡◌, ℕ, ◌+◌, ◌^◌, ◌≤◌, length, Ok}
use Rattle.std.proofs.Common.{arith}
use Rattle.theory.specs.LinkTables.{LinkTable, Row, fars}
use Rattle.theory.specs.Readings.{Exact}
use Rattle.theory.specs.Tables.{cost}
use Rattle.counts.specs.Differ.{differ}
use Rattle.counts.proofs.Laws.Disagreement.{at_most_one, is_one, over_none, over_positive, over-some}
use Rattle.counts.specs.declared.Difference.{Difference}
use Rattle.compare.specs.Call.{comparison}
use Rattle.compare.specs.Promises.{inner_rows}
use Rattle.compare.proofs.Promises.{of_trees, trees-differ}
pub use Rattle.compare.specs.Disagreement.{Disagreement}

trees_disagree : (L n : ℕ) (T U : List Row) → 3 ≤ n → LinkTable L n T → LinkTable L n U → Disagreement n T U (differ n (fars T) (fars U))
trees_disagree L n T U h t u =
    let d = trees-differ L n T U h t u in
    let m = length (inner_rows n T) + length (inner_rows n U) in
    record {
      divisor = over-some m;
      no_inner = λ e f. (omega (arith, d.adds_up), over_none m (omega arith));
      positive = over_positive m;
      at_most = at_most_one n (2 ^ n) (fars T) (fars U) t.ascending u.ascending;
      one = is_one n (2 ^ n) (fars T) (fars U) t.ascending u.ascending;
      zero = d.none;
    }

module _ (L n : ℕ) where
  -- an accepted answer has the disagreement of the two exact readings
  pub compare_disagreement : (t u : List ℕ) (x : Difference) → comparison L n t u ≡ Ok x → (T U : List Row) → Exact L (cost t n) n T
      → Exact L (cost u n) n U → Disagreement n T U x
  compare_disagreement = of_trees L n (Disagreement n) (trees_disagree L n)
