-- The disagreement of two trees, the last two numbers of the answer: the count over the inner rows of both. Document 02 says when it is
-- 1; here it is a theorem about the call's answer. Nothing is divided and nothing reduced: it is 1 where the two numbers are the same,
-- and 0 where the first is 0. Assumes nothing.
use Rattle.std.specs.Prelude.{List, ◌↔◌, ◌≡◌, ℕ, ◌+◌, ◌<◌, ◌≤◌}
use Rattle.theory.specs.LinkTables.{Row}
use Rattle.counts.specs.Disagreement.{NoneCommon, OneExists}
use Rattle.counts.specs.declared.Difference.{Difference}
use Rattle.compare.specs.Promises.{inner_rows}

-- x has the disagreement of the trees T and U
pub record Disagreement (n : ℕ) (T U : List Row) (x : Difference) : Type 0 where
  -- the count is set over the inner rows of the first plus those of the second; when both are 0 it is 0 over 1, for every n
  pub divisor : 0 < x.first + x.second → x.over ≡ x.first + x.second
  pub no_inner : x.first ≡ 0 → x.second ≡ 0 → (x.count ≡ 0) × (x.over ≡ 1)
  pub positive : 0 < x.over
  -- it is never above 1
  pub at_most : x.count ≤ x.over
  -- it is 1 exactly when no inner far side is common and at least one exists
  pub one : (x.count ≡ x.over) ↔ (NoneCommon (inner_rows n T) (inner_rows n U) × OneExists (inner_rows n T) (inner_rows n U))
  -- it is 0 exactly when the inner far sides are the same
  pub zero : (x.count ≡ 0) ↔ (inner_rows n T ≡ inner_rows n U)
