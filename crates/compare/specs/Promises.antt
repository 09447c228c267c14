-- What the promise of the comparison is worth: what an accepted answer says of the two trees, and that the count is a distance. Assumes
-- nothing.
use mathlib.Core.List.{List}
use Rattle.std.specs.Prelude.{◌↔◌, ◌≡◌, ℕ, ◌*◌, ◌+◌, ◌≤◌, length}
use Rattle.ground.specs.Filters.{filter}
use Rattle.ground.specs.Members.{is_in}
use Rattle.ground.specs.Tests.{one_of}
use Rattle.theory.specs.Comparison.{common, inners}
use Rattle.theory.specs.FarSides.{sides}
use Rattle.theory.specs.LinkTables.{Row, fars}
use Rattle.counts.specs.declared.Difference.{Difference}

-- the inner far sides of a tree
abbrev pub inner_rows : ℕ → List Row → List ℕ
inner_rows n T = inners n (fars T)

-- of all far sides, those that are an inner row of exactly one of the two trees
abbrev pub exactly_one : ℕ → List Row → List Row → List ℕ
exactly_one n T U = filter (λ S. one_of (is_in S (inner_rows n T)) (is_in S (inner_rows n U))) (sides n)

-- x is the difference of the trees T and U
pub record TreesDiffer (n : ℕ) (T U : List Row) (x : Difference) : Type 0 where
  pub in_first : x.first ≡ length (inner_rows n T)
  pub in_second : x.second ≡ length (inner_rows n U)
  pub in_both : x.common ≡ length (common (inner_rows n T) (inner_rows n U))
  -- the count is that of the inner far sides in exactly one tree, which is 0 exactly when they are the same
  pub in_one : x.count ≡ length (exactly_one n T U)
  pub none : (x.count ≡ 0) ↔ (inner_rows n T ≡ inner_rows n U)
  pub adds_up : x.count + 2 * x.common ≡ x.first + x.second
  -- 2 n - 6 less twice the common ones is the count exactly when both trees have n - 3 inner rows: every switch has three links
  pub three_links : (x.count + 2 * x.common + 6 ≡ 2 * n) ↔ ((x.first + 3 ≡ n) × (x.second + 3 ≡ n))
  -- it never exceeds 2 n - 6
  pub most : x.count + 6 ≤ 2 * n

-- the answer for the tables in the other order
abbrev pub turned : Difference → Difference
turned x = record { first = x.second; second = x.first; common = x.common; count = x.count; over = x.over }
