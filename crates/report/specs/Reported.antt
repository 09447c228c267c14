-- What a report says, seen from outside: the bytes, the three lent slices before, f, t, s, and after, f', t', s', and the answer r.
-- Assumes nothing.
use Rattle.std.specs.Prelude.{true, ◌↔◌, ◌≡◌, ℕ, ◌+◌, ◌-◌, ◌^◌, ◌≤◌, drop, length, take, Err}
use mathlib.Core.List.{List, Memᴰ, map}
use Rattle.ground.specs.Ascending.{Between}
use Rattle.ground.specs.Refusals.{refusal}
use Rattle.ground.specs.Sums.{sum}
use Rattle.theory.specs.FarSides.{inner}
use Rattle.theory.specs.LinkTables.{fars}
use Rattle.theory.specs.Tables.{limit}
use Rattle.seen.specs.Columns.{Room}
use Rattle.seen.specs.Seen.{cost_sum, in_trees}
use Rattle.figures.specs.Figures.{counts, largest}
use Rattle.report.specs.Outcome.{refused_table, room_check, Report}
use Rattle.figures.specs.Checks.{most_sides}
use Rattle.counting.specs.Standing.{Sound}
use Rattle.figures.specs.Tables.{Table, accepted, apart, images_in, tree_of, trees}
use Rattle.report.specs.Follows.{ReadSo, used_by}

-- refused with 3: table number 0, and nothing altered
pub record TooShort (f t s : List ℕ) (r : Report) (f' t' s' : List ℕ) : Type 0 where
  pub refused : room_check (length f) (length t) (length s) ≡ Err (refusal 3 0 0 0 0)
  pub stop : r.stop ≡ Err (refusal 3 0 0 0 0)
  pub number : r.table ≡ 0
  pub far_same : f' ≡ f
  pub tree_same : t' ≡ t
  pub sum_same : s' ≡ s

-- else: the tables read, and each figure over them
pub record Reported (bytes f t s : List ℕ) (r : Report) (f' t' s' : List ℕ) : Type 0 where
  pub room : Room most_sides f t s
  pub ts : List Table
  pub read : ReadSo bytes ts r.stop
  pub number : r.table ≡ refused_table r.stop (length ts)
  pub sound : Sound limit ts
  pub images : r.figures.images ≡ images_in ts
  pub tables : r.figures.tables ≡ length ts
  pub accepted-tables : r.figures.accepted ≡ length (accepted ts)
  pub apart-tables : r.figures.apart ≡ length (apart ts)
  pub all-tables : r.figures.accepted + r.figures.apart ≡ r.figures.tables
  -- over each accepted table and the next accepted one
  pub pairs : r.figures.pairs ≡ r.figures.accepted - 1
  pub count-sum : r.figures.count_sum ≡ sum (counts limit ts) (λ c. c)
  pub largest-count : r.figures.largest_count ≡ largest (counts limit ts)
  pub used : r.figures.used ≡ used_by ts
  -- the far sides in front: exactly the inner ones that the tree of some accepted table has, ascending
  pub sides : r.figures.sides ≤ most_sides
  pub ascending : Between 1 (take r.figures.sides f') (2 ^ images_in ts)
  pub listed : (S : ℕ) → Memᴰ S (take r.figures.sides f')
      ↔ ((inner (images_in ts) S ≡ true) × ((tb : Table) × Memᴰ tb (accepted ts) × Memᴰ S (fars (tree_of limit tb))))
  -- each with its number of trees and the sum of its doubled costs
  pub tree_numbers : take r.figures.sides t' ≡ map (in_trees (trees limit ts)) (take r.figures.sides f')
  pub cost_sums : take r.figures.sides s' ≡ map (cost_sum (trees limit ts)) (take r.figures.sides f')
  -- the rest of the slices is as it was
  pub far-rest : drop r.figures.sides f' ≡ drop r.figures.sides f
  pub tree_rest : drop r.figures.sides t' ≡ drop r.figures.sides t
  pub sum-rest : drop r.figures.sides s' ≡ drop r.figures.sides s
