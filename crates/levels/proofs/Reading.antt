-- What the reading of levels is worth, as document 02 says it: the groups l of a table with levels, and their heights v. Assumes nothing.
use Rattle.std.specs.Prelude.{refl, ℕ, ◌-◌, ◌^◌, ◌≤◌}
use Rattle.theory.proofs.Demands.{exact_reading}
use Rattle.theory.specs.Tables.{WellFormed}
use Rattle.leveling.proofs.Laws.ThreePoint.{four}
use Rattle.leveling.specs.ThreePoint.{ThreePoint}
use Rattle.levels.specs.Groups.{groups, heights}
use Rattle.levels.proofs.Laws.Count.{groups-most}
use Rattle.levels.proofs.Laws.Groups.{groups_between, groups-mem}
use Rattle.levels.proofs.Links.{level_tree}
use Rattle.levels.proofs.Laws.Smallest.{all-group, groups_nested, smallest_exists, smallest-height, within_number}
pub use Rattle.levels.specs.Reading.{LevelReading}

pub level_reading : (L : ℕ) (d : ℕ → ℕ → ℕ) (n : ℕ) → 2 ≤ n → WellFormed L d n → ThreePoint d n → LevelReading L d n (groups d n) (heights d n)
level_reading L d n h c t = record {
  members = groups-mem L d n c;
  ascending = groups_between L d n;
  heights = refl;
  whole = (groups-mem L d n c (2 ^ n - 1)).1 (all-group L d n h c);
  most = groups-most L d n c t;
  nested = λ S a R b. groups_nested L d n c t S R ((groups-mem L d n c S).0 a) ((groups-mem L d n c R).0 b);
  smallest = λ i j hi hj ne. (_, smallest_exists L d n c t i j hi hj ne);
  entry = smallest-height L d n c t;
  first = λ i j S R p g ri rj. within_number n S R p.group.is.fits (p.least R g ri rj);
  tree = (exact_reading L d n h c).accepted.0 (four L d n c t);
  links = λ T x. level_tree L d n T c t x;
}
