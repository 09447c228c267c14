-- What the exact tree of a table with levels looks like: which sets of images stand on the sides of its links, and what the links cost.
-- Heights are those of the groups, and 0 for one image. Assumes nothing.
use Rattle.std.specs.Prelude.{ℕ}
use mathlib.Core.List.{List}
use Rattle.std.proofs.Common.{inl}
use Rattle.theory.specs.LinkTables.{Row}
use Rattle.theory.specs.Readings.{Exact}
use Rattle.theory.specs.Tables.{WellFormed}
use Rattle.levels.proofs.Laws.Links.{far_link, inner_are, link_group, links_are, near_link}
use Rattle.levels.proofs.Laws.NextGroups.{cost-alone, cost-both, image_height, next-all, next_exists}
use Rattle.levels.specs.Laws.Rest.{link_own}
use Rattle.leveling.specs.ThreePoint.{ThreePoint}
pub use Rattle.levels.specs.Links.{LevelTree}

pub level_tree : (L : ℕ) (d : ℕ → ℕ → ℕ) (n : ℕ) (T : List Row) → WellFormed L d n → ThreePoint d n → Exact L d n T → LevelTree d n T
level_tree L d n T c t x = record {
  far = λ S g e. far_link L d n c t T x S (inl g) e;
  near = λ S g ne e. near_link L d n c t T x S (inl g) ne e;
  groups = link_group L d n c t T x;
  inner_links = inner_are L d n c t T x;
  links = links_are L d n c t T x;
  next = next_exists L d n c t;
  cost = λ S P p q. cost-alone L d n c t S p P q T x;
  top = λ S P p q. next-all L d n c t S p P q;
  cost-top = λ S P p q. cost-both L d n c t S p P q T x;
  own_link = λ i h. link_own n i h;
  own-height = λ i. image_height L d n i c;
}
