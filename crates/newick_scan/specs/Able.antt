-- What keeps the numbers small enough, and the arrays long enough, for the next byte. Assumes nothing.
use Rattle.std.specs.Prelude.{ℕ, ◌<◌, ◌≤◌}
use Rattle.newick_bytes.specs.declared.Seen.{Seen}
use Rattle.newick_bytes.specs.declared.Seen.TheVariants.{Blank, Closed, Cost, Dead, Done, Ended, Image, Start, Vertex}
use Rattle.newick_notes.specs.declared.Noted.{Noted}
use Rattle.newick_notes.specs.Stacks.{Sized, Stacks}
use Rattle.newick_scan.specs.Noting.{Kept}
use Rattle.newick_notes.specs.Able.{Room, Closing}

abbrev pub AbleIn : Seen → Noted → Stacks → Type 0
AbleIn Start w a = Unit {0}
AbleIn (Vertex d k) w a = (1 ≤ d) × (d ≤ 62)
AbleIn (Image i d k) w a = 1 ≤ i
AbleIn (Closed d k) w a = Unit {0}
AbleIn (Blank d k) w a = Unit {0}
AbleIn (Cost c d k) w a = (c < 100000000) × Closing d w a
AbleIn Ended w a = Unit {0}
AbleIn Done w a = Unit {0}
AbleIn Dead w a = Unit {0}

-- the next byte stands at place p
pub record Able (s : Seen) (p : ℕ) (x : Kept) : Type 0 where
  pub here : AbleIn s x.noted x.stacks
  pub sized : Sized x.stacks
  pub few : x.noted.names < p
  pub room : Room x.noted.rows x.fars x.costs
