-- Reading Newick text with numbers alone: what the next byte makes of the counts of the outer brackets. Assumes nothing.
use Rattle.std.specs.Prelude.{cond, ◌&&◌, List, ℕ, ◌-◌, eqb, set}
use Rattle.newick_allowed.specs.Tests.{opened}
use Rattle.newick_bytes.specs.declared.Seen.{Seen}
use Rattle.newick_bytes.specs.declared.Seen.TheVariants.{Blank, Closed, Cost, Dead, Done, Ended, Image, Start, Vertex}

-- an open bracket: the count of the one around it is kept
abbrev pub vertex_outer : ℕ → ℕ → ℕ → List ℕ → List ℕ
vertex_outer d k b a = cond (eqb b 40 && opened d k) (set a (d - 1) k) a

abbrev pub next_outer : Seen → ℕ → List ℕ → List ℕ
next_outer Start b a = a
next_outer (Vertex d k) b a = vertex_outer d k b a
next_outer (Image x d k) b a = a
next_outer (Closed d k) b a = a
next_outer (Blank d k) b a = a
next_outer (Cost x d k) b a = a
next_outer Ended b a = a
next_outer Done b a = a
next_outer Dead b a = a
