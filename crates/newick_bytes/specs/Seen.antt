-- What is kept of a text that is read with numbers alone. Assumes nothing.
use Rattle.std.specs.Prelude.{Bool, false, true, ◌<◌, ◌≤◌}
use Rattle.newick_bytes.specs.declared.Seen.{Seen}
use Rattle.newick_bytes.specs.declared.Seen.TheVariants.{Blank, Closed, Cost, Dead, Done, Ended, Image, Start, Vertex}

-- numbers as small as they are while a text is read
abbrev pub Bounded : Seen → Type 0
Bounded Start = Unit {0}
Bounded (Vertex d k) = (1 ≤ d) × (d ≤ 62)
Bounded (Image x d k) = (x < 100) × (1 ≤ d) × (d ≤ 62)
Bounded (Closed d k) = (1 ≤ d) × (d ≤ 62)
Bounded (Blank d k) = (1 ≤ d) × (d ≤ 62)
Bounded (Cost x d k) = (x < 100000000) × (1 ≤ d) × (d ≤ 62)
Bounded Ended = Unit {0}
Bounded Done = Unit {0}
Bounded Dead = Unit {0}

abbrev pub is_dead_seen : Seen → Bool
is_dead_seen Start = false
is_dead_seen (Vertex d k) = false
is_dead_seen (Image x d k) = false
is_dead_seen (Closed d k) = false
is_dead_seen (Blank d k) = false
is_dead_seen (Cost x d k) = false
is_dead_seen Ended = false
is_dead_seen Done = false
is_dead_seen Dead = true

abbrev pub is_done_seen : Seen → Bool
is_done_seen Start = false
is_done_seen (Vertex d k) = false
is_done_seen (Image x d k) = false
is_done_seen (Closed d k) = false
is_done_seen (Blank d k) = false
is_done_seen (Cost x d k) = false
is_done_seen Ended = false
is_done_seen Done = true
is_done_seen Dead = false
