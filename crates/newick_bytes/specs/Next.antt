-- Reading Newick text with numbers alone: what the next byte makes of what is kept. Assumes nothing.
use Rattle.std.specs.Prelude.{◌&&◌, List, ℕ, ◌*◌, ◌+◌, ◌-◌, eqb, leb, ltb, get_or}
use Rattle.newick_text.specs.Bytes.{is_digit}
use Rattle.newick_allowed.specs.Tests.{begun, grown, more, opened}
use Rattle.newick_bytes.specs.Tests.{pick}
use Rattle.newick_bytes.specs.declared.Seen.{Seen}
use Rattle.newick_bytes.specs.declared.Seen.TheVariants.{Blank, Closed, Cost, Dead, Done, Ended, Image, Start, Vertex}

abbrev pub start_next : ℕ → Seen
start_next b = pick (eqb b 40) (Vertex 1 0) Dead

abbrev pub image_begun : ℕ → ℕ → ℕ → Seen
image_begun d k b = pick (begun d k b) (Image (b - 48) d k) Dead

abbrev pub vertex_next : ℕ → ℕ → ℕ → Seen
vertex_next d k b = pick (eqb b 40) (pick (opened d k) (Vertex (d + 1) 0) Dead) (image_begun d k b)

abbrev pub image_next : ℕ → ℕ → ℕ → ℕ → Seen
image_next x d k b = pick (eqb b 58) (Blank d k) (pick (is_digit b) (pick (grown x d k) (Image (10 * x + (b - 48)) d k) Dead) Dead)

abbrev pub head_next : ℕ → ℕ → ℕ → Seen
head_next d k b = pick (eqb b 58) (Blank d k) Dead

abbrev pub blank_next : ℕ → ℕ → ℕ → Seen
blank_next d k b = pick (is_digit b) (Cost (b - 48) d k) Dead

-- the innermost bracket closes
abbrev pub closed : ℕ → ℕ → List ℕ → Seen
closed d k a = pick (eqb d 1) (pick (leb 3 k) Ended Dead) (pick (leb 2 k) (Closed (d - 1) (get_or a (d - 2) 0)) Dead)

abbrev pub digit_next : ℕ → ℕ → ℕ → ℕ → Seen
digit_next x d k b = pick (is_digit b) (pick (leb 1 x && ltb x 10000000) (Cost (10 * x + (b - 48)) d k) Dead) Dead

abbrev pub cost_next : ℕ → ℕ → ℕ → ℕ → List ℕ → Seen
cost_next x d k b a = pick (eqb b 44) (Vertex d (more k)) (pick (eqb b 41) (closed d (more k) a) (digit_next x d k b))

abbrev pub ended_next : ℕ → Seen
ended_next b = pick (eqb b 59) Done Dead

-- what the byte b makes of it, where a holds the counts of the outer brackets
abbrev pub next_seen : Seen → ℕ → List ℕ → Seen
next_seen Start b a = start_next b
next_seen (Vertex d k) b a = vertex_next d k b
next_seen (Image x d k) b a = image_next x d k b
next_seen (Closed d k) b a = head_next d k b
next_seen (Blank d k) b a = blank_next d k b
next_seen (Cost x d k) b a = cost_next x d k b a
next_seen Ended b a = ended_next b
next_seen Done b a = Dead
next_seen Dead b a = Dead
