-- What is kept is small, and shows whether a text can go on, and whether it is whole. Assumes nothing.
use Rattle.std.specs.Prelude.{refl, ◌≡◌, ◌≤◌}
use Rattle.std.proofs.Common.{arith}
use Rattle.newick_text.specs.Trees as trees
use Rattle.newick_text.specs.States.{Open, State, blank, costing, dead, depth, done, ended, head, outermost, start, value, vertex, within}
use Rattle.newick_text.specs.Ends.{is_dead, is_done}
use Rattle.newick_text.proofs.Laws.Fine.{Fine, FineOpen}
use Rattle.newick_bytes.specs.Seen.{Bounded, is_dead_seen, is_done_seen}
use Rattle.newick_bytes.specs.Kept.{narrow}

open_most : (o : Open) → FineOpen o → (1 ≤ depth o) × (depth o ≤ 62)
open_most (outermost f) h = (omega arith, omega arith)
open_most (within f o) h = (omega arith, h.0)

pub fine_bounded : (s : State) → Fine s → Bounded (narrow s)
fine_bounded start h = tt
fine_bounded (vertex o) h = open_most o h
fine_bounded (head o (trees.named i)) h = let m = open_most o h.around in (h.formed.1, m.0, m.1)
fine_bounded (head o (trees.closed g)) h = open_most o h.around
fine_bounded (costing o v blank) h = open_most o h.0.around
fine_bounded (costing o v (value x)) h = let m = open_most o h.0.around in (h.1, m.0, m.1)
fine_bounded (ended f) h = tt
fine_bounded (done f) h = tt
fine_bounded dead h = tt

pub narrow_dead : (s : State) → is_dead_seen (narrow s) ≡ is_dead s
narrow_dead start = refl
narrow_dead (vertex o) = refl
narrow_dead (head o (trees.named i)) = refl
narrow_dead (head o (trees.closed g)) = refl
narrow_dead (costing o v blank) = refl
narrow_dead (costing o v (value x)) = refl
narrow_dead (ended f) = refl
narrow_dead (done f) = refl
narrow_dead dead = refl

pub narrow_done : (s : State) → is_done_seen (narrow s) ≡ is_done s
narrow_done start = refl
narrow_done (vertex o) = refl
narrow_done (head o (trees.named i)) = refl
narrow_done (head o (trees.closed g)) = refl
narrow_done (costing o v blank) = refl
narrow_done (costing o v (value x)) = refl
narrow_done (ended f) = refl
narrow_done (done f) = refl
narrow_done dead = refl
