-- What is kept of the text, said otherwise. Assumes nothing.
use Rattle.std.specs.Prelude.{List, ◌≡◌, ℕ}
use Rattle.std.proofs.Common.{ap, subst, sym}
use Rattle.newick_bytes.specs.declared.Seen.{Seen}
use Rattle.newick_notes.specs.declared.Noted.{Noted}
use Rattle.newick_notes.specs.Stacks.{Stacks}
use Rattle.newick_notes.specs.Turns.{Completed}
use Rattle.newick_scan.specs.Noting.{Kept, Noting}
use Rattle.newick_notes.specs.Able.{Closing}
use Rattle.newick_scan.specs.Able.{AbleIn}

pub able_at : {s s' : Seen} (w : Noted) (a : Stacks) → s ≡ s' → AbleIn s w a → AbleIn s' w a
able_at w a e h = subst (λ (k : Seen). AbleIn k w a) e h

pub noting_at : {s s' : Seen} (b p : ℕ) (x y : Kept) → s ≡ s' → Noting s' b p x y → Noting s b p x y
noting_at b p x y e h = subst (λ (k : Seen). Noting k b p x y) (sym e) h

-- a bracket may close as well once the vertex is complete
pub closing_then : (d c : ℕ) (w r : Noted) (a : Stacks) (f v f' v' : List ℕ) → Completed c w f v r f' v' → Closing d w a → Closing d r a
closing_then d c w r a f v f' v' p h = record {
  most = h.most;
  sized = h.sized;
  less = λ l. rw (ap (λ (k : Noted). k.marked) p.told) (h.less l);
}
