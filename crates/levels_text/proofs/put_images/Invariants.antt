-- `levels_text::put_images` meets its contract: what is left to write loses its first image in each turn. Assumes nothing.
use Rattle.levels_text.proofs.Laws.Turns.{ImagesLeft}
use Rattle.levels_text.proofs.put_images.Given as goal

abbrev pub invariant-loop-i : goal.invariant-loop-i
invariant-loop-i l = ImagesLeft l.members l.n l.i l.place l.out l.at l.initial.out
