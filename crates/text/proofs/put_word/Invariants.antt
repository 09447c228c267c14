-- `text::put_word` meets its contract: what is left to write loses its first byte in each turn. Assumes nothing.
use Rattle.std.proofs.Common.{drop}
use Rattle.text.specs.Putting.{Rest}
use Rattle.text.proofs.put_word.Given as goal

abbrev pub invariant-loop-byte : goal.invariant-loop-byte
invariant-loop-byte l = Rest (drop l.byte-index l.word) l.place l.out l.word l.at l.initial.out
