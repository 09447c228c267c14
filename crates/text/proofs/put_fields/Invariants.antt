-- `text::put_fields` meets its contract: what is left to write loses its first field in each turn. Assumes nothing.
use Rattle.std.proofs.Common.{drop}
use Rattle.text.specs.Fields.{fields}
use Rattle.text.specs.Putting.{Rest}
use Rattle.text.proofs.put_fields.Given as goal

abbrev pub invariant-loop-x : goal.invariant-loop-x
invariant-loop-x l = Rest (fields (drop l.x-index l.l)) l.place l.out (fields l.l) l.at l.initial.out
