-- `lowered_rows::put_rows` meets its contract: the old rows that went by are put. Assumes nothing.
use Rattle.theory.specs.Tables.{limit}
use Rattle.lowered_rows.specs.Putting.{PutAll, lowered_in}
use Rattle.lowered_rows.proofs.put_rows.Given as goal

abbrev pub invariant-loop-i : goal.invariant-loop-i
invariant-loop-i l = PutAll l.k (lowered_in limit l.add l.f l.v l.slots l.best l.i) l.at l.initial.fars l.initial.costs l.place l.fars l.costs
