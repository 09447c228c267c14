-- `brought::choose_out` meets its contract: the rows below i have gone by. Assumes nothing.
use Rattle.theory.specs.Tables.{limit}
use Rattle.brought.specs.Choosing.{Outs}
use Rattle.brought.proofs.choose_out.Given as goal

abbrev pub invariant-loop-i : goal.invariant-loop-i
invariant-loop-i l = Outs limit l.b l.near l.fars l.i l.m l.sides l.outs l.best
