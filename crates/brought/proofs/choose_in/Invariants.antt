-- `brought::choose_in` meets its contract: the rows from i on have gone by. Assumes nothing.
use Rattle.theory.specs.Tables.{limit}
use Rattle.brought.specs.Choosing.{Ins}
use Rattle.brought.proofs.choose_in.Given as goal

abbrev pub invariant-loop-i : goal.invariant-loop-i
invariant-loop-i l = Ins limit l.k l.near l.fars l.i l.count l.low l.m l.initial.sides l.initial.best l.sides l.ins l.best
