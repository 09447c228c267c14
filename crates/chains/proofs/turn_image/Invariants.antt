-- `chains::turn_image` meets its contract: the sides that hold z and have q of them below are lowered. Assumes nothing.
use Rattle.theory.specs.Tables.{limit}
use Rattle.tables.specs.Entries.{costs_in}
use Rattle.chains.specs.Laws.Descents.{Down}
use Rattle.chains.proofs.turn_image.Given as goal

abbrev pub invariant-loop-q : goal.invariant-loop-q
invariant-loop-q l = Down limit (costs_in l.t) l.k l.z l.sides l.count l.q l.a l.initial.best l.best
