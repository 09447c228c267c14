-- `ordering::write_order` meets its contract: from place i on the order stands, and what it placed is marked. Assumes nothing.
use Rattle.tables.specs.Entries.{costs_in}
use Rattle.ordering.specs.Laws.Backward.{Walked}
use Rattle.ordering.proofs.write_order.Given as goal

abbrev pub invariant-loop-i : goal.invariant-loop-i
invariant-loop-i l = Walked (costs_in l.t) l.t.n l.f l.last l.initial.out l.i l.placed l.x l.out
