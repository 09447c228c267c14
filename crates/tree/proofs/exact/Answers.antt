-- `tree::exact` meets its contract: everything is checked before the first store. Assumes nothing.
use Rattle.std.proofs.Common.{sym, ◌∙◌}
use Rattle.theory.specs.Tables.{limit}
use Rattle.tree.proofs.Laws.Exact.{readings_agree}
use Rattle.tree.proofs.Laws.Writing.{exact_ready, left_written}
use Rattle.tree.proofs.exact.Goals as goal

pub invariant_of-write_reading : goal.invariant_of-write_reading
invariant_of-write_reading c = record { formed = (exact_ready limit _ _ _ _ (sym c.check_exact.ensures ∙ c.in_ok-check_exact.was)).table }

pub write_reading-requires : goal.write_reading-requires
write_reading-requires c =
    let r = exact_ready limit _ _ _ _ (sym c.check_exact.ensures ∙ c.in_ok-check_exact.was) in (r.far-room, r.cost-room)

pub returns : goal.returns
returns c =
    left_written _ _ _ _ _ _ _ c.in_ok-check_exact.was c.check_exact.ensures (rw (readings_agree limit _ _) c.write_reading.ensures)
