-- `tree::measured` meets its contract: everything is checked before the first store. Assumes nothing.
use Rattle.std.proofs.Common.{sym, ◌∙◌}
use Rattle.theory.specs.Tables.{limit}
use Rattle.tree.proofs.Laws.Writing.{measured-passed}
use Rattle.tree.proofs.measured.Goals as goal

pub invariant_of-write_reading : goal.invariant_of-write_reading
invariant_of-write_reading c = record { formed = ((measured-passed limit _ _ _ _).0 (sym c.check_measured.ensures ∙ c.in_ok-check_measured.was)).table }

pub write_reading-requires : goal.write_reading-requires
write_reading-requires c =
    let r = (measured-passed limit _ _ _ _).0 (sym c.check_measured.ensures ∙ c.in_ok-check_measured.was) in (r.far-room, r.cost-room)
