-- `tree::check_exact` meets its contract: the first refusal is the answer. Assumes nothing.
use Rattle.std.proofs.Common.{sym, ◌∙◌}
use Rattle.theory.specs.Tables.{limit}
use Rattle.tree.proofs.Laws.Writing.{measured-passed}
use Rattle.tree.proofs.check_exact.Goals as goal

pub invariant_of-check_wiring : goal.invariant_of-check_wiring
invariant_of-check_wiring c = record { formed = ((measured-passed limit _ _ _ _).0 (sym c.check_measured.ensures ∙ c.in_ok-check_measured.was)).table }
