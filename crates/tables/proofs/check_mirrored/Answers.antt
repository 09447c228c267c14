-- `tables::check_mirrored` meets its contract: where the pass with both checks refuses, one with 6 alone says which of the two it is.
-- Assumes nothing.
use Rattle.std.proofs.Common.{ℕ, sym, ◌∙◌}
use Rattle.std.proofs.lemmas.Result.{err_from_is_err_and}
use Rattle.ground.specs.Laws.Refusals.{no_refusal}
use Rattle.theory.specs.Tables.{cost}
use Rattle.tables.specs.Checks.{least_check, mirror_check}
use Rattle.tables.proofs.Laws.Pairs.{pass_alone, pass_clean, pass_first, pass_second}
use Rattle.tables.proofs.check_mirrored.Goals as goal

pub returns-in_ok-check_pairs : goal.returns-in_ok-check_pairs
returns-in_ok-check_pairs c =
    let d : ℕ → ℕ → ℕ = cost c.args.t.now c.args.n in
    pass_second (mirror_check d) (least_check 1 d) _ c.in_ok-check_pairs.was (c.check_pairs.ensures ∙ pass_alone (mirror_check d) d _)
    c.check_pairs-either.ensures

pub returns-else-is_err : goal.returns-else-is_err
returns-else-is_err c =
    let d : ℕ → ℕ → ℕ = cost c.args.t.now c.args.n in
    pass_clean (mirror_check d) (least_check 1 d) _ (no_refusal _ (sym c.if-is_err.ensures.value)) c.check_pairs-either.ensures
