-- `stored_costs::check_values` meets its contract: where the pass with both checks refuses, one with 4 alone says which of the two it is.
-- Assumes nothing.
use Rattle.std.proofs.Common.{ℕ, sym, ◌∙◌}
use Rattle.std.proofs.lemmas.Result.{err_from_is_err_and}
use Rattle.ground.specs.Laws.Refusals.{no_refusal}
use Rattle.tables.specs.Checks.{entry_check, least_check}
use Rattle.tables.proofs.Laws.Pairs.{pass_alone, pass_clean, pass_first, pass_second}
use Rattle.cost_forms.specs.Entries.{entry_cost}
use Rattle.cost_forms.specs.Said.{entry_of}
use Rattle.stored_costs.proofs.check_values.Goals as goal

pub returns-in_ok-check_entries : goal.returns-in_ok-check_entries
returns-in_ok-check_entries c =
    let a = c.args in
    let d : ℕ → ℕ → ℕ = entry_cost (entry_of a.form a.bytes.now) a.n in
    pass_second (entry_check a.form.limit d) (least_check 1 d) _ c.in_ok-check_entries.was (c.check_entries.ensures ∙ pass_alone (entry_check a.form.limit d) d _)
    c.check_entries-either.ensures

pub returns-else-is_err : goal.returns-else-is_err
returns-else-is_err c =
    let a = c.args in
    let d : ℕ → ℕ → ℕ = entry_cost (entry_of a.form a.bytes.now) a.n in
    pass_clean (entry_check a.form.limit d) (least_check 1 d) _ (no_refusal _ (sym c.if-is_err.ensures.value)) c.check_entries-either.ensures

pub returns-in_err-check_entries : goal.returns-in_err-check_entries
returns-in_err-check_entries c =
    let a = c.args in
    let d : ℕ → ℕ → ℕ = entry_cost (entry_of a.form a.bytes.now) a.n in
    let p = err_from_is_err_and c.from_residual.result c.from_residual.ensures.1 in
    let q = pass_first (entry_check a.form.limit d) (least_check 1 d) _ c.in_err-check_entries.was
    (c.check_entries.ensures ∙ pass_alone (entry_check a.form.limit d) d _) in
    rw (p.1, p.2) (sym c.in_err-check_entries.was ∙ q)
