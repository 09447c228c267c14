-- `stored_costs::check_entries` meets its contract: what is left answers as the whole does. Assumes nothing.
use Rattle.std.proofs.Common.{◌+◌, ◌-◌, ◌≡◌, ◌≤◌}
use Rattle.ground.specs.Lowest.{check_all}
use Rattle.tables.specs.Pairs.{pairs_check}
use Rattle.cost_forms.specs.Entries.{entry_cost}
use Rattle.cost_forms.specs.Said.{entry_of}
use Rattle.stored_costs.specs.Reading.{value_check}
use Rattle.stored_costs.proofs.check_entries.Given as goal

abbrev pub invariant-loop-i : goal.invariant-loop-i
invariant-loop-i l = (l.i ≤ l.n)
    × (pairs_check (value_check l.least l.form.limit (entry_cost (entry_of l.form l.bytes) l.n)) l.n ≡ check_all
    (λ k. check_all (value_check l.least l.form.limit (entry_cost (entry_of l.form l.bytes) l.n) k) (k + 1) (l.n - (k + 1))) l.i (l.n - l.i))
