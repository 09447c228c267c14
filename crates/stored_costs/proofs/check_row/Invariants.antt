-- `stored_costs::check_row` meets its contract: what is left answers as the whole does. Assumes nothing.
use Rattle.std.proofs.Common.{◌*◌, ◌+◌, ◌-◌, ◌<◌, ◌≡◌}
use Rattle.ground.specs.Lowest.{check_all}
use Rattle.cost_forms.specs.Entries.{entry_cost, entry_number}
use Rattle.stored_costs.specs.Reading.{value_check}
use Rattle.cost_forms.specs.Said.{entry_of}
use Rattle.stored_costs.proofs.check_row.Given as goal

abbrev pub invariant-loop-j : goal.invariant-loop-j
invariant-loop-j l = (l.i < l.j) × (l.p ≡ l.form.head + 7 + l.form.width * entry_number l.n l.i l.j)
    × (check_all (value_check l.least l.form.limit (entry_cost (entry_of l.form l.bytes) l.n) l.i) (l.i + 1) (l.n - (l.i + 1)) ≡ check_all
    (value_check l.least l.form.limit (entry_cost (entry_of l.form l.bytes) l.n) l.i) l.j (l.n - l.j))
