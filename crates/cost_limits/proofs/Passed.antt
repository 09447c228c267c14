-- What the checks say when they pass. Assumes nothing.
use Rattle.std.specs.Prelude.{List, ◌≡◌, ℕ, Ok}
use Rattle.ground.specs.Refusals.{◌then◌}
use Rattle.ground.specs.Laws.Refusals.{then_passed}
use Rattle.theory.specs.Tables.{CostTable, cost, limit}
use Rattle.tables.proofs.Laws.Formed.{cost-table}
use Rattle.cost_limits.specs.Checks.{fit_check, table_checks}

pub passed_table : (n : ℕ) (t : List ℕ) → table_checks limit n t ≡ Ok tt → CostTable limit n t
passed_table n t e = (cost-table limit n t).0 e

pub passed_both_table : (most n : ℕ) (t : List ℕ) → (table_checks limit n t then fit_check most (cost t n) n) ≡ Ok tt → CostTable limit n t
passed_both_table most n t e = passed_table n t (then_passed (table_checks limit n t) (fit_check most (cost t n) n) e).0
