-- The entries of a cost table that was checked. Assumes nothing.
use Rattle.std.specs.Prelude.{ℕ}
use Rattle.theory.specs.Tables.{cost}
use Rattle.tables.specs.declared.costs.Costs.{Costs}

-- the entry of images i and j
abbrev pub costs_in : Costs → ℕ → ℕ → ℕ
costs_in t = cost t.entries.now t.n
