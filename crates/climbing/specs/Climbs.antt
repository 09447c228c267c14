-- Climbing by upper rows: one row and then the climb from its upper row; rows are numbered from 1. Assumes nothing.
use Rattle.std.specs.Prelude.{List, ℕ, ◌-◌, get_or, length, Bool}
use Rattle.theory.specs.Routes.{climb, uppers}
use Rattle.theory.specs.FarSides.{holds}

-- the rows from row r up to the last
abbrev pub climb_from : List ℕ → ℕ → List ℕ
climb_from l r = climb (uppers l) (length l) r

-- row r, numbered from 1, holds image i
abbrev pub held_by : List ℕ → ℕ → ℕ → Bool
held_by l i r = holds (get_or l (r - 1) 0) i
