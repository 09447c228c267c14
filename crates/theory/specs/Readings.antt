-- The two readings, in document 01's words, each over all divisions and all link tables.
use Rattle.std.specs.Prelude.{Bool, not, ◌||◌, List, map, ◌≡◌, ℕ, ◌*◌, ◌+◌, ◌<◌, ◌≤◌, ltb}
use Rattle.ground.specs.Bits.{bit}
use Rattle.ground.specs.Filters.{filter}
use Rattle.theory.specs.FarSides.{inner, sides}
use Rattle.theory.specs.Index.{clipped}
use Rattle.theory.specs.LinkTables.{LinkTable, Row, path}

-- all path costs are twice the entries
pub record Meets (d : ℕ → ℕ → ℕ) (n : ℕ) (T : List Row) : Type 0 where
  pub meets : {i j : ℕ} → i < n → j < n → path T i j ≡ 2 * d i j

-- the exact reading: a link table whose path costs are twice the entries
pub record Exact (L : ℕ) (d : ℕ → ℕ → ℕ) (n : ℕ) (T : List Row) : Type 0 where
  pub tree : LinkTable L n T
  pub meets : Meets d n T

-- drawn: an own link, or a division with index above 0
abbrev pub drawn : ℕ → (ℕ → ℕ → ℕ) → ℕ → ℕ → Bool
drawn L d n S = not (inner n S) || ltb 0 (clipped L d n (bit S))

-- the far sides that are drawn, ascending
abbrev pub rows : ℕ → (ℕ → ℕ → ℕ) → ℕ → List ℕ
rows L d n = filter (drawn L d n) (sides n)

-- each with its index, or 0 where that is negative
abbrev pub row : ℕ → (ℕ → ℕ → ℕ) → ℕ → ℕ → Row
row L d n S = (S, clipped L d n (bit S))

-- the measured reading
abbrev pub measured : ℕ → (ℕ → ℕ → ℕ) → ℕ → List Row
measured L d n = map (row L d n) (rows L d n)

-- no entry differs by more than D
pub record Near (D : ℕ) (d e : ℕ → ℕ → ℕ) (n : ℕ) : Type 0 where
  pub up : {i j : ℕ} → i < n → j < n → d i j ≤ e i j + D
  pub down : {i j : ℕ} → i < n → j < n → e i j ≤ d i j + D
