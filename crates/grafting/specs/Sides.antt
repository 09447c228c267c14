-- The path and the closed rows place by place: which images their far sides hold, and their costs as differences of heights.
-- Assumes nothing.
use Rattle.std.specs.Prelude.{cond, suc, zero, ℕ, ◌+◌, ◌-◌, ◌^◌, leb}
use Rattle.theory.specs.LinkTables.{Row}
use Rattle.path_cuts.specs.Cuts.{height}

-- the images at the places q to m, where q is above 0
unfoldable pub side : (ℕ → ℕ) → ℕ → ℕ → ℕ
side o q zero = 0
side o q (suc m) = cond (leb q (suc m)) (2 ^ o (suc m) + side o q m) 0

-- the row of the path to p that begins with the place after r
abbrev pub path_row : (ℕ → ℕ → ℕ) → (ℕ → ℕ) → ℕ → ℕ → Row
path_row e o p r = (side o (suc r) p, height e (suc r) p - height e r p)

-- how far above the graft after p the place r leaves the path to p
abbrev pub above : (ℕ → ℕ → ℕ) → ℕ → ℕ → ℕ
above e p r = height e r p - height e p (suc p)

abbrev pub closed_row : (ℕ → ℕ → ℕ) → (ℕ → ℕ) → ℕ → ℕ → Row
closed_row e o p r = (side o (suc r) p, above e p (suc r) - above e p r)
