-- One image more: what it makes of the old rows, with it outside and inside. Assumes nothing.
use Rattle.std.specs.Prelude.{List, map, suc, ℕ, ◌+◌}
use Rattle.ground.specs.Filters.{filter}
use Rattle.theory.specs.OneMore.{more, stays}
use Rattle.theory.specs.LinkTables.{Row}

-- the row r with image k on the side that `add` puts it: 0 for outside, 2 ^ k for inside
abbrev pub changed : ℕ → (ℕ → ℕ → ℕ) → ℕ → ℕ → Row → Row
changed L d k add r = more L d k (add + r.0) r.1

-- those rows of T that stay
unfoldable pub stayed : ℕ → (ℕ → ℕ → ℕ) → ℕ → ℕ → List Row → List Row
stayed L d k add T = filter (stays (suc k)) (map (changed L d k add) T)
