-- A path cut where a new image leaves it: document 001, procedure 2. Images are named by their places in the order, from 0 for the first; e i j is
-- the entry of the images at the places i and j, and all costs are doubled. The path is a list of rows from the first image on; a row's far side
-- holds the images placed behind it. Assumes nothing.
use Rattle.std.specs.Prelude.{List, [], ◌∷◌, min, suc, ℕ, ◌+◌, ◌-◌}
use Rattle.theory.specs.LinkTables.{Row}

-- how far from the first image the paths to the places i and j part
unfoldable pub height : (ℕ → ℕ → ℕ) → ℕ → ℕ → ℕ
height e i j = e 0 i + e 0 j - e i j

-- the cost of the own link of the place after p, as it is grafted
abbrev pub own_cost : (ℕ → ℕ → ℕ) → ℕ → ℕ
own_cost e p = e 0 (suc p) + e p (suc p) - e 0 p

-- a path cut at the height h: the part on the side of the first image, where every row gets the new image b
abbrev pub kept : ℕ → ℕ → List Row → List Row
kept h b [] = []
kept h b (r ∷ P) = (b + r.0, min h r.1) ∷ kept (h - r.1) b P

-- and the rest, which no later image changes
abbrev pub closed : ℕ → List Row → List Row
closed h [] = []
closed h (r ∷ P) = (r.0, r.1 - h) ∷ closed (h - r.1) P
