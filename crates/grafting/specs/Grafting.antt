-- Grafting one image at a time onto the path from the first image to the one placed before: document 001, procedure 2. Images are
-- named by their places in the order o, from 0 for the first; e i j is the entry of the images at the places i and j, and all costs
-- are doubled. The path is a list of rows from the first image on; a row's far side holds the images placed behind it. Assumes nothing.
use Rattle.std.specs.Prelude.{List, [], map, ◌++◌, ◌∷◌, suc, zero, ℕ, ◌-◌, ◌^◌}
use Rattle.ground.specs.Ranges.{from}
use Rattle.theory.specs.FarSides.{own}
use Rattle.theory.specs.LinkTables.{Row}
use Rattle.rows.specs.Rows.{costly, put_all}
use Rattle.path_cuts.specs.Cuts.{height, own_cost, kept, closed}

-- the path from the first image to the place p
unfoldable pub path_to : (ℕ → ℕ → ℕ) → (ℕ → ℕ) → ℕ → List Row
path_to e o zero = []
path_to e o (suc p) = kept (height e p (suc p)) (2 ^ o (suc p)) (path_to e o p) ++ ((2 ^ o (suc p), own_cost e p) ∷ [])

-- the rows that were closed until then
unfoldable pub closed_to : (ℕ → ℕ → ℕ) → (ℕ → ℕ) → ℕ → List Row
closed_to e o zero = []
closed_to e o (suc p) = closed_to e o p ++ closed (height e p (suc p)) (path_to e o p)

-- the own links of n images, without cost; they ascend, since that of image 0 holds all the others
abbrev pub own_rows : ℕ → List Row
own_rows n = map (λ i. (own n i, 0)) (from 1 (n - 1) ++ (0 ∷ []))

-- the table once place m is grafted: the own links, and what is closed and has a cost; at the end, with the path
abbrev pub table_to : (ℕ → ℕ → ℕ) → (ℕ → ℕ) → ℕ → ℕ → List Row
table_to e o n m = put_all (costly (closed_to e o m)) (own_rows n)

abbrev pub grafted : (ℕ → ℕ → ℕ) → (ℕ → ℕ) → ℕ → ℕ → List Row
grafted e o n m = put_all (costly (path_to e o m)) (table_to e o n m)
