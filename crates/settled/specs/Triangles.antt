-- A cost table from its upper triangle in stored order: (1,2), (1,3), .., (1,n), (2,3), .. Images are counted from 0 here.
use Rattle.std.specs.Prelude.{cond, List, map, ℕ, ◌*◌, ◌+◌, ◌-◌, ◌/◌, ltb, get_or}
use Rattle.ground.specs.Ranges.{from, gather}
use Rattle.theory.specs.Tables.{cost}

-- the entry of i < j in the triangle t, and of any i and j
abbrev pub upper : ℕ → List ℕ → ℕ → ℕ → ℕ
upper n t i j = get_or t (i * (2 * n - i - 1) / 2 + (j - i - 1)) 0

abbrev pub entry : ℕ → List ℕ → ℕ → ℕ → ℕ
entry n t i j = cond (ltb i j) (upper n t i j) (cond (ltb j i) (upper n t j i) 0)

-- the full table, row by row, and its entries
abbrev pub square : ℕ → List ℕ → List ℕ
square n t = gather (from 0 n) (λ i. map (entry n t i) (from 0 n))

abbrev pub table : ℕ → List ℕ → ℕ → ℕ → ℕ
table n t = cost (square n t) n
