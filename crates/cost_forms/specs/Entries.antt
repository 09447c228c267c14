-- The entries of a cost table that are stored: those with row below column, row by row. Images are counted from 0. Assumes nothing.
use Rattle.std.specs.Prelude.{cond, List, [], ◌++◌, ◌≡◌, max, min, suc, zero, ℕ, ◌%◌, ◌*◌, ◌+◌, ◌-◌, ◌/◌, ◌<◌, eqb}
use Rattle.theory.specs.Tables.{cost}
use Rattle.bits.specs.Listed.{listed}

-- the entries of row i with row below column: of i and i + 1, .., of i and n - 1
unfoldable pub row_entries : (ℕ → ℕ → ℕ) → ℕ → ℕ → List ℕ
row_entries d n i = listed (λ k. d i (i + 1 + k)) (n - (i + 1))

-- those of the first i rows, one row after another
unfoldable pub entries_to : (ℕ → ℕ → ℕ) → ℕ → ℕ → List ℕ
entries_to d n zero = []
entries_to d n (suc i) = entries_to d n i ++ row_entries d n i

-- all: d(1,2), d(1,3), .., d(1,n), d(2,3), ..
abbrev pub entries : (ℕ → ℕ → ℕ) → ℕ → List ℕ
entries d n = entries_to d n n

-- how many stand before row i
unfoldable pub row_start : ℕ → ℕ → ℕ
row_start n zero = 0
row_start n (suc i) = row_start n i + (n - (i + 1))

-- how many there are
abbrev pub entry_count : ℕ → ℕ
entry_count n = row_start n n

-- how many stand before that of row i and column j, where i is below j
abbrev pub entry_number : ℕ → ℕ → ℕ → ℕ
entry_number n i j = row_start n i + (j - (i + 1))

-- the cost of i and j by the entries f 0, f 1, .. in stored order: 0 on the diagonal, mirrored below it
unfoldable pub entry_cost : (ℕ → ℕ) → ℕ → ℕ → ℕ → ℕ
entry_cost f n i j = cond (eqb i j) 0 (f (entry_number n (min i j) (max i j)))

-- in the places t those of column i above row i have those costs
pub record Above (f : ℕ → ℕ) (n i : ℕ) (t : List ℕ) : Type 0 where
  pub holds : (j : ℕ) → j < i → cost t n j i ≡ entry_cost f n j i

-- the whole table with those costs, row by row
unfoldable pub table_of : (ℕ → ℕ) → ℕ → List ℕ
table_of f n = listed (λ p. entry_cost f n (p / n) (p % n)) (n * n)
