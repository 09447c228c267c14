-- Cost tables, in document 01's words. Images are counted from 0: image i of document 01 is i - 1 here.
use Rattle.std.specs.Prelude.{List, ◌≡◌, ℕ, ◌*◌, ◌+◌, ◌<◌, ◌≤◌, get_or, length}

-- the limit on an entry; a doubled cost is at most twice as much
abbrev pub limit : ℕ
limit = 8000000

-- the limit in document 01's stored forms, which readers still keep
abbrev pub old_limit : ℕ
old_limit = 1000000

-- the entry of i and j in a table of n numbers to a row, row by row
abbrev pub cost : List ℕ → ℕ → ℕ → ℕ → ℕ
cost t n i j = get_or t (i * n + j) 0

-- every entry at most the limit L, zero diagonal, symmetric, and no zero off the diagonal
pub record WellFormed (L : ℕ) (d : ℕ → ℕ → ℕ) (n : ℕ) : Type 0 where
  pub small : {i j : ℕ} → i < n → j < n → d i j ≤ L
  pub self : {i : ℕ} → i < n → d i i ≡ 0
  pub same : {i j : ℕ} → i < n → j < n → d i j ≡ d j i
  pub nonzero : {i j : ℕ} → i < n → j < n → (i ≡ j → ⊥) → 0 < d i j

-- exactly n * n numbers for n from 3 to 64, and well-formed
pub record CostTable (L n : ℕ) (t : List ℕ) : Type 0 where
  pub some : 3 ≤ n
  pub few : n ≤ 64
  pub sized : length t ≡ n * n
  pub formed : WellFormed L (cost t n) n
