-- The rows below a row as a chain, from the last to the first, by their numbers from 1: u the upper rows, l the far sides, v the doubled costs.
-- Assumes nothing.
use Rattle.std.specs.Prelude.{cond, List, ◌≡◌, suc, zero, ℕ, ◌+◌, ◌-◌, ◌<◌, ◌≤◌, eqb, get_or, length}
use Rattle.newick_text.specs.Trees.{Siblings}
use Rattle.newick_rows.specs.Below.{below}

-- the last of the first k rows whose upper row is p; 0 where there is none
unfoldable pub prior : List ℕ → ℕ → ℕ → ℕ
prior u zero p = 0
prior u (suc k) p = cond (eqb (get_or u k 0) p) (suc k) (prior u k p)

-- row k, and the rows before it that have its upper row
abbrev pub chain : List ℕ → List ℕ → List ℕ → ℕ → Siblings
chain u l v k = below u l v k (get_or u (k - 1) 0)

-- an upper row is one of the rows, and later than the row, which is counted from 0 here
pub record Upward (u : List ℕ) : Type 0 where
  pub most : (i : ℕ) → i < length u → get_or u i 0 ≤ length u
  pub later : (i : ℕ) → i < length u → 0 < get_or u i 0 → i + 1 < get_or u i 0

-- b holds the row before each in its chain, w the last row below each
pub record Chained (u b w : List ℕ) : Type 0 where
  pub before : (i : ℕ) → i < length u → get_or b i 0 ≡ prior u i (get_or u i 0)
  pub inner : (i : ℕ) → i < length u → get_or w (suc i) 0 ≡ prior u i (suc i)
  pub befores : length u ≤ length b
  pub inners : length u < length w
