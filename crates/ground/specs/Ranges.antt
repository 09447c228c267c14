-- Ranges of numbers, and lists joined one after another. Assumes nothing.
use Rattle.std.specs.Prelude.{List, [], ◌++◌, ◌∷◌, suc, zero, ℕ}

-- i, i + 1, ..: m numbers
abbrev pub from : ℕ → ℕ → List ℕ
from i zero = []
from i (suc m) = i ∷ from (suc i) m

-- the lists f x, for each x of l, one after another
abbrev pub gather : {A B : Type 0} → List A → (A → List B) → List B
gather [] f = []
gather (x ∷ l) f = f x ++ gather l f
