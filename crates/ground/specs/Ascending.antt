-- Strictly ascending lists of numbers, both ends in one predicate. Assumes nothing.
use Rattle.std.specs.Prelude.{List, [], ◌∷◌, suc, ℕ, ◌≤◌}

-- l ascends strictly, from m or more to below k
abbrev pub Between : ℕ → List ℕ → ℕ → Type 0
Between m [] k = m ≤ k
Between m (x ∷ l) k = (m ≤ x) × Between (suc x) l k
