-- Comparison, in document 01's words.
use Rattle.std.specs.Prelude.{not, List, ℕ, ◌+◌, length}
use Rattle.ground.specs.Filters.{filter}
use Rattle.ground.specs.Members.{is_in}
use Rattle.theory.specs.FarSides.{inner}

-- the inner ones of a table's far sides
abbrev pub inners : ℕ → List ℕ → List ℕ
inners n l = filter (inner n) l

-- in both, and in the first alone
abbrev pub common : List ℕ → List ℕ → List ℕ
common l r = filter (λ x. is_in x r) l

abbrev pub alone : List ℕ → List ℕ → List ℕ
alone l r = filter (λ x. not (is_in x r)) l

-- the Robinson-Foulds count: how many are in exactly one of the two
abbrev pub differing : List ℕ → List ℕ → ℕ
differing l r = length (alone l r) + length (alone r l)
