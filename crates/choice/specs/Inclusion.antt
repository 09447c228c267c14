-- Whether one list of far sides includes another. Assumes nothing.
use Rattle.std.specs.Prelude.{Bool, true, ◌&&◌, List, [], ◌∷◌, ℕ}
use Rattle.ground.specs.Members.{is_in}

-- l includes all of r
abbrev pub includes : List ℕ → List ℕ → Bool
includes l [] = true
includes l (S ∷ r) = is_in S l && includes l r
