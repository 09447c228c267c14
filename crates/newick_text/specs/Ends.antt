-- How the reading of a text ends: where no text of the profile could go on, or as such a text with its tree. Assumes nothing.
use Rattle.std.specs.Prelude.{Bool, cond, false, true, List, [], ◌∷◌, suc, ℕ}
use Rattle.newick_text.specs.Trees.{Siblings, none}
use Rattle.newick_text.specs.States.{State, costing, dead, done, ended, head, start, vertex}
use Rattle.newick_text.specs.Bytes.{step}

-- no beginning of a text of the profile
abbrev pub is_dead : State → Bool
is_dead start = false
is_dead (vertex o) = false
is_dead (head o v) = false
is_dead (costing o v x) = false
is_dead (ended f) = false
is_dead (done f) = false
is_dead dead = true

-- how many bytes of t are read before none could follow
unfoldable pub lived : State → List ℕ → ℕ
lived s [] = 0
lived s (b ∷ t) = cond (is_dead (step s b)) 0 (suc (lived (step s b) t))

-- a text of the profile, read to its end
abbrev pub is_done : State → Bool
is_done start = false
is_done (vertex o) = false
is_done (head o v) = false
is_done (costing o v x) = false
is_done (ended f) = false
is_done (done f) = true
is_done dead = false

-- its tree
abbrev pub tree_of : State → Siblings
tree_of start = none
tree_of (vertex o) = none
tree_of (head o v) = none
tree_of (costing o v x) = none
tree_of (ended f) = none
tree_of (done f) = f
tree_of dead = none
