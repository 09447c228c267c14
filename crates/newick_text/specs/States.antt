-- What was read of a Newick text: the open brackets with their vertices, and the vertex that is being read. Assumes nothing.
use Rattle.std.specs.Prelude.{Bool, false, suc, ℕ, eqb}
use Rattle.newick_text.specs.Trees.{Head, Siblings, add, size}

-- the open brackets, from the innermost: the vertices read in each
pub data Open : Type 0 where
  outermost : Siblings → Open
  within : Siblings → Open → Open

-- how many brackets are open
abbrev pub depth : Open → ℕ
depth (outermost f) = 1
depth (within f o) = suc (depth o)

-- nothing was read but the first bracket: image 1 must follow
abbrev pub at_one : Open → Bool
at_one (outermost f) = eqb (size f) 0
at_one (within f o) = false

-- one vertex more in the innermost
abbrev pub add_to : Open → Head → ℕ → Open
add_to (outermost f) v c = outermost (add f v c)
add_to (within f o) v c = within (add f v c) o

-- the digits of a cost so far
pub data Digits : Type 0 where
  blank : Digits
  value : ℕ → Digits

-- what was read
pub data State : Type 0 where
  start : State
  -- a vertex is to begin
  vertex : Open → State
  -- a vertex, its cost is to follow
  head : Open → Head → State
  -- a vertex, ":" and the digits of its cost so far
  costing : Open → Head → Digits → State
  -- the outermost brackets are closed
  ended : Siblings → State
  -- a text of the profile
  done : Siblings → State
  -- no beginning of one
  dead : State
