-- What is kept of what was read: the numbers, and those of the outer brackets. Assumes nothing.
use Rattle.std.specs.Prelude.{cond, List, [], ◌∷◌, ◌≡◌, ℕ, ltb, get_or, length}
use Rattle.newick_text.specs.Trees.{size}
use Rattle.newick_text.specs.Trees as trees
use Rattle.newick_text.specs.States.{Open, State, blank, costing, dead, depth, done, ended, head, outermost, start, value, vertex, within}
use Rattle.newick_bytes.specs.declared.Seen.{Seen}
use Rattle.newick_bytes.specs.declared.Seen.TheVariants.{Blank, Closed, Cost, Dead, Done, Ended, Image, Start, Vertex}

-- how many vertices, 3 for more
abbrev pub capped : ℕ → ℕ
capped k = cond (ltb k 3) k 3

-- those of the innermost bracket
abbrev pub top : Open → ℕ
top (outermost f) = capped (size f)
top (within f o) = capped (size f)

-- those of the outer ones
abbrev pub outers : Open → List ℕ
outers (outermost f) = []
outers (within f o) = top o ∷ outers o

-- what is kept
abbrev pub narrow : State → Seen
narrow start = Start
narrow (vertex o) = Vertex (depth o) (top o)
narrow (head o (trees.named i)) = Image i (depth o) (top o)
narrow (head o (trees.closed g)) = Closed (depth o) (top o)
narrow (costing o v blank) = Blank (depth o) (top o)
narrow (costing o v (value x)) = Cost x (depth o) (top o)
narrow (ended f) = Ended
narrow (done f) = Done
narrow dead = Dead

abbrev pub stack : State → List ℕ
stack start = []
stack (vertex o) = outers o
stack (head o v) = outers o
stack (costing o v x) = outers o
stack (ended f) = []
stack (done f) = []
stack dead = []

-- a holds the counts l, the innermost last
abbrev pub Stacked : List ℕ → List ℕ → Type 0
Stacked a [] = Unit {0}
Stacked a (k ∷ l) = (get_or a (length l) 0 ≡ k) × Stacked a l
