-- What is noted once some bytes were read. Assumes nothing.
use Rattle.std.specs.Prelude.{List, ◌≡◌, ℕ, ◌+◌, ◌-◌, get_or}
use Rattle.newick_text.specs.Trees.{Head, closed, named, none}
use Rattle.newick_text.specs.States.{Open, State, costing, dead, depth, done, ended, head, outermost, start, vertex, within}
use Rattle.newick_text.specs.Noting.{noted_far}
use Rattle.newick_notes.specs.declared.Noted.{Noted}
use Rattle.newick_notes.specs.Stacks.{Stacks}
use Rattle.newick_scan.specs.Noting.{Kept}
use Rattle.newick_scan.specs.Notes.{called, fallen_open, headed, inside, last_open, marked_open, names_open, noted_open, place_open}
use Rattle.newick_scan.specs.Says.{Told, ToldTree}

abbrev pub ToldOpen : Open → Kept → Type 0
ToldOpen o x = Told (names_open o) (marked_open o) (fallen_open o) (noted_open o) x.noted x.fars x.costs

-- the vertex h behind o is named, its cost is not complete
abbrev pub ToldHead : Open → Head → Kept → Type 0
ToldHead o h x =
    Told (names_open o + called h) (headed (marked_open o) h) (fallen_open (within (inside h) o)) (noted_open (within (inside h) o)) x.noted x.fars x.costs

-- a keeps the number k of each bracket around the innermost
abbrev pub Held : (Open → ℕ) → List ℕ → Open → Type 0
Held k a (outermost f) = Unit {0}
Held k a (within f o) = (get_or a (depth o - 1) 0 ≡ k o) × Held k a o

-- what is kept of the open brackets
pub record Around (o : Open) (w : Noted) (a : Stacks) : Type 0 where
  pub last : w.last ≡ last_open o
  pub masks : Held marked_open a.masks o
  pub lasts : Held last_open a.lasts o
  pub places : Held place_open a.places o

-- the far side of a bracket is known when it closes, that of an image when it is named
abbrev pub FarIs : ℕ → Head → ℕ → Type 0
FarIs m (named i) S = Unit {0}
FarIs m (closed g) S = S ≡ noted_far m (closed g)

abbrev pub Notes : State → Kept → Type 0
Notes start x = ToldOpen (outermost none) x × Around (outermost none) x.noted x.stacks
Notes (vertex o) x = ToldOpen o x × Around o x.noted x.stacks
Notes (head o h) x =
    ToldOpen (within (inside h) o) x × Around o x.noted x.stacks × (x.noted.place ≡ place_open o) × FarIs (marked_open o) h x.noted.far
Notes (costing o h d) x =
    ToldHead o h x × Around o x.noted x.stacks × (x.noted.place ≡ place_open o) × (x.noted.far ≡ noted_far (marked_open o) h)
Notes (ended g) x = ToldTree g x.noted x.fars x.costs
Notes (done g) x = ToldTree g x.noted x.fars x.costs
Notes dead x = Unit {0}
