-- What was noted of a text, by what was read of it. Assumes nothing.
use Rattle.std.specs.Prelude.{List, ◌++◌, suc, ℕ, ◌+◌, length}
use Rattle.theory.specs.LinkTables.{Row}
use Rattle.newick_text.specs.Trees.{Head, Siblings, closed, named, none}
use Rattle.newick_text.specs.Tables.{names}
use Rattle.newick_text.specs.States.{Open, outermost, within}
use Rattle.newick_text.specs.Spelled.{open_text}
use Rattle.newick_text.specs.Noting.{fallen, last_far, lower_place, mark, marked, noted}

-- ## A vertex without its cost

-- what stands in its bracket
abbrev pub inside : Head → Siblings
inside (named i) = none
inside (closed g) = g

-- the images named once it was read
abbrev pub headed : ℕ → Head → ℕ
headed m (named i) = mark m i
headed m (closed g) = marked m g

-- how many it names
abbrev pub called : Head → ℕ
called (named i) = 1
called (closed g) = length (names g)

-- ## The open brackets

abbrev pub names_open : Open → ℕ
names_open (outermost f) = length (names f)
names_open (within f o) = names_open o + length (names f)

abbrev pub marked_open : Open → ℕ
marked_open (outermost f) = marked 0 f
marked_open (within f o) = marked (marked_open o) f

abbrev pub noted_open : Open → List Row
noted_open (outermost f) = noted 0 f
noted_open (within f o) = noted_open o ++ noted (marked_open o) f

abbrev pub last_open : Open → ℕ
last_open (outermost f) = last_far 0 0 f
last_open (within f o) = last_far (marked_open o) 0 f

-- the place of the first byte of the next vertex
abbrev pub place_open : Open → ℕ
place_open o = suc (length (open_text o))

abbrev pub fallen_open : Open → ℕ
fallen_open (outermost f) = fallen 0 2 0 f
fallen_open (within f o) = lower_place (fallen_open o) (fallen (marked_open o) (suc (place_open o)) 0 f)
