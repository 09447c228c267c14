-- What path, upper rows and routes answer and leave behind, in document 01's words: N rows, l the far sides, v the doubled costs, o the lent places.
-- Images are 1 to n here, as in the calls. Assumes nothing.
use Rattle.std.specs.Prelude.{List, ℕ, ◌-◌, length}
use Rattle.ground.specs.Outcomes.{Outcome, written_if}
use Rattle.ground.specs.Refusals.{value_if, Answer, Written}
use Rattle.theory.specs.LinkTables.{path, rows_of}
use Rattle.theory.specs.Routes.{route, uppers}
use Rattle.routes.specs.Orders.{path_checks, route_checks, upper_checks}

-- the path cost of images i and j
abbrev pub path_outcome : ℕ → ℕ → ℕ → List ℕ → List ℕ → ℕ → ℕ → Answer
path_outcome L n N l v i j = value_if (path_checks L n N l v i j) (path (rows_of l v) (i - 1) (j - 1))

-- the upper row of each row
abbrev pub upper_outcome : ℕ → ℕ → ℕ → List ℕ → List ℕ → List ℕ → Outcome Written
upper_outcome L n N l v o = written_if (upper_checks L n N l v (length o)) (uppers l) o

-- the route of image i
abbrev pub route_outcome : ℕ → ℕ → ℕ → List ℕ → List ℕ → ℕ → List ℕ → Outcome Written
route_outcome L n N l v i o = written_if (route_checks L n N l v i (length o)) (route n l (i - 1)) o
