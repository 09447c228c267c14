-- The orders of the checks of path, upper rows and routes, in document 01's words: N rows, l the far sides, v the doubled costs.
-- Images are 1 to n here, as in the calls. Assumes nothing.
use Rattle.std.specs.Prelude.{List, ℕ, ◌*◌, ◌-◌}
use Rattle.ground.specs.Refusals.{room_check, ◌then◌, Check}
use Rattle.theory.specs.Checks.{image_check}
use Rattle.links.specs.Checks.{row_checks, size_checks}

-- path: 1, 10, 2, 12, 13, 8
abbrev pub path_checks : ℕ → ℕ → ℕ → List ℕ → List ℕ → ℕ → ℕ → Check
path_checks L n N l v i j = size_checks n N l v then row_checks L n l v then image_check n i then image_check n j

-- upper rows: 1, 10, 2, 3, 12, 13
abbrev pub upper_checks : ℕ → ℕ → ℕ → List ℕ → List ℕ → ℕ → Check
upper_checks L n N l v room = size_checks n N l v then room_check (2 * n - 3) room then row_checks L n l v

-- routes: the same, then 8
abbrev pub route_checks : ℕ → ℕ → ℕ → List ℕ → List ℕ → ℕ → ℕ → Check
route_checks L n N l v i room = upper_checks L n N l v room then image_check n i
