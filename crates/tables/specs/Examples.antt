-- Which fault of a cost table is named where it has two, computed. Assumes nothing.
use Rattle.std.specs.Prelude.{List, [], ◌∷◌, refl, ◌≡◌, ℕ}
use Rattle.ground.specs.Lowest.{check_all}
use Rattle.ground.specs.Refusals.{refusal, Check}
use Rattle.theory.specs.Tables.{cost, limit}
use Rattle.tables.specs.Checks.{costs_check}

-- 4, 5, 6, 20 of four images and of three
abbrev pub four : List ℕ → Check
four t = costs_check limit (cost t 4) 4

abbrev pub three : List ℕ → Check
three t = costs_check limit (cost t 3) 3
