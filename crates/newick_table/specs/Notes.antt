-- What the notes of a whole text say: n image numbers, the images named, `noted` rows in the places of f and v, image 1's first, and the place of the
-- first sibling out of order, 0 where there is none. Assumes nothing.
use Rattle.std.specs.Prelude.{Bool, not, List, ◌∷◌, ℕ, ◌*◌, ◌-◌, eqb, get_or}
use Rattle.ground.specs.Refusals.{refusal, refuse_if, room_check, ◌then◌, Check}
use Rattle.theory.specs.Checks.{images_check}
use Rattle.theory.specs.FarSides.{holds}
use Rattle.theory.specs.LinkTables.{Row}
use Rattle.theory.specs.Tables.{limit}
use Rattle.bad_rows.specs.BadRows.{bad_cost}
use Rattle.links.specs.FirstChecks.{first_check}
use Rattle.rows.specs.Putting.{rows_from}
use Rattle.newick_text.specs.Reading.{costs_check}
use Rattle.newick_table.specs.Capping.{collected}

-- image i, from 0, is not among those named
unfoldable pub unnamed : ℕ → ℕ → Bool
unnamed marked i = not (holds marked i)

-- the cost at place k is bad
unfoldable pub bad_at : ℕ → List ℕ → List ℕ → ℕ → Bool
bad_at n f v k = bad_cost limit n (get_or f k 0) (get_or v k 0)

-- 1, 3, 13
abbrev pub name_checks : ℕ → ℕ → ℕ → Check
name_checks n marked room = images_check n then room_check (2 * n - 3) room then first_check 13 (unnamed marked) n

-- 12, 22
abbrev pub row_checks : ℕ → ℕ → List Row → Check
row_checks n fallen T = costs_check limit n T then refuse_if (not (eqb fallen 0)) (refusal 22 fallen 0 0 0)

-- the rows noted, image 1's with the far side S of its own link
unfoldable pub noted_rows : ℕ → ℕ → List ℕ → List ℕ → List Row
noted_rows S noted f v = (S, get_or v 0 0) ∷ rows_from f v 1 (noted - 1)

-- their table: the own link of image 1 has all images named but image 1
abbrev pub noted_table : ℕ → ℕ → List ℕ → List ℕ → List Row
noted_table marked noted f v = collected (noted_rows (marked - 1) noted f v)
