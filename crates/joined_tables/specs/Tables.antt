-- The tables of a batch, and the checks of the next one: l are the joined far sides and v the joined doubled costs that the tables before left.
-- Assumes nothing.
use Rattle.std.specs.Prelude.{List, [], ◌∷◌, ℕ, ltb, length, take}
use Rattle.ground.specs.Refusals.{refusal, refuse_if, ◌then◌, Check}
use Rattle.links.specs.Checks.{count_checks}
use Rattle.link_writer.specs.Writing.{fit_checks}
use Rattle.bits.specs.declared.Form.{Form}

-- a table of a batch: n and its row count
abbrev pub Table : Type 0
Table = ℕ × ℕ

-- the tables that two lists give, as long as both last
unfoldable pub tables : List ℕ → List ℕ → List Table
tables [] counts = []
tables (n ∷ ns) [] = []
tables (n ∷ ns) (N ∷ counts) = (n, N) ∷ tables ns counts

-- 2: either slice runs out before N rows
abbrev pub run_out_checks : ℕ → List ℕ → List ℕ → Check
run_out_checks N l v = refuse_if (ltb (length l) N) (refusal 2 0 0 0 0) then refuse_if (ltb (length v) N) (refusal 2 0 0 0 0)

-- 2: places left over in either slice
abbrev pub left_over_checks : List ℕ → List ℕ → Check
left_over_checks l v = refuse_if (ltb 0 (length l)) (refusal 2 0 0 0 0) then refuse_if (ltb 0 (length v)) (refusal 2 0 0 0 0)

-- 1, 10, 2, 12, 13, 17, 3: the link writer's checks of the table that has the first N rows, in the room that is left
abbrev pub next_checks : Form → ℕ → ℕ → List ℕ → List ℕ → ℕ → Check
next_checks form n N l v room = count_checks n N then run_out_checks N l v then fit_checks form n (take N l) (take N v) room
