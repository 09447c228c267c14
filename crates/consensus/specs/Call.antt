-- What the call for a team answers, by document 02's numbers, and what it leaves in the two lent slices: m tables over n images stand
-- joined in t.
use Rattle.ground.specs.declared.TableRefusal.{TableRefusal}
use Rattle.std.specs.Prelude.{not, List, suc, zero, ℕ, ◌*◌, ◌+◌, ◌-◌, eqb, length, Ok, Err, Result}
use Rattle.ground.specs.Buffers.{front}
use Rattle.ground.specs.Refusals.{if_passed, outside, refusal, refuse_if, ◌then◌, Check, refused_in}
use Rattle.theory.specs.Checks.{images_check}
use Rattle.theory.specs.LinkTables.{Row, costs, fars}
use Rattle.theory.specs.Outcomes.{RowsOutcome}
use Rattle.tree.specs.Exact.{tree_check}
use Rattle.tree.specs.Readings.{outputs_room_check}
use Rattle.consensus.specs.Team.{shared_links, table_at, tables_in}

-- what the call answers: how many rows all trees share, or the first refusal with the table's number
abbrev pub Shared : Type 0
Shared = Result ℕ TableRefusal

-- 16: no tables or more than sixteen
abbrev pub number_check : ℕ → Check
number_check m = refuse_if (outside 1 16 m) (refusal 16 0 0 0 0)

-- 2: the joined length does not fit n and m
abbrev pub joined_check : ℕ → ℕ → List ℕ → Check
joined_check n m t = refuse_if (not (eqb (length t) (m * (n * n)))) (refusal 2 0 0 0 0)

-- 1, 16, 2, 3, where f and v are the lengths of the outputs, and 2 n - 3 places are room enough for every tree
unfoldable pub team_check : ℕ → ℕ → List ℕ → ℕ → ℕ → Check
team_check n m t f v = images_check n then number_check m then joined_check n m t then outputs_room_check (2 * n - 3) f v

-- a refusal with the table's number k beside it, or what follows where the check passed
abbrev pub numbered : ℕ → Check → Shared → Shared
numbered k c y = if_passed (refused_in k) c y

-- 4, 5, 6, 20, 7 table by table, from place k on; tables are numbered from 1
unfoldable pub table_by_table : ℕ → ℕ → List ℕ → ℕ → ℕ → Shared → Shared
table_by_table L n t k zero y = y
table_by_table L n t k (suc m) y = numbered (k + 1) (tree_check L n (table_at n t k)) (table_by_table L n t (suc k) m y)

-- the first table that is refused, or the number of rows that all trees share
abbrev pub team_answer : ℕ → ℕ → ℕ → List ℕ → Shared
team_answer L n m t = table_by_table L n t 0 m (Ok (length (shared_links L n (tables_in n m t))))

-- refused, nothing is altered; accepted, the rows of T stand in front
abbrev pub leaving : Shared → List Row → List ℕ → List ℕ → RowsOutcome Shared
leaving (Ok r) T f v = record { answer = Ok r; far_list = front (fars T) f; cost_list = front (costs T) v }
leaving (Err e) T f v = record { answer = Err e; far_list = f; cost_list = v }

-- the call's own checks with table number 0, and then table by table
abbrev pub consensus_outcome : ℕ → ℕ → ℕ → List ℕ → List ℕ → List ℕ → RowsOutcome Shared
consensus_outcome L n m t f v =
    leaving (numbered 0 (team_check n m t (length f) (length v)) (team_answer L n m t)) (shared_links L n (tables_in n m t)) f v
