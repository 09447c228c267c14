-- When the call for a team accepts, and by what it refuses. Assumes nothing.
use Rattle.std.specs.Prelude.{List, ◌≡◌, ℕ, ◌+◌, ◌<◌, ◌≤◌, Ok, Err}
use Rattle.ground.specs.declared.Refusal.{Refusal}
use Rattle.tree.specs.Exact.{tree_check}
use Rattle.consensus.specs.Call.{team_check}
use Rattle.consensus.specs.Team.{table_at}

-- number j is that of the first of m tables that is refused, from place k on; tables are numbered from 1
pub record FirstTable (L n : ℕ) (t : List ℕ) (k m j : ℕ) (q : Refusal) : Type 0 where
  pub place : ℕ
  pub number : j ≡ place + 1
  pub least : k ≤ place
  pub most : place < k + m
  pub refused : tree_check L n (table_at n t place) ≡ Err q
  pub before : (i : ℕ) → k ≤ i → i < place → tree_check L n (table_at n t i) ≡ Ok tt

-- refused by 1, 16, 2 or 3 with number 0; or, those passed, by the first table that 4, 5, 6, 20 or 7 refuse, with its number
pub data FirstRefusal (L n m : ℕ) (t : List ℕ) (f v j : ℕ) (q : Refusal) : Type 0 where
  of_team : j ≡ 0 → team_check n m t f v ≡ Err q → FirstRefusal L n m t f v j q
  of_table_lem : team_check n m t f v ≡ Ok tt → FirstTable L n t 0 m j q → FirstRefusal L n m t f v j q
