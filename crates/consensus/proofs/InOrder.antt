-- The checks of the call for a team by their numbers, and by the table that each is about. Assumes nothing.
use Rattle.std.specs.Prelude.{not, List, [], ◌++◌, ◌∷◌, refl, ◌≡◌, suc, zero, ℕ, ◌*◌, ◌+◌, ◌-◌, eqb, length, Ok, Err}
use Rattle.std.proofs.Common.{ap, ap₂, ◌∙◌, add-one, arith}
use Rattle.ground.specs.InOrder.{Decides, InOrder, Own}
use Rattle.ground.specs.Laws.Filters.{each_nil}
use Rattle.ground.specs.Laws.InOrder.{decides_next, join-order, refuse_order}
use Rattle.ground.specs.Laws.Steps.{first-decided}
use Rattle.ground.specs.Ranges.{from, gather}
use Rattle.ground.specs.Refusals.{outside, refusal, refused_in}
use Rattle.ground.specs.Steps.{FirstRefused, Step, numbers_of, of_table}
use Rattle.ground.specs.declared.Refusal.{Refusal}
use Rattle.theory.specs.Laws.InOrder.{images-order}
use Rattle.theory.specs.LinkTables.{Row}
use Rattle.tree.proofs.InOrder.{tree_order}
use Rattle.tree.specs.Readings.{short}
use Rattle.consensus.specs.Call.{consensus_outcome, leaving, numbered, table_by_table, team_answer, team_check, Shared}
use Rattle.consensus.specs.Team.{shared_links, table_at, tables_in}
pub use Rattle.consensus.specs.InOrder.{team_steps, consensus_steps, table_numbers}
unfoldable pub use Rattle.consensus.specs.InOrder.{steps_from}

team_order : (n m : ℕ) (t : List ℕ) (f v : ℕ) → InOrder (team_steps n m t f v) (team_check n m t f v)
unfolding team_check
team_order n m t f v =
    join-order (images-order n)
    (join-order (refuse_order (outside 1 16 m) (refusal 16 0 0 0 0) (omega arith))
    (join-order (refuse_order (not (eqb (length t) (m * (n * n)))) (refusal 2 0 0 0 0) (omega arith))
    (refuse_order (short (2 * n - 3) f v) (refusal 3 0 0 0 0) (omega arith))))

from_decides : (L n : ℕ) (t : List ℕ) (k m : ℕ) (y : Shared) → Decides refused_in (steps_from L n t k m) y (table_by_table L n t k m y)
unfolding steps_from table_by_table
from_decides L n t k zero y = record { same = refl; own = each_nil Own }
from_decides L n t k (suc m) y = decides_next refused_in (k + 1) (tree_order L n (table_at n t k)) (from_decides L n t (suc k) m y)

pub consensus_decides : (L n m : ℕ) (t : List ℕ) (f v : ℕ)
    → Decides refused_in (consensus_steps L n m t f v) (Ok (length (shared_links L n (tables_in n m t)))) (numbered 0 (team_check n m t f v) (team_answer L n m t))
consensus_decides L n m t f v =
    decides_next refused_in 0 (team_order n m t f v) (from_decides L n t 0 m (Ok (length (shared_links L n (tables_in n m t)))))

leaving-answer : (x : Shared) (T : List Row) (f v : List ℕ) → (leaving x T f v).answer ≡ x
leaving-answer (Ok r) T f v = refl
leaving-answer (Err e) T f v = refl

-- it is the answer of the outcome
pub consensus-answers : (L n m : ℕ) (t f v : List ℕ)
    → (consensus_outcome L n m t f v).answer ≡ numbered 0 (team_check n m t (length f) (length v)) (team_answer L n m t)
consensus-answers L n m t f v =
    leaving-answer (numbered 0 (team_check n m t (length f) (length v)) (team_answer L n m t)) (shared_links L n (tables_in n m t)) f v

-- a refused call leaves the lent slices as they were
pub consensus_unaltered : (L n m : ℕ) (t f v : List ℕ) (s : Step) (q : Refusal) → FirstRefused (consensus_steps L n m t (length f) (length v)) s q
    → ((consensus_outcome L n m t f v).far_list ≡ f) × ((consensus_outcome L n m t f v).cost_list ≡ v)
consensus_unaltered L n m t f v s q e =
    let d = consensus_decides L n m t (length f) (length v) in
    rw (d.same ∙ first-decided refused_in (consensus_steps L n m t (length f) (length v)) (Ok (length (shared_links L n (tables_in n m t)))) e) (refl, refl)

-- ## The numbers of m tables

from-numbers : (L n : ℕ) (t : List ℕ) (k m : ℕ) → numbers_of (steps_from L n t k m) ≡ gather (from (suc k) m) table_numbers
unfolding steps_from
from-numbers L n t k zero = refl
from-numbers L n t k (suc m) = ap₂ (λ (i : ℕ) (z : List (ℕ × ℕ)). table_numbers i ++ z) (add-one k) (from-numbers L n t (suc k) m)

-- 1, 16, 2, 3 with number 0, then 4, 5, 6, 20, 7 table by table
pub consensus-numbers : (L n m : ℕ) (t : List ℕ) (f v : ℕ)
    → numbers_of (consensus_steps L n m t f v) ≡ of_table 0 (1 ∷ 16 ∷ 2 ∷ 3 ∷ []) ++ gather (from 1 m) table_numbers
consensus-numbers L n m t f v = ap (λ (z : List (ℕ × ℕ)). of_table 0 (1 ∷ 16 ∷ 2 ∷ 3 ∷ []) ++ z) (from-numbers L n t 0 m)
