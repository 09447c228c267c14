-- The checks of a Newick text by their numbers: 18, 1, 3, 13, 12, 22. Assumes nothing.
use Rattle.std.specs.Prelude.{not, List, [], ◌∷◌, suc, ℕ, ◌*◌, ◌+◌, ◌-◌, eqb, ltb, get_or, length}
use Rattle.std.proofs.Common.{arith}
use Rattle.ground.specs.First.{first}
use Rattle.ground.specs.InOrder.{InOrder}
use Rattle.ground.specs.Laws.InOrder.{join-order, refuse_order, room-order}
use Rattle.ground.specs.Members.{is_in}
use Rattle.ground.specs.Refusals.{refusal, room_check}
use Rattle.ground.specs.Steps.{Step, ◌by◌}
use Rattle.theory.specs.Checks.{images_check}
use Rattle.theory.specs.Laws.InOrder.{images-order}
use Rattle.theory.specs.LinkTables.{Row, costs, fars}
use Rattle.bad_rows.specs.BadRows.{bad_cost}
use Rattle.newick_text.specs.Trees.{Siblings}
use Rattle.newick_text.specs.Tables.{names, table_of}
use Rattle.newick_text.specs.Bytes.{run}
use Rattle.newick_text.specs.States.{start}
use Rattle.newick_text.specs.Ends.{is_done, lived}
use Rattle.newick_text.specs.Reading.{costs_check, names_check, order_check, profile_check, read_checks, tree_checks, tree_in}
use Rattle.newick_text.specs.Order.{fall}

-- 1, 3, 13, 12, 22 of a tree
abbrev pub tree_steps : ℕ → Siblings → ℕ → List Step
tree_steps L f room =
    1 by images_check (length (names f)) ∷ 3 by room_check (2 * length (names f) - 3) room ∷ 13 by names_check (length (names f)) f
    ∷ 12 by costs_check L (length (names f)) (table_of f) ∷ 22 by order_check f ∷ []

-- and 18 of the text in front
abbrev pub read_steps : ℕ → List ℕ → ℕ → List Step
read_steps L t room = 18 by profile_check t ∷ tree_steps L (tree_in t) room

names-order : (n : ℕ) (f : Siblings) → InOrder (13 by names_check n f ∷ []) (names_check n f)
names-order n f =
    let k = first (λ i. not (is_in (suc i) (names f))) n in
    refuse_order (ltb k n) (refusal 13 (k + 1) 0 0 0) (omega arith)

costs-order : (L n : ℕ) (T : List Row) → InOrder (12 by costs_check L n T ∷ []) (costs_check L n T)
costs-order L n T =
    let k = first (λ k. bad_cost L n (get_or (fars T) k 0) (get_or (costs T) k 0)) (length T) in
    refuse_order (ltb k (length T)) (refusal 12 (k + 1) 0 0 0) (omega arith)

tree_order : (L : ℕ) (f : Siblings) (room : ℕ) → InOrder (tree_steps L f room) (tree_checks L f room)
tree_order L f room =
    let n = length (names f) in
    join-order (images-order n)
    (join-order (room-order (2 * n - 3) room)
    (join-order (names-order n f) (join-order (costs-order L n (table_of f)) (refuse_order (not (eqb (fall f) 0)) (refusal 22 (fall f) 0 0 0) (omega arith)))))

pub read_order : (L : ℕ) (t : List ℕ) (room : ℕ) → InOrder (read_steps L t room) (read_checks L t room)
read_order L t room =
    join-order (refuse_order (not (is_done (run start t))) (refusal 18 (suc (lived start t)) 0 0 0) (omega arith)) (tree_order L (tree_in t) room)
