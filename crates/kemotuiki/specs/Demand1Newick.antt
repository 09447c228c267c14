-- Demand 1 for the calls over Newick text, said as in Demand1.antt. Assumes nothing.
use Rattle.std.specs.Prelude.{List, [], ◌∷◌, refl, min, ℕ, length, Err}
use Rattle.std.proofs.Common.{sym}
use Rattle.ground.specs.Laws.Outcomes.{front_stops}
use Rattle.ground.specs.Outcomes.{Left}
use Rattle.ground.specs.Steps.{of_table}
use Rattle.theory.specs.Outcomes.{LeftRows}
use Rattle.theory.specs.Tables.{limit}
use Rattle.newick_text.specs.Reading.{read_checks}
use Rattle.newick_reader.specs.InOrder.{read_order, read_steps}
use Rattle.newick_reader.specs.Outcomes.{read_outcome}
use Rattle.newick_writer.specs.InOrder.{write_steps}
use Rattle.newick_writer.proofs.InOrder.{write_order}
use Rattle.newick_writer.specs.Writing.{write_checks, write_outcome}
use Rattle.numbers.specs.Stored.{of_bytes, of_tree}
use Rattle.numbers.specs.declared.KemotuikiBytes.{KemotuikiBytes}
use Rattle.numbers.specs.declared.KemotuikiTree.{KemotuikiTree}
use Rattle.kemotuiki.specs.Crossing.{crossed, crossed_rows}
use Rattle.kemotuiki.specs.Laws.Refusals.{by_left, by_rows}
use Rattle.kemotuiki.specs.Refusals.{Refusals}

-- the link writer's without 17, 3 counting exact bytes
pub write_newick : (n N : ℕ) (f v out out' : List ℕ) (r : KemotuikiBytes) → Left (crossed of_bytes (write_outcome n N f v out)) r out'
    → Refusals (of_table 0 (1 ∷ 10 ∷ 2 ∷ 12 ∷ 13 ∷ 3 ∷ [])) (write_steps n N f v (length out)) r.head (out ∷ []) (out' ∷ [])
write_newick n N f v out out' r p =
    by_left (λ (x : KemotuikiBytes). x.head) of_bytes Err (λ q. refl) (write_checks n N f v (length out)) _ _ out refl refl
    (write_order n N f v (length out)) p

-- the shorter of the two lent buffers is the room
pub read_newick : (t f v f' v' : List ℕ) (r : KemotuikiTree) → LeftRows (crossed_rows of_tree (read_outcome t f v)) r f' v'
    → Refusals (of_table 0 (18 ∷ 1 ∷ 3 ∷ 13 ∷ 12 ∷ 22 ∷ [])) (read_steps limit t (min (length f) (length v))) r.head (f ∷ v ∷ []) (f' ∷ v' ∷ [])
read_newick t f v f' v' r p =
    let c = read_checks limit t (min (length f) (length v)) in
    by_rows (λ (x : KemotuikiTree). x.head) of_tree Err (λ q. refl) c _ (read_outcome t f v) f v refl refl
    (read_order limit t (min (length f) (length v))) refl (λ q e. (sym (front_stops c _ f e), sym (front_stops c _ v e))) p
