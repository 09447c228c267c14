-- Demand 1 for the reading of levels, said as in Demand1.antt. Assumes nothing.
use Rattle.std.specs.Prelude.{List, [], ◌∷◌, refl, ℕ, length, Err}
use Rattle.std.proofs.Common.{ap₂, sym, ◌∙◌}
use Rattle.ground.specs.Laws.Outcomes.{front_stops}
use Rattle.ground.specs.Steps.{of_table}
use Rattle.theory.specs.Tables.{limit}
use Rattle.levels.specs.InOrder.{call_steps}
use Rattle.levels.proofs.InOrder.{call_order}
use Rattle.levels.specs.Outcome.{LeftLevels, levels_checks, levels_outcome}
use Rattle.numbers.specs.Levels.{of_levels}
use Rattle.numbers.specs.declared.KemotuikiLevels.{KemotuikiLevels}
use Rattle.kemotuiki.specs.Crossing.{crossed_levels}
use Rattle.kemotuiki.specs.Laws.Refusals.{by_check}
use Rattle.kemotuiki.specs.Refusals.{Refusals}

pub levels : (n : ℕ) (t g v g' v' : List ℕ) (r : KemotuikiLevels) → LeftLevels (crossed_levels of_levels (levels_outcome limit n t g v)) r g' v'
    → Refusals (of_table 0 (1 ∷ 2 ∷ 3 ∷ 4 ∷ 5 ∷ 6 ∷ 20 ∷ 21 ∷ [])) (call_steps limit n t (length g) (length v)) r.head (g ∷ v ∷ []) (g' ∷ v' ∷ [])
levels n t g v g' v' r p =
    let c = levels_checks limit n t (length g) (length v) in
    by_check (λ (k : KemotuikiLevels). k.head) of_levels Err (λ q. refl) c _ refl refl (call_order limit n t (length g) (length v))
    p.answered
    (λ q u. ap₂ (λ (a b : List ℕ). a ∷ b ∷ []) (p.group-left ∙ sym (front_stops c _ g u)) (p.height-left ∙ sym (front_stops c _ v u)))
