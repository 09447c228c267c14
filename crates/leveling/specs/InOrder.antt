-- The check of the three-point condition by its number, 21. Assumes nothing.
use Rattle.std.specs.Prelude.{List, [], ◌∷◌, ◌≡◌, ℕ, ◌+◌}
use Rattle.std.proofs.Common.{ap, sym, arith}
use Rattle.ground.specs.InOrder.{InOrder, Only}
use Rattle.ground.specs.Laws.InOrder.{step-order}
use Rattle.ground.specs.Refusals.{refusal}
use Rattle.ground.specs.Steps.{Step, ◌by◌}
use Rattle.ground.specs.declared.Refusal.{Refusal}
use Rattle.leveling.specs.Check.{first_three, levels_check}
use Rattle.leveling.specs.ThreePoint.{Three, failing}

three_only : (l : List Three) → Only 21 (first_three l)
three_only [] r e = absurd (let z : ◌≡◌ {A = ℕ} 0 1 = cc in omega arith)
three_only (q ∷ l) r e =
    let s : refusal 21 (q.first + 1) (q.second + 1) (q.third + 1) 0 ≡ r = cc in
    ap (λ (x : Refusal). x.number) (sym s)

-- 21
abbrev pub levels_steps : (ℕ → ℕ → ℕ) → ℕ → List Step
levels_steps d n = 21 by levels_check d n ∷ []

pub levels_order : (d : ℕ → ℕ → ℕ) (n : ℕ) → InOrder (levels_steps d n) (levels_check d n)
levels_order d n = step-order 21 (levels_check d n) (omega arith) (three_only (failing d n))
