-- The check of the four-point condition by its number, 7. Assumes nothing.
use Rattle.std.specs.Prelude.{List, [], ◌∷◌, ◌≡◌, ℕ, ◌+◌}
use Rattle.std.proofs.Common.{ap, sym, arith}
use Rattle.ground.specs.InOrder.{InOrder, Only}
use Rattle.ground.specs.Laws.InOrder.{step-order}
use Rattle.ground.specs.Refusals.{refusal}
use Rattle.ground.specs.Steps.{Step, ◌by◌}
use Rattle.ground.specs.declared.Refusal.{Refusal}
use Rattle.theory.specs.FourPoint.{Four, failing}
use Rattle.wiring.specs.Check.{first_four, wiring_check}

four_only : (l : List Four) → Only 7 (first_four l)
four_only [] r e = absurd (let z : ◌≡◌ {A = ℕ} 0 1 = cc in omega arith)
four_only (q ∷ l) r e =
    let s : refusal 7 (q.first + 1) (q.second + 1) (q.third + 1) (q.fourth + 1) ≡ r = cc in
    ap (λ (x : Refusal). x.number) (sym s)

-- 7
abbrev pub wiring_steps : (ℕ → ℕ → ℕ) → ℕ → List Step
wiring_steps d n = 7 by wiring_check d n ∷ []

pub wiring_order : (d : ℕ → ℕ → ℕ) (n : ℕ) → InOrder (wiring_steps d n) (wiring_check d n)
wiring_order d n = step-order 7 (wiring_check d n) (omega arith) (four_only (failing d n))
