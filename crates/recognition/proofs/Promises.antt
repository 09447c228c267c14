-- What the promise of `can_graft_all` is worth. Assumes nothing.
use Rattle.std.specs.Prelude.{Bool, true, List, ◌↔◌, ◌≡◌, suc, ℕ, ◌-◌}
use Rattle.std.proofs.Common.{◌∙◌, sym, arith}
use Rattle.theory.specs.FourPoint.{FourPoint}
use Rattle.theory.specs.Tables.{CostTable, WellFormed, cost}
use Rattle.recognition.proofs.Laws.Condition.{order_condition}
use Rattle.recognition.specs.Laws.Order.{around}
use Rattle.recognition.proofs.Laws.Seats.{seats_condition}
use Rattle.recognition.specs.Recognition.{all_graft, placed}
use Rattle.recognition.specs.Seats.{Ordered, seat}

-- n²/2 tests by the formula of document 001, in the order from image 0 with the last image at the end, say what all fours say
pub recognises : (L : ℕ) (d : ℕ → ℕ → ℕ) (k : ℕ) → WellFormed L d (suc (suc k))
    → (all_graft (placed d (around d k)) (suc k) ≡ true) ↔ FourPoint d (suc (suc k))
recognises = order_condition

-- what the call answers on an order that stands in a slice
pub answer_condition : (L n : ℕ) (t l : List ℕ) (b : Bool) → CostTable L n t → Ordered (cost t n) n l
    → b ≡ all_graft (placed (cost t n) (seat l)) (n - 1) → (b ≡ true) ↔ FourPoint (cost t n) n
answer_condition L n t l b c y e =
    let s = seats_condition L n (cost t n) l (omega (arith, c.some)) c.formed y in
    (λ h. s.0 (sym e ∙ h), λ fp. e ∙ s.1 fp)
