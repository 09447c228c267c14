-- How code that stops at the first refusal meets an outcome, and that no second answer does. Assumes nothing.
use Rattle.ground.specs.Refusals.{Check}
use Rattle.std.specs.Prelude.{List, ◌≡◌, ℕ, length, Ok, Err}
use Rattle.std.proofs.Common.{ap, sym, ◌∙◌}
use Rattle.ground.specs.Buffers.{front}
use Rattle.ground.specs.Laws.Refusals.{if_goes, if_stops}
use Rattle.ground.specs.declared.Refusal.{Refusal}
use Rattle.ground.specs.Outcomes.{Left, Outcome, front_if, written_if}

-- ## How code that stops at the first refusal meets an outcome

pub front_stops : (y : Check) {r : Refusal} (m d : List ℕ) → y ≡ Err r → d ≡ front_if y m d
front_stops y m d e = rw e

pub front_goes : (y : Check) (m d e : List ℕ) → y ≡ Ok tt → e ≡ front m d → e ≡ front_if y m d
front_goes y m d e p q = rw p q

pub written_stops : {x : Check} {r : Refusal} (y : Check) (m o : List ℕ) → x ≡ Err r → x ≡ y → Left (written_if y m o) (Err r) o
written_stops y m o e f = record { answered = if_stops Err y (Ok (length m)) e f; left = front_stops y m o (sym f ∙ e) }

pub written_goes : {x : Check} {k : ℕ} {d : List ℕ} (y : Check) (m o : List ℕ) → x ≡ Ok tt → x ≡ y → k ≡ length m → d ≡ front m o
    → Left (written_if y m o) (Ok k) d
written_goes {d = d} y m o e f g h = record {
  answered = if_goes Err y (Ok (length m)) e f (ap Ok g);
  left = front_goes y m o d (sym f ∙ e) h;
}

-- no second answer meets a promise that is an equation
pub answer_once : {A : Type 0} {o a b : A} → a ≡ o → b ≡ o → a ≡ b
answer_once p q = p ∙ sym q

-- no second answer, and no second content of the lent places, meets a promise
pub left_once : {A : Type 0} {o : Outcome A} {a b : A} {l m : List ℕ} → Left o a l → Left o b m → (a ≡ b) × (l ≡ m)
left_once p q = (answer_once p.answered q.answered, answer_once p.left q.left)
