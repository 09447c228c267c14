-- What it means that an answer crosses and nothing is lost. A refusal numbered 0 would look like an accepted answer; no call gives one (`own` of
-- `Refusals`, kemotuiki/specs/Refusals.antt). Assumes nothing.
use Rattle.std.specs.Prelude.{◌↔◌, ◌≡◌, ℕ, ◌<◌}
use Rattle.ground.specs.declared.Refusal.{Refusal}
use Rattle.numbers.specs.declared.KemotuikiHead.{KemotuikiHead}

-- x is no refusal numbered 0
abbrev pub Numbered : {A : Type 0} → (ℕ → Refusal → A) → A → Type 0
Numbered refuse x = (m : ℕ) (q : Refusal) → x ≡ refuse m q → 0 < q.number

-- answers of the kind A cross as structs of the kind K
pub record Kept {A K : Type 0} (head : K → KemotuikiHead) (numbers : A → K) (refuse : ℕ → Refusal → A) : Type 0 where
  -- number 0 exactly where the answer is no refusal
  pub zero : (x : A) → Numbered refuse x → ((head (numbers x)).number ≡ 0) ↔ ((m : ℕ) (q : Refusal) → x ≡ refuse m q → ⊥)
  -- no second answer crosses as the same numbers
  pub once : (x y : A) → Numbered refuse x → Numbered refuse y → numbers x ≡ numbers y → x ≡ y
