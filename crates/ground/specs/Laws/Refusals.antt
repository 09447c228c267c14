-- How code that stops at the first refusal meets the checks, and what they say when they pass. Assumes nothing.
use Rattle.std.specs.Prelude.{is_err, Bool, false, true, refl, ◌≡◌, ℕ, ◌≤◌, ltb, Ok, Err}
use Rattle.std.proofs.Common.{arith, ltb-false}
use Rattle.ground.specs.Laws.Tests.{or_false}
use Rattle.ground.specs.declared.Refusal.{Refusal}
use Rattle.ground.specs.Refusals.{◌then◌, if_passed, outside, refuse_if, Check}

-- ## How code that stops at the first refusal meets such a chain

pub then_stops : {x : Check} {r : Refusal} (y z : Check) → x ≡ Err r → x ≡ y → x ≡ (y then z)
then_stops y z e f = cc

pub then_goes : {w x : Check} (y z : Check) → x ≡ Ok tt → x ≡ y → w ≡ z → w ≡ (y then z)
then_goes y z e f g = rw (← f, e) g

pub if_stops : {A : Type 0} (refused : Refusal → A) {x : Check} {r : Refusal} (y : Check) (z : A) → x ≡ Err r → x ≡ y → refused r ≡ if_passed refused y z
if_stops refused y z e f = rw (← f, e)

pub if_goes : {A : Type 0} (refused : Refusal → A) {x : Check} {w : A} (y : Check) (z : A) → x ≡ Ok tt → x ≡ y → w ≡ z → w ≡ if_passed refused y z
if_goes refused y z e f g = rw (← f, e) g

-- a check that is no refusal passed
pub no_refusal : (x : Check) → is_err x ≡ false → x ≡ Ok tt
no_refusal (Ok tt) e = refl
no_refusal (Err r) e = absurd (let q : ◌≡◌ {A = ℕ} 0 1 = cc in omega arith)

-- ## What a chain says

pub then_assoc : (x y z : Check) → ((x then y) then z) ≡ (x then (y then z))
then_assoc (Ok tt) y z = refl
then_assoc (Err r) y z = refl

pub then_passed : (y z : Check) → (y then z) ≡ Ok tt → (y ≡ Ok tt) × (z ≡ Ok tt)
then_passed (Ok tt) z e = (refl, e)
then_passed (Err r) z e = absurd (let q : ◌≡◌ {A = ℕ} 0 1 = cc in omega arith)

pub then_none : (y z : Check) → z ≡ Ok tt → (y then z) ≡ y
then_none (Ok tt) z e = e
then_none (Err r) z e = refl

-- two chains whose first checks agree, and whose second ones do where the first passed
pub then_same : {x : Check} (x' : Check) {y y' : Check} → x ≡ x' → (x' ≡ Ok tt → y ≡ y') → (x then y) ≡ (x' then y')
then_same (Ok tt) e h = rw e (h refl)
then_same (Err r) e h = rw e refl

pub refuse_if-passed : (b : Bool) (r : Refusal) → refuse_if b r ≡ Ok tt → b ≡ false
refuse_if-passed true r e = absurd (let q : ◌≡◌ {A = ℕ} 0 1 = cc in omega arith)
refuse_if-passed false r e = refl

pub outside_false : (low high m : ℕ) → outside low high m ≡ false → (low ≤ m) × (m ≤ high)
outside_false low high m e = let p = or_false (ltb m low) (ltb high m) e in (ltb-false m low p.0, ltb-false high m p.1)

-- an answer that is no refusal is the one named, and the check passed
pub if_accepted : {A : Type 0} (refused : Refusal → A) (y : Check) (z : A) {w : A} → ((r : Refusal) → refused r ≡ w → ⊥) → if_passed refused y z ≡ w
    → (y ≡ Ok tt) × (z ≡ w)
if_accepted refused (Ok tt) z n e = (refl, e)
if_accepted refused (Err r) z n e = absurd (n r e)
