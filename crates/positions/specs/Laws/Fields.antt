-- How the code meets the taking of a field. Assumes nothing.
use Rattle.std.specs.Prelude.{true, ◌≡◌, ℕ, ◌+◌, ◌-◌, ◌<◌, ◌≤◌, ltb, Ok}
use Rattle.std.proofs.Common.{sym, ◌∙◌, arith, le-ltb, lt-ltb, ltb-false, ltb-true}
use borrow.Table.Steps.{cases}
use Rattle.ground.specs.Laws.Refusals.{refuse_if-passed, then_passed}
use Rattle.ground.specs.Refusals.{refusal, refuse_if}
use Rattle.bits.specs.Bits.{FieldWithin}
use Rattle.positions.specs.Fields.{field_checks, reach}
use Rattle.positions.specs.Stands.{behind}

pub short_past : (n position w end : ℕ) → end ≡ behind 0 n → end < position → true ≡ ltb (reach n) (position + w)
short_past n position w end e h = sym (lt-ltb (reach n) (position + w) (omega (arith, e, h)))

pub short-left : (n position w end : ℕ) → end ≡ behind 0 n → position ≤ end → ltb (end - position) w ≡ ltb (reach n) (position + w)
short-left n position w end e h =
    cases (ltb (end - position) w)
    (λ t. t ∙ sym (lt-ltb (reach n) (position + w) (omega (arith, e, h, ltb-true (end - position) w t))))
    (λ t. t ∙ sym (le-ltb (reach n) (position + w) (omega (arith, e, h, ltb-false (end - position) w t))))

-- a field that passes its checks stands within the bytes, and its end is a number of 64 bits
pub field_within : (n position w : ℕ) → field_checks n position w ≡ Ok tt → FieldWithin n position w
field_within n position w e =
    let p = then_passed (refuse_if (ltb (reach n) (position + w)) (refusal 9 0 0 0 0)) (refuse_if (ltb 64 w) (refusal 3 0 0 0 0)) e in
    let h = ltb-false (reach n) (position + w) (refuse_if-passed (ltb (reach n) (position + w)) (refusal 9 0 0 0 0) p.0) in
    let k = ltb-false 64 w (refuse_if-passed (ltb 64 w) (refusal 3 0 0 0 0) p.1) in
    record { width = k; within = omega (arith, h); counted = omega (arith, h) }
