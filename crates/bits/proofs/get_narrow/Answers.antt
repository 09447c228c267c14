-- `bits::get_narrow` meets its contract: the field is a piece of the number of eight bytes, or is taken in turns. Assumes nothing.
use Rattle.std.proofs.Common.{ap, arith, leb-true, ℕ, ◌%◌, ◌*◌, ◌+◌, ◌-◌, ◌/◌, ◌∙◌, ◌≡◌}
use Rattle.bits.specs.Bits.{number_at}
use Rattle.bits.specs.Laws.Words.{number-inside}
use Rattle.bits.proofs.get_narrow.Goals as goal

pub returns-then-bytes-q-ge8 : goal.returns-then-bytes-q-ge8
returns-then-bytes-q-ge8 c =
    let a = c.args in
    let e : 8 * (a.position / 8) + a.position % 8 ≡ a.position = omega arith in
    rw (c.bits_above.ensures, c.eight_bytes.ensures)
    (number-inside a.bytes.now (8 * (a.position / 8)) 64 (a.position % 8) a.width (64 - a.position % 8 - a.width) (omega (arith, leb-true))
    (omega (arith, leb-true))
    ∙ ap (λ (p : ℕ). number_at a.bytes.now p a.width) e)
