-- `bits::get` meets its contract: the number in a wide field is that of its upper bits, with its 32 lowest behind them. Assumes nothing.
use Rattle.std.proofs.Common.{ap, arith, ◌+◌, ◌-◌, ◌∙◌, ◌≡◌}
use Rattle.bits.specs.Bits.{number_at}
use Rattle.bits.specs.Laws.Turns.{value_part_lt}
use Rattle.bits.specs.Laws.Words.{number_more}
use Rattle.bits.proofs.get.Goals as goal

pub raised-requires : goal.raised-requires
raised-requires c =
    let a = c.args in
    omega (arith, value_part_lt a.bytes.now a.position (a.width - 32) 32 (omega arith) (omega arith))

pub overflow_add-result : goal.overflow_add-result
overflow_add-result c =
    let made : c.raised.result + c.get_narrow-3.result
    ≡ number_at c.args.bytes.now c.args.position
    c.args.width = let a = c.args in
    let e : a.width - 32 + 32 ≡ a.width = omega arith in
    let both : c.raised.result + c.get_narrow-3.result ≡ number_at a.bytes.now a.position (a.width - 32 + 32) =
    omega (arith, number_more a.bytes.now a.position (a.width - 32) 32 (omega arith)) in
    both ∙ ap (number_at a.bytes.now a.position) e in
    let a = c.args in
    omega (arith, made, value_part_lt a.bytes.now a.position a.width 64 (omega arith) (omega arith))

pub returns : goal.returns
returns c =
    let made : c.raised.result + c.get_narrow-3.result
    ≡ number_at c.args.bytes.now c.args.position
    c.args.width = let a = c.args in
    let e : a.width - 32 + 32 ≡ a.width = omega arith in
    let both : c.raised.result + c.get_narrow-3.result ≡ number_at a.bytes.now a.position (a.width - 32 + 32) =
    omega (arith, number_more a.bytes.now a.position (a.width - 32) 32 (omega arith)) in
    both ∙ ap (number_at a.bytes.now a.position) e in made
