-- `bits::get_by_turns` meets its contract: after each turn the number is the value of the bits done so far. Assumes nothing.
use Rattle.std.proofs.Common.{arith, get_or, refl, rules, ◌%◌, ◌*◌, ◌+◌, ◌-◌, ◌/◌, ◌<◌, ◌^◌, ◌∙◌, ◌≡◌}
use Rattle.bits.specs.Bits.{value_of, part}
use Rattle.bits.specs.Laws.Turns.{get_turn, get_turn_lt}
use Rattle.bits.proofs.get_by_turns.Goals as goal

pub loop-done-init : goal.loop-done-init
unfolding part value_of
loop-done-init c = (search rules, refl)

pub raised-requires : goal.raised-requires
raised-requires c =
    let turn_lt : c.loop-done.value * 2 ^ c.turn_width-s.result
    + get_or c.args.bytes.now ((c.args.position + c.loop-done.done) / 8) 0
    / 2 ^ (8 - (c.args.position + c.loop-done.done) % 8 - c.turn_width-s.result)
    % 2 ^ c.turn_width-s.result < 2 ^ 64 = let l = c.loop-done in
    get_turn_lt c.args.position c.args.width l.done c.turn_width-s.result c.args.bytes.now c.requires c.turn_width-s.ensures l.value
    l.invariant.1 in omega (arith, turn_lt)

pub overflow_add-value : goal.overflow_add-value
overflow_add-value c =
    let turn_lt : c.loop-done.value * 2 ^ c.turn_width-s.result
    + get_or c.args.bytes.now ((c.args.position + c.loop-done.done) / 8) 0
    / 2 ^ (8 - (c.args.position + c.loop-done.done) % 8 - c.turn_width-s.result)
    % 2 ^ c.turn_width-s.result < 2 ^ 64 = let l = c.loop-done in
    get_turn_lt c.args.position c.args.width l.done c.turn_width-s.result c.args.bytes.now c.requires c.turn_width-s.ensures l.value
    l.invariant.1 in
    let made : c.raised.result + c.bits_above.result
    ≡ c.loop-done.value * 2 ^ c.turn_width-s.result
    + get_or c.args.bytes.now
    ((c.args.position + c.loop-done.done) / 8) 0
    / 2 ^ (8 - (c.args.position + c.loop-done.done) % 8 - c.turn_width-s.result) % 2 ^ c.turn_width-s.result = cc in omega (arith, made, turn_lt)

pub loop-done-preserved : goal.loop-done-preserved
loop-done-preserved c =
    let made : c.raised.result + c.bits_above.result
    ≡ c.loop-done.value * 2 ^ c.turn_width-s.result
    + get_or c.args.bytes.now
    ((c.args.position + c.loop-done.done) / 8) 0
    / 2 ^ (8 - (c.args.position + c.loop-done.done) % 8 - c.turn_width-s.result) % 2 ^ c.turn_width-s.result = cc in
    let l = c.loop-done in (
      omega arith,
      made
          ∙ get_turn c.args.position c.args.width l.done c.turn_width-s.result c.args.bytes.now c.requires c.turn_width-s.ensures l.value
          l.invariant.1,
    )
