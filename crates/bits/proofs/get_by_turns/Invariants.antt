-- `bits::get_by_turns` meets its contract: after each turn the number is the value of the bits done so far. Assumes nothing.
use Rattle.std.proofs.Common.{◌-◌, ◌≡◌, ◌≤◌}
use Rattle.bits.specs.Bits.{value_of, part, bits}
use Rattle.bits.proofs.get_by_turns.Given as goal

abbrev pub invariant-loop-done : goal.invariant-loop-done
invariant-loop-done l = (l.done ≤ l.width) × (l.value ≡ value_of (part (bits l.bytes) l.position l.done))

abbrev pub decreases-loop-done : goal.decreases-loop-done
decreases-loop-done l = l.width - l.done
