-- `brought::choose_in` meets its contract: the rows from i on have gone by. Assumes nothing.
use Rattle.std.proofs.Common.{List, ap, arith, get_or, ℕ, ◌+◌, ◌-◌, ◌<◌, ◌≡◌}
use Rattle.brought.specs.Choosing.{Ins}
use Rattle.brought.specs.Laws.Choosing.{ins_few, ins_more, ins_none, ins_some}
use Rattle.brought.proofs.choose_in.Goals as goal

-- with a row before it, one row less is asked
one_less : {L k N i count low m : ℕ} {f B₀ best₀ B ins best : List ℕ} → 0 < i → Ins L k N f i count low m B₀ best₀ B ins best
    → Ins L k N f (i - 1 + 1) count low m B₀ best₀ B ins best
one_less {i = i} h n = let e : i ≡ i - 1 + 1 = omega arith in rw (← e) n

pub loop-i-init : goal.loop-i-init
loop-i-init c = ins_none _ _ _ _ _ _ _ _ _ c.requires.4

pub overflow_sub-full-in-loop-i : goal.overflow_sub-full-in-loop-i
overflow_sub-full-in-loop-i c =
    let row : c.loop-i.i - 1 < c.args.count = omega arith in
    omega (arith, c.bit_alone-full.ensures, (c.requires.2.far (c.loop-i.i - 1) row).fits)

pub store-m-requires : goal.store-m-requires
store-m-requires c =
    let row : c.loop-i.i - 1 < c.args.count = omega arith in
    let gone = one_less c.loop-i-test.true c.loop-i.invariant in
    let p = c.requires in (
      rw c.bit_alone-full.ensures (ins_some _ _ _ _ _ _ _ _ _ _ _ _ _ p.0 p.2 row p.3 gone),
      ins_few _ _ _ _ _ _ _ _ _ _ _ _ _ p.0 p.2 row p.3 gone,
      omega (arith, row, p.2.rising.few),
      c.loop-i.invariant.room,
    )

pub loop-i-preserved : goal.loop-i-preserved
loop-i-preserved c =
    let row : c.loop-i.i - 1 < c.args.count = omega arith in
    let p = c.requires in
    ins_more _ _ _ _ _ _ _ _ _ _ _ _ _ p.0 p.2 row p.3 (one_less c.loop-i-test.true c.loop-i.invariant)
    (ap (λ x. x - 1 - get_or c.args.fars.now (c.loop-i.i - 1) 0) c.bit_alone-full.ensures) c.goes_in.ensures c.store-m.ensures
