-- `counts::common_rows` meets its contract: what is counted and what is still ahead are all of them. Assumes nothing.
use Rattle.std.proofs.Common.{arith, get_or, length, rules, ◌+◌, ◌<◌, ◌≤◌}
use Rattle.ground.specs.Laws.Merges.{advance_le, advance-some}
use Rattle.counts.specs.Laws.Merge.{first_ends, one_common_le, second_ends, shared-all, shared-turn}
use Rattle.counts.proofs.common_rows.Goals as goal

pub loop-i-init : goal.loop-i-init
loop-i-init c = (search rules, search rules, search rules, shared-all _ _ _)

pub overflow_add-count : goal.overflow_add-count
overflow_add-count c =
    let l = c.loop-i in
    let a = c.args in
    let x = get_or a.first.now l.i 0 in
    let y = get_or a.second.now l.j 0 in
    omega (arith, c.one_common-count.ensures, one_common_le a.n x y, advance_le x y)

pub overflow_add-i : goal.overflow_add-i
overflow_add-i c =
    let q : c.advance-i.result ≤ 1 = rw c.advance-i.ensures (advance_le _ _) in omega (arith, q)

pub overflow_add-j : goal.overflow_add-j
overflow_add-j c =
    let second-left : c.loop-i.j < length c.args.second.now = c.if-j-second.true in
    let q : c.advance-j.result ≤ 1 = rw c.advance-j.ensures (advance_le _ _) in
    let h = second-left in
    omega (arith, q, h)

pub loop-i-smaller : goal.loop-i-smaller
loop-i-smaller c =
    let second-left : c.loop-i.j < length c.args.second.now = c.if-j-second.true in
    let q : 1 ≤ c.advance-i.result + c.advance-j.result = rw (c.advance-i.ensures, c.advance-j.ensures) (advance-some _ _) in
    let h = second-left in
    omega (arith, q, h)

pub loop-i-preserved : goal.loop-i-preserved
loop-i-preserved c =
    let second-left : c.loop-i.j < length c.args.second.now = c.if-j-second.true in
    let p = c.requires in
    let q : c.advance-i.result ≤ 1 = rw c.advance-i.ensures (advance_le _ _) in
    let s : c.advance-j.result ≤ 1 = rw c.advance-j.ensures (advance_le _ _) in
    let u : c.one_common-count.result ≤ c.advance-i.result = rw (c.advance-i.ensures, c.one_common-count.ensures)
    (one_common_le _ _ _) in
    let h = second-left in (
      omega (arith, q),
      omega (arith, s, h),
      omega (arith, u),
      shared-turn _ _ _ _ _ _ _ _ p.0 p.1 c.loop-i-test.true h c.loop-i.invariant.3
          c.one_common-count.ensures c.advance-i.ensures c.advance-j.ensures,
    )

pub returns-else-j-second : goal.returns-else-j-second
returns-else-j-second c = second_ends _ _ _ _ _ c.if-j-second.false c.loop-i.invariant.3

pub returns-after-loop-i : goal.returns-after-loop-i
returns-after-loop-i c = first_ends _ _ _ _ _ c.loop-i-test.false c.loop-i.invariant.3
