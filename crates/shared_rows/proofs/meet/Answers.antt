-- `shared_rows::meet` meets its contract: what is kept and what is still shared ahead are all of it. Assumes nothing.
use Rattle.std.proofs.Common.{arith, length, refl, rules, ◌+◌, ◌<◌, ◌∙◌, ◌≤◌}
use Rattle.ground.specs.Laws.Merges.{advance_le, advance-some}
use Rattle.shared_rows.specs.Laws.Ahead.{ahead-all, ahead-turn, held_ends, kept-count, other_ends}
use Rattle.shared_rows.proofs.meet.Goals as goal

pub loop-i-init : goal.loop-i-init
loop-i-init c = (search rules, search rules, search rules, ahead-all _ _ _ _ _, refl, refl)

pub overflow_add-i : goal.overflow_add-i
overflow_add-i c =
    let q : c.advance-i.result ≤ 1 = rw c.advance-i.ensures (advance_le _ _) in omega (arith, q)

pub overflow_add-j : goal.overflow_add-j
overflow_add-j c =
    let other-left : c.loop-i.j < length c.args.f.now = c.if-j-f.true in
    let q : c.advance-j.result ≤ 1 = rw c.advance-j.ensures (advance_le _ _) in
    let h = other-left in
    omega (arith, q, h)

pub loop-i-smaller : goal.loop-i-smaller
loop-i-smaller c =
    let other-left : c.loop-i.j < length c.args.f.now = c.if-j-f.true in
    let q : 1 ≤ c.advance-i.result + c.advance-j.result = rw (c.advance-i.ensures, c.advance-j.ensures) (advance-some _ _) in
    let h = other-left in
    omega (arith, q, h, c.loop-i-test.true)

pub loop-i-preserved : goal.loop-i-preserved
loop-i-preserved c =
    let other-left : c.loop-i.j < length c.args.f.now = c.if-j-f.true in
    let l = c.loop-i in
    let p = c.requires in
    let hi = c.loop-i-test.true in
    let hj = other-left in
    let q : c.advance-i.result ≤ 1 = rw c.advance-i.ensures (advance_le _ _) in
    let s : c.advance-j.result ≤ 1 = rw c.advance-j.ensures (advance_le _ _) in (
      omega (arith, q, hi),
      omega (arith, s, hj),
      kept-count _ _ _ _ _ _ _ _ _ c.keep_row-at.ensures c.advance-i.ensures l.invariant.2,
      ahead-turn _ _ _ _ _ _ p.0 p.1 p.2 p.3 p.4 _ _ _ _ _ _ _ l.invariant.3 hi hj l.invariant.2 l.invariant.4 l.invariant.5
          c.keep_row-at.ensures c.advance-i.ensures c.advance-j.ensures,
      c.keep_row-at.auto.fars ∙ l.invariant.4,
      c.keep_row-at.auto.costs ∙ l.invariant.5,
    )

pub returns-else-j-f : goal.returns-else-j-f
returns-else-j-f c =
    let i = c.loop-i.invariant in
    other_ends _ _ _ _ _ _ _ _ _ _ c.if-j-f.false (omega (arith, i.0, i.2)) i.3

pub returns-after-loop-i : goal.returns-after-loop-i
returns-after-loop-i c =
    let i = c.loop-i.invariant in
    held_ends _ _ _ _ _ _ _ _ _ _ c.requires.3 c.loop-i-test.false (omega (arith, i.0, i.2)) i.3
