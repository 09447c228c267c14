-- `climbing::climb` meets its contract: one row, and then what the climb from its upper row promises. Assumes nothing.
use Rattle.std.proofs.Common.{[], add-one, arith, length, rules, sym, ◌-◌, ◌<◌, ◌≡◌, ◌≤◌, ◌∙◌, ◌∷◌}
use Rattle.std.proofs.Math.ListN.{length-set}
use Rattle.climbing.specs.Climbs.{climb_from}
use Rattle.climbing.specs.Laws.Climbs.{climb_last, climb-next}
use Rattle.climbing.specs.Laws.UpperRows.{upper_later, upper-most}
use Rattle.climbing.proofs.+climb.Goals as goal

pub climb-requires : goal.climb-requires
climb-requires t c =
    let u = c.upper-above in
    let l = c.args.fars.now in
    let k : c.args.row - 1 < length l = omega arith in
    let v : c.args.row < u.result = omega (arith, u.ensures, upper_later l (c.args.row - 1) k (omega (arith, u.ensures, c.if-above-eq0.false))) in
    let w : u.result ≤ length l = omega (arith, u.ensures, upper-most l (c.args.row - 1) k) in
    (omega arith, (omega arith, w, search rules, simp length-set (omega arith)))

pub returns-then-above-eq0 : goal.returns-then-above-eq0
returns-then-above-eq0 t c =
    let q : climb_from c.args.fars.now c.args.row ≡ c.args.row ∷ [] = climb_last c.args.fars.now c.args.row c.requires.0 c.requires.1
    (sym c.upper-above.ensures ∙ c.if-above-eq0.true) in
    (rw q (omega arith), rw q)

pub returns-else-above-eq0 : goal.returns-else-above-eq0
returns-else-above-eq0 t c =
    let u = c.upper-above in
    let m = c.climb in
    let q : climb_from c.args.fars.now c.args.row ≡ c.args.row ∷ climb_from c.args.fars.now u.result = rw u.ensures
    (climb-next c.args.fars.now c.args.row c.requires.0 c.requires.1) in
    (rw q (omega (arith, m.ensures.0)), rw q (rw (add-one c.args.at) at m.ensures.1))
