-- `stored_costs::fill_left` meets its contract: what is read stands in a row above, which no store of this row alters. Assumes nothing.
use Rattle.std.proofs.Common.{List, ap, arith, get_or, length-set, refl, ℕ, ◌*◌, ◌+◌, ◌<◌, ◌∙◌, ◌≡◌}
use native.Mathlib.Nat.{zero-mul}
use lib.Arith.{digits_lt}
use Rattle.theory.specs.Tables.{cost}
use Rattle.bits.specs.Laws.Places.{listed_over_more, listed_over_none, over_at_before}
use Rattle.bits.specs.Listed.{listed}
use Rattle.filled_costs.specs.Laws.Filling.{next_row, row_inside}
use Rattle.filled_costs.proofs.fill_left.Goals as goal

pub loop-j-init : goal.loop-j-init
loop-j-init c = (refl, omega (arith, zero-mul c.args.n), listed_over_none _ _ _)

pub loop-j-preserved : goal.loop-j-preserved
loop-j-preserved c =
    let r = row_inside c.args.n c.args.i c.requires.1 in
    let before-row : c.loop-j.j * c.args.n + c.args.i < c.args.i * c.args.n = digits_lt c.loop-j-test.true c.requires.1 in
    let a = c.args in
    let l = c.loop-j in
    let i = l.invariant in
    let column : ℕ → ℕ = λ k. cost a.out.now a.n k a.i in
    let v : get_or l.out l.above 0 ≡ column l.j =
    ap (λ (x : ℕ). get_or l.out x 0) i.1
    ∙ ap (λ (x : List ℕ). get_or x (l.j * a.n + a.i) 0) i.2
    ∙ over_at_before a.out.now (listed column l.j) (a.i * a.n) (l.j * a.n + a.i) before-row (omega (arith, c.requires.2)) in (
      simp length-set i.0,
      omega (arith, next_row a.n l.j, i.1),
      listed_over_more column (a.i * a.n) l.j (a.i * a.n + l.j) (get_or l.out l.above 0) a.out.now l.out refl
          (omega (arith, c.loop-j-test.true, c.requires)) (omega (arith, c.loop-j-test.true, c.requires, i.0)) i.2 v,
    )
