-- `link_forms::fill` meets its contract: the front of both slices is written row by row. Assumes nothing.
use Rattle.std.proofs.Common.{ap, arith, length-set, refl, ℕ, ◌*◌, ◌+◌, ◌-◌, ◌∙◌}
use Rattle.bits.specs.Bits.{bits, part, value_of}
use Rattle.bits.specs.Laws.Listed.{listed_front_more, listed_front_none}
use Rattle.link_forms.specs.Said.{cost_at, far_at}
use Rattle.link_forms.proofs.fill.Goals as goal

pub loop-k-init : goal.loop-k-init
loop-k-init c = (refl, refl, listed_front_none _ _, listed_front_none _ _)

pub loop-k-preserved : goal.loop-k-preserved
unfolding far_at cost_at
loop-k-preserved c =
    let a = c.args in
    let l = c.loop-k in
    let i = l.invariant in (
      simp length-set i.0,
      simp length-set i.1,
      listed_front_more (far_at a.form a.n a.bytes.now) l.k c.far_at.result _ l.fars (omega (arith, c.requires.1, c.loop-k-test.true)) i.2
          (c.far_at.ensures ∙ ap (λ (p : ℕ). 2 * value_of (part (bits a.bytes.now) p (a.n - 1))) c.row_at-p.ensures),
      listed_front_more (cost_at a.form a.n a.bytes.now) l.k c.cost_at.result _ l.costs (omega (arith, c.requires.2, c.loop-k-test.true)) i.3
          (c.cost_at.ensures ∙ ap (λ (p : ℕ). value_of (part (bits a.bytes.now) (p + (a.n - 1)) a.form.width)) c.row_at-p.ensures),
    )
