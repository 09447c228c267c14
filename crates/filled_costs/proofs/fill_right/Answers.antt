-- `stored_costs::fill_right` meets its contract: each entry is taken directly behind the one before. Assumes nothing.
use Rattle.std.proofs.Common.{ap, arith, length-set, refl, ℕ, ◌+◌, ◌∙◌}
use native.Mathlib.Nat.{mul-zero}
use Rattle.bits.specs.Bits.{bits, part, value_of}
use Rattle.bits.specs.Forms.{field_value}
use Rattle.bits.specs.Laws.OneWidth.{times_more}
use Rattle.bits.specs.Laws.Places.{listed_over_more, listed_over_none}
use Rattle.filled_costs.proofs.fill_right.Goals as goal

pub loop-k-init : goal.loop-k-init
loop-k-init c = (refl, omega (arith, mul-zero c.args.w), listed_over_none _ _ _)

pub loop-k-preserved : goal.loop-k-preserved
unfolding field_value
loop-k-preserved c =
    let a = c.args in
    let l = c.loop-k in
    let i = l.invariant in (
      simp length-set i.0,
      omega (arith, times_more a.w l.k, i.1),
      listed_over_more (field_value (bits a.bytes.now) a.position a.w) a.start l.k (a.start + l.k) c.entry_at.result
          a.out.now l.out refl
          (omega (arith, c.loop-k-test.true, c.requires.2)) (omega (arith, c.loop-k-test.true, c.requires.2, i.0)) i.2
          (c.entry_at.ensures ∙ ap (λ (x : ℕ). value_of (part (bits a.bytes.now) x a.w)) i.1),
    )
