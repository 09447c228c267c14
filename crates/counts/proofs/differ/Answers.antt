-- `counts::differ` meets its contract: the count is the sum of the inner far sides less twice the common ones. Assumes nothing.
use Rattle.std.proofs.Common.{arith, length, ◌+◌, ◌≤◌}
use Rattle.theory.specs.Comparison.{inners}
use Rattle.counts.proofs.Laws.Formula.{difference_is, formula, inners_le}
use Rattle.counts.proofs.differ.Goals as goal

pub overflow_add-inner : goal.overflow_add-inner
overflow_add-inner c =
    let few : length (inners c.args.n c.args.first.now) + length (inners c.args.n c.args.second.now) ≤ 256 = let a = c.args in omega (arith, inners_le a.n a.first.now, inners_le a.n a.second.now, c.requires) in omega (arith, c.inner_rows-a.ensures, c.inner_rows-b.ensures, few)

pub overflow_mul-result : goal.overflow_mul-result
overflow_mul-result c =
    let few : length (inners c.args.n c.args.first.now) + length (inners c.args.n c.args.second.now) ≤ 256 = let a = c.args in omega (arith, inners_le a.n a.first.now, inners_le a.n a.second.now, c.requires) in omega (arith, c.common_rows-both.ensures, few, formula c.args.n _ c.args.first.now c.args.second.now c.requires.0 c.requires.1)

pub overflow_sub-result : goal.overflow_sub-result
overflow_sub-result c =
    omega (
      arith,
      c.inner_rows-a.ensures,
      c.inner_rows-b.ensures,
      c.common_rows-both.ensures,
      formula c.args.n _ c.args.first.now c.args.second.now c.requires.0 c.requires.1,
    )

pub returns : goal.returns
returns c =
    difference_is c.args.n _ c.args.first.now c.args.second.now c.requires.0 c.requires.1
    c.inner_rows-a.ensures c.inner_rows-b.ensures c.common_rows-both.ensures c.over_of.ensures
