-- A turn of a merge goes by one place at most, and in at least one of the lists. Assumes nothing.
use Rattle.std.specs.Prelude.{ℕ, ◌+◌, ◌≤◌, leb}
use Rattle.std.proofs.Common.{arith, le-leb, leb-false}
use borrow.Table.Steps.{cases}
use Rattle.ground.specs.Laws.Counts.{one_if_le}
use Rattle.ground.specs.Merges.{advance}

pub advance_le : (x y : ℕ) → advance x y ≤ 1
unfolding advance
advance_le x y = one_if_le (leb x y)

pub advance-some : (x y : ℕ) → 1 ≤ advance x y + advance y x
unfolding advance
advance-some x y =
    cases (leb x y) (λ e. rw e (omega arith)) (λ e. rw (le-leb y x (omega (arith, leb-false x y e))) (omega arith))
