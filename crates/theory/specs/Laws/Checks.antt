-- What the shared checks say when they pass. Assumes nothing.
use Rattle.std.specs.Prelude.{◌≡◌, ℕ, ◌≤◌, Ok}
use Rattle.ground.specs.Refusals.{outside, refusal}
use Rattle.ground.specs.Laws.Refusals.{outside_false, refuse_if-passed}
use Rattle.theory.specs.Checks.{images_check}

pub images-passed : (n : ℕ) → images_check n ≡ Ok tt → (3 ≤ n) × (n ≤ 64)
images-passed n e = outside_false 3 64 n (refuse_if-passed (outside 3 64 n) (refusal 1 n 0 0 0) e)
