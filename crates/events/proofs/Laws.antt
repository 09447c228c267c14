-- What an event that passes says. Assumes nothing.
use Rattle.std.specs.Prelude.{◌≡◌, ℕ, ◌-◌, ◌≤◌, Ok}
use Rattle.ground.specs.Refusals.{outside, refusal}
use Rattle.ground.specs.Laws.Refusals.{outside_false, refuse_if-passed, then_passed}
use Rattle.theory.specs.Checks.{image_check, images_check}
use Rattle.theory.specs.Laws.Checks.{images-passed}
use Rattle.events.specs.Checks.{event_check}

-- an event that passes: an image of 1..n, and three or more are left
pub event_passed : (n e : ℕ) → event_check n e ≡ Ok tt → (1 ≤ e) × (e ≤ n) × (3 ≤ n - 1)
event_passed n e p =
    let q = then_passed (image_check n e) (images_check (n - 1)) p in
    let a = outside_false 1 n e (refuse_if-passed (outside 1 n e) (refusal 8 0 0 0 0) q.0) in
    (a.0, a.1, (images-passed (n - 1) q.1).0)
