-- The checks of path, upper rows and routes by their numbers: N rows, l the far sides, v the doubled costs. Assumes nothing.
use Rattle.std.specs.Prelude.{List, [], ◌++◌, ◌∷◌, ℕ, ◌*◌, ◌-◌}
use Rattle.std.proofs.Common.{arith}
use Rattle.ground.specs.InOrder.{InOrder}
use Rattle.ground.specs.Laws.InOrder.{join-order, room-order, step-order, then_only}
use Rattle.ground.specs.Refusals.{◌then◌, room_check}
use Rattle.ground.specs.Steps.{Step, ◌by◌}
use Rattle.theory.specs.Checks.{image_check}
use Rattle.theory.specs.Laws.InOrder.{image_only}
use Rattle.links.specs.InOrder.{row-order, row_steps, size-order, size_steps}
use Rattle.routes.specs.Orders.{path_checks, route_checks, upper_checks}

module _ (L n N : ℕ) (l v : List ℕ) where
  -- 1, 10, 2, 12, 13, 8: one number for both images
  abbrev pub path_steps : ℕ → ℕ → List Step
  path_steps i j = size_steps n N l v ++ (row_steps L n l v ++ (8 by (image_check n i then image_check n j) ∷ []))

  pub path-order : (i j : ℕ) → InOrder (path_steps i j) (path_checks L n N l v i j)
  path-order i j =
      join-order (size-order n N l v)
      (join-order (row-order L n l v)
      (step-order 8 (image_check n i then image_check n j) (omega arith) (then_only 8 (image_check n i) (image_check n j) (image_only n i) (image_only n j))))

  -- 1, 10, 2, 3, 12, 13
  abbrev pub upper_steps : ℕ → List Step
  upper_steps room = size_steps n N l v ++ (3 by room_check (2 * n - 3) room ∷ row_steps L n l v)

  pub upper-order : (room : ℕ) → InOrder (upper_steps room) (upper_checks L n N l v room)
  upper-order room = join-order (size-order n N l v) (join-order (room-order (2 * n - 3) room) (row-order L n l v))

  -- 1, 10, 2, 3, 12, 13, 8
  abbrev pub route_steps : ℕ → ℕ → List Step
  route_steps i room = upper_steps room ++ (8 by image_check n i ∷ [])

  pub route-order : (i room : ℕ) → InOrder (route_steps i room) (route_checks L n N l v i room)
  route-order i room = join-order (upper-order room) (step-order 8 (image_check n i) (omega arith) (image_only n i))
