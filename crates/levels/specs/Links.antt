-- What the exact tree of a table with levels looks like: which sets of images stand on the sides of its links, and what the links cost.
-- Heights are those of the groups, and 0 for one image. Assumes nothing.
use Rattle.std.specs.Prelude.{false, true, ◌↔◌, ◌⊎◌, ◌≡◌, ℕ, ◌*◌, ◌+◌, ◌-◌, ◌<◌, ◌^◌}
use mathlib.Core.List.{List, Memᴰ}
use Rattle.theory.specs.FarSides.{FarSide, holds, inner, own}
use Rattle.theory.specs.LinkTables.{Row, cost_of, fars}
use Rattle.levels.specs.Groups.{Group, height}
use Rattle.levels.specs.Sides.{NextGroup, Part, link_of, rest}

pub record LevelTree (d : ℕ → ℕ → ℕ) (n : ℕ) (T : List Row) : Type 0 where
  -- every group but that of all images is one side of a link: the far side where it is without image 0, the near side where it has it
  pub far : (S : ℕ) → Group d n S → holds S 0 ≡ false → Memᴰ S (fars T)
  pub near : (S : ℕ) → Group d n S → (S ≡ 2 ^ n - 1 → ⊥) → holds S 0 ≡ true → Memᴰ (rest n S) (fars T)
  -- every inner link has a group on one of its sides; so an inner division is a link exactly when one of its sides is a group
  pub groups : (R : ℕ) → Memᴰ R (fars T) → inner n R ≡ true → Group d n R ⊎ Group d n (rest n R)
  pub inner_links : (R : ℕ) → FarSide n R → inner n R ≡ true → Memᴰ R (fars T) ↔ (Group d n R ⊎ Group d n (rest n R))
  -- and any division exactly when one of its sides is a group or one image
  pub links : (R : ℕ) → FarSide n R → Memᴰ R (fars T) ↔ (Part d n R ⊎ Part d n (rest n R))
  -- a group or image S, other than all images, has a next group P, the smallest that contains it and more; the doubled cost of the link
  -- that has S on one side is the height of P less the height of S
  pub next : (S : ℕ) → Part d n S → (S ≡ 2 ^ n - 1 → ⊥) → (P : ℕ) × NextGroup d n S P
  pub cost : (S P : ℕ) → Part d n S → NextGroup d n S P → (Part d n (rest n S) → ⊥) → cost_of T (link_of n S) + height d n S ≡ height d n P
  -- except where the other images are a group or one image too: then P is all images, and this one link has both differences
  pub top : (S P : ℕ) → Part d n S → NextGroup d n S P → Part d n (rest n S) → P ≡ 2 ^ n - 1
  pub cost-top : (S P : ℕ) → Part d n S → NextGroup d n S P → Part d n (rest n S)
      → cost_of T (link_of n S) + height d n S + height d n (rest n S) ≡ 2 * height d n P
  -- the link of one image is its own link
  pub own_link : (i : ℕ) → i < n → link_of n (2 ^ i) ≡ own n i
  pub own-height : (i : ℕ) → height d n (2 ^ i) ≡ 0
