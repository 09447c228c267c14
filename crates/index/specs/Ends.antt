-- Where the index ends. Assumes nothing.
use Rattle.std.specs.Prelude.{false, true, ◌≡◌, ℕ, ◌*◌, ◌-◌, ◌≤◌, neg_ℤ, pos, ℤ, ◌<ℤ◌, ◌≤ℤ◌}
use Rattle.theory.specs.FarSides.{inner}

-- of the index v of the division with the far side S, of a table with the limit L
pub record Ends (L n S : ℕ) (v : ℤ) : Type 0 where
  pub top : v ≤ℤ pos (2 * L)
  pub bottom : neg_ℤ (pos (2 * L)) ≤ℤ v
  -- own links stop half way down, so that what is below takes four images
  pub own : inner n S ≡ false → neg_ℤ (pos L) ≤ℤ v
  pub four : v <ℤ neg_ℤ (pos L) → 4 ≤ n

-- the same, now that two different images cost something: how near to the ends it comes, and Examples.antt has tables that reach each of these
pub record Nearest (L n S : ℕ) (v : ℤ) : Type 0 where
  pub most : v ≤ℤ pos (2 * L - 1)
  pub inner-most : inner n S ≡ true → v ≤ℤ pos (2 * L - 2)
  pub least : neg_ℤ (pos (2 * L - 2)) ≤ℤ v
  pub own_least : inner n S ≡ false → neg_ℤ (pos (L - 2)) ≤ℤ v
  -- so no end is reached
  pub not_top : v ≡ pos (2 * L) → ⊥
  pub not_bottom : v ≡ neg_ℤ (pos (2 * L)) → ⊥
  pub not_own : inner n S ≡ false → v ≡ neg_ℤ (pos L) → ⊥
