-- What the sign of the index says. Assumes nothing.
use Rattle.std.specs.Prelude.{false, true, ◌↔◌, ◌≡◌, ℕ, ◌<◌, ◌≤◌, neg_ℤ, pos, ℤ, ◌<ℤ◌, ◌≤ℤ◌}
use mathlib.Core.List.{Memᴰ}
use Rattle.ground.specs.Bits.{bit}
use Rattle.ground.specs.Signed.{clip}
use Rattle.theory.specs.Choices.{Against, Choice, Supports}
use Rattle.theory.specs.FarSides.{inner}
use Rattle.theory.specs.LinkTables.{cost_of, fars}
use Rattle.theory.specs.Readings.{measured}

-- some choice speaks against the division by m, and none by more
pub record MostAgainst (d : ℕ → ℕ → ℕ) (n S m : ℕ) : Type 0 where
  pub choice : (q : Choice n (bit S)) × Against d q m
  pub most : (q : Choice n (bit S)) (k : ℕ) → Against d q k → k ≤ m

-- of the index v of the division with the far side S
pub record AtZero (L : ℕ) (d : ℕ → ℕ → ℕ) (n S : ℕ) (v : ℤ) : Type 0 where
  -- it is above 0 exactly when all choices support the division
  pub above : (pos 0 <ℤ v) ↔ ((q : Choice n (bit S)) → Supports d q)
  -- it is below 0 exactly when some choice speaks against the division
  pub below : (v <ℤ pos 0) ↔ ((m : ℕ) × (0 < m) × (q : Choice n (bit S)) × Against d q m)
  -- and by that much: it is -m exactly when m is the most by which one does
  pub against : (m : ℕ) → (v ≡ neg_ℤ (pos m)) ↔ MostAgainst d n S m
  -- above 0 the link is drawn with the index as its doubled cost
  pub drawn : (m : ℕ) → 0 < m → v ≡ pos m → Memᴰ (S, m) (measured L d n)
  -- at 0 and below no inner link is drawn, and an own link is drawn with cost 0
  pub inner_none : v ≤ℤ pos 0 → inner n S ≡ true → Memᴰ S (fars (measured L d n)) → ⊥
  pub own_zero : v ≤ℤ pos 0 → inner n S ≡ false → Memᴰ (S, 0) (measured L d n)
  -- so the measured reading gives the division its index, or 0 where that is negative
  pub clipped : cost_of (measured L d n) S ≡ clip v
