-- Law D1 for signed numbers: entries that move by at most D move every index by at most 4 D. Assumes nothing.
use Rattle.std.specs.Prelude.{ℕ, ◌*◌, ◌+◌, ◌≤◌, pos, ◌+ℤ◌, ◌≤ℤ◌}
use Rattle.std.proofs.Common.{arith}
use Rattle.ground.specs.Bits.{bit}
use Rattle.ground.proofs.Laws.Signed.{le_signed, plus_signed}
use Rattle.theory.specs.FarSides.{FarSide}
use Rattle.theory.specs.Index.{index, shifted}
use Rattle.theory.proofs.Laws.SignedIndex.{far-shifted}
use Rattle.theory.specs.Readings.{Near}
use Rattle.theory.specs.Tables.{WellFormed}
use Rattle.index.proofs.Laws.Value.{balance, least_gain}
use Rattle.index.proofs.Laws.Value.{some-gain}

module _ (L D : ℕ) (d e : ℕ → ℕ → ℕ) (n : ℕ) (c : WellFormed L d n) (h : WellFormed L e n) (p : Near D d e n) (S : ℕ) (f : FarSide n S) where
  -- the choice that has the second index has no more than 4 D above it in the first table
  raised_moves : shifted L d n (bit S) ≤ shifted L e n (bit S) + 4 * D
  raised_moves =
      let s = some-gain L e n h S f in
      let q = s.0 in
      omega (
        arith,
        s.1,
        least_gain L d q,
        balance L d q c,
        balance L e q h,
        p.up q.on_a.0 q.on_b.0,
        p.up q.on_a'.0 q.on_b'.0,
        p.up q.on_a.0 q.on_b'.0,
        p.up q.on_a'.0 q.on_b.0,
        p.down q.on_a.0 q.on_a'.0,
        p.down q.on_b.0 q.on_b'.0,
      )

  pub index_moves : index d n (bit S) ≤ℤ (index e n (bit S) +ℤ pos (4 * D))
  index_moves =
      rw (far-shifted L d n c S f, far-shifted L e n h S f, plus_signed (shifted L e n (bit S)) (2 * L) (4 * D))
      ((le_signed (shifted L d n (bit S)) (2 * L) (shifted L e n (bit S) + 4 * D) (2 * L)).1 (omega (arith, raised_moves)))
