-- The index grown image by image: before the loop, one turn, and what is answered. Assumes nothing.
use Rattle.std.proofs.Common.{sym, add-one, arith}
use Rattle.std.specs.Prelude.{◌≡◌, min, suc, ℕ, ◌*◌, ◌+◌, ◌<◌, ◌≤◌}
use Rattle.ground.specs.Bits.{bit}
use Rattle.ground.specs.Laws.Bits.{bit_lt}
use Rattle.theory.specs.FarSides.{FarSide}
use Rattle.theory.specs.Index.{shifted}
use Rattle.theory.specs.OneMore.{brought_fast}
use Rattle.theory.proofs.Laws.FewSteps.{brought_fast_lem}
use Rattle.theory.proofs.Laws.FourPoint.{well_formed_less}
use Rattle.theory.proofs.Laws.OneMore.{shifted-more, shifted_none}
use Rattle.theory.specs.Tables.{WellFormed}

module _ (L : ℕ) (d : ℕ → ℕ → ℕ) (n S : ℕ) (c : WellFormed L d n) where
  -- over image 0 alone there is no division, and the start value stands
  pub grown_none : FarSide n S → 4 * L ≡ shifted L d 1 (bit S)
  grown_none f = sym (shifted_none L d 1 (bit S) (λ a h. let e : a ≡ 0 = omega arith in rw e f.near))

  -- Law I4, in the steps of the code
  pub grown-more : (k : ℕ) {v r : ℕ} → k < n → v ≡ shifted L d k (bit S) → r ≡ min v (brought_fast L d k (bit S)) → r ≡ shifted L d (k + 1) (bit S)
  grown-more k h e q =
      let w = well_formed_less L d (suc k) n h c in
      rw add-one (omega (arith, brought_fast_lem L d k (bit S) w (bit_lt S k), shifted-more L d k (bit S) w (bit_lt S k)))

  pub grown_end : (k : ℕ) {v : ℕ} → k ≤ n → n ≤ k → v ≡ shifted L d k (bit S) → v ≡ shifted L d n (bit S)
  grown_end k l h e = let q : k ≡ n = omega arith in rw (← q) e

-- what the author of the loop names
pub ruleset turns = (grown_none, grown-more, grown_end)
