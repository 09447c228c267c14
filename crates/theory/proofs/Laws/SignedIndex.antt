-- The index with two limits added is the signed index: each value is, and so is the least of them. Assumes nothing.
use Rattle.std.proofs.Common.{ap, sym, ◌∙◌, arith}
use Rattle.std.specs.Prelude.{◌≡◌, min, ℕ, ◌*◌, ◌+◌, ◌<◌, pos, ◌-ℤ◌}
use Rattle.ground.specs.Bits.{bit}
use Rattle.ground.specs.Least.{On}
use Rattle.ground.specs.Laws.Least.{least_on_cap}
use Rattle.ground.proofs.Laws.Signed.{clip_signed, minus_twice, same_signed}
use Rattle.ground.proofs.Laws.SignedLeast.{least_signed}
use Rattle.ground.specs.Signed.{clip}
use Rattle.theory.specs.FarSides.{FarSide}
use Rattle.theory.specs.Index.{clipped, gain, index, shifted, value}
use Rattle.theory.proofs.Laws.Attained.{gain_cap, gain-whole}
use Rattle.theory.specs.Laws.FarSides.{far_image}
use Rattle.theory.specs.Tables.{WellFormed}

module _ (L : ℕ) (d : ℕ → ℕ → ℕ) (n : ℕ) (c : WellFormed L d n) where
  pub value-gain : {a a' b b' : ℕ} → a < n → a' < n → b < n → b' < n → value d a a' b b' ≡ pos (gain L d a a' b b') -ℤ pos (2 * L)
  value-gain {a} {a'} {b} {b'} ha ha' hb hb' =
      minus_twice (min (d a b + d a' b') (d a b' + d a' b)) (d a a') (d b b')
      ∙ (same_signed (min (d a b + d a' b') (d a b' + d a' b)) (d a a' + d b b') (gain L d a a' b b') (2 * L)).1
      (omega (arith, gain-whole L d n c ha ha' hb hb'))

  pub index-shifted : (s : ℕ → ℕ) {x y : ℕ} → On n s 0 x → On n s 1 y → index d n s ≡ pos (shifted L d n s) -ℤ pos (2 * L)
  unfolding index shifted
  index-shifted s hx hy =
      least_signed s 0 (4 * L) (2 * L) _ _ n hx (λ a ha. (
        least_signed s 0 (4 * L) (2 * L) _ _ n hx (λ a' ha'. (
          least_signed s 1 (4 * L) (2 * L) _ _ n hy (λ b hb. (
            least_signed s 1 (4 * L) (2 * L) _ _ n hy (λ b' hb'. (
              value-gain ha.0 ha'.0 hb.0 hb'.0,
              gain_cap L d n c ha.0 ha'.0 hb.0 hb'.0,
            )),
            least_on_cap s 1 (4 * L) _ n,
          )),
          least_on_cap s 1 (4 * L) _ n,
        )),
        least_on_cap s 0 (4 * L) _ n,
      ))

  module _ (S : ℕ) (f : FarSide n S) where
    -- both groups of a far side have an image
    pub far-shifted : index d n (bit S) ≡ pos (shifted L d n (bit S)) -ℤ pos (2 * L)
    far-shifted = let b = far_image n S f in index-shifted (bit S) {x = 0} {y = b.0} (omega arith, f.near) (b.1, b.2)

    -- what the readings reckon with is the index, or 0 where it is negative
    pub clipped-index : clipped L d n (bit S) ≡ clip (index d n (bit S))
    clipped-index = sym (ap clip far-shifted ∙ clip_signed (shifted L d n (bit S)) (2 * L))
