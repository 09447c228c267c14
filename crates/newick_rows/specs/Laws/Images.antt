-- The lowest image of a far side: what a search for it from image to image finds, and how it is counted where it is alone. Assumes nothing.
use Rattle.std.specs.Prelude.{false, ◌≡◌, suc, zero, ℕ, ◌%◌, ◌+◌, ◌-◌, ◌/◌, ◌<◌, ◌^◌, ◌≤◌}
use Rattle.std.proofs.Common.{ap, sym, ◌∙◌, add-one, arith, pow_pos, eq-eqb, ne_eqb}
use Rattle.std.specs.Int.Count.{ones, ones_step}
use Rattle.ground.specs.Bits.{bit}
use Rattle.ground.specs.First.{NoneBelow}
use Rattle.ground.specs.Laws.Bits.{bit_shift}
use Rattle.ground.specs.Laws.First.{first_here, first_none}
use Rattle.ground.specs.Laws.Ones.{ones_none, ones_one}
use Rattle.theory.specs.FarSides.{holds}
use Rattle.newick_text.specs.Laws.Sides.{image_of_lem}
use Rattle.newick_text.specs.LinkTrees.{image_of}

pub image_here : (s i : ℕ) → i < 64 → NoneBelow (holds s) i → s / 2 ^ i % 2 ≡ 1 → i + 1 ≡ image_of s
image_here s i l n e = add-one i ∙ ap suc (first_here (holds s) 64 i l n (eq-eqb (bit s i) 1 (sym (bit_shift s i) ∙ e)))

pub image_none : (s i : ℕ) → i ≤ 64 → 64 ≤ i → NoneBelow (holds s) i → i + 1 ≡ image_of s
image_none s i l m n = add-one i ∙ ap suc (first_none (holds s) 64 i l m n)

pub not_here : (s i : ℕ) → (s / 2 ^ i % 2 ≡ 1 → ⊥) → holds s i ≡ false
not_here s i e = ne_eqb (bit s i) 1 (λ q. e (bit_shift s i ∙ q))

-- ## An image that is alone

ones_below : (i : ℕ) → ones (2 ^ i - 1) ≡ i
ones_below zero = ones_none
ones_below (suc i) =
    let e : (2 ^ suc i - 1) / 2 ≡ 2 ^ i - 1 = omega (arith, pow_pos i) in
    omega (arith, pow_pos i, ones_step (2 ^ suc i - 1), ap ones e, ones_below i)

module _ (s : ℕ) (f : s < 2 ^ 64) (e : ones s ≡ 1) where
  pub alone-some : 1 ≤ s
  alone-some = let r = ones_one 64 s f e in omega (arith, r.2, pow_pos r.0)

  pub image_alone : ones (s - 1) + 1 ≡ image_of s
  image_alone =
      let r = ones_one 64 s f e in
      let b : ones (s - 1) ≡ r.0 = ap (λ (x : ℕ). ones (x - 1)) r.2 ∙ ones_below r.0 in
      let i : image_of s ≡ suc r.0 = ap image_of r.2 ∙ image_of_lem r.0 r.1 in
      omega (arith, b, i)
