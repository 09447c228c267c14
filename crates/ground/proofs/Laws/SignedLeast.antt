-- The least of signed values over a group is the least of natural ones with a number taken off. Assumes nothing.
use mathlib.Core.List.{List, [], ◌∷◌}
use Rattle.std.proofs.Math.Logic.{inl, inr}
use Rattle.std.specs.Prelude.{◌⊎◌, ◌≡◌, eqb, ℤ, ◌-ℤ◌}
use Rattle.std.proofs.Common.{ap₂, ◌∙◌}
use Rattle.std.proofs.Math.Path.{refl}
use Prim.Native.Nat.{min, suc, zero, ℕ, ◌≤◌}
use native.Mathlib.Omega.{arith}
use Rattle.std.proofs.Math.IntN.{pos}
use borrow.Author.Tests.{eqb-false, eqb-true}
use borrow.Table.Steps.{cases}
use Rattle.ground.proofs.Laws.Signed.{min_signed}
use Rattle.ground.specs.Least.{On, least_on}
use Rattle.ground.specs.Signed.{group, least_z, min_z}

-- f is h with c taken off, and h is at most the cap
module _ (s : ℕ → ℕ) (g cap c : ℕ) (f : ℕ → ℤ) (h : ℕ → ℕ) where
  abbrev Shift : ℕ → Type 0
  Shift n = (a : ℕ) → On n s g a → (f a ≡ pos (h a) -ℤ pos c) × (h a ≤ cap)

  -- no number is on that side, or the two least values agree
  abbrev Agree : ℕ → List ℕ → ℕ → Type 0
  Agree n l m = ((l ≡ []) × (m ≡ cap) × ((a : ℕ) → On n s g a → ⊥)) ⊎ ((x : ℕ) × (r : List ℕ) × (l ≡ x ∷ r) × (least_z l f ≡ pos m -ℤ pos c))

  agree : (n : ℕ) → Shift n → Agree n (group n s g) (least_on n s g cap h)
  unfolding least_on
  agree zero p = inl (refl, refl, λ a o. omega (arith, o.0))
  agree (suc n) p =
      let ih = agree n (λ a o. p a (omega arith, o.1)) in
      cases (eqb (s n) g) (λ e. rw e (more (p n (omega arith, eqb-true (s n) g e)) ih)) (λ e. rw e (same (eqb-false (s n) g e) ih))
    where
      more : (f n ≡ pos (h n) -ℤ pos c) × (h n ≤ cap) → Agree n (group n s g) (least_on n s g cap h)
          → Agree (suc n) (n ∷ group n s g) (min (h n) (least_on n s g cap h))
      more q (inl (e, m, z)) = let k : min (h n) cap ≡ h n = omega (arith, q.1) in inr (n, [], rw e, rw (e, m, k) q.0)
      more q (inr (x, r, e, k)) =
          inr (n, x ∷ r, rw e, rw e (ap₂ min_z q.0 (rw e at k) ∙ min_signed (h n) (least_on n s g cap h) c))

      same : (s n ≡ g → ⊥) → Agree n (group n s g) (least_on n s g cap h) → Agree (suc n) (group n s g) (least_on n s g cap h)
      same ne (inl (e, m, z)) = inl (e, m, λ a o. cases (eqb a n) (λ t. ne (rw (← eqb-true a n t) o.1)) (λ t. z a (omega (arith, eqb-false a n t), o.1)))
      same ne (inr r) = inr r

  pub least_signed : (n : ℕ) {x : ℕ} → On n s g x → Shift n → least_z (group n s g) f ≡ pos (least_on n s g cap h) -ℤ pos c
  least_signed n {x} o p = go (agree n p)
    where
      go : Agree n (group n s g) (least_on n s g cap h) → least_z (group n s g) f ≡ pos (least_on n s g cap h) -ℤ pos c
      go (inl (e, m, z)) = absurd (z x o)
      go (inr (y, r, e, k)) = k
