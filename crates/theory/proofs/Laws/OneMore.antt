-- Law I4, one image more: the index over k + 1 images from the index over k and the choices in which image k takes part.
-- Assumes nothing.
use Rattle.std.proofs.Common.{inl, inr, ap, sym, ◌∙◌, le_antisymm, arith, eqb-true}
use Rattle.std.specs.Prelude.{◌⊎◌, ◌≡◌, min, suc, ℕ, ◌*◌, ◌+◌, ◌-◌, ◌<◌, ◌≤◌, eqb}
use Rattle.std.proofs.Math.Nat.{le_trans}
use Rattle.std.proofs.lemmas.Bool.{eqb-false}
use borrow.Table.Steps.{cases}
use Rattle.ground.specs.Least.{On}
use Rattle.ground.specs.Laws.Least.{le_least_on, least_on_cap, least_on_le}
use Rattle.theory.specs.Index.{gain, shifted}
use Rattle.theory.proofs.Laws.Index.{le_shifted, shifted_cap, shifted_le}
use Rattle.theory.specs.Tables.{WellFormed}
use Rattle.theory.specs.OneMore.{brought, pairing}

module _ (L : ℕ) (d : ℕ → ℕ → ℕ) (k : ℕ) (s : ℕ → ℕ) where
  pub brought_le : {a b b' : ℕ} → On (suc k) s (s k) a → On k s (1 - s k) b → On k s (1 - s k) b' → brought L d k s ≤ pairing L d k a b b'
  unfolding brought
  brought_le {a} {b} {b'} ha hb hb' =
      le_trans (least_on_le s (s k) (4 * L) _ (suc k) a ha) (le_trans (least_on_le s (1 - s k) (4 * L) _ k b hb) (least_on_le s (1 - s k) (4 * L) _ k b' hb'))

  pub le_brought : (v : ℕ) → v ≤ 4 * L → ((a b b' : ℕ) → On (suc k) s (s k) a → On k s (1 - s k) b → On k s (1 - s k) b' → v ≤ pairing L d k a b b')
      → v ≤ brought L d k s
  unfolding brought
  le_brought v c h =
      le_least_on s (s k) (4 * L) _ (suc k) v c
      (λ a ha. le_least_on s (1 - s k) (4 * L) _ k v c (λ b hb. le_least_on s (1 - s k) (4 * L) _ k v c (λ b' hb'. h a b b' ha hb hb')))

  pub brought_cap : brought L d k s ≤ 4 * L
  unfolding brought
  brought_cap = least_on_cap s (s k) (4 * L) _ (suc k)

  module _ (c : WellFormed L d (suc k)) (two : s k < 2) where
    up : {g a : ℕ} → On k s g a → On (suc k) s g a
    up o = (omega arith, o.1)

    -- what is not image k is one of the first k
    down : {g a : ℕ} → On (suc k) s g a → (a ≡ k → ⊥) → On k s g a
    down o h = (omega arith, o.1)

    shifted-brought : shifted L d (suc k) s ≤ brought L d k s
    shifted-brought = le_brought (shifted L d (suc k) s) (shifted_cap L d (suc k) s) (λ a b b' ha hb hb'.
        cases (eqb (s k) 0)
        (λ e.
        let k0 = eqb-true (s k) 0 e in
        let b1 : s b ≡ 1 = omega (arith, hb.1) in
        let b1' : s b' ≡ 1 = omega (arith, hb'.1) in
        omega (arith, shifted_le L d (suc k) s {a = k} {a' = a} {b = b} {b' = b'} (omega arith, k0) (ha.0, ha.1 ∙ k0) (omega arith, b1) (omega arith, b1')))
        (λ e.
        let k1 : s k ≡ 1 = omega (arith, eqb-false (s k) 0 e) in
        let b0 : s b ≡ 0 = omega (arith, hb.1) in
        let b0' : s b' ≡ 0 = omega (arith, hb'.1) in
        let x : b < suc k = omega arith in
        let y : b' < suc k = omega arith in
        let z : k < suc k = omega arith in
        omega
        (arith, shifted_le L d (suc k) s {a = b} {a' = b'} {b = k} {b' = a} (x, b0) (y, b0') (z, k1) (ha.0, ha.1 ∙ k1), c.same x z, c.same y ha.0)))

    shifted_fewer : shifted L d (suc k) s ≤ shifted L d k s
    shifted_fewer = le_shifted L d k s (shifted L d (suc k) s) (shifted_cap L d (suc k) s)
        (λ a a' b b' ha ha' hb hb'. shifted_le L d (suc k) s (up ha) (up ha') (up hb) (up hb'))

    -- a choice with image k on the near side is one of those, in both pairings; and so with image k on the far side
    near-brought : {a a' b b' : ℕ} → On (suc k) s 0 a → On (suc k) s 0 a' → On (suc k) s 1 b → On (suc k) s 1 b' → a ≡ k → brought L d k s ≤ gain L d a a' b b'
    near-brought {a} {a'} {b} {b'} ha ha' hb hb' e =
        let k0 : 0 ≡ s k = sym ha.1 ∙ ap s e in
        let o : 1 ≡ 1 - s k = omega arith in
        let ob = down hb (λ t. omega (arith, ap s t, hb.1)) in
        let ob' = down hb' (λ t. omega (arith, ap s t, hb'.1)) in
        omega (
          arith,
          brought_le {a = a'} {b = b} {b' = b'} (ha'.0, ha'.1 ∙ k0) (ob.0, ob.1 ∙ o) (ob'.0, ob'.1 ∙ o),
          brought_le {a = a'} {b = b'} {b' = b} (ha'.0, ha'.1 ∙ k0) (ob'.0, ob'.1 ∙ o) (ob.0, ob.1 ∙ o),
          c.same hb.0 hb'.0,
          ap (λ (x : ℕ). d x b) e,
          ap (λ (x : ℕ). d x b') e,
          ap (λ (x : ℕ). d x a') e,
        )

    far-brought : {a a' b b' : ℕ} → On (suc k) s 0 a → On (suc k) s 0 a' → On (suc k) s 1 b → On (suc k) s 1 b' → b ≡ k → brought L d k s ≤ gain L d a a' b b'
    far-brought {a} {a'} {b} {b'} ha ha' hb hb' e =
        let k1 : 1 ≡ s k = sym hb.1 ∙ ap s e in
        let o : 0 ≡ 1 - s k = omega arith in
        let oa = down ha (λ t. omega (arith, ap s t, ha.1)) in
        let oa' = down ha' (λ t. omega (arith, ap s t, ha'.1)) in
        omega (
          arith,
          brought_le {a = b'} {b = a} {b' = a'} (hb'.0, hb'.1 ∙ k1) (oa.0, oa.1 ∙ o) (oa'.0, oa'.1 ∙ o),
          brought_le {a = b'} {b = a'} {b' = a} (hb'.0, hb'.1 ∙ k1) (oa'.0, oa'.1 ∙ o) (oa.0, oa.1 ∙ o),
          c.same ha.0 ha'.0,
          c.same ha.0 hb.0,
          c.same ha'.0 hb.0,
          c.same ha.0 hb'.0,
          c.same ha'.0 hb'.0,
          ap (λ (x : ℕ). d x a) e,
          ap (λ (x : ℕ). d x a') e,
          ap (λ (x : ℕ). d x b') e,
        )

    -- a and a' exchanged together with b and b'
    gain_swap : {a a' b b' : ℕ} → On (suc k) s 0 a → On (suc k) s 0 a' → On (suc k) s 1 b → On (suc k) s 1 b' → gain L d a a' b b' ≡ gain L d a' a b' b
    gain_swap {a} {a'} {b} {b'} ha ha' hb hb' =
        let p : d a b + d a' b' ≡ d a' b' + d a b = omega arith in
        let q : d a b' + d a' b ≡ d a' b + d a b' = omega arith in
        rw (p, q, c.same ha.0 ha'.0, c.same hb.0 hb'.0)

    choice_brought : {a a' b b' : ℕ} → On (suc k) s 0 a → On (suc k) s 0 a' → On (suc k) s 1 b → On (suc k) s 1 b'
        → (a ≡ k) ⊎ ((a' ≡ k) ⊎ ((b ≡ k) ⊎ (b' ≡ k))) → brought L d k s ≤ gain L d a a' b b'
    choice_brought ha ha' hb hb' (inl e) = near-brought ha ha' hb hb' e
    choice_brought ha ha' hb hb' (inr (inl e)) = rw (gain_swap ha ha' hb hb') (near-brought ha' ha hb' hb e)
    choice_brought ha ha' hb hb' (inr (inr (inl e))) = far-brought ha ha' hb hb' e
    choice_brought ha ha' hb hb' (inr (inr (inr e))) = rw (gain_swap ha ha' hb hb') (far-brought ha' ha hb' hb e)

    brought-shifted : min (shifted L d k s) (brought L d k s) ≤ shifted L d (suc k) s
    brought-shifted =
        le_shifted L d (suc k) s (min (shifted L d k s) (brought L d k s)) (omega (arith, brought_cap)) (λ a a' b b' ha ha' hb hb'.
        let q = choice_brought ha ha' hb hb' in
        cases (eqb a k) (λ t. omega (arith, q (inl (eqb-true a k t))))
        (λ t. cases (eqb a' k) (λ u. omega (arith, q (inr (inl (eqb-true a' k u)))))
        (λ u. cases (eqb b k) (λ v. omega (arith, q (inr (inr (inl (eqb-true b k v))))))
        (λ v. cases (eqb b' k) (λ w. omega (arith, q (inr (inr (inr (eqb-true b' k w))))))
        (λ w. omega
        (arith, shifted_le L d k s (down ha (eqb-false a k t)) (down ha' (eqb-false a' k u)) (down hb (eqb-false b k v)) (down hb' (eqb-false b' k w))))))))

    -- I4. Over no far image below k, shifted L d k s is the start value, and brought decides alone.
    pub shifted-more : shifted L d (suc k) s ≡ min (shifted L d k s) (brought L d k s)
    shifted-more = le_antisymm (omega (arith, shifted_fewer, shifted-brought)) brought-shifted

-- over images none of which is far, there is no choice: the start value stands
pub shifted_none : (L : ℕ) (d : ℕ → ℕ → ℕ) (k : ℕ) (s : ℕ → ℕ) → ((a : ℕ) → a < k → s a ≡ 0) → shifted L d k s ≡ 4 * L
shifted_none L d k s h =
    le_antisymm (shifted_cap L d k s) (le_shifted L d k s (4 * L) (omega arith) (λ a a' b b' ha ha' hb hb'. absurd (omega (arith, h b hb.0, hb.1))))
