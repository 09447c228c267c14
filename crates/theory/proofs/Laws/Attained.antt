-- The shift cuts nothing off, the least value is attained, and one pairing of each choice is enough (I1).
-- Assumes nothing.
use Rattle.std.proofs.Common.{◌∙◌, le_antisymm, le_trans, arith, leb-false, leb-true}
use Rattle.std.specs.Prelude.{◌≡◌, min, ℕ, ◌*◌, ◌+◌, ◌-◌, ◌<◌, ◌≤◌, leb}
use borrow.Table.Steps.{cases}
use Rattle.ground.specs.Least.{On, least_on}
use Rattle.ground.specs.Laws.Least.{le_least_on, least_on-at, least_on_cap, least_on_le}
use Rattle.theory.specs.Choices.{Choice}
use Rattle.theory.specs.Index.{gain, shifted}
use Rattle.theory.proofs.Laws.Index.{le_shifted, shifted_cap, shifted_le}
use Rattle.theory.specs.Tables.{WellFormed}

module _ (L : ℕ) (d : ℕ → ℕ → ℕ) (n : ℕ) (c : WellFormed L d n) where
  pub gain-whole : {a a' b b' : ℕ} → a < n → a' < n → b < n → b' < n → gain L d a a' b b' + d a a' + d b b' ≡ 2 * L + min (d a b + d a' b') (d a b' + d a' b)
  gain-whole ha ha' hb hb' = omega (arith, c.small ha ha', c.small hb hb')

  pub gain_cap : {a a' b b' : ℕ} → a < n → a' < n → b < n → b' < n → gain L d a a' b b' ≤ 4 * L
  gain_cap ha ha' hb hb' = omega (arith, c.small ha hb, c.small ha' hb')

  -- some choice of images has the least value
  pub shifted_at : (s : ℕ → ℕ) {x y : ℕ} → On n s 0 x → On n s 1 y → (q : Choice n s) × (shifted L d n s ≡ gain L d q.a q.a' q.b q.b')
  unfolding shifted
  shifted_at s {x} {y} hx hy =
      let p = least_on-at s 0 (4 * L)
      (λ a. least_on n s 0 (4 * L) (λ a'. least_on n s 1 (4 * L) (λ b. least_on n s 1 (4 * L) (λ b'. gain L d a a' b b')))) n x hx (least_on_cap s 0 (4 * L) _ n) in
      let q = least_on-at s 0 (4 * L) (λ a'. least_on n s 1 (4 * L) (λ b. least_on n s 1 (4 * L) (λ b'. gain L d p.0 a' b b'))) n x hx
      (least_on_cap s 1 (4 * L) _ n) in
      let r = least_on-at s 1 (4 * L) (λ b. least_on n s 1 (4 * L) (λ b'. gain L d p.0 q.0 b b')) n y hy (least_on_cap s 1 (4 * L) _ n) in
      let t = least_on-at s 1 (4 * L) (λ b'. gain L d p.0 q.0 r.0 b') n y hy (gain_cap p.1.0 q.1.0 r.1.0 hy.0) in (
        record { a = p.0; a' = q.0; b = r.0; b' = t.0; on_a = p.1; on_a' = q.1; on_b = r.1; on_b' = t.1 },
        p.2 ∙ q.2 ∙ r.2 ∙ t.2,
      )

  -- I1. One pairing is enough.
  abbrev pub single : ℕ → ℕ → ℕ → ℕ → ℕ
  single a a' b b' = 2 * L + (d a b + d a' b') - d a a' - d b b'

  pub one-pairing : (s : ℕ → ℕ)
      → shifted L d n s ≡ least_on n s 0 (4 * L) (λ a. least_on n s 0 (4 * L) (λ a'. least_on n s 1 (4 * L) (λ b. least_on n s 1 (4 * L) (λ b'. single a a' b b'))))
  one-pairing s =
      le_antisymm
      (le_least_on s 0 (4 * L) _ n (shifted L d n s) (shifted_cap L d n s) (λ a ha. le_least_on s 0 (4 * L) _ n (shifted L d n s) (shifted_cap L d n s) (λ a' ha'.
      le_least_on s 1 (4 * L) _ n (shifted L d n s) (shifted_cap L d n s) (λ b hb. le_least_on s 1 (4 * L) _ n (shifted L d n s) (shifted_cap L d n s) (λ b' hb'.
      omega (arith, shifted_le L d n s ha ha' hb hb'))))))
      (le_shifted L d n s _ (least_on_cap s 0 (4 * L) _ n) (λ a a' b b' ha ha' hb hb'.
      pair _ (2 * L) (d a b + d a' b') (d a b' + d a' b) (d a a') (d b b') (d b' b) (below s a a' b b' ha ha' hb hb') (below s a a' b' b ha ha' hb' hb)
      (c.same hb.0 hb'.0)))
    where
      pair : (v l x y z u w : ℕ) → v ≤ l + x - z - u → v ≤ l + y - z - w → u ≡ w → v ≤ l + min x y - z - u
      pair v l x y z u w p q e =
          cases (leb x y)
          (λ t. let m : min x y ≡ x = omega (arith, leb-true x y t) in rw m p)
          (λ t. let m : min x y ≡ y = omega (arith, leb-false x y t) in rw (m, e) q)

      below : (s : ℕ → ℕ) (a a' b b' : ℕ) → On n s 0 a → On n s 0 a' → On n s 1 b → On n s 1 b'
          → least_on n s 0 (4 * L) (λ a. least_on n s 0 (4 * L) (λ a'. least_on n s 1 (4 * L) (λ b. least_on n s 1 (4 * L) (λ b'. single a a' b b'))))
          ≤ single a a' b b'
      below s a a' b b' ha ha' hb hb' =
          le_trans
          (least_on_le s 0 (4 * L) (λ a. least_on n s 0 (4 * L) (λ a'. least_on n s 1 (4 * L) (λ b. least_on n s 1 (4 * L) (λ b'. single a a' b b')))) n a ha)
          (le_trans (least_on_le s 0 (4 * L) (λ a'. least_on n s 1 (4 * L) (λ b. least_on n s 1 (4 * L) (λ b'. single a a' b b'))) n a' ha')
          (le_trans (least_on_le s 1 (4 * L) (λ b. least_on n s 1 (4 * L) (λ b'. single a a' b b')) n b hb)
          (least_on_le s 1 (4 * L) (λ b'. single a a' b b') n b' hb')))
