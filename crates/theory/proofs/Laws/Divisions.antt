-- What is known of a division whose index is at least v: fewer images (I3), no crossing (C1), the gap law, the step of the order (O2).
-- Assumes nothing.
use Rattle.std.proofs.Common.{sym, ◌∙◌, arith}
use Rattle.std.specs.Prelude.{◌≡◌, ℕ, ◌+◌, ◌<◌, ◌≤◌}
use Rattle.ground.specs.Least.{On}
use Rattle.theory.specs.FourPoint.{FourPoint}
use Rattle.theory.specs.Index.{AtLeast}
use Rattle.theory.proofs.Laws.FourPoint.{four_low}
use Rattle.theory.specs.Tables.{WellFormed}

-- I3. A division keeps its index, or gains, on fewer images.
pub at_least_less : (d : ℕ → ℕ → ℕ) (m n : ℕ) (s t : ℕ → ℕ) (v : ℕ) → m ≤ n → ((a : ℕ) → a < m → s a ≡ t a) → AtLeast d n t v → AtLeast d m s v
at_least_less d m n s t v h e p = record { low = λ ha ha' hb hb'. p.low (up ha) (up ha') (up hb) (up hb') }
  where
    up : {g a : ℕ} → On m s g a → On n t g a
    up {a = a} o = (omega arith, sym (e a o.0) ∙ o.1)

-- C1. Two divisions of index at least 1 do not cross.
pub crossing : (d : ℕ → ℕ → ℕ) (n : ℕ) (s t : ℕ → ℕ) → AtLeast d n s 1 → AtLeast d n t 1
    → {w x y z : ℕ} → w < n → x < n → y < n → z < n
    → s w ≡ 0 → t w ≡ 0 → s x ≡ 0 → t x ≡ 1 → s y ≡ 1 → t y ≡ 0 → s z ≡ 1 → t z ≡ 1 → ⊥
crossing d n s t p q hw hx hy hz sw tw sx tx sy ty sz tz =
    omega (arith, p.low (hw, sw) (hx, sx) (hy, sy) (hz, sz), q.low (hw, tw) (hy, ty) (hx, tx) (hz, tz))

-- The gap law: with a and a' both g before b and b', as seen from i and j.
module _ (L : ℕ) (d : ℕ → ℕ → ℕ) (n : ℕ) (c : WellFormed L d n) (fp : FourPoint d n) (i j : ℕ) (hi : i < n) (hj : j < n) where
  abbrev Before : ℕ → ℕ → ℕ → Type 0
  Before g a b = g + d i a + d j b ≤ d i b + d j a

  pub gap : (g a a' b b' : ℕ) → 1 ≤ g → a < n → a' < n → b < n → b' < n
      → Before g a b → Before g a b' → Before g a' b → Before g a' b' → g + d a a' + d b b' ≤ d a b + d a' b'
  gap g a a' b b' hg ha ha' hb hb' p q r s =
      omega (
        arith,
        four_low fp hi hb hj ha,
        four_low fp hi hb' hj ha',
        four_low fp hi hj ha ha',
        four_low fp hi hj hb hb',
        c.same hb hj,
        c.same hb ha,
        c.same hb' hj,
        c.same hb' ha',
      )

-- O2, the step: an image u that is least for d x u - d f u, among some with one on x's side, is on x's side, which is not f's.
module _ (L : ℕ) (d : ℕ → ℕ → ℕ) (n : ℕ) (s : ℕ → ℕ) (c : WellFormed L d n) (p : AtLeast d n s 1) where
  pub stay_far : {f x w u : ℕ} → On n s 0 f → On n s 1 x → On n s 1 w → On n s 0 u → d x u + d f w ≤ d x w + d f u → ⊥
  stay_far hf hx hw hu l = omega (arith, p.low hf hu hw hx, c.same hx.0 hw.0, c.same hx.0 hu.0)

  pub stay_near : {f x w u : ℕ} → On n s 1 f → On n s 0 x → On n s 0 w → On n s 1 u → d x u + d f w ≤ d x w + d f u → ⊥
  stay_near hf hx hw hu l = omega (arith, p.low hx hw hu hf, c.same hf.0 hw.0, c.same hf.0 hu.0)
