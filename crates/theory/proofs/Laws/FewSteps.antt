-- Law I4 in k * k steps: for each b' first the least over b, then the least over a.
-- Assumes nothing.
use Rattle.std.specs.Prelude.{◌≡◌}
use Prim.Native.Nat.{suc, ℕ, ◌*◌, ◌+◌, ◌-◌, ◌<◌, ◌≤◌}
use Rattle.std.proofs.Math.Nat.{le_antisymm, le_trans}
use native.Mathlib.Omega.{arith}
use Rattle.ground.specs.Least.{On}
use Rattle.ground.specs.Laws.Least.{le_least_on, least_on_cap, least_on_le}
use Rattle.theory.proofs.Laws.OneMore.{brought_cap, brought_le, le_brought}
use Rattle.theory.specs.Tables.{WellFormed}
use Rattle.theory.specs.OneMore.{brought, brought_fast, brought_near, brought_side}

module _ (L : ℕ) (d : ℕ → ℕ → ℕ) (k : ℕ) (s : ℕ → ℕ) (c : WellFormed L d (suc k)) (two : s k < 2) where
  near_le : (b b' : ℕ) → On k s (1 - s k) b → brought_near L d k s b' ≤ L + d k b - d b b'
  unfolding brought_near
  near_le b b' hb = least_on_le s (1 - s k) (4 * L) _ k b hb

  le_near : (v b' : ℕ) → v ≤ 4 * L → ((b : ℕ) → On k s (1 - s k) b → v ≤ L + d k b - d b b') → v ≤ brought_near L d k s b'
  unfolding brought_near
  le_near v b' h p = le_least_on s (1 - s k) (4 * L) _ k v h p

  pub brought_fast_lem : brought_fast L d k s ≡ brought L d k s
  unfolding brought_fast brought_side
  brought_fast_lem =
      le_antisymm
      (le_brought L d k s _ (least_on_cap s (1 - s k) (4 * L) _ k) (λ a b b' ha hb hb'.
      let x : b < suc k = omega arith in
      let y : b' < suc k = omega arith in
      le_trans (le_trans (least_on_le s (1 - s k) (4 * L) _ k b' hb') (least_on_le s (s k) (4 * L) _ (suc k) a ha))
      (omega (arith, near_le b b' hb, c.small x y, c.small {i = k} {j = a} (omega arith) ha.0))))
      (le_least_on s (1 - s k) (4 * L) _ k (brought L d k s) (brought_cap L d k s)
      (λ b' hb'. le_least_on s (s k) (4 * L) _ (suc k) (brought L d k s) (brought_cap L d k s) (λ a ha.
      let r = le_near (brought L d k s - (L + d a b' - d k a)) b' (omega (arith, brought_cap L d k s)) (λ b hb.
      let x : b < suc k = omega arith in
      let y : b' < suc k = omega arith in
      omega (arith, brought_le L d k s {a = a} {b = b} {b' = b'} ha hb hb', c.small x y, c.small {i = k} {j = a} (omega arith) ha.0)) in
      omega arith)))
