-- Every image can be grafted exactly where the four-point condition holds: in any order of document 001, and so in that of the order
-- call. Assumes nothing.
use Rattle.std.specs.Prelude.{true, ◌↔◌, ◌≡◌, max, suc, ℕ, ◌+◌, ◌<◌, ◌≤◌}
use Rattle.std.proofs.Common.{ap₂, arith}
use Rattle.theory.specs.FourPoint.{FourPoint}
use Rattle.theory.proofs.Laws.FourPoint.{four_low, four_point_lem}
use Rattle.theory.specs.Tables.{WellFormed}
use Rattle.recognition.specs.Laws.Order.{around, order_places, order_yushmanov}
use Rattle.recognition.proofs.Laws.Facts.{facts_graft, graft_facts}
use Rattle.recognition.specs.Laws.Recognition.{condition_recognised, recognised_condition}
use Rattle.recognition.specs.Recognition.{Places, Yushmanov, all_graft, placed}

-- ## Images by their places

module _ (L : ℕ) (d : ℕ → ℕ → ℕ) (o : ℕ → ℕ) (n : ℕ) (w : Places o n) where
  pub placed_formed : WellFormed L d n → WellFormed L (placed d o) n
  placed_formed c = record {
    small = λ {i} {j} hi hj. c.small (w.range hi) (w.range hj);
    self = λ {i} hi. c.self (w.range hi);
    same = λ {i} {j} hi hj. c.same (w.range hi) (w.range hj);
    nonzero = λ {i} {j} hi hj h. c.nonzero (w.range hi) (w.range hj) (λ e. h (w.once hi hj e));
  }

  placed_condition : FourPoint d n → FourPoint (placed d o) n
  placed_condition fp = record { twice = λ {i} {j} {k} {l} hi hj hk hl. fp.twice (w.range hi) (w.range hj) (w.range hk) (w.range hl) }

  condition_placed : WellFormed L d n → FourPoint (placed d o) n → FourPoint d n
  condition_placed c fp = four_point_lem d n (λ i j hi hj. c.same hi hj) (record {
    low = λ {i} {j} {k} {l} hi hj hk hl. go i j k l (w.all i hi) (w.all j hj) (w.all k hk) (w.all l hl);
  })
    where
      Of : ℕ → Type 0
      Of x = (i : ℕ) × (i < n) × (o i ≡ x)

      go : (i j k l : ℕ) → Of i → Of j → Of k → Of l → d i j + d k l ≤ max (d i k + d j l) (d i l + d j k)
      go i j k l x y z u =
          omega (
            arith,
            four_low fp {i = x.0} {j = y.0} {k = z.0} {l = u.0} x.1 y.1 z.1 u.1,
            ap₂ d x.2 y.2,
            ap₂ d z.2 u.2,
            ap₂ d x.2 z.2,
            ap₂ d y.2 u.2,
            ap₂ d x.2 u.2,
            ap₂ d y.2 z.2,
          )

-- ## The condition

module _ (L : ℕ) (d : ℕ → ℕ → ℕ) (o : ℕ → ℕ) (k : ℕ) (c : WellFormed L d (suc (suc k))) (w : Places o (suc (suc k))) where
  formed : WellFormed L (placed d o) (suc (suc k))
  formed = placed_formed L d o (suc (suc k)) w c

  pub graft_condition : Yushmanov (placed d o) (suc k) → (all_graft (placed d o) (suc k) ≡ true) ↔ FourPoint d (suc (suc k))
  graft_condition y = (
    λ s. condition_placed L d o (suc (suc k)) w c (recognised_condition L (placed d o) (suc k) formed (graft_facts (placed d o) (suc k) s)),
    λ fp. facts_graft (placed d o) (suc k) (condition_recognised L (placed d o) (suc k) formed (placed_condition L d o (suc (suc k)) w fp) y),
  )

-- in the order from image 0 with the last image at the end
pub order_condition : (L : ℕ) (d : ℕ → ℕ → ℕ) (k : ℕ) → WellFormed L d (suc (suc k))
    → (all_graft (placed d (around d k)) (suc k) ≡ true) ↔ FourPoint d (suc (suc k))
order_condition L d k c = graft_condition L d (around d k) k c (order_places d k) (order_yushmanov d k)
