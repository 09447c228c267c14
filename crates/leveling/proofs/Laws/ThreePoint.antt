-- The three-point condition as one inequality, and that it contains the four-point condition. Assumes nothing.
use Rattle.std.specs.Prelude.{max, ℕ, ◌+◌, ◌<◌, ◌≤◌, leb}
use Rattle.std.proofs.Common.{arith, leb-false, leb-true}
use borrow.Table.Steps.{cases}
use Rattle.theory.specs.FourPoint.{FourPoint}
use Rattle.theory.proofs.Laws.FourPoint.{above_none, four_point_lem, none_above}
use Rattle.theory.specs.Tables.{WellFormed}
use Rattle.leveling.specs.ThreePoint.{ThreePoint}

-- no entry is above both others
pub low : {d : ℕ → ℕ → ℕ} {n : ℕ} → ThreePoint d n → {i j k : ℕ} → i < n → j < n → k < n → d i j ≤ max (d i k) (d j k)
low t hi hj hk = none_above _ _ _ (t.twice hi hj hk)

-- the condition from its ≤ form
pub record NoneAbove (d : ℕ → ℕ → ℕ) (n : ℕ) : Type 0 where
  pub low : {i j k : ℕ} → i < n → j < n → k < n → d i j ≤ max (d i k) (d j k)

pub three_point : (L : ℕ) (d : ℕ → ℕ → ℕ) (n : ℕ) → WellFormed L d n → NoneAbove d n → ThreePoint d n
three_point L d n c p = record {
  twice = λ {i} {j} {k} hi hj hk.
      above_none _ _ _ (p.low hi hj hk)
      (omega (arith, p.low hi hk hj, c.same hk hj))
      (omega (arith, p.low hj hk hi, c.same hj hi, c.same hk hi));
}

-- two pairs, the larger entry first: each end of it has an entry as large to either end of the other
wider : (x y a b a' b' : ℕ) → y ≤ x → x ≤ max a b' → x ≤ max a' b → y ≤ max a a' → y ≤ max b b' → x + y ≤ max (a + b) (a' + b')
wider x y a b a' b' h p q r s =
    cases (leb x a)
    (λ e. cases (leb x b) (λ f. omega (arith, leb-true x a e, leb-true x b f)) (λ f. omega (arith, leb-true x a e, leb-false x b f)))
    (λ e. omega (arith, leb-false x a e))

-- every table with levels has a wiring
pub four : (L : ℕ) (d : ℕ → ℕ → ℕ) (n : ℕ) → WellFormed L d n → ThreePoint d n → FourPoint d n
four L d n c t = four_point_lem d n (λ i j hi hj. c.same hi hj) (record { low = λ {i} {j} {k} {l} hi hj hk hl. go hi hj hk hl })
  where
    go : {i j k l : ℕ} → i < n → j < n → k < n → l < n → d i j + d k l ≤ max (d i k + d j l) (d i l + d j k)
    go {i} {j} {k} {l} hi hj hk hl =
        cases (leb (d k l) (d i j))
        (λ e. wider (d i j) (d k l) (d i k) (d j l) (d i l) (d j k) (leb-true (d k l) (d i j) e)
        (low t hi hj hk) (low t hi hj hl) (omega (arith, low t hk hl hi, c.same hk hi, c.same hl hi))
        (omega (arith, low t hk hl hj, c.same hk hj, c.same hl hj)))
        (λ e. omega (
          arith,
          wider (d k l) (d i j) (d i k) (d j l) (d j k) (d i l) (omega (arith, leb-false (d k l) (d i j) e))
              (omega (arith, low t hk hl hi, c.same hk hi, c.same hl hi)) (omega (arith, low t hk hl hj, c.same hk hj, c.same hl hj))
              (low t hi hj hk) (omega (arith, low t hi hj hl)),
        ))
