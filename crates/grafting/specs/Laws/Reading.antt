-- Where every image can be grafted, the grafted table is the exact reading. Assumes nothing.
use Rattle.std.specs.Prelude.{true, ◌≡◌, suc, zero, ℕ, ◌-◌, ◌≤◌}
use Rattle.std.proofs.Common.{ap, subst, sym, ◌∙◌, arith}
use Rattle.theory.specs.Readings.{Exact, measured}
use Rattle.theory.specs.Tables.{WellFormed}
use Rattle.recognition.proofs.Laws.Condition.{placed_formed}
use Rattle.recognition.proofs.Laws.Facts.{graft_facts}
use Rattle.recognition.specs.Recognition.{Places, all_graft, placed}
use Rattle.grafting.specs.Grafting.{grafted}
use Rattle.grafting.specs.Laws.Grafted.{grafted_exact, grafted-measured}

module _ (L : ℕ) (d : ℕ → ℕ → ℕ) (o : ℕ → ℕ) where
  pub graft_exact : (n : ℕ) → 3 ≤ n → WellFormed L d n → Places o n → all_graft (placed d o) (n - 1) ≡ true
      → Exact L d n (grafted (placed d o) o n (n - 1))
  graft_exact zero h c w s = absurd (omega arith)
  graft_exact (suc zero) h c w s = absurd (omega arith)
  graft_exact (suc (suc k)) h c w s =
      let q : suc (suc k) - 1 ≡ suc k = omega arith in
      subst (λ (m : ℕ). Exact L d (suc (suc k)) (grafted (placed d o) o (suc (suc k)) m)) (sym q)
      (grafted_exact L d o k (omega arith) w c (placed_formed L d o (suc (suc k)) w c) (graft_facts (placed d o) (suc k) (rw q at s)))

  -- as the first engine gives it
  pub graft_measured : (n : ℕ) → 3 ≤ n → WellFormed L d n → Places o n → all_graft (placed d o) (n - 1) ≡ true
      → grafted (placed d o) o n (n - 1) ≡ measured L d n
  graft_measured zero h c w s = absurd (omega arith)
  graft_measured (suc zero) h c w s = absurd (omega arith)
  graft_measured (suc (suc k)) h c w s =
      let q : suc (suc k) - 1 ≡ suc k = omega arith in
      ap (grafted (placed d o) o (suc (suc k))) q
      ∙ grafted-measured L d o k (omega arith) w c (placed_formed L d o (suc (suc k)) w c) (graft_facts (placed d o) (suc k) (rw q at s))
