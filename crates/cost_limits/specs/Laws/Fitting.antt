-- Cost tables within a form's limit: 17 is the answer exactly for the others. Assumes nothing.
use Rattle.std.specs.Prelude.{List, ◌≡◌, ℕ, ◌<◌, ◌≤◌, eqb, ltb, Ok}
use Rattle.std.proofs.Common.{ap, ◌∙◌, arith, eqb-true, le-ltb, ltb-false, ltb-true}
use Rattle.std.proofs.lemmas.Bool.{eqb-false}
use borrow.Table.Steps.{cases}
use Rattle.ground.specs.Refusals.{◌then◌}
use Rattle.ground.specs.Laws.Refusals.{refuse_if-passed}
use Rattle.theory.specs.Tables.{CostTable, cost, limit}
use Rattle.theory.specs.Laws.Limits.{table_wide}
use Rattle.tables.proofs.Laws.Formed.{cost-table}
use Rattle.tables.proofs.Laws.Pairs.{pairs_passed, passed_pairs}
use Rattle.cost_limits.specs.Checks.{fit_check, large_check, table_checks}

module _ (L : ℕ) (d : ℕ → ℕ → ℕ) (n : ℕ) where
  fit_passed : fit_check L d n ≡ Ok tt → (i j : ℕ) → i < j → j < n → d i j ≤ L
  fit_passed e i j h k =
      ltb-false L (d i j) (refuse_if-passed (ltb L (d i j)) _ (pairs_passed (large_check L d) n e i j h k))

  pub passed_fit : ((i j : ℕ) → i < n → j < n → d i j ≤ L) → fit_check L d n ≡ Ok tt
  passed_fit h = passed_pairs (large_check L d) n (λ i j l k. rw (le-ltb L (d i j) (h i j (omega arith) (omega arith))))

module _ (L M n : ℕ) (t : List ℕ) where
  -- a limit allows the tables whose entries right of the diagonal are within it
  pub table-narrow : CostTable M n t → fit_check L (cost t n) n ≡ Ok tt → CostTable L n t
  table-narrow c e = record {
    some = c.some;
    few = c.few;
    sized = c.sized;
    formed = record { small = λ {i} {j} hi hj. small i j hi hj; self = c.formed.self; same = c.formed.same; nonzero = c.formed.nonzero };
  }
    where
      small : (i j : ℕ) → i < n → j < n → cost t n i j ≤ L
      small i j hi hj =
          cases (ltb i j) (λ h. fit_passed L (cost t n) n e i j (ltb-true i j h) hj)
          (λ h. cases (eqb i j)
          (λ q. let z : cost t n i j ≡ 0 = ap (λ (x : ℕ). cost t n x j) (eqb-true i j q) ∙ c.formed.self {i = j} hj in omega (arith, z))
          (λ q. omega (
            arith,
            c.formed.same {i = i} {j = j} hi hj,
            fit_passed L (cost t n) n e j i (omega (arith, ltb-false i j h, eqb-false i j q)) hi,
          )))

-- what passes under a lower limit passes under that of cost tables, and is within the lower one
pub passed_both : (L n : ℕ) (t : List ℕ) → L ≤ limit → table_checks L n t ≡ Ok tt → (table_checks limit n t then fit_check L (cost t n) n) ≡ Ok tt
passed_both L n t h e =
    let c = (cost-table L n t).0 e in
    rw ((cost-table limit n t).1 (table_wide L limit n t h c)) (passed_fit L (cost t n) n (λ i j hi hj. c.formed.small {i = i} {j = j} hi hj))
