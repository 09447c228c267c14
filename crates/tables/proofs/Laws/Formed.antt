-- The checks 1, 2, 4, 5, 6, 20 pass exactly for the cost tables of document 02. Assumes nothing.
use Rattle.std.specs.Prelude.{not, List, ◌↔◌, ◌≡◌, ℕ, ◌*◌, ◌<◌, eqb, ltb, length, Ok}
use Rattle.std.proofs.Common.{ap, sym, ◌∙◌, arith, eq-eqb, eqb-true, le-ltb, ltb-false, ltb-true}
use Rattle.std.proofs.lemmas.Bool.{eqb-false, not-false}
use borrow.Table.Steps.{cases}
use Rattle.ground.specs.Lowest.{check_all}
use Rattle.ground.specs.Laws.Lowest.{all-passed, passed-all}
use Rattle.ground.specs.Refusals.{◌then◌}
use Rattle.ground.specs.Laws.Refusals.{refuse_if-passed, then_passed}
use Rattle.theory.specs.Checks.{images_check}
use Rattle.theory.specs.Laws.Checks.{images-passed}
use Rattle.theory.specs.Tables.{CostTable, WellFormed, cost}
use Rattle.tables.specs.Checks.{costs_check, diagonal_check, entries_check, entry_check, least_check, length_check, mirror_check, off_diagonal_check, size_check, symmetry_check, zero_check}
use Rattle.tables.proofs.Laws.Pairs.{pairs_passed, passed_pairs}
use Rattle.tables.specs.Formed.{Sized}

pub size-passed : (n : ℕ) (t : List ℕ) → size_check n t ≡ Ok tt → Sized n t
size-passed n t e =
    let p = then_passed (images_check n) (length_check n t) e in
    let q = images-passed n p.0 in
    record {
      some = q.0;
      few = q.1;
      sized = eqb-true (length t) (n * n) (not-false (eqb (length t) (n * n)) (refuse_if-passed (not (eqb (length t) (n * n))) _ p.1));
    }

pub passed-size : (n : ℕ) (t : List ℕ) → Sized n t → size_check n t ≡ Ok tt
passed-size n t s = rw (le-ltb n 3 s.some, le-ltb 64 n s.few, eq-eqb (length t) (n * n) s.sized)

-- ## 4, 5, 6 and 20

module _ (d : ℕ → ℕ → ℕ) (n : ℕ) where
  mirrored : symmetry_check d n ≡ Ok tt → (i j : ℕ) → i < n → j < n → d i j ≡ d j i
  mirrored e i j hi hj =
      cases (ltb i j) (λ t. upper i j (ltb-true i j t) hj)
      (λ t. cases (eqb i j) (λ u. let s = eqb-true i j u in ap (λ (x : ℕ). d x j) s ∙ ap (d j) (sym s))
      (λ u. sym (upper j i (omega (arith, ltb-false i j t, eqb-false i j u)) hi)))
    where
      upper : (i j : ℕ) → i < j → j < n → d i j ≡ d j i
      upper i j l hj =
          let m = pairs_passed (mirror_check d) n e i j l hj in
          eqb-true (d i j) (d j i) (not-false (eqb (d i j) (d j i)) (refuse_if-passed (not (eqb (d i j) (d j i))) _ m))

  -- 20, of any numbers
  pub off_diagonal_passed : off_diagonal_check d n ≡ Ok tt → (i j : ℕ) → i < j → j < n → 0 < d i j
  off_diagonal_passed e i j l hj = ltb-false (d i j) 1 (refuse_if-passed (ltb (d i j) 1) _ (pairs_passed (least_check 1 d) n e i j l hj))

  pub passed_off_diagonal : ((i j : ℕ) → i < j → j < n → 0 < d i j) → off_diagonal_check d n ≡ Ok tt
  passed_off_diagonal h = passed_pairs (least_check 1 d) n (λ i j l k. rw (le-ltb (d i j) 1 (h i j l k)))

module _ (L : ℕ) (d : ℕ → ℕ → ℕ) (n : ℕ) where
  pub costs-passed : costs_check L d n ≡ Ok tt → WellFormed L d n
  costs-passed e =
      let p = then_passed (entries_check L d n) (diagonal_check d n then symmetry_check d n then off_diagonal_check d n) e in
      let q = then_passed (diagonal_check d n) (symmetry_check d n then off_diagonal_check d n) p.1 in
      let r = then_passed (symmetry_check d n) (off_diagonal_check d n) q.1 in
      let above = off_diagonal_passed d n r.1 in
      record {
        small = λ {i} {j} hi hj.
            let r = all-passed (λ i. check_all (entry_check L d i) 0 n) 0 n p.0 i (omega arith) (omega arith) in
            ltb-false L (d i j) (refuse_if-passed (ltb L (d i j)) _ (all-passed (entry_check L d i) 0 n r j (omega arith) (omega arith)));
        self =
            λ {i} hi. omega
            (arith, ltb-false 0 (d i i) (refuse_if-passed (ltb 0 (d i i)) _ (all-passed (zero_check d) 0 n q.0 i (omega arith) (omega arith))));
        same = λ {i} {j} hi hj. mirrored d n r.0 i j hi hj;
        nonzero = λ {i} {j} hi hj h. cases (ltb i j) (λ t. above i j (ltb-true i j t) hj)
            (λ t. omega (arith, mirrored d n r.0 i j hi hj, above j i (let u = ltb-false i j t in omega (arith, h)) hi));
      }

  pub passed-costs : WellFormed L d n → costs_check L d n ≡ Ok tt
  passed-costs c =
      rw (
        passed-all (λ i. check_all (entry_check L d i) 0 n) 0 n
            (λ i l h. passed-all (entry_check L d i) 0 n (λ j m u. rw (le-ltb L (d i j) (c.small (omega arith) (omega arith))))),
        passed-all (zero_check d) 0 n (λ i l h. rw (le-ltb 0 (d i i) (omega (arith, c.self {i = i} (omega arith))))),
        passed_pairs (mirror_check d) n (λ i j l k. rw (eq-eqb (d i j) (d j i) (c.same (omega arith) (omega arith)))),
      )
      (passed_off_diagonal d n (λ i j l k. c.nonzero (omega arith) k (λ e. omega arith)))

-- ## Together

-- the checks pass exactly when t is a cost table
pub cost-table : (L n : ℕ) (t : List ℕ) → ((size_check n t then costs_check L (cost t n) n) ≡ Ok tt) ↔ CostTable L n t
cost-table L n t = (
  λ e.
      let p = then_passed (size_check n t) (costs_check L (cost t n) n) e in
      let s = size-passed n t p.0 in
      record { some = s.some; few = s.few; sized = s.sized; formed = costs-passed L (cost t n) n p.1 },
  λ c.
      rw (passed-size n t (record { some = c.some; few = c.few; sized = c.sized })) (passed-costs L (cost t n) n c.formed),
)
