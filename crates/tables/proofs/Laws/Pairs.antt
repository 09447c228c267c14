-- What the checks of all pairs say, and two checks of each pair by one pass. Assumes nothing.
use Rattle.std.proofs.Common.{sym, ◌∙◌, arith, le-ltb}
use Rattle.std.specs.Prelude.{◌≡◌, ℕ, ◌+◌, ◌-◌, ◌<◌, Ok, Err}
use Rattle.ground.specs.InOrder.{Only}
use Rattle.ground.specs.Lowest.{check_all}
use Rattle.ground.specs.Laws.InOrder.{all_only}
use Rattle.ground.specs.Laws.Lowest.{all_agree, all-passed, all-refused, passed-all}
use Rattle.ground.specs.Refusals.{◌then◌, Check}
use Rattle.ground.specs.Laws.Refusals.{then_goes, then_none, then_passed, then_stops}
use Rattle.ground.specs.declared.Refusal.{Refusal}
use Rattle.tables.specs.Checks.{least_check}
use Rattle.tables.specs.Pairs.{LowestPair, pairs_check}

module _ (c : ℕ → ℕ → Check) (n : ℕ) where
  pub pairs_passed : pairs_check c n ≡ Ok tt → (i j : ℕ) → i < j → j < n → c i j ≡ Ok tt
  pairs_passed e i j h k =
      let r = all-passed (λ i. check_all (c i) (i + 1) (n - (i + 1))) 0 n e i (omega arith) (omega arith) in
      all-passed (c i) (i + 1) (n - (i + 1)) r j (omega arith) (omega arith)

  pub passed_pairs : ((i j : ℕ) → i < j → j < n → c i j ≡ Ok tt) → pairs_check c n ≡ Ok tt
  passed_pairs h =
      passed-all (λ i. check_all (c i) (i + 1) (n - (i + 1))) 0 n
      (λ i l u. passed-all (c i) (i + 1) (n - (i + 1)) (λ j m v. h i j (omega arith) (omega arith)))

  pub pairs_refused : (r : Refusal) → pairs_check c n ≡ Err r → LowestPair c n r
  pairs_refused r e =
      let i = all-refused (λ i. check_all (c i) (i + 1) (n - (i + 1))) 0 n r e in
      let j = all-refused (c i.place) (i.place + 1) (n - (i.place + 1)) r i.refused in
      record {
        row = i.place;
        column = j.place;
        above = omega (arith, j.least);
        within = omega (arith, j.least, j.most);
        refused = j.refused;
        rows_before = λ x y h l k. all-passed (c x) (x + 1) (n - (x + 1)) (i.below x (omega arith) h) y (omega arith) (omega arith);
        columns_before = λ y l k. j.below y (omega arith) k;
      }

  pub pairs_only : (k : ℕ) → ((i j : ℕ) → Only k (c i j)) → Only k (pairs_check c n)
  pairs_only k h = all_only k (λ i. check_all (c i) (i + 1) (n - (i + 1))) 0 n (λ i. all_only k (c i) (i + 1) (n - (i + 1)) (h i))

-- checks that agree at each pair
pub pairs_agree : (b c : ℕ → ℕ → Check) (n : ℕ) → ((i j : ℕ) → i < j → j < n → b i j ≡ c i j) → pairs_check b n ≡ pairs_check c n
pairs_agree b c n h =
    all_agree (λ i. check_all (b i) (i + 1) (n - (i + 1))) (λ i. check_all (c i) (i + 1) (n - (i + 1))) 0 n
    (λ i l u. all_agree (b i) (c i) (i + 1) (n - (i + 1)) (λ j m v. h i j (omega arith) (omega arith)))

-- ## Two checks, b and c, of each pair by one pass, where b comes first at all pairs

module _ (b c : ℕ → ℕ → Check) (n : ℕ) where
  abbrev both : Check
  both = pairs_check (λ i j. b i j then c i j) n

  abbrev apart : Check
  apart = pairs_check b n then pairs_check c n

  -- the pass found nothing: neither check does
  pub pass_clean : {x : Check} → x ≡ Ok tt → x ≡ both → x ≡ apart
  pass_clean p e =
      let each : (i j : ℕ) → i < j → j < n → (b i j ≡ Ok tt) × (c i j ≡ Ok tt) = λ i j h k.
      then_passed (b i j) (c i j) (pairs_passed (λ i j. b i j then c i j) n (sym e ∙ p) i j h k) in
      p ∙ sym (rw (passed_pairs b n (λ i j h k. (each i j h k).0)) (passed_pairs c n (λ i j h k. (each i j h k).1)))

  -- it found something, and so does b alone: that is the answer
  pub pass_first : {y : Check} {r : Refusal} → y ≡ Err r → y ≡ pairs_check b n → y ≡ apart
  pass_first p e = then_stops (pairs_check b n) (pairs_check c n) p e

  -- it found something, and b alone does not: what it found is what c refuses
  pub pass_second : {x y : Check} → y ≡ Ok tt → y ≡ pairs_check b n → x ≡ both → x ≡ apart
  pass_second p e q =
      then_goes (pairs_check b n) (pairs_check c n) p e
      (q ∙ pairs_agree (λ i j. b i j then c i j) c n (λ i j h k. rw (pairs_passed b n (sym e ∙ p) i j h k)))

-- a pass that asks for b and for no more than the least 0 is one of b alone
pub pass_alone : (b : ℕ → ℕ → Check) (d : ℕ → ℕ → ℕ) (n : ℕ) → pairs_check (λ i j. b i j then least_check 0 d i j) n ≡ pairs_check b n
pass_alone b d n =
    pairs_agree (λ i j. b i j then least_check 0 d i j) b n (λ i j l k. then_none (b i j) (least_check 0 d i j) (rw (le-ltb (d i j) 0 (omega arith))))
