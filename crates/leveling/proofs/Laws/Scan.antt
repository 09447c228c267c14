-- The scan for refusal 21 finds the first of all threes that fail. Assumes nothing.
use Rattle.std.specs.Prelude.{Bool, List, [], map, ◌++◌, ◌∷◌, ◌≡◌, Ok}
use Rattle.std.proofs.Math.Path.{refl}
use Rattle.std.proofs.Common.{sym, ◌∙◌, arith}
use Prim.Native.Nat.{suc, zero, ℕ, ◌+◌, ◌-◌, ◌<◌}
use borrow.Table.Steps.{cases}
use Rattle.ground.specs.Filters.{filter}
use Rattle.ground.specs.Laws.Filters.{filter-append}
use Rattle.ground.specs.Lowest.{check_all}
use Rattle.ground.specs.Laws.Lowest.{all_ends, all_goes, all_same, all_stops, passed-all}
use Rattle.ground.specs.Ranges.{from, gather}
use Rattle.ground.specs.Refusals.{◌then◌}
use Rattle.theory.specs.Tables.{WellFormed, limit}
use Rattle.tables.specs.Entries.{costs_in}
use Rattle.tables.specs.declared.costs.Costs.{Costs}
use Rattle.leveling.specs.Check.{first_three, levels_check}
use Rattle.leveling.proofs.Laws.Sorted.{first_two, last_two}
use Rattle.leveling.specs.Scan.{last_scan, second_scan, three_check}
use Rattle.leveling.specs.ThreePoint.{Three, fails, three, threes₁, threes₂}

first-append : (l r : List Three) → first_three (l ++ r) ≡ (first_three l then first_three r)
first-append [] r = refl
first-append (q ∷ l) r = refl

pub first-passed : (l : List Three) → first_three l ≡ Ok tt → l ≡ []
first-passed [] e = refl
first-passed (q ∷ l) e = absurd (let z : ◌≡◌ {A = ℕ} 0 1 = cc in omega arith)

module _ (p : Three → Bool) where
  first-gather : (g : ℕ → List Three) (i m : ℕ) → first_three (filter p (gather (from i m) g)) ≡ check_all (λ k. first_three (filter p (g k))) i m
  unfolding check_all
  first-gather g i zero = refl
  first-gather g i (suc m) =
      rw (filter-append p (g i) (gather (from (suc i) m) g), first-append (filter p (g i)), first-gather g (suc i) m)

  first-map : (g : ℕ → Three) (i m : ℕ) → first_three (filter p (map g (from i m))) ≡ check_all (λ k. first_three (filter p (g k ∷ []))) i m
  unfolding check_all
  first-map g i zero = refl
  first-map g i (suc m) = let ih = first-map g (suc i) m in cases (p (g i)) (λ e. rw e) (λ e. rw e ih)

module _ (d : ℕ → ℕ → ℕ) (n : ℕ) where
  one-three : (i j k : ℕ) → first_three (filter (fails d) (three i j k ∷ [])) ≡ three_check d i j k
  one-three i j k = cases (fails d (three i j k)) (λ e. rw e) (λ e. rw e)

  last_is : (i j : ℕ) → first_three (filter (fails d) (threes₂ n i j)) ≡ last_scan d n i j
  unfolding last_scan
  last_is i j = first-map (fails d) (three i j) j (n - j) ∙ all_same _ (three_check d i j) j (n - j) (one-three i j)

  second_is : (i : ℕ) → first_three (filter (fails d) (threes₁ n i)) ≡ second_scan d n i
  unfolding second_scan
  second_is i = first-gather (fails d) (threes₂ n i) i (n - i) ∙ all_same _ (last_scan d n i) i (n - i) (last_is i)

  -- the whole check, as one after another in dictionary order
  pub levels_scan : levels_check d n ≡ check_all (second_scan d n) 0 n
  levels_scan = first-gather (fails d) (threes₁ n) 0 n ∙ all_same _ (second_scan d n) 0 n second_is

-- a repeat never fails, so each scan may begin behind its last image
module _ (L : ℕ) (d : ℕ → ℕ → ℕ) (n : ℕ) (c : WellFormed L d n) where
  pub last_behind : (i j : ℕ) → j < n → last_scan d n i j ≡ check_all (three_check d i j) (j + 1) (n - (j + 1))
  unfolding last_scan
  last_behind i j h = all_goes (three_check d i j) j n h refl refl (rw (last_two L d n c i j h))

  pub second-behind : (i : ℕ) → i < n → second_scan d n i ≡ check_all (last_scan d n i) (i + 1) (n - (i + 1))
  unfolding second_scan last_scan
  second-behind i h =
      all_goes (last_scan d n i) i n h refl refl (sym (passed-all (three_check d i i) i (n - i) (λ k l m. rw (first_two L d n c i k h))))

module _ (t : Costs) where
  pub last_begins : (i j : ℕ) → j < t.n → last_scan (costs_in t) t.n i j ≡ check_all (three_check (costs_in t) i j) (j + 1) (t.n - (j + 1))
  last_begins i j h = last_behind limit (costs_in t) t.n t.formed.formed i j h

  pub second_begins : (i : ℕ) → i < t.n → second_scan (costs_in t) t.n i ≡ check_all (last_scan (costs_in t) t.n i) (i + 1) (t.n - (i + 1))
  second_begins i h = second-behind limit (costs_in t) t.n t.formed.formed i h

-- what the scans name
pub ruleset last_in_turn = (all_goes, all_stops, all_ends, last_begins)

pub ruleset second_in_turn = (all_goes, all_stops, all_ends, second_begins)
