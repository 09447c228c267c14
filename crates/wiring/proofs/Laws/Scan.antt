-- The scan for refusal 7 looks at fours that begin with image 0 only, and finds the first of all fours that fail (Law G). Assumes nothing.
use Rattle.std.specs.Prelude.{Bool, List, [], map, ◌++◌, ◌∷◌, ◌≡◌, Ok, Err}
use Rattle.std.proofs.Common.{ap, sym, ◌∙◌, arith}
use Rattle.std.proofs.Math.Path.{refl}
use Prim.Native.Nat.{suc, zero, ℕ, ◌-◌, ◌<◌}
use borrow.Table.Steps.{cases}
use Rattle.ground.specs.Filters.{filter}
use Rattle.ground.specs.Laws.Filters.{filter-append}
use Rattle.ground.specs.Lowest.{check_all}
use Rattle.ground.specs.Laws.Lowest.{all_ends, all_goes, all_same, all_stops}
use Rattle.ground.specs.Ranges.{from, gather}
use Rattle.ground.specs.Refusals.{◌then◌, Check}
use Rattle.theory.specs.FourPoint.{Four, fails, four, fours₁, fours₂, fours₃}
use Rattle.theory.proofs.Laws.ImageOne.{image_one}
use Rattle.theory.proofs.Laws.Sorted.{none_failing}
use Rattle.theory.specs.Tables.{WellFormed, limit}
use Rattle.tables.specs.Entries.{costs_in}
use Rattle.tables.specs.declared.costs.Costs.{Costs}
use Rattle.wiring.specs.Check.{first_four, wiring_check}
use Rattle.wiring.specs.Scan.{four_check, last_scan, second_scan, third_scan}

-- ## The first of a list, as checks one after another

first-append : (l r : List Four) → first_four (l ++ r) ≡ (first_four l then first_four r)
first-append [] r = refl
first-append (q ∷ l) r = refl

pub first-passed : (l : List Four) → first_four l ≡ Ok tt → l ≡ []
first-passed [] e = refl
first-passed (q ∷ l) e = absurd (let z : ◌≡◌ {A = ℕ} 0 1 = cc in omega arith)

module _ (p : Four → Bool) where
  first-gather : (g : ℕ → List Four) (i m : ℕ) → first_four (filter p (gather (from i m) g)) ≡ check_all (λ k. first_four (filter p (g k))) i m
  unfolding check_all
  first-gather g i zero = refl
  first-gather g i (suc m) =
      rw (filter-append p (g i) (gather (from (suc i) m) g), first-append (filter p (g i)), first-gather g (suc i) m)

  first-map : (g : ℕ → Four) (i m : ℕ) → first_four (filter p (map g (from i m))) ≡ check_all (λ k. first_four (filter p (g k ∷ []))) i m
  unfolding check_all
  first-map g i zero = refl
  first-map g i (suc m) = let ih = first-map g (suc i) m in cases (p (g i)) (λ e. rw e) (λ e. rw e ih)

module _ (d : ℕ → ℕ → ℕ) (n : ℕ) where
  one-four : (i j k l : ℕ) → first_four (filter (fails d) (four i j k l ∷ [])) ≡ four_check d i j k l
  one-four i j k l = cases (fails d (four i j k l)) (λ e. rw e) (λ e. rw e)

  last_is : (i j k : ℕ) → first_four (filter (fails d) (fours₃ n i j k)) ≡ last_scan d n i j k
  unfolding last_scan
  last_is i j k = first-map (fails d) (four i j k) k (n - k) ∙ all_same _ (four_check d i j k) k (n - k) (one-four i j k)

  third_is : (i j : ℕ) → first_four (filter (fails d) (fours₂ n i j)) ≡ third_scan d n i j
  unfolding third_scan
  third_is i j = first-gather (fails d) (fours₃ n i j) j (n - j) ∙ all_same _ (last_scan d n i j) j (n - j) (last_is i j)

  second_is : (i : ℕ) → first_four (filter (fails d) (fours₁ n i)) ≡ second_scan d n i
  unfolding second_scan
  second_is i = first-gather (fails d) (fours₂ n i) i (n - i) ∙ all_same _ (third_scan d n i) i (n - i) (third_is i)

  -- the whole check, as one after another in dictionary order
  pub wiring_scan : wiring_check d n ≡ check_all (second_scan d n) 0 n
  wiring_scan = first-gather (fails d) (fours₁ n) 0 n ∙ all_same _ (second_scan d n) 0 n second_is

-- Where a four with image 0 in front fails, it is the first of all; and where none does, none fails at all.
pub scan_wiring : (L : ℕ) (d : ℕ → ℕ → ℕ) (n : ℕ) → WellFormed L d n → 0 < n → second_scan d n 0 ≡ wiring_check d n
scan_wiring L d zero c h = absurd (omega arith)
scan_wiring L d (suc k) c h = sym (second_is d (suc k) 0) ∙ go (first_four front) refl
  where
    front : List Four
    front = filter (fails d) (fours₁ (suc k) 0)

    rest : List Four
    rest = filter (fails d) (gather (from 1 k) (fours₁ (suc k)))

    whole : wiring_check d (suc k) ≡ (first_four front then first_four rest)
    whole = ap first_four (filter-append (fails d) (fours₁ (suc k) 0) (gather (from 1 k) (fours₁ (suc k)))) ∙ first-append front rest

    go : (x : Check) → first_four front ≡ x → first_four front ≡ wiring_check d (suc k)
    go (Err r) e = e ∙ sym (whole ∙ ap (λ y. y then first_four rest) e)
    go (Ok tt) e = e ∙ sym (ap first_four ((none_failing L d (suc k) c).1 (image_one L d (suc k) c (first-passed front e))))

-- The fours with image 0 in front decide for all.
pub decides : (t : Costs) → second_scan (costs_in t) t.n 0 ≡ wiring_check (costs_in t) t.n
decides t = scan_wiring limit (costs_in t) t.n t.formed.formed (omega (arith, t.formed.some))

-- what `check_wiring` names
pub ruleset in_turn_decided = (all_goes, all_stops, all_ends, decides)
