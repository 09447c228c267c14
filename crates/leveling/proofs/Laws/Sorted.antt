-- The three-point condition over sorted threes: it holds exactly when none of them fails. Threes with image 0 in front do not decide it.
-- Assumes nothing.
use Rattle.std.specs.Prelude.{cond, false, true, ◌↔◌, refl, ◌≡◌, ℕ, ◌+◌, ◌-◌, ◌<◌, ◌≤◌, eqb, leb, ltb}
use Rattle.std.proofs.lemmas.Bool.{false≢true}
use mathlib.Core.List.{Memᴰ, []}
use Rattle.std.proofs.Common.{subst, sym, ◌∙◌, arith, le-ltb, leb-false, leb-true, ltb-false, ltb-true}
use borrow.Table.Steps.{cases}
use Rattle.ground.specs.Filters.{Each, filter}
use Rattle.ground.specs.Laws.Filters.{filter_none, none_in}
use Rattle.ground.specs.Laws.Maps.{map-mem, mem-map}
use Rattle.ground.specs.Ranges.{from}
use Rattle.ground.specs.Laws.Ranges.{from-mem, gather-mem, mem-from, mem-gather}
use Rattle.theory.specs.FourPoint.{times_largest}
use Rattle.theory.proofs.Laws.FourPoint.{above_none, largest-left, largest_right, largest_same}
use Rattle.theory.specs.Tables.{WellFormed}
use Rattle.leveling.specs.ThreePoint.{Three, ThreePoint, failing, fails, three, threes, threes₁, threes₂}

-- ## Which threes are listed

pub mem-threes : (n i j k : ℕ) → i ≤ j → j ≤ k → k < n → Memᴰ (three i j k) (threes n)
mem-threes n i j k p q h =
    mem-gather (threes₁ n) (mem-from 0 n i (omega arith) (omega arith))
    (mem-gather (threes₂ n i) (mem-from i (n - i) j p (omega arith)) (mem-map (three i j) (mem-from j (n - j) k q (omega arith))))

pub record Sorted (n : ℕ) (q : Three) : Type 0 where
  pub one : q.first ≤ q.second
  pub two : q.second ≤ q.third
  pub fits : q.third < n

pub threes-sorted : (n : ℕ) → Each (threes n) (Sorted n)
threes-sorted n q m =
    let a = gather-mem (threes₁ n) (from 0 n) q m in
    let b = gather-mem (threes₂ n a.0) (from a.0 (n - a.0)) q a.2 in
    let e = map-mem (three a.0 b.0) (from b.0 (n - b.0)) q b.2 in
    let ra = from-mem 0 n a.0 a.1 in
    let rb = from-mem a.0 (n - a.0) b.0 b.1 in
    let re = from-mem b.0 (n - b.0) e.0 e.2 in
    subst (Sorted n) (sym e.1) (record { one = rb.0; two = re.0; fits = omega arith })

-- ## What is unchanged by exchanging neighbours holds of all three once it holds of the sorted ones

abbrev Holds : (ℕ → ℕ → ℕ) → ℕ → ℕ → ℕ → ℕ → Type 0
Holds d n i j k = i < n → j < n → k < n → 2 ≤ times_largest (d i j) (d i k) (d j k)

module _ (L : ℕ) (d : ℕ → ℕ → ℕ) (n : ℕ) (c : WellFormed L d n) where
  front : (i j k : ℕ) → Holds d n i j k → Holds d n j i k
  front i j k p hj hi hk =
      largest_same (d i j) (d j k) (d i k) (d j i) (d j k) (d i k) (c.same hi hj) refl refl (largest_right (d i j) (d i k) (d j k) (p hi hj hk))

  back : (i j k : ℕ) → Holds d n i j k → Holds d n i k j
  back i j k p hi hk hj =
      largest_same (d i k) (d i j) (d j k) (d i k) (d i j) (d k j) refl refl (c.same hj hk) (largest-left (d i j) (d i k) (d j k) (p hi hj hk))

  module _ (h : (i j k : ℕ) → i ≤ j → j ≤ k → Holds d n i j k) where
    two : (i j k : ℕ) → i ≤ j → Holds d n i j k
    two i j k p =
        cases (leb j k) (λ a. h i j k p (leb-true j k a))
        (λ a. back i k j (cases (leb i k) (λ b. h i k j (leb-true i k b) (omega (arith, leb-false j k a)))
        (λ b. front k i j (h k i j (omega (arith, leb-false i k b)) p))))

    sorted_enough : (i j k : ℕ) → Holds d n i j k
    sorted_enough i j k = cases (leb i j) (λ a. two i j k (leb-true i j a)) (λ a. front j i k (two j i k (omega (arith, leb-false i j a))))

  -- The condition holds exactly when no sorted three fails.
  pub none_failing : (failing d n ≡ []) ↔ ThreePoint d n
  none_failing = (
    λ e. record { twice = λ {i} {j} {k} hi hj hk. sorted_enough (sorted e) i j k hi hj hk },
    λ t. filter_none (fails d) (threes n) (λ q m.
        let s = threes-sorted n q m in
        le-ltb _ 2 (t.twice {i = q.first} {j = q.second} {k = q.third} (omega (arith, s)) (omega (arith, s)) s.fits)),
  )
    where
      sorted : failing d n ≡ [] → (i j k : ℕ) → i ≤ j → j ≤ k → Holds d n i j k
      sorted e i j k p q hi hj hk = ltb-false _ 2 (none_in (fails d) (threes n) e (three i j k) (mem-threes n i j k p q hk))

  -- Repeats never fail: the first two images, the last two; so three images that fail are different.
  pub first_two : (i k : ℕ) → i < n → fails d (three i i k) ≡ false
  first_two i k hi = le-ltb _ 2 (above_none (d i i) (d i k) (d i k) (omega (arith, c.self hi)) (omega arith) (omega arith))

  pub last_two : (i j : ℕ) → j < n → fails d (three i j j) ≡ false
  last_two i j hj = le-ltb _ 2 (above_none (d i j) (d i j) (d j j) (omega arith) (omega arith) (omega (arith, c.self hj)))

  pub fail_apart : (i j k : ℕ) → i ≤ j → j ≤ k → k < n → fails d (three i j k) ≡ true → (i < j) × (j < k)
  fail_apart i j k p q hk e =
      cases (ltb i j)
      (λ a. cases (ltb j k) (λ b. (ltb-true i j a, ltb-true j k b))
      (λ b. let s : k ≡ j = omega (arith, ltb-false j k b) in absurd (false≢true (sym (last_two i j (omega arith)) ∙ rw s at e))))
      (λ a. let s : j ≡ i = omega (arith, ltb-false i j a) in absurd (false≢true (sym (first_two i k (omega arith)) ∙ rw s at e)))

-- ## Threes with image 0 in front do not decide: four images, all 5 away from image 0, and 1, 2, 3 among themselves

abbrev five : ℕ → ℕ → ℕ
five i j = cond (eqb i j) 0 (cond (eqb i 0) 5 (cond (eqb j 0) 5 (i + j - 2)))

pub image_one_not : (filter (fails five) (threes₁ 4 0) ≡ []) × (fails five (three 1 2 3) ≡ true)
image_one_not = (refl, refl)
