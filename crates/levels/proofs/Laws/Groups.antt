-- The list of groups has exactly the groups, ascending; this needs a well-formed table only. Assumes nothing.
use Rattle.std.specs.Prelude.{Bool, false, not, true, ◌||◌, ◌↔◌, refl, ◌≡◌, ℕ, ◌+◌, ◌<◌, ◌^◌, ◌≤◌, eqb, leb}
use Rattle.std.proofs.lemmas.Bool.{false≢true}
use mathlib.Core.List.{Memᴰ}
use Rattle.std.proofs.Common.{ap, sym, ◌∙◌}
use native.Mathlib.Omega.{arith}
use Rattle.std.specs.Int.Count.{ones}
use borrow.Author.Tests.{eq-eqb, eqb-false, eqb-true, le-leb, leb-true}
use borrow.Table.Steps.{cases}
use Rattle.ground.specs.Ascending.{Between}
use Rattle.ground.specs.Laws.Ascending.{between_filter, from_between}
use Rattle.ground.specs.Bits.{bit}
use Rattle.ground.specs.Counts.{one_if}
use Rattle.ground.specs.Filters.{filter}
use Rattle.ground.specs.Laws.Filters.{filter-mem, mem-filter}
use Rattle.ground.specs.Laws.Ranges.{from-mem, mem-from}
use Rattle.ground.specs.Laws.Tests.{and_l, and_r, or_r}
use Rattle.ground.specs.Ranges.{from}
use Rattle.theory.specs.FarSides.{Within, holds}
use Rattle.theory.specs.Laws.Nested.{bit-holds, holds_false, holds_true}
use Rattle.theory.specs.Tables.{WellFormed}
use Rattle.leveling.specs.Below.{some}
use Rattle.levels.specs.GroupTest.{is_group, is_largest, near}
use Rattle.levels.specs.Groups.{AtMost, Group, Largest, groups}
use Rattle.leveling.specs.Laws.Below.{every-at, every_is, some_at, some_is}
use Rattle.levels.specs.Laws.Sets.{holds_ext, set_fits, set_holds, set_of}

-- ## The test of a largest set

near_le : (d : ℕ → ℕ → ℕ) (n h S k i : ℕ) → near d n h S k ≡ true → i < n → holds S i ≡ true → d i k ≤ h
near_le d n h S k i e l s =
    let r = every-at n (λ i. not (holds S i) || leb (d i k) h) e i l in leb-true (d i k) h (rw s at r)

le_near : (d : ℕ → ℕ → ℕ) (n h S k : ℕ) → ((i : ℕ) → i < n → holds S i ≡ true → d i k ≤ h) → near d n h S k ≡ true
le_near d n h S k p =
    every_is n _ (λ i l. cases (holds S i) (λ e. rw (e, le-leb (d i k) h (p i l e))) (λ e. rw e))

-- S and image k
abbrev with_image : ℕ → ℕ → ℕ → Bool
with_image S k j = holds S j || eqb j k

module _ (L : ℕ) (d : ℕ → ℕ → ℕ) (n : ℕ) (c : WellFormed L d n) (h S : ℕ) where
  -- inside exactly when near
  in_near : is_largest d n h S ≡ true → (k : ℕ) → k < n → bit S k ≡ one_if (near d n h S k)
  in_near e k l = eqb-true (bit S k) (one_if (near d n h S k)) (every-at n (λ k. eqb (bit S k) (one_if (near d n h S k))) e k l)

  in_then_near : is_largest d n h S ≡ true → (k : ℕ) → k < n → holds S k ≡ true → near d n h S k ≡ true
  in_then_near e k l s =
      cases (near d n h S k) (λ t. t) (λ t. absurd (let q = rw t at (in_near e k l) in omega (arith, holds_true S k s)))

  pub test_largest : S < 2 ^ n → is_largest d n h S ≡ true → Largest d n h S
  test_largest f e = record {
    fits = f;
    under = λ i j hi hj si sj. near_le d n h S j i (in_then_near e j hj sj) hi si;
    largest = λ R g w u.
        holds_ext n R S g f (λ k l r. bit-holds S k (in_near e k l ∙ ap one_if (le_near d n h S k (λ i m s. u i k m l (w i m s) r)))) w;
  }

  pub largest_test : Largest d n h S → is_largest d n h S ≡ true
  largest_test g = every_is n _ (λ k l. eq-eqb (bit S k) (one_if (near d n h S k)) (at k l))
    where
      at : (k : ℕ) → k < n → bit S k ≡ one_if (near d n h S k)
      at k l =
          cases (near d n h S k)
          (λ t. rw t (holds_true S k (inside t)))
          (λ t. rw t (holds_false S k (cases (holds S k) (λ s. absurd (false≢true (sym t ∙ le_near d n h S k (λ i m si. g.under i k m l si s))))
          (λ s. s))))
        where
          R : ℕ
          R = set_of n (with_image S k)

          right : (j : ℕ) → holds S j ≡ false → (holds S j || eqb j k) ≡ true → eqb j k ≡ true
          right j s q = cases (eqb j k) (λ t. t) (λ t. absurd (false≢true (let z : (holds S j || eqb j k) ≡ false = rw (s, t) in sym z ∙ q)))

          split : (j : ℕ) → j < n → holds R j ≡ true → (j ≡ k → ⊥) → holds S j ≡ true
          split j m r ne = cases (holds S j) (λ s. s) (λ s. absurd (ne (eqb-true j k (right j s (sym (set_holds n (with_image S k) j m) ∙ r)))))

          within : Within n S R
          within j m s = set_holds n (with_image S k) j m ∙ (rw s)

          bound : near d n h S k ≡ true → AtMost d n h R
          bound t i j hi hj ri rj =
              cases (eqb i k)
              (λ a. cases (eqb j k)
              (λ b. omega (arith, ap (d i) (eqb-true j k b), ap (λ (x : ℕ). d x k) (eqb-true i k a), c.self l))
              (λ b. omega (arith, ap (λ (x : ℕ). d x j) (eqb-true i k a), c.same hj l, near_le d n h S k j t hj (split j hj rj (eqb-false j k b)))))
              (λ a. cases (eqb j k)
              (λ b. omega (arith, ap (d i) (eqb-true j k b), near_le d n h S k i t hi (split i hi ri (eqb-false i k a))))
              (λ b. g.under i j hi hj (split i hi ri (eqb-false i k a)) (split j hj rj (eqb-false j k b))))

          inside : near d n h S k ≡ true → holds S k ≡ true
          inside t =
              let same = g.largest R (set_fits n (with_image S k)) within (bound t) in
              ap (λ (x : ℕ). holds x k) (sym same) ∙ set_holds n (with_image S k) k l ∙ or_r (holds S k) (eqb k k) (eq-eqb k k refl)

-- ## The list

module _ (L : ℕ) (d : ℕ → ℕ → ℕ) (n : ℕ) where
  pub groups_between : Between 0 (groups d n) (2 ^ n)
  unfolding groups
  groups_between = let e : 0 + 2 ^ n ≡ 2 ^ n = omega arith in between_filter (is_group d n) 0 (2 ^ n) (from 0 (2 ^ n))
      (rw e at (from_between 0 (2 ^ n)))

  pub groups-mem : (c : WellFormed L d n) (S : ℕ) → Memᴰ S (groups d n) ↔ Group d n S
  unfolding groups
  groups-mem c S = (to, back)
    where
      to : Memᴰ S (filter (is_group d n) (from 0 (2 ^ n))) → Group d n S
      to m =
          let q = filter-mem (is_group d n) (from 0 (2 ^ n)) S m in
          let f : S < 2 ^ n = omega (arith, from-mem 0 (2 ^ n) S q.1) in
          let r = some_at n _ (and_r (leb 2 (ones S)) (some n (λ i. some n (λ j. is_largest d n (d i j) S))) q.0) in
          let s = some_at n _ r.2 in
          record {
            two = leb-true 2 (ones S) (and_l (leb 2 (ones S)) (some n (λ i. some n (λ j. is_largest d n (d i j) S))) q.0);
            row = r.0;
            column = s.0;
            entry = (r.1, s.1);
            is = test_largest L d n c (d r.0 s.0) S f s.2;
          }

      back : Group d n S → Memᴰ S (filter (is_group d n) (from 0 (2 ^ n)))
      back g =
          mem-filter (is_group d n) S (rw (le-leb 2 (ones S) g.two)
          (some_is n _ g.row g.entry.0 (some_is n _ g.column g.entry.1 (largest_test L d n c (d g.row g.column) S g.is))))
          (from 0 (2 ^ n)) (mem-from 0 (2 ^ n) S (omega arith) (omega (arith, g.is.fits)))
