-- The way from one height to the next: it leaves no level out, and ends where images after k are as near. Assumes nothing.
use Rattle.std.specs.Prelude.{Bool, false, ◌⊎◌, ◌≡◌, eqb, leb, ltb}
use Rattle.std.proofs.Math.Bool.{true}
use Rattle.std.proofs.Common.{inl, inr, sym, ◌∙◌}
use Rattle.std.proofs.Math.Path.{refl}
use Prim.Native.Nat.{min, suc, ℕ, ◌+◌, ◌<◌, ◌≤◌}
use native.Mathlib.Omega.{arith}
use borrow.Author.Tests.{le-leb, leb-true, lt-leb, lt-ltb, ltb-true}
use borrow.Table.Steps.{cases}
use Rattle.ground.specs.Counts.{one_if}
use Rattle.ground.specs.Least.{On, least_on, lower_if}
use Rattle.ground.specs.Laws.Least.{least_on_cap, least_on_is, least_on_le, least_on_none, least_on-turn, le_least_on}
use Rattle.theory.specs.Tables.{WellFormed, limit}
use Rattle.tables.specs.Entries.{costs_in}
use Rattle.tables.specs.declared.costs.Costs.{Costs}
use Rattle.levels.specs.Balls.{is_level}
use Rattle.levels.proofs.Laws.Levels.{level_after, level_before, level_is}
use Rattle.levels.proofs.Laws.Members.{ball_end, ball-more, ball_none, ball-room}
use Rattle.levels.specs.Next.{after_height, next_height}

one_if_is : (b : Bool) → one_if b ≡ 1 → b ≡ true
one_if_is true e = refl
one_if_is false e = absurd (omega arith)

-- ## Image by image

-- after k: before the loop, one image more, after it
module _ (L : ℕ) (d : ℕ → ℕ → ℕ) (k : ℕ) where
  pub after_begins : suc L ≡ after_height L d (k + 1) k
  unfolding after_height
  after_begins = go (least_on_is (λ i. one_if (ltb k i)) 1 (suc L) (d k) (k + 1))
    where
      go : ((a : ℕ) × On (k + 1) (λ i. one_if (ltb k i)) 1 a × (least_on (k + 1) (λ i. one_if (ltb k i)) 1 (suc L) (d k) ≡ d k a))
          ⊎ (least_on (k + 1) (λ i. one_if (ltb k i)) 1 (suc L) (d k) ≡ suc L) → suc L ≡ least_on (k + 1) (λ i. one_if (ltb k i)) 1 (suc L) (d k)
      go (inl r) = absurd (omega (arith, r.1.0, ltb-true k r.0 (one_if_is (ltb k r.0) r.1.1)))
      go (inr e) = sym e

  pub after_more : (j : ℕ) {m x r : ℕ} → m ≡ after_height L d j k → k < j → x ≡ d k j → r ≡ min x m → r ≡ after_height L d (j + 1) k
  unfolding after_height
  after_more j {m} e l q w = least_on-turn (λ i. one_if (ltb k i)) 1 (suc L) (d k) j e (rw (lt-ltb k j l, ← q) w)

  pub after_end : (j n : ℕ) {m : ℕ} → j ≤ n → n ≤ j → m ≡ after_height L d j k → m ≡ after_height L d n k
  after_end j n a b e = let q : j ≡ n = omega arith in rw (← q) e

-- what the loop over the images after k names
pub ruleset after_turns = (after_begins, after_more, after_end)

-- the next height of those with the images before j: before the loop, and one image more
unfoldable pub next_to : ℕ → (ℕ → ℕ → ℕ) → ℕ → ℕ → ℕ → ℕ
next_to L d k h j = least_on j (λ i. one_if (leb h (d k i))) 1 (suc L) (d k)

module _ (L : ℕ) (d : ℕ → ℕ → ℕ) (k h : ℕ) where
  pub next_begin : suc L ≡ next_to L d k h 0
  unfolding next_to
  next_begin = least_on_none (λ i. one_if (leb h (d k i))) 1 (suc L) (d k)

  pub next_turn : (j : ℕ) {m r : ℕ} → m ≡ next_to L d k h j → r ≡ lower_if (eqb (one_if (leb h (d k j))) 1) (d k) j m → r ≡ next_to L d k h (j + 1)
  unfolding next_to
  next_turn j e w = least_on-turn (λ i. one_if (leb h (d k i))) 1 (suc L) (d k) j e w

-- ## What the two heights say

module _ (L : ℕ) (d : ℕ → ℕ → ℕ) (n k : ℕ) where
  -- image k itself is never the next height, so that a loop may go up to it
  pub next_end : WellFormed L d n → k < n → (h j : ℕ) {m : ℕ} → j ≤ k + 1 → k + 1 ≤ j → m ≡ next_to L d k (suc h) j → m ≡ next_height L d k (suc h)
  unfolding next_height next_to least_on
  next_end c l h j a b e = let q : j ≡ suc k = omega arith in e ∙ rw (q, c.self l, lt-leb (suc h) 0 (omega arith)) refl

  pub next-most : (h : ℕ) → next_height L d k h ≤ suc L
  unfolding next_height
  next-most h = least_on_cap (λ j. one_if (leb h (d k j))) 1 (suc L) (d k) k

  -- it does not go back
  pub next_least : (h : ℕ) → h ≤ suc L → h ≤ next_height L d k h
  unfolding next_height
  next_least h l = le_least_on (λ j. one_if (leb h (d k j))) 1 (suc L) (d k) k h l (λ j o. leb-true h (d k j) (one_if_is (leb h (d k j)) o.1))

  -- and leaves no level out
  pub next_none : (h x : ℕ) → h ≤ x → x < next_height L d k h → is_level d n k x ≡ false
  unfolding next_height
  next_none h x l m =
      cases (is_level d n k x)
      (λ e. let r = level_before d n k x e in
      absurd (omega (
        arith,
        r.2,
        least_on_le (λ j. one_if (leb h (d k j))) 1 (suc L) (d k) k r.0
            (r.1, (rw (le-leb h (d k r.0) (omega (arith, r.2))))),
      )))
      (λ e. e)

  pub after-most : after_height L d n k ≤ suc L
  unfolding after_height
  after-most = least_on_cap (λ j. one_if (ltb k j)) 1 (suc L) (d k) n

  after_le : (i : ℕ) → k < i → i < n → after_height L d n k ≤ d k i
  unfolding after_height
  after_le i a b = least_on_le (λ j. one_if (ltb k j)) 1 (suc L) (d k) n i (b, (rw (lt-ltb k i a)))

  -- below the entries with images after k it is a level
  pub next_level : (h : ℕ) → next_height L d k h < after_height L d n k → is_level d n k (next_height L d k h) ≡ true
  unfolding next_height
  next_level h l = go (least_on_is (λ j. one_if (leb h (d k j))) 1 (suc L) (d k) k)
    where
      go : ((a : ℕ) × On k (λ j. one_if (leb h (d k j))) 1 a × (least_on k (λ j. one_if (leb h (d k j))) 1 (suc L) (d k) ≡ d k a))
          ⊎ (least_on k (λ j. one_if (leb h (d k j))) 1 (suc L) (d k) ≡ suc L)
          → is_level d n k (least_on k (λ j. one_if (leb h (d k j))) 1 (suc L) (d k)) ≡ true
      go (inl r) = level_is d n k _ r.0 r.1.0 (sym r.2) (λ i a b. omega (arith, after_le i a b))
      go (inr e) = absurd (omega (arith, after-most))

  -- two different images do not cost nothing, so 0 is none
  pub zero_none : WellFormed L d n → k < n → is_level d n k 0 ≡ false
  zero_none c l =
      cases (is_level d n k 0)
      (λ e. let r = level_before d n k 0 e in absurd (omega (
        arith,
        r.2,
        c.nonzero {i = k} {j = r.0} l (omega (arith, r.1))
            (λ q. omega (arith, r.1)),
      )))
      (λ e. e)

  -- as the code has it
  pub next_here : (x : ℕ) {h cap : ℕ} → h ≡ next_height L d k x → cap ≡ after_height L d n k → h < cap → is_level d n k h ≡ true
  next_here x e q l = rw e (next_level x (rw (e, q) at l))

  pub next_fits : (x : ℕ) {h : ℕ} → h ≡ next_height L d k x → h ≤ suc L
  next_fits x e = rw e (next-most x)

  -- from there on there is none
  pub after_none : (x : ℕ) → after_height L d n k ≤ x → x < suc L → is_level d n k x ≡ false
  unfolding after_height
  after_none x l m =
      cases (is_level d n k x) (λ e. absurd (go e (least_on_is (λ j. one_if (ltb k j)) 1 (suc L) (d k) n))) (λ e. e)
    where
      go : is_level d n k x ≡ true
          → ((a : ℕ) × On n (λ j. one_if (ltb k j)) 1 a × (least_on n (λ j. one_if (ltb k j)) 1 (suc L) (d k) ≡ d k a))
          ⊎ (least_on n (λ j. one_if (ltb k j)) 1 (suc L) (d k) ≡ suc L) → ⊥
      go e (inl r) = omega (arith, r.2, level_after d n k x e r.0 (ltb-true k r.0 (one_if_is (ltb k r.0) r.1.1)) r.1.0)
      go e (inr q) = omega arith

-- after the loop over the images up to k
pub next_ends : (t : Costs) (k h j : ℕ) {m : ℕ} → k < t.n → j ≤ k + 1 → k + 1 ≤ j → m ≡ next_to limit (costs_in t) k (suc h) j
    → m ≡ next_height limit (costs_in t) k (suc h)
next_ends t k h j l a b e = next_end limit (costs_in t) t.n k t.formed.formed l h j a b e

-- what that loop names
pub ruleset level_turns = (ball_none, ball-more, ball-room, ball_end, next_begin, next_turn, next_ends)
