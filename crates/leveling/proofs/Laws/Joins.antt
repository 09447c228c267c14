-- Image by image: the condition holds of one image more exactly when that image joins by the one that is nearest to it. Assumes nothing.
use Rattle.std.specs.Prelude.{Bool, false, true, ◌≡◌, eqb, ltb}
use Rattle.std.proofs.Math.Path.{ap}
use Rattle.std.proofs.Common.{sym, ◌∙◌}
use Prim.Native.Nat.{max, ℕ, ◌+◌, ◌<◌, ◌≤◌}
use native.Mathlib.Omega.{arith}
use borrow.Author.Tests.{eq-eqb, eqb-false, eqb-true, le-ltb, lt-ltb, ltb-false, ltb-true}
use borrow.Table.Steps.{cases}
use mathlib.Core.Bool.{false≢true}
use Rattle.theory.proofs.Laws.FourPoint.{well_formed_less}
use Rattle.theory.specs.Tables.{WellFormed, limit}
use Rattle.tables.specs.Entries.{costs_in}
use Rattle.tables.specs.declared.costs.Costs.{Costs}
use Rattle.leveling.specs.Below.{every}
use Rattle.leveling.specs.Joins.{Nearest, joins, joins_at, nearer}
use Rattle.leveling.specs.Laws.Below.{every-at, every_ends, every_is, every_more, every_none, every_stops}
use Rattle.leveling.proofs.Laws.ThreePoint.{low, three_point}
use Rattle.leveling.specs.ThreePoint.{ThreePoint}

-- ## The nearest image, one image more at a time

module _ (d : ℕ → ℕ → ℕ) (j : ℕ) where
  pub nearest-first : Nearest d j 1 0
  nearest-first = record { before = omega arith; least = λ i l. let e : i ≡ 0 = omega arith in omega (arith, ap (d j) e) }

  pub nearest-more : (i p : ℕ) {r : ℕ} → Nearest d j i p → r ≡ nearer d j p i → Nearest d j (i + 1) r
  unfolding nearer
  nearest-more i p {r} h e =
      cases (ltb (d j i) (d j p)) (λ t. take i (rw t at e) (omega arith) (omega arith) (omega (arith, ltb-true (d j i) (d j p) t)))
      (λ t. take p (rw t at e) (omega (arith, h.before)) (omega (arith, ltb-false (d j i) (d j p) t)) (omega arith))
    where
      take : (x : ℕ) → r ≡ x → x < i + 1 → d j x ≤ d j i → d j x ≤ d j p → Nearest d j (i + 1) r
      take x q l a b = rw q (record {
        before = l;
        least = λ k m. cases (eqb k i) (λ s. omega (arith, ap (d j) (eqb-true k i s), a))
            (λ s. omega (arith, b, h.least k (omega (arith, eqb-false k i s, m))));
      })

  pub nearest_end : (i : ℕ) {p : ℕ} → i ≤ j → j ≤ i → Nearest d j i p → Nearest d j j p
  nearest_end i a b h = let q : i ≡ j = omega arith in rw q at h

  pub nearer-taken : (p i : ℕ) {x y : ℕ} → x ≡ d j i → y ≡ d j p → x < y → i ≡ nearer d j p i
  unfolding nearer
  nearer-taken p i e f l = rw (← e, ← f, lt-ltb _ _ l)

  pub nearer-left : (p i : ℕ) {x y : ℕ} → x ≡ d j i → y ≡ d j p → y ≤ x → p ≡ nearer d j p i
  unfolding nearer
  nearer-left p i e f l = rw (← e, ← f, le-ltb _ _ l)

  -- x is the entry of j and i, z what it ought to be, which is the larger of the other two
  pub joins_by : (p i : ℕ) {x z : ℕ} → x ≡ d j i → z ≡ max (d p i) (d j p) → eqb x z ≡ joins_at d j p i
  unfolding joins_at
  joins_by p i e f = rw (← e, ← f)

  -- the test of all images before j, one image more at a time
  pub joins_none : (p : ℕ) → every 0 (joins_at d j p) ≡ true
  joins_none p = every_none (joins_at d j p)

  pub joins-more : (p i : ℕ) {r : Bool} → every i (joins_at d j p) ≡ true → r ≡ joins_at d j p i → r ≡ true → every (i + 1) (joins_at d j p) ≡ true
  joins-more p i h e t = every_more i (joins_at d j p) h (sym e ∙ t)

  pub joins_stops : (p i : ℕ) {r : Bool} → i < j → r ≡ joins_at d j p i → r ≡ false → false ≡ joins d j p
  unfolding joins
  joins_stops p i l e t = every_stops j (joins_at d j p) i l (sym e ∙ t)

  pub joins_ends : (p i : ℕ) → i ≤ j → j ≤ i → every i (joins_at d j p) ≡ true → true ≡ joins d j p
  unfolding joins
  joins_ends p i l h e = every_ends i j (joins_at d j p) l h e

-- the larger of two numbers, found by one comparison
pub joins-far : {x y a b : ℕ} → x ≡ a → y ≡ b → x < y → y ≡ max a b
joins-far e f l = omega (arith, e, f, l)

pub joins-near : {x y a b : ℕ} → x ≡ a → y ≡ b → y ≤ x → x ≡ max a b
joins-near e f l = omega (arith, e, f, l)

-- what the loops over the images before j name
pub ruleset nearest_turns = (nearest-first, nearest-more, nearest_end)

pub ruleset joins_turns = (joins_none, joins-more, joins_stops, joins_ends)

-- ## The condition, one image more at a time

module _ (L : ℕ) (d : ℕ → ℕ → ℕ) (n : ℕ) (c : WellFormed L d n) where
  -- one image alone
  pub three-first : 1 ≤ n → ThreePoint d 1
  three-first h = three_point L d 1 (well_formed_less L d 1 n h c) (record { low = λ {i} {j} {k} a b e. only i j a b })
    where
      only : (i j : ℕ) → i < 1 → j < 1 → {x : ℕ} → d i j ≤ x
      only i j a b = let p : i ≡ j = omega arith in omega (arith, ap (λ (y : ℕ). d y j) p, c.self {i = j} (omega (arith, b, h)))

  module _ (j p : ℕ) (hj : j < n) (near : Nearest d j j p) where
    -- with the condition each image joins
    pub three-joins : ThreePoint d n → joins d j p ≡ true
    unfolding joins joins_at
    three-joins t = every_is j (joins_at d j p) (λ i l.
        let hi : i < n = omega arith in
        let hp : p < n = omega (arith, near.before) in
        eq-eqb (d j i) (max (d p i) (d j p))
        (omega (arith, near.least i l, low t hj hi hp, low t hp hi hj, c.same hi hp, c.same hj hi, c.same hj hp)))

    -- where the images before j have it and j joins, the images up to j have it
    pub three-more : ThreePoint d j → joins d j p ≡ true → ThreePoint d (j + 1)
    unfolding joins joins_at
    three-more t e = three_point L d (j + 1) (well_formed_less L d (j + 1) n (omega arith) c)
        (record { low = λ {i = a} {j = b} {k} ha hb hk. go a b k ha hb hk })
      where
        joined : (i : ℕ) → i < j → d j i ≡ max (d p i) (d j p)
        joined i l = eqb-true (d j i) (max (d p i) (d j p)) (every-at j (joins_at d j p) e i l)

        hp : p < n
        hp = omega (arith, near.before)

        -- an entry of the new image, and an entry of two others
        new_one : (b k : ℕ) → b < j → k < j → d j b ≤ max (d j k) (d b k)
        new_one b k hb hk = omega (arith, joined b hb, joined k hk, near.least k hk, low t near.before hb hk)

        new_third : (a b : ℕ) → a < j → b < j → d a b ≤ max (d a j) (d b j)
        new_third a b ha hb =
            let an : a < n = omega (arith, ha, hj) in
            let bn : b < n = omega (arith, hb, hj) in
            omega (arith, joined a ha, joined b hb, low t ha hb near.before, c.same an hj, c.same bn hj, c.same an hp, c.same bn hp)

        below : {i : ℕ} → i < j + 1 → (i ≡ j → ⊥) → i < j
        below h ne = omega (arith, h, ne)

        -- each of the three may be the new image
        first : (b k : ℕ) → b < j + 1 → k < j + 1 → d j b ≤ max (d j k) (d b k)
        first b k hb hk =
            cases (eqb b j) (λ x. omega (arith, ap (d j) (eqb-true b j x), c.self hj))
            (λ x. cases (eqb k j)
            (λ y. omega (arith, ap (d b) (eqb-true k j y), c.same {i = b} {j = j} (omega (arith, hb)) hj))
            (λ y. new_one b k (below hb (eqb-false b j x)) (below hk (eqb-false k j y))))

        go : (a b k : ℕ) → a < j + 1 → b < j + 1 → k < j + 1 → d a b ≤ max (d a k) (d b k)
        go a b k ha hb hk =
            cases (eqb a j) (λ x. rw (eqb-true a j x) (first b k hb hk))
            (λ x. cases (eqb b j)
            (λ y. rw (eqb-true b j y)
            (omega (arith, first a k ha hk, c.same {i = a} {j = j} (omega (arith, ha)) hj)))
            (λ y. cases (eqb k j) (λ z. rw (eqb-true k j z) (new_third a b (below ha (eqb-false a j x)) (below hb (eqb-false b j y))))
            (λ z. low t (below ha (eqb-false a j x)) (below hb (eqb-false b j y)) (below hk (eqb-false k j z)))))

  pub three_end : (j : ℕ) → j ≤ n → n ≤ j → ThreePoint d j → ThreePoint d n
  three_end j a b t = let q : j ≡ n = omega arith in rw q at t

-- the same of a cost table, as the loop over the images names it
module _ (t : Costs) where
  pub levels_begin : ThreePoint (costs_in t) 1
  levels_begin = three-first limit (costs_in t) t.n t.formed.formed (omega (arith, t.formed.some))

  pub levels_go : (j p : ℕ) {r : Bool} → j < t.n → Nearest (costs_in t) j j p → r ≡ joins (costs_in t) j p → r ≡ true → ThreePoint (costs_in t) j
      → ThreePoint (costs_in t) (j + 1)
  levels_go j p h near e q three = three-more limit (costs_in t) t.n t.formed.formed j p h near three (sym e ∙ q)

  pub levels_stop : (j p : ℕ) {r : Bool} → j < t.n → Nearest (costs_in t) j j p → r ≡ joins (costs_in t) j p → r ≡ false → ThreePoint (costs_in t) t.n → ⊥
  levels_stop j p h near e q three = false≢true (sym q ∙ e ∙ three-joins limit (costs_in t) t.n t.formed.formed j p h near three)

  pub levels_end : (j : ℕ) → j ≤ t.n → t.n ≤ j → ThreePoint (costs_in t) j → ThreePoint (costs_in t) t.n
  levels_end j a b three = three_end limit (costs_in t) t.n t.formed.formed j a b three

pub ruleset three_turns = (levels_begin, levels_go, levels_stop, levels_end)
