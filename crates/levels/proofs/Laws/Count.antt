-- There are at most n - 1 groups: each is the ball around some image j other than 0, of the height of j's least entry with an image
-- before it. For a group S let a be its lowest image and j the lowest other one whose entry with a is S's height. No image before j is
-- nearer to j than that height: it would be in S, and as far from a as j is, and lower. Assumes nothing.
use Rattle.std.specs.Prelude.{Bool, false, not, true, ◌&&◌, List, [], ◌∷◌, refl, ◌≡◌, suc, zero, ℕ, ◌-◌, ◌<◌, ◌^◌, ◌≤◌, eqb, leb, length}
use Rattle.std.proofs.lemmas.Bool.{false≢true, eqb-false, not-true}
use mathlib.Core.List.Memᴰ
use Rattle.std.proofs.Common.{ap, sym, ◌∙◌, arith, eq-eqb, eqb-true, leb-false, leb-true, ne_eqb}
use borrow.Table.Steps.{cases}
use Rattle.ground.specs.Ascending.{Between}
use Rattle.ground.specs.Counts.{count}
use Rattle.ground.specs.Laws.Counts.{sum-count}
use Rattle.ground.specs.Filters.{Each}
use Rattle.ground.specs.Least.{least_on}
use Rattle.ground.specs.Laws.Least.{least_on-at, least_on_le}
use Rattle.ground.specs.Laws.Tests.{and_l, and_r}
use Rattle.ground.specs.Sums.{sum}
use Rattle.theory.specs.FarSides.{holds}
use Rattle.theory.specs.Laws.Nested.{bit-holds}
use Rattle.theory.specs.Tables.{WellFormed}
use Rattle.levels.specs.Balls.{ball}
use Rattle.levels.specs.Groups.{Group, groups, height}
use Rattle.levels.proofs.Laws.Balls.{ball_in, group-ball, group-entry}
use Rattle.levels.proofs.Laws.Groups.{groups_between, groups-mem}
use Rattle.levels.specs.Laws.Heights.{le_height}
use Rattle.levels.specs.Laws.Sets.{other}
use Rattle.leveling.proofs.Laws.ThreePoint.{low}
use Rattle.leveling.specs.ThreePoint.{ThreePoint}

-- the least entry of j with an image before it
abbrev pub nearest : (ℕ → ℕ → ℕ) → ℕ → ℕ
nearest d j = least_on j (λ i. 0) 0 (d 0 j) (λ i. d i j)

-- where some number passes, there is a first one
first-at : (n : ℕ) (p : ℕ → Bool) (i : ℕ) → i < n → p i ≡ true → (k : ℕ) × (k < n) × (p k ≡ true) × ((j : ℕ) → j < k → p j ≡ false)
first-at zero p i h e = absurd (omega arith)
first-at (suc n) p zero h e = (0, omega arith, e, λ j l. absurd (omega arith))
first-at (suc n) p (suc i) h e =
    cases (p 0) (λ t. (0, omega arith, t, λ j l. absurd (omega arith)))
    (λ t. let r = first-at n (λ k. p (suc k)) i (omega arith) e in (suc r.0, omega (arith, r.1), r.2, λ j l. later t r.0 r.3 j l))
  where
    later : p 0 ≡ false → (k : ℕ) → ((j : ℕ) → j < k → p (suc j) ≡ false) → (j : ℕ) → j < suc k → p j ≡ false
    later t k f zero l = t
    later t k f (suc j) l = f j (omega arith)

-- in S, as far from a as S is high, and other than a
abbrev far_from : (ℕ → ℕ → ℕ) → ℕ → ℕ → ℕ → ℕ → Bool
far_from d n S a k = (holds S k && eqb (d a k) (height d n S)) && not (eqb k a)

module _ (L : ℕ) (d : ℕ → ℕ → ℕ) (n : ℕ) (c : WellFormed L d n) (t : ThreePoint d n) (S : ℕ) (g : Group d n S) where
  far_is : (a k : ℕ) → holds S k ≡ true → d a k ≡ height d n S → (k ≡ a → ⊥) → far_from d n S a k ≡ true
  far_is a k s e ne = rw (s, eq-eqb (d a k) (height d n S) e, ne_eqb k a ne)

  module _ (a j : ℕ) (ha : a < n) (hj : j < n) (sa : holds S a ≡ true) (sj : holds S j ≡ true) (far : d a j ≡ height d n S) (l : a < j)
      (first : (k : ℕ) → k < j → far_from d n S a k ≡ false) where
    -- an image b before j is no nearer to j than S is high
    none_nearer : (b : ℕ) → b < j → height d n S ≤ d b j
    none_nearer b h =
        cases (leb (height d n S) (d b j)) (λ e. leb-true (height d n S) (d b j) e)
        (λ e.
        let hb : b < n = omega arith in
        let near = leb-false (height d n S) (d b j) e in
        let sb : holds S b ≡ true =
        ap (λ (x : ℕ). holds x b) (group-ball L d n c t S g a ha sa)
        ∙ ball_in d n a (height d n S) b hb (omega (arith, low t ha hb hj)) in
        let eb : d a b ≡ height d n S = omega (arith, low t ha hj hb, c.same hj hb, le_height d n S a b ha hb sa sb) in
        absurd (false≢true (sym (first b h) ∙ far_is a b sb eb (λ q. omega (arith, ap (λ (x : ℕ). d x j) q)))))

    nearest_is : nearest d j ≡ height d n S
    nearest_is =
        let q = least_on-at (λ i. 0) 0 (d 0 j) (λ i. d i j) j 0 (omega arith, refl) (omega arith) in
        omega (arith, q.2, none_nearer q.0 q.1.0, least_on_le (λ i. 0) 0 (d 0 j) (λ i. d i j) j a (l, refl))

  from_lowest : (a : ℕ) → a < n → holds S a ≡ true → ((j : ℕ) → j < a → holds S j ≡ false)
      → (j : ℕ) × (0 < j) × (j < n) × (S ≡ ball d n j (nearest d j))
  from_lowest a ha sa lowest =
      let e = group-entry L d n c t S g a ha sa in
      let r = first-at n (far_from d n S a) e.0 e.1 (far_is a e.0 e.3 e.4 e.2) in
      let j = r.0 in
      let both = and_l (holds S j && eqb (d a j) (height d n S)) (not (eqb j a)) r.2 in
      let sj = and_l (holds S j) (eqb (d a j) (height d n S)) both in
      let far = eqb-true (d a j) (height d n S) (and_r (holds S j) (eqb (d a j) (height d n S)) both) in
      let ne = eqb-false j a (not-true (eqb j a) (and_r (holds S j && eqb (d a j) (height d n S)) (not (eqb j a)) r.2)) in
      let l : a < j = above j sj ne in
      (j, omega arith, r.1, group-ball L d n c t S g j r.1 sj ∙ ap (ball d n j) (sym (nearest_is a j ha r.1 sa sj far l r.3)))
    where
      above : (j : ℕ) → holds S j ≡ true → (j ≡ a → ⊥) → a < j
      above j s ne = cases (leb j a) (λ e. absurd (false≢true (sym (lowest j (omega (arith, leb-true j a e, ne))) ∙ s))) (λ e. leb-false j a e)

  -- N. A group is the ball of the nearest height around some image other than 0.
  pub nearest-ball : (j : ℕ) × (0 < j) × (j < n) × (S ≡ ball d n j (nearest d j))
  nearest-ball =
      let o = other n n S g.is.fits g.two in
      let a = first-at n (holds S) o.0 o.1 (bit-holds S o.0 o.3) in
      from_lowest a.0 a.1 a.2 a.3

-- ## So many at most

count-one : (N : ℕ) (p : ℕ → Bool) (i : ℕ) → i < N → p i ≡ true → 1 ≤ count N p
count-one zero p i h e = absurd (omega arith)
count-one (suc N) p i h e =
    cases (eqb i N) (λ t. rw (ap p (sym (eqb-true i N t)) ∙ e) (omega arith)) (λ t. omega (arith, count-one N p i (omega (arith, eqb-false)) e))

sum-length : (f : ℕ → ℕ) (l : List ℕ) → Each l (λ x. 1 ≤ f x) → length l ≤ sum l f
sum-length f [] h = omega arith
sum-length f (x ∷ l) h = omega (arith, h x (Memᴰ.head refl), sum-length f l (λ y m. h y (Memᴰ.tail m)))

-- an ascending list whose elements are among c 0 to c (N - 1) has N elements at most
pub length_among : (c : ℕ → ℕ) (m k N : ℕ) (l : List ℕ) → Between m l k → Each l (λ x. (i : ℕ) × (i < N) × (c i ≡ x)) → length l ≤ N
length_among c m k N l b h =
    omega (
      arith,
      sum-count c m k N l b,
      sum-length (λ y. count N (λ i. eqb (c i) y)) l (λ x e. let r = h x e in count-one N (λ i. eqb (c i) x) r.0 r.1
          (eq-eqb (c r.0) x r.2)),
    )

-- at most n - 1 groups
pub groups-most : (L : ℕ) (d : ℕ → ℕ → ℕ) (n : ℕ) → WellFormed L d n → ThreePoint d n → length (groups d n) ≤ n - 1
groups-most L d n c t =
    length_among (λ i. ball d n (suc i) (nearest d (suc i))) 0 (2 ^ n) (n - 1) (groups d n) (groups_between L d n)
    (λ S m. at S (nearest-ball L d n c t S ((groups-mem L d n c S).0 m)))
  where
    at : (S : ℕ) → (j : ℕ) × (0 < j) × (j < n) × (S ≡ ball d n j (nearest d j)) → (i : ℕ) × (i < n - 1) × (ball d n (suc i) (nearest d (suc i)) ≡ S)
    at S (zero, p, q, e) = absurd (omega arith)
    at S (suc i, p, q, e) = (i, omega arith, sym e)
