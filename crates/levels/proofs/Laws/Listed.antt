-- The groups as the code finds them, by their last image and then by height, are all groups, ascending. A group whose last image is k is
-- the ball around k of its height; that height is an entry of k with an image before it, and below every entry of k with one after it.
-- Its number is from 2 ^ k on and below 2 ^ (k + 1), and grows with the height. Assumes nothing.
use Rattle.std.specs.Prelude.{Bool, false, true, ◌↔◌, ◌≡◌, leb}
use Rattle.std.proofs.lemmas.Bool.{false≢true}
use mathlib.Core.List.Memᴰ
use mathlib.Core.List.{List, Memᴰ, [], map, ◌++◌, ◌∷◌}
use Rattle.std.proofs.Math.Path.{ap, ap₂, refl, sym}
use Rattle.std.proofs.Common.{◌∙◌, leb-false, leb-true}
use Prim.Native.Nat.{suc, zero, ℕ, ◌+◌, ◌<◌, ◌^◌, ◌≤◌}
use native.Mathlib.Omega.{arith}
use borrow.Table.Steps.{cases}
use Rattle.ground.specs.Ascending.{Between}
use Rattle.ground.specs.Laws.Ascending.{between_append, between_ext, between_from}
use Rattle.ground.specs.Laws.Bits.{bit_lt}
use Rattle.ground.specs.Filters.{filter}
use Rattle.ground.specs.Laws.Filters.{filter-mem, mem-filter}
use Rattle.ground.specs.Laws.Maps.{map-append, map-mem, mem-map}
use Rattle.ground.specs.Laws.Ranges.{from-mem, gather-mem, mem-from, mem-gather}
use Rattle.ground.specs.Ranges.{from, gather}
use Rattle.theory.specs.FarSides.{holds}
use Rattle.theory.specs.Laws.Nested.{bit-holds, holds_false, holds_true}
use Rattle.theory.specs.Tables.{WellFormed}
use Rattle.levels.specs.Balls.{ball, found, found_at, found_heights, is_level, levels_at}
use Rattle.levels.specs.Groups.{Group, groups, height, heights}
use Rattle.levels.proofs.Laws.Balls.{ball_fits, ball-group, ball-height, ball_in, group-ball, group-entry, in_ball}
use Rattle.leveling.specs.Laws.Below.{last_at_lem}
use Rattle.levels.proofs.Laws.Groups.{groups_between, groups-mem}
use Rattle.levels.proofs.Laws.Levels.{ball-top, level_before, level_is}
use Rattle.levels.specs.Laws.Sets.{from-bit, other, within_lt}
use Rattle.leveling.specs.ThreePoint.{ThreePoint}

-- ## One last image: the balls ascend

-- f of the numbers from x on that pass p, ascending, where f grows on them
between_levels : (f : ℕ → ℕ) (p : ℕ → Bool) (hi : ℕ) → ((x : ℕ) → p x ≡ true → f x < hi) → ((x y : ℕ) → x < y → p x ≡ true → p y ≡ true → f x < f y)
    → (m x lo : ℕ) → lo ≤ hi → ((y : ℕ) → x ≤ y → p y ≡ true → lo ≤ f y) → Between lo (map f (filter p (from x m))) hi
between_levels f p hi top grows zero x lo b h = b
between_levels f p hi top grows (suc m) x lo b h =
    let ih = between_levels f p hi top grows m (suc x) in
    cases (p x)
    (λ e. rw e (h x (omega arith) e, ih (suc (f x)) (omega (arith, top x e)) (λ y l q. grows x y (omega arith) e q)))
    (λ e. rw e (ih lo b (λ y l q. h y (omega arith) q)))

module _ (L : ℕ) (d : ℕ → ℕ → ℕ) (n : ℕ) (c : WellFormed L d n) where
  module _ (k : ℕ) (hk : k < n) where
    ball-from : (h : ℕ) → 2 ^ k ≤ ball d n k h
    ball-from h = from-bit k (ball d n k h) (holds_true (ball d n k h) k (ball_in d n k h k hk (omega (arith, c.self hk))))

    ball-grows : (x y : ℕ) → x < y → is_level d n k x ≡ true → is_level d n k y ≡ true → ball d n k x < ball d n k y
    ball-grows x y l e f =
        let r = level_before d n k y f in
        let hj : r.0 < n = omega (arith, r.1) in
        within_lt n (ball d n k x) (ball d n k y) r.0 (ball_fits d n k x)
        (λ i m. cases (holds (ball d n k x) i)
        (λ s. omega (arith, bit_lt (ball d n k x) i, holds_true (ball d n k y) i (ball_in d n k y i m (omega (arith, in_ball d n k x i m s)))))
        (λ s. omega (arith, holds_false (ball d n k x) i s)))
        (cases (holds (ball d n k x) r.0)
        (λ s. absurd (omega (arith, in_ball d n k x r.0 hj s, r.2)))
        (λ s. omega (arith, holds_false (ball d n k x) r.0 s, holds_true (ball d n k y) r.0 (ball_in d n k y r.0 hj (omega (arith, r.2))))))

    at_between : (m : ℕ) → Between (2 ^ k) (found_at d n m k) (2 ^ suc k)
    unfolding levels_at
    at_between m =
        between_levels (ball d n k) (is_level d n k) (2 ^ suc k) (ball-top d n k) ball-grows m 0 (2 ^ k) (omega arith) (λ y l e. ball-from y)

  -- ## All of them

  gather_between : (m : ℕ) (i s : ℕ) → i + s ≤ n → Between (2 ^ i) (gather (from i s) (found_at d n m)) (2 ^ (i + s))
  gather_between m i zero l = let e : i + 0 ≡ i = omega arith in rw e (omega arith)
  gather_between m i (suc s) l =
      let e : i + suc s ≡ suc i + s = omega arith in
      rw e (between_append (2 ^ i) (2 ^ suc i) (2 ^ (suc i + s)) (found_at d n m i) (gather (from (suc i) s) (found_at d n m))
      (at_between i (omega arith) m) (gather_between m (suc i) s (omega arith)))

  pub found_between : Between 0 (found L d n) (2 ^ n)
  unfolding found
  found_between = let e : 0 + n ≡ n = omega arith in between_from 0 1 (2 ^ n) (gather (from 0 n) (found_at d n (suc L))) (omega arith)
      (rw e at (gather_between (suc L) 0 n (omega arith)))

  module _ (t : ThreePoint d n) where
    level_group : (k h : ℕ) → k < n → is_level d n k h ≡ true → Group d n (ball d n k h) × (height d n (ball d n k h) ≡ h)
    level_group k h hk e =
        let r = level_before d n k h e in
        let hj : r.0 < n = omega (arith, r.1) in
        rw (← r.2) (ball-group L d n c t k r.0 hk hj (λ q. omega (arith, r.1)), ball-height L d n c t k r.0 hk hj)

    found-mem : (S : ℕ) → Memᴰ S (found L d n) ↔ Group d n S
    unfolding found levels_at
    found-mem S = (to, back)
      where
        to : Memᴰ S (gather (from 0 n) (found_at d n (suc L))) → Group d n S
        to m =
            let a = gather-mem (found_at d n (suc L)) (from 0 n) S m in
            let b = map-mem (ball d n a.0) (levels_at d n a.0 (suc L)) S a.2 in
            let e = filter-mem (is_level d n a.0) (from 0 (suc L)) b.0 b.2 in
            rw b.1 (level_group a.0 b.0 (omega (arith, from-mem 0 n a.0 a.1)) e.0).0

        back : Group d n S → Memᴰ S (gather (from 0 n) (found_at d n (suc L)))
        back g =
            let o = other n n S g.is.fits g.two in
            let r = last_at_lem n (holds S) o.0 o.1 (bit-holds S o.0 o.3) in
            let k = r.0 in
            let e = group-entry L d n c t S g k r.1 r.2 in
            let s = group-ball L d n c t S g k r.1 r.2 in
            let v = level_is d n k (height d n S) e.0 (before e.0 k e.1 e.2 e.3 r.3) e.4 (after k r.3 s) in
            mem-gather (found_at d n (suc L)) (mem-from 0 n k (omega arith) (omega (arith, r.1)))
            (Memᴰ.cast s (mem-map (ball d n k) (mem-filter (is_level d n k) (height d n S) v (from 0 (suc L))
            (mem-from 0 (suc L) (height d n S) (omega arith) (omega (arith, e.4, c.small r.1 e.1))))))
          where
            before : (j k : ℕ) → j < n → (j ≡ k → ⊥) → holds S j ≡ true → ((i : ℕ) → k < i → i < n → holds S i ≡ false) → j < k
            before j k hj ne sj last = cases (leb j k) (λ q. omega (arith, leb-true j k q, ne))
                (λ q. absurd (false≢true (sym (last j (leb-false j k q) hj) ∙ sj)))

            after : (k : ℕ) → ((i : ℕ) → k < i → i < n → holds S i ≡ false) → S ≡ ball d n k (height d n S) → (i : ℕ) → k < i → i < n
                → height d n S < d k i
            after k last s i l m =
                cases (leb (d k i) (height d n S))
                (λ q. absurd (false≢true (sym (last i l m) ∙ ap (λ (x : ℕ). holds x i) s ∙ ball_in d n k (height d n S) i m
                (leb-true (d k i) (height d n S) q))))
                (λ q. leb-false (d k i) (height d n S) q)

    -- what the code finds are the groups
    pub found-groups : found L d n ≡ groups d n
    found-groups =
        between_ext 0 (2 ^ n) (found L d n) (groups d n) found_between (groups_between L d n)
        (λ S m. (groups-mem L d n c S).1 ((found-mem S).0 m)) (λ S m. (found-mem S).1 ((groups-mem L d n c S).0 m))

    gather-heights : (i s : ℕ) → i + s ≤ n
        → map (height d n) (gather (from i s) (found_at d n (suc L))) ≡ gather (from i s) (λ k. levels_at d n k (suc L))
    unfolding levels_at
    gather-heights i zero l = refl
    gather-heights i (suc s) l =
        map-append (height d n) (found_at d n (suc L) i) (gather (from (suc i) s) (found_at d n (suc L)))
        ∙ ap₂ ◌++◌ (at i (omega arith) (from 0 (suc L))) (gather-heights (suc i) s (omega arith))
      where
        at : (k : ℕ) → k < n → (l : List ℕ) → map (height d n) (map (ball d n k) (filter (is_level d n k) l)) ≡ filter (is_level d n k) l
        at k hk [] = refl
        at k hk (h ∷ l) =
            let ih = at k hk l in
            cases (is_level d n k h) (λ e. rw e (ap₂ ◌∷◌ (level_group k h hk e).1 ih)) (λ e. rw e ih)

    -- with their heights
    pub found-heights : found_heights L d n ≡ heights d n
    unfolding found found_heights
    found-heights = sym (gather-heights 0 n (omega arith)) ∙ ap (map (height d n)) found-groups
