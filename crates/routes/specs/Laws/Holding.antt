-- A route ascends from the own link to the last row, and has exactly the rows that hold its image. Assumes nothing.
use Rattle.std.specs.Prelude.{true, refl, ◌≡◌, suc, zero, ℕ, ◌+◌, ◌-◌, ◌<◌, ◌^◌, ◌≤◌, eqb, ltb, get_or, length}
use mathlib.Core.List.{List, Memᴰ, [], ◌∷◌}
use Rattle.std.proofs.Common.{ap, subst, arith, eqb-true, ltb-false, ltb-true}
use Rattle.std.proofs.lemmas.Bool.{eqb-false}
use borrow.Table.Steps.{cases}
use Rattle.ground.specs.Ascending.{Between}
use Rattle.ground.specs.Laws.Ascending.{between_ext, between_filter, between_from, from_between}
use Rattle.ground.specs.Laws.Bits.{bit-above, bit_pow}
use Rattle.ground.specs.Filters.{Each, filter}
use Rattle.ground.specs.Laws.Filters.{each_cons, each_nil, filter-mem, mem-filter}
use Rattle.ground.specs.Members.{place_of}
use Rattle.ground.specs.Ranges.{from}
use Rattle.ground.specs.Laws.Ranges.{from-mem, mem-from}
use Rattle.theory.specs.FarSides.{holds, own}
use Rattle.theory.specs.Laws.Nested.{bit-holds, holds_true}
use Rattle.theory.specs.Routes.{climb, route, uppers}
use Rattle.links.specs.Links.{Links}
use Rattle.routes.specs.Laws.Accepted.{few_rows, own-place}
use Rattle.climbing.specs.Laws.Climbs.{climb_between, climb_last, climb-next, climb_none, ends_with}
use Rattle.routes.specs.Laws.Containing.{contains-holds, full_contains_all, last_place, last_row_lem}
use Rattle.routes.specs.Laws.Containing.{later_contains, own_at, row-side, rows_ascend, upper_none}
use Rattle.climbing.specs.Laws.UpperRows.{upper-contains, upper_first, upper_later, upper-most}
use Rattle.climbing.specs.Climbs.{held_by}

-- ## The rows that hold an image

module _ (L n N : ℕ) (l v : List ℕ) (t : Links L n N l v) (i : ℕ) (hi : i < n) where
  -- from a row that holds i a climb has only such rows
  climb-holds : (m r : ℕ) → 0 < r → r ≤ N → held_by l i r ≡ true → Each (climb (uppers l) m r) (λ q. (1 ≤ q) × (q ≤ N) × (held_by l i q ≡ true))
  climb-holds zero r a b s = each_nil _
  climb-holds (suc m) zero a b s = absurd (omega arith)
  climb-holds (suc m) (suc p) a b s =
      let u = get_or (uppers l) p 0 in
      let e : suc p - 1 ≡ p = omega arith in
      each_cons (λ q. (1 ≤ q) × (q ≤ N) × (held_by l i q ≡ true)) (suc p) (climb (uppers l) m u) (omega arith, b, s)
      (cases (eqb u 0)
      (λ z. rw (eqb-true u 0 z, climb_none (uppers l) m) (each_nil _))
      (λ z.
      let g : 0 < u = omega (arith, eqb-false u 0 z) in
      let h : p < length l = omega arith in
      climb-holds m u g (omega (arith, upper-most l p h)) (contains-holds n (get_or l (u - 1) 0) (get_or l p 0) i hi (upper-contains l p h g) (rw e at s))))

  -- and every such row above
  climb-all : (m r : ℕ) → 0 < r → r ≤ N → N < r + m → held_by l i r ≡ true → (q : ℕ) → r ≤ q → q ≤ N → held_by l i q ≡ true → Memᴰ q (climb (uppers l) m r)
  climb-all zero r a b c s q x y z = absurd (omega arith)
  climb-all (suc m) zero a b c s q x y z = absurd (omega arith)
  climb-all (suc m) (suc p) a b c s q x y z =
      let u = get_or (uppers l) p 0 in
      let e : suc p - 1 ≡ p = omega arith in
      let h : p < length l = omega arith in
      cases (eqb q (suc p)) (λ k. Memᴰ.head (eqb-true q (suc p) k))
      (λ k.
      let d : p < q - 1 = omega (arith, eqb-false q (suc p) k) in
      let s' = rw e at s in
      let f = upper_first l p h (q - 1) d (omega arith) (later_contains L n N l v t i p (q - 1) hi d (omega arith) s' z) in
      let w = upper_later l p h f.0 in
      Memᴰ.tail (climb-all m u f.0 (omega (arith, upper-most l p h)) (omega arith)
      (contains-holds n (get_or l (u - 1) 0) (get_or l p 0) i hi (upper-contains l p h f.0) s') q (omega arith) y z))

-- ## Routes

-- the own link of an image other than 0 holds it, and no smaller far side does
pub own-holds : (n i : ℕ) → 0 < i → holds (own n i) i ≡ true
own-holds n zero h = absurd (omega arith)
own-holds n (suc i) h = bit-holds (2 ^ suc i) (suc i) (bit_pow (suc i))

own_least : (n i S : ℕ) → 0 < i → holds S i ≡ true → own n i ≤ S
own_least n zero S h e = absurd (omega arith)
own_least n (suc i) S h e =
    cases (ltb S (2 ^ suc i)) (λ x. absurd (omega (arith, holds_true S (suc i) e, bit-above S (suc i) (suc i) (ltb-true S (2 ^ suc i) x) (omega arith))))
    (λ x. ltb-false S (2 ^ suc i) x)

module _ (L n N : ℕ) (l v : List ℕ) (t : Links L n N l v) where
  pub route_ascends : (i : ℕ) → i < n → Between 1 (route n l i) (suc N)
  route_ascends i h =
      let p = own-place L n N l v t i h in
      let o = place_of 1 (own n i) l in
      let b = climb_between l (length l) o (omega arith) in
      between_from 1 o (suc N) (route n l i) (omega arith) (subst (λ (x : ℕ). Between o (route n l i) (suc x)) t.counted b)

  -- the route of an image other than 0: exactly the rows that hold it, ascending
  pub route_held : (i : ℕ) → 0 < i → i < n → route n l i ≡ filter (held_by l i) (from 1 N)
  route_held i a h =
      let p = own-place L n N l v t i h in
      let o = place_of 1 (own n i) l in
      let s : held_by l i o ≡ true = rw (own_at L n N l v t i h) (own-holds n i a) in
      between_ext 1 (suc N) (route n l i) (filter (held_by l i) (from 1 N))
      (route_ascends i h)
      (between_filter (held_by l i) 1 (suc N) (from 1 N) (let e : suc N ≡ 1 + N = omega arith in rw e (from_between 1 N)))
      (λ q m. let c = climb-holds L n N l v t i h (length l) o p.0 p.1 s q m in mem-filter (held_by l i) q c.2 (from 1 N)
      (mem-from 1 N q c.0 (omega arith)))
      (λ q m. let c = filter-mem (held_by l i) (from 1 N) q m in let b = from-mem 1 N q c.1 in
      climb-all L n N l v t i h (length l) o p.0 p.1 (omega arith) s q (low i q a h p b c.0) (omega arith) c.0)
    where
      -- no row before the own link holds the image
      low : (i q : ℕ) → 0 < i → i < n → (0 < place_of 1 (own n i) l) × (place_of 1 (own n i) l ≤ N) → (1 ≤ q) × (q < 1 + N) → held_by l i q ≡ true
          → place_of 1 (own n i) l ≤ q
      low i q a h p b s =
          let o' = place_of 1 (own n i) l in
          cases (ltb q o')
          (λ x. absurd (omega (
            arith,
            ltb-true q o' x,
            rows_ascend L n N l v t (q - 1) (o' - 1) (omega (arith, ltb-true q o' x)) (omega arith),
            own_least n i
                (get_or l (q - 1) 0) a s,
            own_at L n N l v t i h,
          )))
          (λ x. ltb-false q o' x)

  -- the route of image 0: the last row alone
  pub route-first : route n l 0 ≡ N ∷ []
  route-first =
      let p = few_rows L n N l v t in
      let c = climb_last l N p.0 (omega arith) (upper_none L n N l v t) in
      rw (last_place L n N l v t) c

  pub route_starts : (i : ℕ) → i < n → get_or l (get_or (route n l i) 0 0 - 1) 0 ≡ own n i
  route_starts i h =
      let p = own-place L n N l v t i h in
      let o = place_of 1 (own n i) l in
      let e : get_or (route n l i) 0 0 ≡ o = ap (λ (m : List ℕ). get_or m 0 0) (climb-next l o p.0 (omega arith)) in
      rw e (own_at L n N l v t i h)

  -- the last row is in every route
  pub route_ends : (i : ℕ) → i < n → get_or (route n l i) (length (route n l i) - 1) 0 ≡ N
  route_ends zero h = rw route-first refl
  route_ends (suc i) h =
      let p = few_rows L n N l v t in
      let o = own-place L n N l v t (suc i) h in
      let f = row-side L n N l v t (place_of 1 (own n (suc i)) l - 1) (omega arith) in
      let c = full_contains_all n (own n (suc i)) t.some (rw (own_at L n N l v t (suc i) h) at f) in
      let s : held_by l (suc i) N ≡ true = rw (last_row_lem L n N l v t)
      (contains-holds n (own n 0) (own n (suc i)) (suc i) h c (own-holds n (suc i) (omega arith))) in
      ends_with 1 N (route n l (suc i)) (route_ascends (suc i) h)
      (rw (route_held (suc i) (omega arith) h) (mem-filter (held_by l (suc i)) N s (from 1 N) (mem-from 1 N N (omega arith) (omega arith))))
