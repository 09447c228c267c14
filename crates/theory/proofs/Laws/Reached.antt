-- The bound for the ring of a table that is a little off is reached, on the timed line. Assumes nothing.
use Rattle.std.proofs.lemmas.Bool.{false≢true, eqb-false}
use Rattle.std.specs.Prelude.{true, List, [], ◌∷◌, ◌⊎◌, ◌≡◌, eqb, leb, ltb}
use mathlib.Core.List.Memᴰ
use Rattle.std.proofs.Common.{inl, inr, ap, sym, ◌∙◌, suc-mul, zero-mul, eq-eqb, eqb-true, le-ltb, leb-false, leb-true, lt-ltb, ltb-false, ltb-true, ne_eqb}
use Prim.Native.Nat.{suc, zero, ℕ, ◌*◌, ◌+◌, ◌-◌, ◌<◌, ◌≤◌}
use native.Mathlib.Omega.{arith}
use borrow.Table.Steps.{cases}
use Rattle.ground.specs.Counts.{one_if}
use Rattle.ground.specs.Laws.Filters.{each_cons}
use Rattle.ground.specs.Members.{occurs}
use Rattle.theory.proofs.Laws.Line.{line_same}
use Rattle.theory.specs.Laws.Next.{None, next_is}
use Rattle.theory.proofs.Laws.TimedLine.{at, end, ends, first, front, low, n, timed, timed_same, wired}
use Rattle.theory.specs.Laws.Walk.{order-all}
use Rattle.theory.specs.Order.{AnOrder, along, closed, free, grow, next, order}
use Rattle.theory.specs.OrderRules.{IsNext}

-- the numbers below m, descending
abbrev down : ℕ → List ℕ
down zero = []
down (suc m) = m ∷ down m

occurs-down : (i m : ℕ) → occurs i (down m) ≡ one_if (ltb i m)
occurs-down i zero = ap one_if (sym (le-ltb i 0 (omega arith)))
occurs-down i (suc m) =
    let ih = occurs-down i m in
    cases (eqb i m)
    (λ e. let t = eqb-true i m e in rw (e, ih, le-ltb i m (omega arith), lt-ltb i (suc m) (omega arith)) (omega arith))
    (λ e. let t = eqb-false i m e in
    cases (ltb i m)
    (λ l. let y = ltb-true i m l in rw (e, ih, l, lt-ltb i (suc m) (omega arith)) (omega arith))
    (λ l. let y = ltb-false i m l in rw (e, ih, l, le-ltb i (suc m) (omega (arith, t))) (omega arith)))

-- along them, where each step costs c
along-down : (w : ℕ → ℕ → ℕ) (c k h m : ℕ) → m ≤ k → ((i : ℕ) → i < k → w (suc i) i ≡ c) → along w h m (down m) ≡ m * c + w 0 h
along-down w c k h zero l e = omega (arith, zero-mul c)
along-down w c k h (suc m) l e = omega (arith, e m (omega arith), along-down w c k h m (omega arith) e, suc-mul m c)

module _ (k : ℕ) where
  free_is : (u m : ℕ) → (u ≡ first k → ⊥) → m ≤ u → free (first k) (down m) u ≡ true
  free_is u m h l = eq-eqb (occurs u (first k ∷ down m)) 0 (rw (ne_eqb u (first k) h, occurs-down u m, le-ltb u m l) (omega arith))

  is_free : (u m : ℕ) → free (first k) (down m) u ≡ true → (u ≡ first k → ⊥) × (m ≤ u)
  is_free u m t =
      let z = eqb-true (occurs u (first k ∷ down m)) 0 t in (
        λ h. let y : one_if (eqb u (first k)) ≡ 1 = ap one_if (eq-eqb u (first k) h) in omega arith,
        cases (ltb u m) (λ l. let y = occurs-down u m ∙ ap one_if l in absurd (omega (arith, y))) (λ l. ltb-false u m l),
      )

  next_up : (a : ℕ) → a ≤ k → next (timed k) (first k) a (down (suc a)) (n k) ≡ suc a
  next_up a h = go (next_is (timed k) (first k) a (down (suc a)) (n k))
    where
      w : ℕ
      w = next (timed k) (first k) a (down (suc a)) (n k)

      up-free : free (first k) (down (suc a)) (suc a) ≡ true
      up-free = free_is (suc a) (suc a) (λ t. omega arith) (omega arith)

      -- a later one is no better
      later : (v : ℕ) → suc a < v → v ≤ suc k → (timed k) a (suc a) + (timed k) (first k) v ≤ (timed k) a v + (timed k) (first k) (suc a)
      later v l m =
          let x = (low k a (suc a) (omega arith) (omega arith)).1 in
          let y = (front k (suc a) (omega arith)).1 in
          cases (leb v k)
          (λ t. let u = leb-true v k t in omega (arith, (low k a v (omega arith) u).1, (front k v u).1))
          (λ t. let u : v ≡ suc k = omega (arith, leb-false v k t) in rw u (omega (arith, (end k a h).1, (ends k).1)))

      go : ((w ≡ first k) × None (timed k) (first k) a (down (suc a)) (n k)) ⊎ IsNext (timed k) (first k) a (down (suc a)) (n k) w → w ≡ suc a
      go (inl r) = absurd (false≢true (sym (r.1 (suc a) (omega arith)) ∙ up-free))
      go (inr r) =
          let f = is_free w (suc a) r.is_free in
          cases (eqb w (suc a)) (λ t. eqb-true w (suc a) t)
          (λ t.
          let s : suc a < w = omega (arith, f.1, eqb-false w (suc a) t) in
          let top : w ≤ suc k = cases (eqb w (first k)) (λ z. absurd (f.0 (eqb-true w (first k) z))) (λ z. omega (arith, r.below, eqb-false w (first k) z)) in
          absurd (omega (arith, later w s top, r.lowest (suc a) s up-free)))

  grown : (m a : ℕ) → a + m ≡ suc k → grow (timed k) (n k) (first k) m a (down a) ≡ down (first k)
  unfolding grow
  grown zero a h = let t : a ≡ suc k = omega arith in rw t
  grown (suc m) a h = rw (next_up a (omega arith)) (grown m (suc a) (omega arith))

  ordered_down : order (timed k) (n k) (first k) 0 ≡ down (n k)
  ordered_down = let t : n k - 2 ≡ suc k = omega arith in rw t (ap (λ (l : List ℕ). first k ∷ l) (grown (suc k) 0 (omega arith)))

  -- ## The ring with its (first k) two images exchanged

  abbrev pub exchanged : List ℕ
  exchanged = suc k ∷ first k ∷ down (suc k)

  pub exchanged-all : AnOrder (n k) exchanged
  exchanged-all =
      let a = rw ordered_down at (order-all (timed k) (n k) (first k) (omega arith) 0 (omega arith) (λ t. omega arith)).all in
      record {
        range = each_cons _ (suc k) _ (omega arith) (each_cons _ (first k) _ (omega arith) (λ i m. a.range i (Memᴰ.tail (Memᴰ.tail m))));
        once = λ i h. omega (arith, a.once i h);
      }

  -- ## What both rings cost, by either table

  timed_steps : (h : ℕ) → along (timed k) h k (down k) ≡ k * 3 + timed k 0 h
  timed_steps h = along-down (timed k) 3 k h k (omega arith) (λ i l. omega (arith, timed_same k (suc i) i, (low k i (suc i) (omega arith) (omega arith)).1))

  wired_steps : (h : ℕ) → along (wired k) h k (down k) ≡ k * 4 + wired k 0 h
  wired_steps h = along-down (wired k) 4 k h k (omega arith) (λ i l. omega (arith, line_same (at k) (suc i) i, (low k i (suc i) (omega arith) (omega arith)).0))

  pub order-timed : closed (timed k) (order (timed k) (n k) (first k) 0) ≡ 9 * k + 7
  order-timed =
      ap (closed (timed k)) ordered_down
      ∙ omega (arith, timed_steps (first k), (ends k).1, timed_same k (suc k) k, (end k k (omega arith)).1, timed_same k 0 (first k), (front k 0 (omega arith)).1)

  pub exchanged-timed : closed (timed k) exchanged ≡ 5 * k + 7
  exchanged-timed =
      omega (arith, timed_steps (suc k), timed_same k (suc k) (first k), (ends k).1, (front k k (omega arith)).1, (end k 0 (omega arith)).1)

  pub order-wired : closed (wired k) (order (timed k) (n k) (first k) 0) ≡ 10 * k + 6
  order-wired =
      ap (closed (wired k)) ordered_down
      ∙ omega (arith, wired_steps (first k), (ends k).0, line_same (at k) (suc k) k, (end k k (omega arith)).0, line_same (at k) 0 (first k), (front k 0 (omega arith)).0)

  pub exchanged-wired : closed (wired k) exchanged ≡ 6 * k + 6
  exchanged-wired =
      omega (arith, wired_steps (suc k), line_same (at k) (suc k) (first k), (ends k).0, (front k k (omega arith)).0, (end k 0 (omega arith)).0)
