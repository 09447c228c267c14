-- Refusal 13: n numbers, and each of 1 to n among them, name every image once. Assumes nothing.
use Rattle.std.specs.Prelude.{true, ◌||◌, ◌⊎◌, refl, ◌≡◌, suc, ℕ, ◌+◌, ◌<◌, ◌≤◌, eqb, ltb, length}
use Rattle.std.proofs.Common.{inl, inr, ap, sym, ◌∙◌, arith, length-append, lt-ltb, ltb-false, ltb-true, ne_eqb}
use borrow.Table.Steps.{cases}
use Rattle.ground.specs.Counts.{one_if}
use Rattle.ground.specs.Members.{is_in}
use Rattle.ground.specs.Refusals.{outside}
use Rattle.ground.specs.Totals.{total}
use Rattle.ground.specs.Laws.Refusals.{outside_false}
use Rattle.ground.specs.Laws.Tests.{or_cases}
use Rattle.ground.specs.Laws.Totals.{total-add, total_least, total_zero}
use Rattle.newick_text.specs.Trees.{Siblings, bracket, image, none}
use Rattle.newick_text.specs.Tables.{names}
use Rattle.newick_text.specs.Laws.Lists.{is_in_append}
use Rattle.newick_text.specs.Laws.Numbers.{eqb_turn, total-below, total_image, total_tight}
use Rattle.newick_text.specs.Laws.Vertices.{Named, Once, occ}

some_or : (x y : ℕ) → (ltb 0 x || ltb 0 y) ≡ ltb 0 (x + y)
some_or x y =
    cases (ltb 0 x) (λ e. rw e (sym (lt-ltb 0 (x + y) (omega (arith, ltb-true 0 x e)))))
    (λ e. let q : y ≡ x + y = omega (arith, ltb-false 0 x e) in rw e (ap (ltb 0) q))

-- the numbers in the text are those that are named
names-occ : (f : Siblings) (m : ℕ) → is_in (suc m) (names f) ≡ ltb 0 (occ f m)
unfolding names occ
names-occ none m = refl
names-occ (image i c r) m =
    let ih = names-occ r m in
    rw (eqb_turn (suc m) i, ih, ← some_or (one_if (eqb i (suc m))) (occ r m)) (cases (eqb i (suc m)) (λ e. rw e refl) (λ e. rw e refl))
names-occ (bracket g c r) m = rw (is_in_append (suc m) (names g) (names r), names-occ g m, names-occ r m) (some_or (occ g m) (occ r m))

pub occ-named : (f : Siblings) (m : ℕ) → 0 < occ f m → is_in (suc m) (names f) ≡ true
occ-named f m h = names-occ f m ∙ lt-ltb 0 (occ f m) h

-- ## Numbers that are none of 1 to n

-- 1 where the number is none of 1 to n
abbrev stray : ℕ → ℕ → ℕ
stray n i = one_if (outside 1 n i)

strays : ℕ → Siblings → ℕ
strays n none = 0
strays n (image i c r) = stray n i + strays n r
strays n (bracket g c r) = strays n g + strays n r

total-stray : (n i : ℕ) → total n (λ m. one_if (eqb i (suc m))) + stray n i ≡ 1
total-stray n i =
    cases (outside 1 n i)
    (λ e.
    let other : (m : ℕ) → m < n → i ≡ suc m → ⊥ = λ m l q. far m l q (or_cases (ltb i 1) (ltb n i) e) in
    rw e (omega (arith, total-below n (λ m. one_if (eqb i (suc m))) (λ m l. ap one_if (ne_eqb i (suc m) (other m l))))))
    (λ e. let k = outside_false 1 n i e in rw e (omega (arith, total_image n i k.0 k.1)))
  where
    far : (m : ℕ) → m < n → i ≡ suc m → (ltb i 1 ≡ true) ⊎ (ltb n i ≡ true) → ⊥
    far m l q (inl t) = omega (arith, ltb-true i 1 t)
    far m l q (inr t) = omega (arith, ltb-true n i t)

strays_total : (n : ℕ) (f : Siblings) → total n (occ f) + strays n f ≡ length (names f)
unfolding names occ strays
strays_total n none = omega (arith, total_zero n)
strays_total n (image i c r) = omega (arith, strays_total n r, total-stray n i, total-add n (λ m. one_if (eqb i (suc m))) (occ r))
strays_total n (bracket g c r) = omega (arith, strays_total n g, strays_total n r, total-add n (occ g) (occ r), length-append (names g) (names r))

stray_none : (n i : ℕ) → stray n i ≡ 0 → (1 ≤ i) × (i ≤ n)
stray_none n i e = cases (outside 1 n i) (λ t. let z : one_if true ≡ 0 = rw t at e in absurd (omega arith)) (λ t. outside_false 1 n i t)

strays_none : (n : ℕ) (f : Siblings) → strays n f ≡ 0 → Named n f
unfolding strays
strays_none n none e = tt
strays_none n (image i c r) e = let k = stray_none n i (omega arith) in (k.0, k.1, strays_none n r (omega arith))
strays_none n (bracket g c r) e = (strays_none n g (omega arith), strays_none n r (omega arith))

occ-above : (n : ℕ) (f : Siblings) (m : ℕ) → Named n f → n ≤ m → occ f m ≡ 0
unfolding occ
occ-above n none m h l = refl
occ-above n (image i c r) m h l = rw (ne_eqb i (suc m) (λ q. omega (arith, h.1))) (omega (arith, occ-above n r m h.2 l))
occ-above n (bracket g c r) m h l = omega (arith, occ-above n g m h.0 l, occ-above n r m h.1 l)

-- ## Every image once

-- n numbers, and each of 1 to n among them: each once
pub record AllOnce (n : ℕ) (f : Siblings) : Type 0 where
  pub named : Named n f
  pub each : (m : ℕ) → m < n → occ f m ≡ 1
  pub once : Once f

pub all_once : (n : ℕ) (f : Siblings) → length (names f) ≡ n → ((m : ℕ) → m < n → is_in (suc m) (names f) ≡ true) → AllOnce n f
all_once n f e h =
    let some : (m : ℕ) → m < n → 1 ≤ occ f m = λ m l. ltb-true 0 (occ f m) (sym (names-occ f m) ∙ h m l) in
    let t = total_least n (occ f) some in
    let s = strays_total n f in
    let k : Named n f = strays_none n f (omega arith) in
    let one : (m : ℕ) → m < n → occ f m ≡ 1 = total_tight n (occ f) some (omega arith) in
    record {
      named = k;
      each = one;
      once = λ m. cases (ltb m n) (λ l. omega (arith, one m (ltb-true m n l))) (λ l. omega (arith, occ-above n f m k (ltb-false m n l)));
    }
