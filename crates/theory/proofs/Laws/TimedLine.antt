-- A line, and timings of it that are off by one, such that the order around them is as bad as it can be. Assumes nothing.
use Rattle.std.specs.Prelude.{cond, false, true, refl, ◌≡◌, suc, ℕ, ◌*◌, ◌+◌, ◌-◌, ◌<◌, ◌≤◌, eqb, leb}
use Rattle.std.proofs.Common.{sym, ◌∙◌, arith}
use borrow.Author.Tests.{eq-eqb, eqb-false, eqb-true, le-leb, leb-true, lt-leb, ne_eqb}
use borrow.Table.Steps.{cases}
use Rattle.ground.specs.Tests.{one_of}
use Rattle.ground.specs.Laws.Tests.{one_of_sym}
use Rattle.theory.proofs.Laws.Line.{gap_is, gap_same, line, line_formed, line_other, line_same, line_self}
use Rattle.theory.specs.Readings.{Near}
use Rattle.theory.specs.Tables.{WellFormed}

module _ (k : ℕ) where
  -- images 0 to k stand at the places 0 to k of a line, one more image at 0, and the last one, first on the ring, at k
  unfoldable pub at : ℕ → ℕ
  at i = cond (leb i k) i (cond (eqb i (suc k)) 0 k)

  abbrev pub first : ℕ
  first = suc (suc k)

  abbrev pub n : ℕ
  n = suc first

  abbrev pub wired : ℕ → ℕ → ℕ
  wired = line at

  -- each entry one more where exactly one of the two is among 0 to k, else one less
  unfoldable pub timed : ℕ → ℕ → ℕ
  timed i j = cond (eqb i j) 0 (cond (one_of (leb i k) (leb j k)) (suc (wired i j)) (wired i j - 1))

  at_low : (i : ℕ) → i ≤ k → at i ≡ i
  unfolding at
  at_low i h = rw (le-leb i k h)

  at_end : at (suc k) ≡ 0
  unfolding at
  at_end = rw (lt-leb (suc k) k (omega arith), eq-eqb (suc k) (suc k) refl)

  at_first : at first ≡ k
  unfolding at
  at_first = rw (lt-leb first k (omega arith), ne_eqb first (suc k) (λ t. omega arith))

  at_most : (i : ℕ) → at i ≤ k
  unfolding at
  at_most i =
      cases (leb i k) (λ t. rw t (leb-true i k t))
      (λ t. rw t (cases (eqb i (suc k)) (λ u. rw u (omega arith)) (λ u. rw u (omega arith))))

  timed-more : (i j : ℕ) → (i ≡ j → ⊥) → one_of (leb i k) (leb j k) ≡ true → timed i j ≡ suc (wired i j)
  unfolding timed
  timed-more i j h t = rw (ne_eqb i j h, t)

  timed_less : (i j : ℕ) → (i ≡ j → ⊥) → one_of (leb i k) (leb j k) ≡ false → suc (timed i j) ≡ wired i j
  unfolding timed
  timed_less i j h t = rw (ne_eqb i j h, t) (omega (arith, line_other at i j h))

  timed_self : (i j : ℕ) → i ≡ j → timed i j ≡ 0
  unfolding timed
  timed_self i j h = rw (eq-eqb i j h)

  -- ## Both tables

  pub wired_formed : (L : ℕ) → 2 * n ≤ L → WellFormed L wired n
  wired_formed L h = line_formed at L k n (λ i hi. at_most i) (omega arith)

  pub near-one : Near 1 wired timed n
  near-one = record { up = λ {i} {j} hi hj. (go i j).0; down = λ {i} {j} hi hj. (go i j).1 }
    where
      go : (i j : ℕ) → (wired i j ≤ timed i j + 1) × (timed i j ≤ wired i j + 1)
      go i j =
          cases (eqb i j)
          (λ t. let u = timed_self i j (eqb-true i j t) in let v = line_self at i j (eqb-true i j t) in (omega arith, omega arith))
          (λ t. cases (one_of (leb i k) (leb j k))
          (λ b. let u = timed-more i j (eqb-false i j t) b in (omega arith, omega arith))
          (λ b. let u = timed_less i j (eqb-false i j t) b in (omega arith, omega arith)))

  pub timed_same : (i j : ℕ) → timed i j ≡ timed j i
  timed_same i j =
      cases (eqb i j)
      (λ t. let u = eqb-true i j t in timed_self i j u ∙ sym (timed_self j i (sym u)))
      (λ t. let u = eqb-false i j t in
      let s = one_of_sym (leb i k) (leb j k) in
      cases (one_of (leb i k) (leb j k))
      (λ b. omega (arith, timed-more i j u b, timed-more j i (λ z. u (sym z)) (sym s ∙ b), line_same at i j))
      (λ b. omega (arith, timed_less i j u b, timed_less j i (λ z. u (sym z)) (sym s ∙ b), line_same at i j)))

  pub timed_formed : (L : ℕ) → 2 * n ≤ L → WellFormed L timed n
  timed_formed L h = record {
    small = λ {i} {j} hi hj. omega (arith, near-one.down hi hj, (line_formed at (2 + 2 * k) k n (λ i hi. at_most i) (omega arith)).small hi hj);
    self = λ {i} hi. timed_self i i refl;
    same = λ {i} {j} hi hj. timed_same i j;
    nonzero = λ {i} {j} hi hj ne. omega (arith, near-one.up hi hj, line_other at i j ne);
  }

  -- ## Their entries: between two of the first images, of these with the two others, and of those two

  pub low : (i j : ℕ) → i < j → j ≤ k → (wired i j + 2 * i ≡ 2 + 2 * j) × (timed i j + 2 * i ≡ 1 + 2 * j)
  low i j h l =
      let a = line_other at i j (λ t. omega arith) in
      let b = rw (at_low i (omega arith), at_low j l) at a in
      let c = timed_less i j (λ t. omega arith) (rw (le-leb i k (omega arith), le-leb j k l)) in
      let g = gap_is i j (omega arith) in
      (omega arith, omega arith)

  pub end : (i : ℕ) → i ≤ k → (wired i (suc k) ≡ 2 + 2 * i) × (timed i (suc k) ≡ 3 + 2 * i)
  end i h =
      let a = line_other at i (suc k) (λ t. omega arith) in
      let b = rw (at_low i h, at_end) at a in
      let c = timed-more i (suc k) (λ t. omega arith) (rw (le-leb i k h, lt-leb (suc k) k (omega arith))) in
      let s = gap_same i 0 in
      let g = gap_is 0 i (omega arith) in
      (omega arith, omega arith)

  pub front : (i : ℕ) → i ≤ k → (wired first i + 2 * i ≡ 2 + 2 * k) × (timed first i + 2 * i ≡ 3 + 2 * k)
  front i h =
      let a = line_other at first i (λ t. omega arith) in
      let b = rw (at_low i h, at_first) at a in
      let c = timed-more first i (λ t. omega arith) (rw (le-leb i k h, lt-leb first k (omega arith))) in
      let s = gap_same k i in
      let g = gap_is i k h in
      (omega arith, omega arith)

  pub ends : (wired first (suc k) ≡ 2 + 2 * k) × (timed first (suc k) ≡ 1 + 2 * k)
  ends =
      let a = line_other at first (suc k) (λ t. omega arith) in
      let b = rw (at_end, at_first) at a in
      let c = timed_less first (suc k) (λ t. omega arith) (rw (lt-leb first k (omega arith), lt-leb (suc k) k (omega arith))) in
      let s = gap_same k 0 in
      let g = gap_is 0 k (omega arith) in
      (omega arith, omega arith)
