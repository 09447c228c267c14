-- Images on a line: accepted whatever their places are, since every wiring along a line gives such a table. Assumes nothing.
use Rattle.std.specs.Prelude.{cond, refl, ◌≡◌, max, ℕ, ◌*◌, ◌+◌, ◌-◌, ◌<◌, ◌≤◌, eqb, leb}
use Rattle.std.proofs.Common.{ap, sym, ◌∙◌, arith, eq-eqb, eqb-true, leb-false, leb-true, ne_eqb}
use Rattle.std.proofs.lemmas.Bool.{eqb-false}
use borrow.Table.Steps.{cases}
use Rattle.theory.specs.FourPoint.{FourPoint}
use Rattle.theory.proofs.Laws.FourPoint.{four_point_lem}
use Rattle.theory.specs.Tables.{WellFormed}

-- how far apart two places are
unfoldable pub gap : ℕ → ℕ → ℕ
gap x y = (x - y) + (y - x)

gap_up : (x y : ℕ) → (x ≤ y + gap x y) × (y ≤ x + gap x y)
unfolding gap
gap_up x y = (omega arith, omega arith)

pub gap_is : (x y : ℕ) → x ≤ y → gap x y + x ≡ y
unfolding gap
gap_is x y h = omega arith

pub gap_same : (x y : ℕ) → gap x y ≡ gap y x
unfolding gap
gap_same x y = omega arith

gap-most : (x y m : ℕ) → x ≤ m → y ≤ m → gap x y ≤ m
unfolding gap
gap-most x y m h k = omega arith

gap-four : (p q r s : ℕ) → gap p q + gap r s ≤ max (gap p r + gap q s) (gap p s + gap q r)
gap-four p q r s =
    cases (leb p q)
    (λ a. let u = gap_is p q (leb-true p q a) in
    cases (leb r s)
    (λ b. omega (arith, gap_is r s (leb-true r s b), (gap_up p s).1, (gap_up q r).0))
    (λ b. omega (arith, gap_is s r (omega (arith, leb-false r s b)), gap_same r s, (gap_up p r).1, (gap_up q s).0)))
    (λ a. let u = gap_is q p (omega (arith, leb-false p q a)) in
    let v = gap_same p q in
    cases (leb r s)
    (λ b. omega (arith, gap_is r s (leb-true r s b), (gap_up p r).0, (gap_up q s).1))
    (λ b. omega (arith, gap_is s r (omega (arith, leb-false r s b)), gap_same r s, (gap_up p s).0, (gap_up q r).1)))

-- ## Images at places of a line, each with an own link of cost 1

module _ (at : ℕ → ℕ) where
  unfoldable pub line : ℕ → ℕ → ℕ
  line i j = cond (eqb i j) 0 (2 + 2 * gap (at i) (at j))

  pub line_self : (i j : ℕ) → i ≡ j → line i j ≡ 0
  unfolding line
  line_self i j e = rw (eq-eqb i j e)

  pub line_other : (i j : ℕ) → (i ≡ j → ⊥) → line i j ≡ 2 + 2 * gap (at i) (at j)
  unfolding line
  line_other i j h = rw (ne_eqb i j h)

  line-most : (i j : ℕ) → line i j ≤ 2 + 2 * gap (at i) (at j)
  line-most i j =
      cases (eqb i j) (λ e. omega (arith, line_self i j (eqb-true i j e))) (λ e. omega (arith, line_other i j (eqb-false i j e)))

  pub line_same : (i j : ℕ) → line i j ≡ line j i
  line_same i j =
      cases (eqb i j)
      (λ e. line_self i j (eqb-true i j e) ∙ sym (line_self j i (sym (eqb-true i j e))))
      (λ e. omega (arith, line_other i j (eqb-false i j e), line_other j i (λ t. eqb-false i j e (sym t)), gap_same (at i) (at j)))

  -- where none of i and j is one of k and l; else two of the sums are the same
  line-four : (i j k l : ℕ) → line i j + line k l ≤ max (line i k + line j l) (line i l + line j k)
  line-four i j k l =
      cases (eqb i k) (λ e. let t = eqb-true i k e in omega (arith, ap (λ (x : ℕ). line x l) t, ap (line j) t, line_same i j))
      (λ a. cases (eqb j l) (λ e. let t = eqb-true j l e in omega (arith, ap (line i) t, ap (line k) t, line_same k j))
      (λ b. cases (eqb i l) (λ e. let t = eqb-true i l e in omega (arith, ap (λ (x : ℕ). line x k) t, ap (line j) t, line_same i j, line_same k l))
      (λ c. cases (eqb j k) (λ e. let t = eqb-true j k e in omega (arith, ap (line i) t, ap (λ (x : ℕ). line x l) t))
      (λ e. omega (
        arith,
        line-most i j,
        line-most k l,
        line_other i k (eqb-false i k a),
        line_other j l (eqb-false j l b),
        line_other i l (eqb-false i l c),
        line_other j k (eqb-false j k e),
        gap-four (at i) (at j) (at k) (at l),
      )))))

  pub line-accepted : (n : ℕ) → FourPoint line n
  line-accepted n = four_point_lem line n (λ i j hi hj. line_same i j) (record { low = λ {i} {j} {k} {l} hi hj hk hl. line-four i j k l })

  -- every place at most m
  pub line_formed : (L m n : ℕ) → ((i : ℕ) → i < n → at i ≤ m) → 2 + 2 * m ≤ L → WellFormed L line n
  line_formed L m n h low = record {
    small = λ {i} {j} hi hj. omega (arith, line-most i j, gap-most (at i) (at j) m (h i hi) (h j hj));
    self = λ {i} hi. line_self i i refl;
    same = λ {i} {j} hi hj. line_same i j;
    nonzero = λ {i} {j} hi hj ne. omega (arith, line_other i j ne);
  }
