-- The order of rows: by far side, then by cost. Assumes nothing.
use Rattle.std.specs.Prelude.{false, true, ◌&&◌, ◌⊎◌, refl, ◌≡◌, ◌<◌, ◌≤◌, eqb, leb, ltb}
use Rattle.std.proofs.Common.{inl, inr, sym, ◌∙◌, arith, eq-eqb, eqb-true, le-leb, leb-false, leb-true, lt-ltb, ltb-false, ltb-true}
use Rattle.std.proofs.lemmas.Bool.{eqb-false}
use borrow.Table.Steps.{cases}
use Rattle.ground.specs.Laws.Tests.{and_l, and_r, or_cases, or_false, or_l, or_r}
use Rattle.theory.specs.LinkTables.{Row}
use Rattle.newick_text.specs.Tables.{row_le}

-- a comes before b, or is b
abbrev Before : Row → Row → Type 0
Before a b = (a.0 < b.0) ⊎ ((a.0 ≡ b.0) × (a.1 ≤ b.1))

le_before : (a b : Row) → row_le a b ≡ true → Before a b
le_before a b e = go (or_cases (ltb a.0 b.0) (eqb a.0 b.0 && leb a.1 b.1) e)
  where
    go : (ltb a.0 b.0 ≡ true) ⊎ ((eqb a.0 b.0 && leb a.1 b.1) ≡ true) → Before a b
    go (inl h) = inl (ltb-true a.0 b.0 h)
    go (inr h) =
        let k = leb-true a.1 b.1 (and_r (eqb a.0 b.0) (leb a.1 b.1) h) in
        inr (eqb-true a.0 b.0 (and_l (eqb a.0 b.0) (leb a.1 b.1) h), k)

before_le : (a b : Row) → Before a b → row_le a b ≡ true
before_le a b (inl h) = or_l (ltb a.0 b.0) (eqb a.0 b.0 && leb a.1 b.1) (lt-ltb a.0 b.0 h)
before_le a b (inr h) = or_r (ltb a.0 b.0) (eqb a.0 b.0 && leb a.1 b.1) (rw (eq-eqb a.0 b.0 h.0, le-leb a.1 b.1 h.1) refl)

pub le_total : (a b : Row) → row_le a b ≡ false → row_le b a ≡ true
le_total a b e =
    let f = or_false (ltb a.0 b.0) (eqb a.0 b.0 && leb a.1 b.1) e in
    cases (eqb a.0 b.0)
    (λ q. before_le b a (inr (sym (eqb-true a.0 b.0 q), omega (arith, leb-false a.1 b.1 (rw q at f.1)))))
    (λ q. before_le b a (inl (omega (arith, ltb-false a.0 b.0 f.0, eqb-false a.0 b.0 q))))

pub le_trans : (a b c : Row) → row_le a b ≡ true → row_le b c ≡ true → row_le a c ≡ true
le_trans a b c p q = before_le a c (go (le_before a b p) (le_before b c q))
  where
    go : Before a b → Before b c → Before a c
    go (inl x) (inl y) = inl (omega arith)
    go (inl x) (inr y) = inl (omega (arith, y.0))
    go (inr x) (inl y) = inl (omega (arith, x.0))
    go (inr x) (inr y) = inr (x.0 ∙ y.0, omega (arith, x.1, y.1))

pub le_same : (a b : Row) → row_le a b ≡ true → row_le b a ≡ true → a ≡ b
le_same a b p q = go (le_before a b p) (le_before b a q)
  where
    both : (a.0 ≡ b.0) → (a.1 ≡ b.1) → a ≡ b
    both e f = λ i. (e i, f i)

    go : Before a b → Before b a → a ≡ b
    go (inl x) (inl y) = absurd (omega arith)
    go (inl x) (inr y) = absurd (omega (arith, y.0))
    go (inr x) (inl y) = absurd (omega (arith, x.0))
    go (inr x) (inr y) = both x.0 (omega (arith, x.1, y.1))

pub not_before : (a x : Row) → x.0 < a.0 → row_le a x ≡ false
not_before a x g = cases (row_le a x) (λ p. absurd (go (le_before a x p))) (λ p. p)
  where
    go : Before a x → ⊥
    go (inl y) = omega arith
    go (inr y) = omega (arith, y.0)
