-- The numbers that images had before one left: each of the others had one, and no two the same. Assumes nothing.
use Rattle.std.proofs.Common.{ap, sym, ◌∙◌, arith, eq-eqb, eqb-true, le-ltb, lt-ltb, ltb-false, ltb-true, ne_eqb}
use Rattle.std.specs.Prelude.{◌≡◌, suc, zero, ℕ, ◌<◌, ◌≤◌, eqb, ltb}
use Rattle.std.proofs.lemmas.Bool.{eqb-false}
use borrow.Table.Steps.{cases}
use Rattle.mending.specs.Leaving.{had}

pub had-below : (x i : ℕ) → i < x → had x i ≡ i
had-below x i h = rw (lt-ltb i x h)

pub had-above : (x i : ℕ) → x ≤ i → had x i ≡ suc i
had-above x i h = rw (le-ltb i x h)

pub had-suc : (x i : ℕ) → had (suc x) (suc i) ≡ suc (had x i)
had-suc x i =
    cases (ltb i x)
    (λ e. let h = ltb-true i x e in had-below (suc x) (suc i) (omega arith) ∙ ap suc (sym (had-below x i h)))
    (λ e. let h = ltb-false i x e in had-above (suc x) (suc i) (omega arith) ∙ ap suc (sym (had-above x i h)))

pub had_lt : (m x i : ℕ) → i < m → had x i < suc m
had_lt m x i h = cases (ltb i x) (λ e. rw e (omega arith)) (λ e. rw e (omega arith))

pub had-other : (x i : ℕ) → x ≡ had x i → ⊥
had-other x i q =
    cases (ltb i x)
    (λ e. let t = had-below x i (ltb-true i x e) in omega (arith, ltb-true i x e))
    (λ e. let t = had-above x i (ltb-false i x e) in omega (arith, ltb-false i x e))

-- each image other than x had some number
pub had-all : (m x i : ℕ) → x < suc m → i < suc m → (x ≡ i → ⊥) → (j : ℕ) × (j < m) × (i ≡ had x j)
had-all m x i hx hi ne =
    cases (ltb i x)
    (λ e. let h = ltb-true i x e in (i, omega arith, sym (had-below x i h)))
    (λ e. go i hi ne (ltb-false i x e))
  where
    go : (i : ℕ) → i < suc m → (x ≡ i → ⊥) → x ≤ i → (j : ℕ) × (j < m) × (i ≡ had x j)
    go zero hi ne h = absurd (ne (omega arith))
    go (suc i) hi ne h = (i, omega arith, sym (had-above x i (omega arith)))

-- and no two the same
pub had_once : (x i j : ℕ) → had x i ≡ had x j → i ≡ j
had_once x i j q =
    cases (ltb i x)
    (λ s. let a = had-below x i (ltb-true i x s) in
    cases (ltb j x)
    (λ t. let b = had-below x j (ltb-true j x t) in omega arith)
    (λ t. let b = had-above x j (ltb-false j x t) in omega (arith, ltb-true i x s, ltb-false j x t)))
    (λ s. let a = had-above x i (ltb-false i x s) in
    cases (ltb j x)
    (λ t. let b = had-below x j (ltb-true j x t) in omega (arith, ltb-false i x s, ltb-true j x t))
    (λ t. let b = had-above x j (ltb-false j x t) in omega arith))

pub had_same : (x i j : ℕ) → eqb (had x i) (had x j) ≡ eqb i j
had_same x i j =
    cases (eqb i j)
    (λ e. eq-eqb (had x i) (had x j) (ap (had x) (eqb-true i j e)) ∙ sym e)
    (λ e. ne_eqb (had x i) (had x j) (λ q. eqb-false i j e (had_once x i j q)) ∙ sym e)
