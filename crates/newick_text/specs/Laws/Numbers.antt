-- Generic laws of numbers: equal or not, powers of two, numbers by their bits, totals. Assumes nothing.
use Rattle.std.specs.Prelude.{Bool, not, refl, ◌≡◌, suc, zero, ℕ, ◌*◌, ◌+◌, ◌-◌, ◌/◌, ◌<◌, ◌^◌, ◌≤◌, eqb, ltb}
use Rattle.std.proofs.Common.{ap, sym, ◌∙◌, arith, pow_pos, eq-eqb, eqb-true, ltb-false, ltb-true, ne_eqb}
use Rattle.std.proofs.lemmas.Bool.{eqb-false}
use borrow.Table.Steps.{cases}
use Rattle.ground.specs.Bits.{bit, num}
use Rattle.ground.specs.Counts.{one_if}
use Rattle.ground.specs.Totals.{total}
use Rattle.ground.specs.Laws.Bits.{bit-above, bit_full, bit_lt, bit_pow, bit_pow_other}
use Rattle.ground.specs.Laws.Totals.{total_least, total-one}
use Rattle.theory.specs.FarSides.{own}

eqb_suc : (x y : ℕ) → eqb (suc x) (suc y) ≡ eqb x y
eqb_suc x y =
    cases (eqb x y) (λ e. rw e (eq-eqb (suc x) (suc y) (ap suc (eqb-true x y e))))
    (λ e. rw e (ne_eqb (suc x) (suc y) (λ q. eqb-false x y e (omega arith))))

pub eqb_turn : (x y : ℕ) → eqb x y ≡ eqb y x
eqb_turn x y = cases (eqb y x) (λ e. rw e (eq-eqb x y (sym (eqb-true y x e)))) (λ e. rw e (ne_eqb x y (λ q. eqb-false y x e (sym q))))

-- ## Bits

pub bit_pow_le : (S m : ℕ) → bit S m ≡ 1 → 2 ^ m ≤ S
bit_pow_le S m e =
    cases (ltb S (2 ^ m)) (λ l. absurd (omega (arith, e, bit-above S m m (ltb-true S (2 ^ m) l) (omega arith)))) (λ l. ltb-false S (2 ^ m) l)

pub zero_or_one : (X m : ℕ) → (bit X m ≡ 1 → ⊥) → bit X m ≡ 0
zero_or_one X m h = cases (eqb (bit X m) 1) (λ e. absurd (h (eqb-true (bit X m) 1 e))) (λ e. omega (arith, eqb-false (bit X m) 1 e, bit_lt X m))

pub pow_other : (i j : ℕ) → (i ≡ j → ⊥) → 2 ^ j ≡ 2 ^ i → ⊥
pow_other i j d e = omega (arith, bit_pow j, bit_pow_other i j d, ap (λ (y : ℕ). bit y j) e)

pub even_pow : (n : ℕ) → 1 ≤ n → (q : ℕ) × (2 ^ n ≡ 2 * q)
even_pow zero h = absurd (omega arith)
even_pow (suc k) h = (2 ^ k, omega arith)

pub bit-own : (n m : ℕ) → 1 ≤ n → m < n → bit (own n 0) m ≡ one_if (not (eqb m 0))
bit-own zero m h l = absurd (omega arith)
bit-own (suc k) zero h l = omega (arith, pow_pos k)
bit-own (suc k) (suc m) h l =
    let q : (2 ^ suc k - 2) / 2 ≡ 2 ^ k - 1 = omega (arith, pow_pos k) in
    ap (λ (x : ℕ). bit x m) q ∙ bit_full k m (omega arith) ∙ sym (ap (λ (b : Bool). one_if (not b)) (ne_eqb (suc m) 0 (λ e. omega arith)))

-- ## Numbers by their bits

num_same : (k : ℕ) (f g : ℕ → ℕ) → ((m : ℕ) → f m ≡ g m) → num k f ≡ num k g
num_same zero f g h = refl
num_same (suc k) f g h = omega (arith, h 0, num_same k (λ m. f (suc m)) (λ m. g (suc m)) (λ m. h (suc m)))

pub num_none : (k : ℕ) → num k (λ m. 0) ≡ 0
num_none zero = refl
num_none (suc k) = omega (arith, num_none k)

pub num-add : (k : ℕ) (f g : ℕ → ℕ) → num k (λ m. f m + g m) ≡ num k f + num k g
num-add zero f g = refl
num-add (suc k) f g = omega (arith, num-add k (λ m. f (suc m)) (λ m. g (suc m)))

pub num-one : (k j : ℕ) → j < k → num k (λ m. one_if (eqb (suc j) (suc m))) ≡ 2 ^ j
num-one zero j h = absurd (omega arith)
num-one (suc k) zero h =
    omega (arith, num_same k (λ m. one_if (eqb 1 (suc (suc m)))) (λ m. 0) (λ m. ap one_if (ne_eqb 1 (suc (suc m)) (λ e. omega arith))), num_none k)
num-one (suc k) (suc j) h =
    let z : one_if (eqb (suc (suc j)) 1) ≡ 0 = ap one_if (ne_eqb (suc (suc j)) 1 (λ e. omega arith)) in
    let s = num_same k (λ m. one_if (eqb (suc (suc j)) (suc (suc m)))) (λ m. one_if (eqb (suc j) (suc m))) (λ m. ap one_if (eqb_suc (suc j) (suc m))) in
    omega (arith, z, s, num-one k j (omega arith))

-- ## Totals

pub total_same : (n : ℕ) (g h : ℕ → ℕ) → ((m : ℕ) → g m ≡ h m) → total n g ≡ total n h
total_same zero g h e = refl
total_same (suc n) g h e = omega (arith, e n, total_same n g h e)

pub total_image : (n i : ℕ) → 1 ≤ i → i ≤ n → total n (λ m. one_if (eqb i (suc m))) ≡ 1
total_image n zero l h = absurd (omega arith)
total_image n (suc j) l h =
    total_same n (λ m. one_if (eqb (suc j) (suc m))) (λ m. one_if (eqb m j)) (λ m. ap one_if (eqb_suc j m ∙ eqb_turn j m)) ∙ total-one n j (omega arith)

total_but_first : (n : ℕ) (g : ℕ → ℕ) → g 0 ≡ 0 → ((m : ℕ) → 1 ≤ m → m < suc n → g m ≡ 1) → total (suc n) g ≡ n
total_but_first zero g a h = omega arith
total_but_first (suc n) g a h = omega (arith, total_but_first n g a (λ m p q. h m p (omega arith)), h (suc n) (omega arith) (omega arith))

pub total_but_one : (n : ℕ) (g : ℕ → ℕ) → 1 ≤ n → g 0 ≡ 0 → ((m : ℕ) → 1 ≤ m → m < n → g m ≡ 1) → suc (total n g) ≡ n
total_but_one zero g l a h = absurd (omega arith)
total_but_one (suc k) g l a h = ap suc (total_but_first k g a h)

pub total-below : (n : ℕ) (g : ℕ → ℕ) → ((m : ℕ) → m < n → g m ≡ 0) → total n g ≡ 0
total-below zero g h = refl
total-below (suc n) g h = omega (arith, h n (omega arith), total-below n g (λ m l. h m (omega arith)))

pub total_tight : (n : ℕ) (g : ℕ → ℕ) → ((m : ℕ) → m < n → 1 ≤ g m) → total n g ≤ n → (m : ℕ) → m < n → g m ≡ 1
total_tight zero g h e m l = absurd (omega arith)
total_tight (suc n) g h e m l =
    let k = total_least n g (λ t p. h t (omega arith)) in
    cases (eqb m n)
    (λ q. rw (eqb-true m n q) (omega (arith, h n (omega arith))))
    (λ q. total_tight n g (λ t p. h t (omega arith)) (omega (arith, h n (omega arith))) m (omega (arith, eqb-false m n q)))
