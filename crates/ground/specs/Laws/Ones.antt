-- How many bits of a number are 1, and what the count says of them. Assumes nothing.
use Rattle.std.proofs.Common.{ap, arith, eqb-true}
use Rattle.std.specs.Prelude.{refl, ◌≡◌, suc, zero, ℕ, ◌%◌, ◌+◌, ◌-◌, ◌/◌, ◌<◌, ◌^◌, ◌≤◌, eqb}
use lib.Count.{ones, ones-le, ones_step}
use Rattle.std.proofs.lemmas.Bool.{eqb-false}
use borrow.Table.Steps.{cases}
use Rattle.ground.specs.Bits.{bit}
use Rattle.ground.specs.Laws.Bits.{bit-some}

pub ones_none : ones 0 ≡ 0
unfolding ones lib.Count.ones_in
ones_none = refl

-- one bit is 1, two bits are 1
pub ones_in_lem : (i x : ℕ) → bit x i ≡ 1 → 1 ≤ ones x
ones_in_lem zero x e = omega (arith, ones_step x)
ones_in_lem (suc i) x e = omega (arith, ones_step x, ones_in_lem i (x / 2) e)

pub ones_in_two : (i j x : ℕ) → i < j → bit x i ≡ 1 → bit x j ≡ 1 → 2 ≤ ones x
ones_in_two i zero x h e f = absurd (omega arith)
ones_in_two zero (suc j) x h e f = omega (arith, ones_step x, ones_in_lem j (x / 2) f)
ones_in_two (suc i) (suc j) x h e f = omega (arith, ones_step x, ones_in_two i j (x / 2) (omega arith) e f)

-- one bit is 0, two bits are 0
pub ones_out : (k i x : ℕ) → x < 2 ^ k → i < k → bit x i ≡ 0 → ones x + 1 ≤ k
ones_out zero i x b h e = absurd (omega arith)
ones_out (suc k) zero x b h e = omega (arith, ones_step x, ones-le k (x / 2) (omega arith))
ones_out (suc k) (suc i) x b h e = omega (arith, ones_step x, ones_out k i (x / 2) (omega arith) (omega arith) e)

pub ones_out_two : (k i j x : ℕ) → x < 2 ^ k → i < j → j < k → bit x i ≡ 0 → bit x j ≡ 0 → ones x + 2 ≤ k
ones_out_two zero i j x b h l e f = absurd (omega arith)
ones_out_two (suc k) i zero x b h l e f = absurd (omega arith)
ones_out_two (suc k) zero (suc j) x b h l e f = omega (arith, ones_step x, ones_out k j (x / 2) (omega arith) (omega arith) f)
ones_out_two (suc k) (suc i) (suc j) x b h l e f = omega (arith, ones_step x, ones_out_two k i j (x / 2) (omega arith) (omega arith) (omega arith) e f)

-- the other way round
pub ones_zero : (k x : ℕ) → x < 2 ^ k → ones x ≡ 0 → x ≡ 0
ones_zero zero x b e = omega arith
ones_zero (suc k) x b e = omega (arith, ones_step x, ones_zero k (x / 2) (omega arith) (omega (arith, ones_step x)))

pub ones_one : (k x : ℕ) → x < 2 ^ k → ones x ≡ 1 → (i : ℕ) × (i < k) × (x ≡ 2 ^ i)
ones_one zero x b e = absurd (let z : x ≡ 0 = omega arith in omega (arith, ap ones z, ones_none))
ones_one (suc k) x b e =
    cases (eqb (x % 2) 1)
    (λ t. (0, omega arith, omega (arith, eqb-true, ones_step x, ones_zero k (x / 2) (omega arith) (omega (arith, eqb-true, ones_step x)))))
    (λ t. let r = ones_one k (x / 2) (omega arith) (omega (arith, eqb-false, ones_step x)) in
    (suc r.0, omega arith, omega (arith, eqb-false)))

pub ones_all : (k x : ℕ) → x < 2 ^ k → ones x ≡ k → x + 1 ≡ 2 ^ k
ones_all zero x b e = omega arith
ones_all (suc k) x b e =
    omega (arith, ones_step x, ones-le k (x / 2) (omega arith), ones_all k (x / 2) (omega arith) (omega (arith, ones_step x, ones-le k (x / 2) (omega arith))))

-- two places that have the same bit, the first below the second
pub record TwoOf (k x v : ℕ) : Type 0 where
  pub first : ℕ
  pub second : ℕ
  pub apart : first < second
  pub within : second < k
  pub at_first : bit x first ≡ v
  pub at_second : bit x second ≡ v

-- those of x / 2 are one place further in x
two_on : (k x v : ℕ) → TwoOf k (x / 2) v → TwoOf (suc k) x v
two_on k x v r = record {
  first = suc r.first;
  second = suc r.second;
  apart = omega (arith, r.apart);
  within = omega (arith, r.within);
  at_first = r.at_first;
  at_second = r.at_second;
}

two_now : (k x v j : ℕ) → x % 2 ≡ v → j < k → bit (x / 2) j ≡ v → TwoOf (suc k) x v
two_now k x v j e h f =
    record { first = 0; second = suc j; apart = omega arith; within = omega arith; at_first = e; at_second = f }

one_in : (k x : ℕ) → x < 2 ^ k → 1 ≤ ones x → (i : ℕ) × (i < k) × (bit x i ≡ 1)
one_in k x b h = bit-some k x (cases (eqb x 0) (λ e. absurd (omega (arith, ap ones (eqb-true x 0 e), ones_none))) (λ e. omega (arith, eqb-false x 0 e))) b

one_out : (k x : ℕ) → x < 2 ^ k → ones x + 1 ≤ k → (i : ℕ) × (i < k) × (bit x i ≡ 0)
one_out zero x b h = absurd (omega arith)
one_out (suc k) x b h =
    cases (eqb (x % 2) 0) (λ e. (0, omega arith, eqb-true (x % 2) 0 e))
    (λ e. let r = one_out k (x / 2) (omega arith) (omega (arith, ones_step x, eqb-false (x % 2) 0 e)) in (suc r.0, omega arith, r.2))

pub two_in : (k x : ℕ) → x < 2 ^ k → 2 ≤ ones x → TwoOf k x 1
two_in zero x b h = absurd (omega (arith, ones-le 0 x b))
two_in (suc k) x b h =
    cases (eqb (x % 2) 1)
    (λ e. let r = one_in k (x / 2) (omega arith) (omega (arith, ones_step x)) in two_now k x 1 r.0 (eqb-true (x % 2) 1 e) r.1 r.2)
    (λ e. two_on k x 1 (two_in k (x / 2) (omega arith) (omega (arith, ones_step x, eqb-false (x % 2) 1 e))))

pub two_out : (k x : ℕ) → x < 2 ^ k → ones x + 2 ≤ k → TwoOf k x 0
two_out zero x b h = absurd (omega arith)
two_out (suc k) x b h =
    cases (eqb (x % 2) 0)
    (λ e. let z = eqb-true (x % 2) 0 e in
    let r = one_out k (x / 2) (omega arith) (omega (arith, ones_step x)) in two_now k x 0 r.0 z r.1 r.2)
    (λ e. two_on k x 0 (two_out k (x / 2) (omega arith) (omega (arith, ones_step x, eqb-false (x % 2) 0 e))))

-- one bit more
pub ones_pow : (k x : ℕ) → x < 2 ^ k → ones (2 ^ k + x) ≡ ones x + 1
ones_pow zero x b = let e : x ≡ 0 = omega arith in rw e (omega (arith, ones_step 1, ones_none))
ones_pow (suc k) x b =
    let e : (2 ^ suc k + x) / 2 ≡ 2 ^ k + x / 2 = omega arith in
    omega (arith, ones_step x, ones_step (2 ^ suc k + x), ap ones e, ones_pow k (x / 2) (omega arith))

pub ones_full : (k : ℕ) → ones (2 ^ k - 1) ≡ k
ones_full k = lib.Count.ones-ones k
