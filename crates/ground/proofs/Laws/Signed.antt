-- Two signed differences compare as two sums do. Assumes nothing.
use Rattle.std.proofs.lemmas.Bool.{false≢true}
use Rattle.std.specs.Prelude.{not, ◌↔◌, refl, ◌≡◌, min, suc, zero, ℕ, ◌+◌, ◌-◌, ◌<◌, ◌^◌, ◌≤◌, T, ltb, negsuc, neg_ℤ, pos, ℤ, ◌+ℤ◌, ◌-ℤ◌, ◌<ℤ◌, ◌≤ℤ◌}
use Rattle.std.proofs.Common.{ap, ap₂, subst, sym, ◌∙◌, le_antisymm, arith, leb→le, ltb→lt, le-ltb, lt-ltb, ltb-false, ltb-true}
use Rattle.std.proofs.Math.IntN.{+ℤ_assoc, +ℤ_comm, +ℤ_idl, neg_ℤ-+ℤ, sub_ℕ}
use Rattle.std.specs.Int.Signed.{clash_ℤ, lt_z, lt_z_no, lt_z_yes, mag, non_neg}
use borrow.Table.Steps.{cases}
use Rattle.ground.specs.Signed.{clip, min_z}

minus : (a b : ℕ) → pos a -ℤ pos b ≡ sub_ℕ a b
minus a zero = rw (le-ltb a 0 (omega arith)) (ap pos (omega arith))
minus a (suc b) = refl

same_test : (x y u v : ℕ) → (x < y → u < v) → (y ≤ x → v ≤ u) → ltb x y ≡ ltb u v
same_test x y u v p q = cases (ltb x y) (λ e. e ∙ sym (lt-ltb u v (p (ltb-true x y e)))) (λ e. e ∙ sym (le-ltb u v (q (ltb-false x y e))))

less : (a b c e : ℕ) → lt_z (sub_ℕ a b) (sub_ℕ c e) ≡ ltb (a + e) (c + b)
less a b c e =
    cases (ltb a b)
    (λ s. cases (ltb c e)
    (λ t. rw (s, t) (same_test (e - suc c) (b - suc a) (a + e) (c + b) (λ h. omega (arith, ltb-true a b s, ltb-true c e t))
    (λ h. omega (arith, ltb-true a b s, ltb-true c e t))))
    (λ t. rw (s, t) (sym (lt-ltb (a + e) (c + b) (omega (arith, ltb-true a b s, ltb-false c e t))))))
    (λ s. cases (ltb c e)
    (λ t. rw (s, t) (sym (le-ltb (a + e) (c + b) (omega (arith, ltb-false a b s, ltb-true c e t)))))
    (λ t. rw (s, t)
    (same_test (a - b) (c - e) (a + e) (c + b) (λ h. omega (arith, ltb-false a b s, ltb-false c e t)) (λ h. omega (arith, ltb-false a b s, ltb-false c e t)))))

-- ## a - b against c - e, by the sums a + e and c + b

-- the test that code makes
pub signed_less : (a b c e : ℕ) → lt_z (pos a -ℤ pos b) (pos c -ℤ pos e) ≡ ltb (a + e) (c + b)
signed_less a b c e = ap₂ lt_z (minus a b) (minus c e) ∙ less a b c e

pub lt_signed : (a b c e : ℕ) → ((pos a -ℤ pos b) <ℤ (pos c -ℤ pos e)) ↔ (a + e < c + b)
lt_signed a b c e = (
  λ h. ltb→lt (a + e) (c + b) (subst T (signed_less a b c e) h.lt),
  λ h. lt_z_yes (subst T (sym (signed_less a b c e ∙ lt-ltb (a + e) (c + b) h)) tt),
)

pub le_signed : (a b c e : ℕ) → ((pos a -ℤ pos b) ≤ℤ (pos c -ℤ pos e)) ↔ (a + e ≤ c + b)
le_signed a b c e = (
  λ h. cases (ltb (c + b) (a + e)) (λ t. clash_ℤ ((lt_signed c e a b).1 (ltb-true (c + b) (a + e) t)) h) (λ t. ltb-false (c + b) (a + e) t),
  λ h. lt_z_no (subst (λ x. T (not x)) (sym (signed_less c e a b ∙ le-ltb (c + b) (a + e) h)) tt),
)

pub same_signed : (a b c e : ℕ) → (pos a -ℤ pos b ≡ pos c -ℤ pos e) ↔ (a + e ≡ c + b)
same_signed a b c e = (λ h. back (sym (minus a b) ∙ h ∙ minus c e), λ h. minus a b ∙ there h ∙ sym (minus c e))
  where
    there : a + e ≡ c + b → sub_ℕ a b ≡ sub_ℕ c e
    there h =
        cases (ltb a b)
        (λ s. let l = ltb-true a b s in rw (s, lt-ltb c e (omega arith)) (ap negsuc (omega arith)))
        (λ s. let l = ltb-false a b s in rw (s, le-ltb c e (omega arith)) (ap pos (omega arith)))

    back : sub_ℕ a b ≡ sub_ℕ c e → a + e ≡ c + b
    back h =
        cases (ltb a b)
        (λ s. cases (ltb c e)
        (λ t. let m = ap mag (rw (s, t) at h) in omega (arith, ltb-true a b s, ltb-true c e t))
        (λ t. absurd (false≢true (ap non_neg (rw (s, t) at h)))))
        (λ s. cases (ltb c e)
        (λ t. absurd (false≢true (sym (ap non_neg (rw (s, t) at h)))))
        (λ t. let m = ap mag (rw (s, t) at h) in omega (arith, ltb-false a b s, ltb-false c e t)))

-- ## Differences as numbers

-- taken off one after the other, or both at once
pub minus_twice : (m x y : ℕ) → pos m -ℤ pos x -ℤ pos y ≡ pos m -ℤ pos (x + y)
minus_twice m x y = +ℤ_assoc (pos m) (neg_ℤ (pos x)) (neg_ℤ (pos y)) ∙ ap (λ z. pos m +ℤ z) (sym (neg_ℤ-+ℤ (pos x) (pos y)))

-- a number more
pub plus_signed : (a b m : ℕ) → (pos a -ℤ pos b) +ℤ pos m ≡ pos (a + m) -ℤ pos b
plus_signed a b m =
    +ℤ_assoc (pos a) (neg_ℤ (pos b)) (pos m) ∙ ap (λ z. pos a +ℤ z) (+ℤ_comm (neg_ℤ (pos b)) (pos m)) ∙ sym (+ℤ_assoc (pos a) (pos m) (neg_ℤ (pos b)))

-- a negative number as a difference
pub below_zero : (m : ℕ) → neg_ℤ (pos m) ≡ pos 0 -ℤ pos m
below_zero m = sym (+ℤ_idl (neg_ℤ (pos m)))

pub clip_signed : (a b : ℕ) → clip (pos a -ℤ pos b) ≡ a - b
clip_signed a b = ap clip (minus a b) ∙ cases (ltb a b) (λ s. rw s (omega (arith, ltb-true a b s))) (λ s. rw s)

pub min_signed : (a b c : ℕ) → min_z (pos a -ℤ pos c) (pos b -ℤ pos c) ≡ pos (min a b) -ℤ pos c
min_signed a b c =
    rw (signed_less a c b c)
    (cases (ltb (a + c) (b + c))
    (λ t. let m : min a b ≡ a = omega (arith, ltb-true (a + c) (b + c) t) in rw (t, m))
    (λ t. let m : min a b ≡ b = omega (arith, ltb-false (a + c) (b + c) t) in rw (t, m)))

-- the difference of two numbers of 32 bits is a number of 64 bits
pub gap_small : (x y : ℕ) → x < 2 ^ 32 → y < 2 ^ 32 → mag (pos x -ℤ pos y) < 2 ^ 63
gap_small x y l h = rw (minus x y) (cases (ltb x y) (λ e. rw e (omega arith)) (λ e. rw e (omega arith)))

-- each at most the other: the same
pub signed_antisym : {x y : ℤ} → x ≤ℤ y → y ≤ℤ x → x ≡ y
signed_antisym {x = pos a} {y = pos b} p q = ap pos (le_antisymm (leb→le a b p.le) (leb→le b a q.le))
signed_antisym {x = pos a} {y = negsuc b} p q = absurd p.le
signed_antisym {x = negsuc a} {y = pos b} p q = absurd q.le
signed_antisym {x = negsuc a} {y = negsuc b} p q = ap negsuc (le_antisymm (leb→le a b q.le) (leb→le b a p.le))
