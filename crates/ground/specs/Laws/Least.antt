-- Laws of a least value over one side. Assumes nothing.
use Rattle.std.specs.Prelude.{true, ◌⊎◌, ◌≡◌, eqb, leb}
use Rattle.std.proofs.Math.Logic.{inl, inr}
use Rattle.std.proofs.Math.Path.{ap, refl}
use Rattle.std.proofs.Common.{sym, ◌∙◌}
use Prim.Native.Nat.{suc, zero, ℕ, ◌+◌, ◌<◌, ◌≤◌}
use Rattle.std.proofs.Math.Numerals.{add-one}
use native.Mathlib.Omega.{arith}
use borrow.Author.Tests.{eq-eqb, eqb-false, eqb-true, leb-false, leb-true}
use borrow.Table.Steps.{cases}
use Rattle.ground.specs.Least.{On, least_on, lower_if}

module _ (s : ℕ → ℕ) (g cap : ℕ) (f : ℕ → ℕ) where
  pub le_least_on : (n v : ℕ) → v ≤ cap → ((a : ℕ) → On n s g a → v ≤ f a) → v ≤ least_on n s g cap f
  unfolding least_on
  le_least_on zero v c h = c
  le_least_on (suc n) v c h =
      let r = le_least_on n v c (λ a o. h a (omega arith, o.1)) in
      cases (eqb (s n) g) (λ e. rw e (omega (arith, h n (omega arith, eqb-true (s n) g e)))) (λ e. rw e r)

  pub least_on_cap : (n : ℕ) → least_on n s g cap f ≤ cap
  unfolding least_on
  least_on_cap zero = omega arith
  least_on_cap (suc n) = let r = least_on_cap n in cases (eqb (s n) g) (λ e. rw e (omega arith)) (λ e. rw e r)

  pub least_on_le : (n a : ℕ) → On n s g a → least_on n s g cap f ≤ f a
  unfolding least_on
  least_on_le zero a o = absurd (omega arith)
  least_on_le (suc n) a o =
      cases (eqb a n) (λ e. let same = eqb-true a n e in rw (eq-eqb (s n) g (ap s (sym same) ∙ o.1)) (omega (arith, ap f same)))
      (λ e. let r = least_on_le n a (omega (arith, eqb-false), o.1) in
      cases (eqb (s n) g) (λ t. rw t (omega arith)) (λ t. rw t r))

  -- it is attained, or it is the cap
  pub least_on_is : (n : ℕ) → ((a : ℕ) × On n s g a × (least_on n s g cap f ≡ f a)) ⊎ (least_on n s g cap f ≡ cap)
  unfolding least_on
  least_on_is zero = inr refl
  least_on_is (suc n) =
      cases (eqb (s n) g) (λ e. go e (least_on_is n))
      (λ e. rw e (up (least_on_is n)))
    where
      up : ((a : ℕ) × On n s g a × (least_on n s g cap f ≡ f a)) ⊎ (least_on n s g cap f ≡ cap)
          → ((a : ℕ) × On (suc n) s g a × (least_on n s g cap f ≡ f a)) ⊎ (least_on n s g cap f ≡ cap)
      up (inl r) = inl (r.0, (omega arith, r.1.1), r.2)
      up (inr e) = inr e

      go : eqb (s n) g ≡ true → ((a : ℕ) × On n s g a × (least_on n s g cap f ≡ f a)) ⊎ (least_on n s g cap f ≡ cap)
          → ((a : ℕ) × On (suc n) s g a × (lower_if (eqb (s n) g) f n (least_on n s g cap f) ≡ f a)) ⊎ (lower_if (eqb (s n) g) f n (least_on n s g cap f) ≡ cap)
      go e (inl r) =
          cases (leb (f n) (least_on n s g cap f))
          (λ t. inl (n, (omega arith, eqb-true (s n) g e), rw e (omega (arith, leb-true (f n) (least_on n s g cap f) t))))
          (λ t. inl (r.0, (omega arith, r.1.1), rw e (omega (arith, leb-false (f n) (least_on n s g cap f) t))))
      go e (inr c) =
          cases (leb (f n) (least_on n s g cap f))
          (λ t. inl (n, (omega arith, eqb-true (s n) g e), rw e (omega (arith, leb-true (f n) (least_on n s g cap f) t))))
          (λ t. inr (rw e (omega (arith, leb-false (f n) (least_on n s g cap f) t))))

  -- it is attained where some number on that side has a value of at most the cap
  pub least_on-at : (n a : ℕ) → On n s g a → f a ≤ cap → (b : ℕ) × On n s g b × (least_on n s g cap f ≡ f b)
  least_on-at n a o h = go (least_on_is n)
    where
      go : ((b : ℕ) × On n s g b × (least_on n s g cap f ≡ f b)) ⊎ (least_on n s g cap f ≡ cap) → (b : ℕ) × On n s g b × (least_on n s g cap f ≡ f b)
      go (inl r) = r
      go (inr e) = (a, o, omega (arith, least_on_le n a o))

  -- one number more, as a loop's counter says it
  least_on-more : (n : ℕ) → least_on (n + 1) s g cap f ≡ lower_if (eqb (s n) g) f n (least_on n s g cap f)
  unfolding least_on
  least_on-more n = rw add-one

  -- ## A loop with the least value m so far: before it, one number more, after it

  pub least_on_none : cap ≡ least_on 0 s g cap f
  unfolding least_on
  least_on_none = refl

  pub least_on-turn : (n : ℕ) {m r : ℕ} → m ≡ least_on n s g cap f → r ≡ lower_if (eqb (s n) g) f n m → r ≡ least_on (n + 1) s g cap f
  least_on-turn n e h = rw (least_on-more n, ← e) h

  pub least_on_end : (i n : ℕ) {m : ℕ} → i ≤ n → n ≤ i → m ≡ least_on i s g cap f → m ≡ least_on n s g cap f
  least_on_end i n l h e = let q : i ≡ n = omega arith in rw (← q) e

-- only the numbers below n count
pub least_on_same : (s t : ℕ → ℕ) (g cap : ℕ) (f h : ℕ → ℕ) (n : ℕ) → ((a : ℕ) → a < n → s a ≡ t a) → ((a : ℕ) → a < n → f a ≡ h a)
    → least_on n s g cap f ≡ least_on n t g cap h
unfolding least_on
least_on_same s t g cap f h zero p q = refl
least_on_same s t g cap f h (suc n) p q =
    let r = least_on_same s t g cap f h n (λ a l. p a (omega arith)) (λ a l. q a (omega arith)) in
    rw (p n (omega arith), r) (cases (eqb (t n) g) (λ e. rw (e, q n (omega arith))) (λ e. rw e))
