-- The next image to the left is the least, and the lowest on a tie.
-- Assumes nothing.
use Rattle.std.specs.Prelude.{cond, false, true, ◌&&◌, List, ◌∷◌, ◌⊎◌, refl, ◌≡◌, eqb, ltb}
use Rattle.std.proofs.lemmas.Bool.{false≢true, eqb-false}
use Rattle.std.proofs.Math.Logic.{inl}
use Rattle.std.proofs.Common.{inr, ap, sym, ◌∙◌, arith, eq-eqb, eqb-true, ltb-false, ltb-true}
use Prim.Native.Nat.{suc, zero, ℕ, ◌+◌, ◌<◌}
use borrow.Table.Steps.{cases}
use Rattle.ground.specs.Members.{occurs}
use Rattle.theory.specs.Order.{better, free, next}
use Rattle.theory.specs.OrderRules.{IsNext}

first_not_free : (f : ℕ) (l : List ℕ) → free f l f ≡ true → ⊥
first_not_free f l e = let r = eqb-true (occurs f (f ∷ l)) 0 e in let s = rw (eq-eqb f f refl) at r in omega arith

module _ (d : ℕ → ℕ → ℕ) (f x : ℕ) (l : List ℕ) where
  abbrev pub None : ℕ → Type 0
  None m = (u : ℕ) → u < m → free f l u ≡ false

  pub next_is : (m : ℕ) → ((next d f x l m ≡ f) × None m) ⊎ IsNext d f x l m (next d f x l m)
  unfolding next
  next_is zero = inl (refl, λ u h. absurd (omega arith))
  next_is (suc m) = cases (free f l m) (λ e. yes_free e (next_is m)) (λ e. rw e (not_free e (next_is m)))
    where
      b : ℕ
      b = next d f x l m

      not_free : free f l m ≡ false → ((b ≡ f) × None m) ⊎ IsNext d f x l m b → ((b ≡ f) × None (suc m)) ⊎ IsNext d f x l (suc m) b
      not_free e (inl r) = inl (r.0, λ u h. cases (eqb u m) (λ t. ap (free f l) (eqb-true u m t) ∙ e) (λ t. r.1 u (omega (arith, eqb-false u m t))))
      not_free e (inr r) = inr (record {
        below = omega (arith, r.below);
        is_free = r.is_free;
        least =
            λ u h t. cases (eqb u m) (λ s. absurd (false≢true (sym (ap (free f l) (eqb-true u m s) ∙ e) ∙ t)))
            (λ s. r.least u (omega (arith, eqb-false u m s)) t);
        lowest = r.lowest;
      })

      taken : free f l m ≡ true → ((u : ℕ) → u < m → free f l u ≡ true → d x m + d f u < d x u + d f m) → IsNext d f x l (suc m) m
      taken e h = record {
        below = omega arith;
        is_free = e;
        least =
            λ u s t. cases (eqb u m) (λ q. let r = eqb-true u m q in omega (arith, ap (d x) r, ap (d f) r))
            (λ q. omega (arith, h u (omega (arith, eqb-false u m q)) t));
        lowest = h;
      }

      yes_free : free f l m ≡ true → ((b ≡ f) × None m) ⊎ IsNext d f x l m b
          → ((cond (free f l m && better d f x m b) m b ≡ f) × None (suc m)) ⊎ IsNext d f x l (suc m) (cond (free f l m && better d f x m b) m b)
      yes_free e (inl r) = inr (rw (e, eq-eqb b f r.0) (taken e (λ u h t. absurd (false≢true (sym (r.1 u h) ∙ t)))))
      yes_free e (inr r) =
          cases (eqb b f)
          (λ t. absurd (first_not_free f l (ap (free f l) (sym (eqb-true b f t)) ∙ r.is_free)))
          (λ t. cases (ltb (d x m + d f b) (d x b + d f m))
          (λ s. inr (rw (e, t, s) (taken e (λ u h q. omega (arith, ltb-true (d x m + d f b) (d x b + d f m) s, r.least u h q)))))
          (λ s. inr (rw (e, t, s) (record {
            below = omega (arith, r.below);
            is_free = r.is_free;
            least =
                λ u h q. cases (eqb u m) (λ z. let y = eqb-true u m z in omega (arith, ap (d x) y, ap (d f) y, ltb-false (d x m + d f b) (d x b + d f m) s))
                (λ z. r.least u (omega (arith, eqb-false u m z)) q);
            lowest = r.lowest;
          }))))
