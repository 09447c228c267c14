-- Which images a far side holds; nested or disjoint, as no three images that cross.
-- Assumes nothing.
use Rattle.std.specs.Prelude.{Bool, false, not, true, ◌&&◌, ◌⊎◌, ◌≡◌, suc, zero, ℕ, ◌<◌, eqb}
use Rattle.std.proofs.lemmas.Bool.{false≢true, eqb-false, not-true}
use Rattle.std.proofs.Common.{inl, inr, ap, sym, ◌∙◌, arith, eq-eqb, eqb-true, ne_eqb}
use borrow.Table.Steps.{cases}
use Rattle.ground.specs.Bits.{bit}
use Rattle.ground.specs.Laws.Bits.{bit_lt}
use Rattle.ground.specs.Laws.Tests.{and_l, and_not_both, and_not_not, and_r}
use Rattle.theory.specs.FarSides.{Nested, holds}

pub holds_true : (S i : ℕ) → holds S i ≡ true → bit S i ≡ 1
holds_true S i e = eqb-true (bit S i) 1 e

pub holds_false : (S i : ℕ) → holds S i ≡ false → bit S i ≡ 0
holds_false S i e = omega (arith, eqb-false (bit S i) 1 e, bit_lt S i)

pub bit-holds : (S i : ℕ) → bit S i ≡ 1 → holds S i ≡ true
bit-holds S i e = eq-eqb (bit S i) 1 e

pub bit_holds_not : (S i : ℕ) → bit S i ≡ 0 → holds S i ≡ false
bit_holds_not S i e = ne_eqb (bit S i) 1 (λ f. omega arith)

-- ## Nested or disjoint

-- an image below n that passes the test, or none
pub find : (n : ℕ) (p : ℕ → Bool) → ((i : ℕ) × (i < n) × (p i ≡ true)) ⊎ ((i : ℕ) → i < n → p i ≡ false)
find zero p = inr (λ i h. absurd (omega arith))
find (suc n) p = cases (p n) (λ e. inl (n, omega arith, e)) (λ e. go e (find n p))
  where
    go : p n ≡ false → ((i : ℕ) × (i < n) × (p i ≡ true)) ⊎ ((i : ℕ) → i < n → p i ≡ false)
        → ((i : ℕ) × (i < suc n) × (p i ≡ true)) ⊎ ((i : ℕ) → i < suc n → p i ≡ false)
    go e (inl r) = inl (r.0, omega arith, r.2)
    go e (inr h) = inr (λ i l. cases (eqb i n) (λ t. ap p (eqb-true i n t) ∙ e) (λ t. h i (omega (arith, eqb-false))))

-- nothing in both, in S alone and in R alone: not all three
pub record Uncrossed (n S R : ℕ) : Type 0 where
  pub clear : {x y z : ℕ} → x < n → y < n → z < n → holds S x ≡ true → holds R x ≡ true → holds S y ≡ true → holds R y ≡ false
      → holds S z ≡ false → holds R z ≡ true → ⊥

pub nested_uncrossed : (n S R : ℕ) → Nested n S R → Uncrossed n S R
nested_uncrossed n S R (inl w) = record { clear = λ {x} {y} {z} hx hy hz sx rx sy ry sz rz. false≢true (sym ry ∙ w y hy sy) }
nested_uncrossed n S R (inr (inl w)) = record { clear = λ {x} {y} {z} hx hy hz sx rx sy ry sz rz. false≢true (sym sz ∙ w z hz rz) }
nested_uncrossed n S R (inr (inr w)) = record { clear = λ {x} {y} {z} hx hy hz sx rx sy ry sz rz. false≢true (sym (w x hx sx) ∙ rx) }

pub uncrossed_nested : (n S R : ℕ) → Uncrossed n S R → Nested n S R
uncrossed_nested n S R u = go (find n (λ i. holds S i && holds R i)) (find n (λ i. holds S i && not (holds R i))) (find n (λ i. holds R i && not (holds S i)))
  where
    go : ((i : ℕ) × (i < n) × ((holds S i && holds R i) ≡ true)) ⊎ ((i : ℕ) → i < n → (holds S i && holds R i) ≡ false)
        → ((i : ℕ) × (i < n) × ((holds S i && not (holds R i)) ≡ true)) ⊎ ((i : ℕ) → i < n → (holds S i && not (holds R i)) ≡ false)
        → ((i : ℕ) × (i < n) × ((holds R i && not (holds S i)) ≡ true)) ⊎ ((i : ℕ) → i < n → (holds R i && not (holds S i)) ≡ false) → Nested n S R
    go (inr h) q r = inr (inr (λ i l e. and_not_both (holds S i) (holds R i) (h i l) e))
    go (inl p) (inr h) r = inl (λ i l e. and_not_not (holds S i) (holds R i) (h i l) e)
    go (inl p) (inl q) (inr h) = inr (inl (λ i l e. and_not_not (holds R i) (holds S i) (h i l) e))
    go (inl p) (inl q) (inl r) =
        let p' = p.0 in let q' = q.0 in let r' = r.0 in
        absurd (u.clear p.1 q.1 r.1
        (and_l (holds S p') (holds R p') p.2) (and_r (holds S p') (holds R p') p.2)
        (and_l (holds S q') (not (holds R q')) q.2) (not-true (holds R q') (and_r (holds S q') (not (holds R q')) q.2))
        (not-true (holds S r') (and_r (holds R r') (not (holds S r')) r.2)) (and_l (holds R r') (not (holds S r')) r.2))

pub uncrossed_sym : (n S R : ℕ) → Uncrossed n S R → Uncrossed n R S
uncrossed_sym n S R u = record { clear = λ hx hy hz sx rx sy ry sz rz. u.clear hx hz hy rx sx rz sz ry sy }
