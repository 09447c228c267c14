-- Own links: exactly the far sides that are not inner, and nothing crosses them (C2).
-- Assumes nothing.
use Rattle.std.specs.Prelude.{false, true, ◌⊎◌, ◌≡◌, suc, zero, ℕ, ◌%◌, ◌+◌, ◌-◌, ◌/◌, ◌<◌, ◌^◌, eqb, leb, ltb}
use Rattle.std.proofs.lemmas.Bool.{false≢true, eqb-false, lt-leb}
use Rattle.std.proofs.Common.{inl, inr, ap, sym, ◌∙◌, arith, pow_pos, eqb-true, leb-false, ltb-false, ltb-true}
use Rattle.std.specs.Int.Count.{ones, ones_step}
use Rattle.std.proofs.Math.Pow.{pow-lt}
use borrow.Table.Steps.{cases}
use Rattle.ground.specs.Laws.Ones.{ones_all, ones_full, ones_in_lem, ones_in_two, ones_none, ones_one, ones_out, ones_out_two, ones_pow}
use Rattle.theory.specs.FarSides.{FarSide, holds, inner, own}
use Rattle.theory.specs.Laws.FarSides.{far_image}
use Rattle.theory.specs.Laws.Nested.{Uncrossed, holds_false, holds_true}

pub own-far : (k i : ℕ) → i < suc (suc k) → FarSide (suc (suc k)) (own (suc (suc k)) i)
own-far k zero h = record { some = omega (arith, pow_pos k); fits = omega (arith, pow_pos k); near = omega (arith, pow_pos k) }
own-far k (suc i) h = record { some = pow_pos (suc i); fits = pow-lt h; near = even i }
  where
    even : (i : ℕ) → 2 ^ suc i % 2 ≡ 0
    even i = omega arith

pub own_ones : (k i : ℕ) → i < suc (suc k) → (ones (own (suc (suc k)) i) ≡ 1) ⊎ (ones (own (suc (suc k)) i) ≡ suc k)
own_ones k zero h =
    inr (let e : (2 ^ suc (suc k) - 2) / 2 ≡ 2 ^ suc k - 1 = omega arith in
    omega (arith, ones_step (2 ^ suc (suc k) - 2), ap ones e, ones_full (suc k)))
own_ones k (suc i) h = inl (let e : 2 ^ suc i ≡ 2 ^ suc i + 0 = omega arith in omega (arith, ap ones e, ones_pow (suc i) 0 (pow_pos (suc i)), ones_none))

pub own_not_inner : (k i : ℕ) → i < suc (suc k) → inner (suc (suc k)) (own (suc (suc k)) i) ≡ false
own_not_inner k i h = go (own_ones k i h)
  where
    go : (ones (own (suc (suc k)) i) ≡ 1) ⊎ (ones (own (suc (suc k)) i) ≡ suc k) → inner (suc (suc k)) (own (suc (suc k)) i) ≡ false
    go (inl e) = rw (lt-leb 2 (ones (own (suc (suc k)) i)) (omega arith))
    go (inr e) = cases (leb 2 (ones (own (suc (suc k)) i))) (λ t. rw (t, lt-leb (ones (own (suc (suc k)) i) + 2) (suc (suc k)) (omega arith))) (λ t. rw t)

-- a far side that is not inner has one image, or all but image 0
pub not_inner_ones : (n S : ℕ) → FarSide n S → inner n S ≡ false → (ones S ≡ 1) ⊎ (ones S + 1 ≡ n)
not_inner_ones n S f e =
    let b = far_image n S f in
    let lo = ones_in_lem b.0 S b.2 in
    let hi = ones_out n 0 S f.fits (omega arith) f.near in
    cases (leb 2 (ones S))
    (λ t. inr (let r = rw t at e in omega (arith, leb-false (ones S + 2) n r)))
    (λ t. inl (omega (arith, leb-false 2 (ones S) t)))

pub not_inner_own : (n S : ℕ) → FarSide n S → inner n S ≡ false → (i : ℕ) × (i < n) × (S ≡ own n i)
not_inner_own zero S f e = absurd (omega (arith, f.some, f.fits))
not_inner_own (suc k) S f e = go (not_inner_ones (suc k) S f e)
  where
    one : (r : (i : ℕ) × (i < suc k) × (S ≡ 2 ^ i)) → (i : ℕ) × (i < suc k) × (S ≡ own (suc k) i)
    one r = pos r.0 r.1 r.2
      where
        pos : (i : ℕ) → i < suc k → S ≡ 2 ^ i → (i : ℕ) × (i < suc k) × (S ≡ own (suc k) i)
        pos zero h e = absurd (omega (arith, f.near))
        pos (suc i) h e = (suc i, h, e)

    go : (ones S ≡ 1) ⊎ (ones S + 1 ≡ suc k) → (i : ℕ) × (i < suc k) × (S ≡ own (suc k) i)
    go (inl t) = one (ones_one (suc k) S f.fits t)
    go (inr t) = (0, omega arith, omega (arith, f.near, ones_all k (S / 2) (omega (arith, f.fits)) (omega (arith, ones_step S, f.near))))

-- C2. A far side that is not inner is nested in or disjoint from every other.
pub own_uncrossed : (n S R : ℕ) → FarSide n S → FarSide n R → inner n S ≡ false → Uncrossed n S R
own_uncrossed n S R f g e = record {
  clear = λ {x} {y} {z} hx hy hz sx rx sy ry sz rz. go x y z hx hy hz sx rx sy ry sz rz (not_inner_ones n S f e);
}
  where
    go : (x y z : ℕ) → x < n → y < n → z < n → holds S x ≡ true → holds R x ≡ true → holds S y ≡ true → holds R y ≡ false
        → holds S z ≡ false → holds R z ≡ true → (ones S ≡ 1) ⊎ (ones S + 1 ≡ n) → ⊥
    go x y z hx hy hz sx rx sy ry sz rz (inl t) =
        cases (ltb x y) (λ l. omega (arith, ones_in_two x y S (ltb-true x y l) (holds_true S x sx) (holds_true S y sy)))
        (λ l. cases (eqb x y) (λ q. false≢true (sym ry ∙ ap (holds R) (sym (eqb-true x y q)) ∙ rx))
        (λ q. omega (arith, ones_in_two y x S (omega (arith, ltb-false x y l, eqb-false x y q)) (holds_true S y sy) (holds_true S x sx))))
    go x y zero hx hy hz sx rx sy ry sz rz (inr t) = omega (arith, g.near, holds_true R 0 rz)
    go x y (suc z) hx hy hz sx rx sy ry sz rz (inr t) =
        omega (arith, ones_out_two n 0 (suc z) S f.fits (omega arith) hz f.near (holds_false S (suc z) sz))
