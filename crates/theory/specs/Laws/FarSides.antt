-- Law I6: the list of far sides has each of them, ascending.
-- Assumes nothing.
use mathlib.Core.List.Memᴰ
use mathlib.Core.List.{Memᴰ}
use Rattle.std.specs.Prelude.{map, ◌∷◌, ◌⊎◌, ◌≡◌, suc, zero, ℕ, ◌+◌, ◌-◌, ◌<◌, ◌^◌, eqb, ltb}
use Rattle.std.proofs.Common.{inl, inr, arith, pow_pos, eqb-true, ltb-false, ltb-true}
use Rattle.std.proofs.lemmas.Bool.{eqb-false}
use borrow.Table.Steps.{cases}
use Rattle.ground.specs.Ascending.{Between}
use Rattle.ground.specs.Laws.Ascending.{between_append, between_map}
use Rattle.ground.specs.Bits.{bit}
use Rattle.ground.specs.Laws.Bits.{bit-some}
use Rattle.ground.specs.Filters.{Each}
use Rattle.ground.specs.Laws.Maps.{map-mem, mem-map}
use Rattle.theory.specs.FarSides.{FarSide, sides}

pub sides_between : (n : ℕ) → Between 1 (sides n) (2 ^ n)
sides_between zero = omega arith
sides_between (suc zero) = omega arith
sides_between (suc (suc k)) =
    let one : suc (2 ^ suc k) ≡ 2 ^ suc k + 1 = omega arith in
    let two : 2 ^ suc (suc k) ≡ 2 ^ suc k + 2 ^ suc k = omega arith in
    between_append 1 (2 ^ suc k) (2 ^ suc (suc k)) (sides (suc k)) _ (sides_between (suc k))
    (omega arith, rw (one, two) (between_map (2 ^ suc k) 1 (2 ^ suc k) (sides (suc k)) (sides_between (suc k))))

-- image k more, on either side of S
pub far-more : (k S : ℕ) → FarSide (suc k) S → FarSide (suc (suc k)) S
far-more k S f = record { some = f.some; fits = omega (arith, f.fits); near = f.near }

pub far-top : (k : ℕ) → FarSide (suc (suc k)) (2 ^ suc k)
far-top k = record { some = pow_pos (suc k); fits = omega (arith, pow_pos k); near = omega arith }

pub far-add : (k S : ℕ) → FarSide (suc k) S → FarSide (suc (suc k)) (2 ^ suc k + S)
far-add k S f = record { some = omega (arith, f.some); fits = omega (arith, f.fits); near = omega (arith, f.near) }

pub sides-far : (n : ℕ) → Each (sides n) (FarSide n)
sides-far zero S m = absurd (Memᴰ.not-nil m)
sides-far (suc zero) S m = absurd (Memᴰ.not-nil m)
sides-far (suc (suc k)) S m = go (Memᴰ.append_cases (sides (suc k)) m) (sides-far (suc k))
  where
    last : (S ≡ 2 ^ suc k) ⊎ Memᴰ S (map (λ R. 2 ^ suc k + R) (sides (suc k))) → Each (sides (suc k)) (FarSide (suc k)) → FarSide (suc (suc k)) S
    last (inl e) ih = rw e (far-top k)
    last (inr t) ih = let r = map-mem (λ R. 2 ^ suc k + R) (sides (suc k)) S t in rw r.1 (far-add k r.0 (ih r.0 r.2))

    go : Memᴰ S (sides (suc k)) ⊎ Memᴰ S (2 ^ suc k ∷ map (λ R. 2 ^ suc k + R) (sides (suc k))) → Each (sides (suc k)) (FarSide (suc k))
        → FarSide (suc (suc k)) S
    go (inl t) ih = far-more k S (ih S t)
    go (inr t) ih = last (Memᴰ.cases_cons t) ih

-- the parts of one image fewer
pub far-cut : (k S : ℕ) → S < 2 ^ suc k → FarSide (suc (suc k)) S → FarSide (suc k) S
far-cut k S h f = record { some = f.some; fits = h; near = f.near }

pub far_sub : (k S : ℕ) → 2 ^ suc k < S → FarSide (suc (suc k)) S → FarSide (suc k) (S - 2 ^ suc k)
far_sub k S h f = record { some = omega arith; fits = omega (arith, f.fits); near = omega (arith, f.near) }

pub sides_all : (n S : ℕ) → FarSide n S → Memᴰ S (sides n)
sides_all zero S f = absurd (omega (arith, f.some, f.fits))
sides_all (suc zero) S f = absurd (omega (arith, f.some, f.fits, f.near))
sides_all (suc (suc k)) S f =
    cases (ltb S (2 ^ suc k)) (λ e. Memᴰ.append_left _ (sides_all (suc k) S (far-cut k S (ltb-true S (2 ^ suc k) e) f)))
    (λ e. Memᴰ.append_right (sides (suc k))
    (cases (eqb S (2 ^ suc k)) (λ t. Memᴰ.head (eqb-true S (2 ^ suc k) t))
    (λ t. Memᴰ.tail (Memᴰ.cast {b = 2 ^ suc k + (S - 2 ^ suc k)} (omega (arith, ltb-false)) (mem-map (λ x. 2 ^ suc k + x)
    (sides_all (suc k) (S - 2 ^ suc k) (far_sub k S (omega (arith, ltb-false, eqb-false)) f)))))))

-- every far side holds some image
pub far_image : (n S : ℕ) → FarSide n S → (b : ℕ) × (b < n) × (bit S b ≡ 1)
far_image n S f = bit-some n S f.some f.fits
