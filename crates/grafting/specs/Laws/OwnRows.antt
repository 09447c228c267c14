-- The own links of all images as the first rows of a table: they ascend, each is there, and they cost nothing. Assumes nothing.
use Rattle.std.specs.Prelude.{Bool, true, [], map, ◌++◌, ◌∷◌, ◌⊎◌, refl, ◌≡◌, suc, zero, ℕ, ◌+◌, ◌-◌, ◌<◌, ◌^◌, ◌≤◌, length}
use Rattle.std.proofs.Common.{true≢false, inl, inr, ap, subst, sym, ◌∙◌, arith, length-append, pow_pos}
use mathlib.Core.List.Memᴰ
use mathlib.Core.List.{List, Memᴰ}
use Rattle.std.proofs.lemmas.List.{length-map}
use borrow.Table.Steps.{cases}
use Rattle.ground.specs.Ascending.{Between}
use Rattle.ground.specs.Filters.{Each}
use Rattle.ground.specs.Laws.Ascending.{between_append, between_from}
use Rattle.ground.specs.Laws.Maps.{map-append, map-mem, mem-map}
use Rattle.ground.specs.Laws.Ranges.{from-length, from-mem, mem-from}
use Rattle.ground.specs.Ranges.{from}
use Rattle.ground.specs.Sums.{sum}
use Rattle.theory.specs.FarSides.{inner, own}
use Rattle.theory.proofs.Laws.OwnLinks.{own_not_inner}
use Rattle.theory.specs.LinkTables.{Row, all_costs, far, fars}
use Rattle.rows.proofs.Laws.Put.{Costs}
use Rattle.rows.specs.Rows.{cost_if}
use Rattle.grafting.specs.Grafting.{own_rows}

-- ## They ascend

-- the images from i + 1 to i + 1 + m
ups : (n i m : ℕ) → Between (2 ^ suc i) (fars (map (λ j. (own n j, 0)) (from (suc i) (suc m)))) (suc (2 ^ (suc i + m)))
ups n i zero = let q : suc i + 0 ≡ suc i = omega arith in rw q (omega arith)
ups n i (suc m) =
    let q : suc i + suc m ≡ suc (suc i) + m = omega arith in
    let rest = fars (map (λ j. (own n j, 0)) (from (suc (suc i)) (suc m))) in
    let b = between_from (suc (2 ^ suc i)) (2 ^ suc (suc i)) (suc (2 ^ (suc (suc i) + m))) rest (omega (arith, pow_pos i)) (ups n (suc i) m) in
    rw q (omega arith, b)

pub own_between : (k : ℕ) → 1 ≤ k → Between 1 (fars (own_rows (suc (suc k)))) (2 ^ suc (suc k))
own_between k h =
    subst (λ (l : List ℕ). Between 1 l (2 ^ suc (suc k))) (sym whole)
    (between_append 1 (suc (2 ^ suc k)) (2 ^ suc (suc k)) first (own n 0 ∷ []) low last)
  where
    n : ℕ
    n = suc (suc k)

    row : ℕ → Row
    row j = (own n j, 0)

    first : List ℕ
    first = fars (map row (from 1 (suc k)))

    whole : fars (own_rows n) ≡ first ++ (own n 0 ∷ [])
    whole =
        let q : n - 1 ≡ suc k = omega arith in
        ap (λ (x : ℕ). fars (map row (from 1 x ++ (0 ∷ [])))) q ∙ ap fars (map-append row (from 1 (suc k)) (0 ∷ []))
        ∙ map-append far (map row (from 1 (suc k))) ((own n 0, 0) ∷ [])

    low : Between 1 first (suc (2 ^ suc k))
    low =
        let q : 1 + k ≡ suc k = omega arith in
        let b = ups n 0 k in
        between_from 1 2 (suc (2 ^ suc k)) first (omega arith) (rw q at b)

    large : (k : ℕ) → 1 ≤ k → 4 ≤ 2 ^ suc k
    large zero h = absurd (omega arith)
    large (suc k) h = omega (arith, pow_pos k)

    last : (suc (2 ^ suc k) ≤ 2 ^ suc (suc k) - 2) × (suc (2 ^ suc (suc k) - 2) ≤ 2 ^ suc (suc k))
    last = (omega (arith, large k h), omega (arith, large k h))

-- ## Which images they are of

module _ (n : ℕ) (h : 0 < n) where
  image_below : Each (from 1 (n - 1) ++ (0 ∷ [])) (λ i. i < n)
  image_below i m = go (Memᴰ.append_cases (from 1 (n - 1)) m)
    where
      go : Memᴰ i (from 1 (n - 1)) ⊎ Memᴰ i (0 ∷ []) → i < n
      go (inl m) = omega (arith, from-mem 1 (n - 1) i m)
      go (inr m) = first (Memᴰ.cases_cons m)
        where
          first : (i ≡ 0) ⊎ Memᴰ i [] → i < n
          first (inl e) = omega arith
          first (inr m) = absurd (Memᴰ.not-nil m)

  below_image : (i : ℕ) → i < n → Memᴰ i (from 1 (n - 1) ++ (0 ∷ []))
  below_image zero l = Memᴰ.append_right (from 1 (n - 1)) (Memᴰ.head refl)
  below_image (suc i) l = Memᴰ.append_left (0 ∷ []) (mem-from 1 (n - 1) (suc i) (omega arith) (omega arith))

  -- each is the own link of an image
  pub own_row : Each (own_rows n) (λ r. (i : ℕ) × (i < n) × (r.0 ≡ own n i))
  own_row r m =
      let x = map-mem (λ i. (own n i, 0)) (from 1 (n - 1) ++ (0 ∷ [])) r m in
      (x.0, image_below x.0 x.2, ap far x.1)

  pub own_there : (i : ℕ) → i < n → Memᴰ (own n i) (fars (own_rows n))
  own_there i l = mem-map far (mem-map (λ i. (own n i, 0)) (below_image i l))

-- no inner row is among them
pub own-costs : (k : ℕ) → Each (own_rows (suc (suc k))) (Costs (inner (suc (suc k))))
own-costs k r m s =
    let x = own_row (suc (suc k)) (omega arith) r m in
    absurd (true≢false (sym s ∙ ap (inner (suc (suc k))) x.2 ∙ own_not_inner k x.0 x.1))

-- ## How many, and what they cost

pub own-sum : (n : ℕ) (t : ℕ → Bool) → sum (own_rows n) (cost_if t) ≡ 0
own-sum n t = go (from 1 (n - 1) ++ (0 ∷ []))
  where
    go : (l : List ℕ) → sum (map (λ i. (own n i, 0)) l) (cost_if t) ≡ 0
    go [] = refl
    go (i ∷ l) = let ih = go l in cases (t (own n i)) (λ s. rw s (omega arith)) (λ s. rw s (omega arith))

pub own-free : (n : ℕ) → all_costs (own_rows n) ≡ 0
own-free n = own-sum n (λ _. true)

pub own-length : (n : ℕ) → 0 < n → length (own_rows n) ≡ n
own-length n h =
    length-map {B = Row} (from 1 (n - 1) ++ (0 ∷ [])) (λ i. (own n i, 0)) ∙ length-append (from 1 (n - 1)) (0 ∷ []) ∙ omega (arith, from-length 1 (n - 1))
