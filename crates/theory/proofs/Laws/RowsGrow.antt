-- Law C3: the rows of one image more come from the rows that are there, and are at most two more.
-- Assumes nothing.
use Rattle.std.specs.Prelude.{Bool, false, true, map, ◌++◌, ◌∷◌, ◌⊎◌, refl, ◌≡◌, suc, zero, ℕ, ◌*◌, ◌+◌, ◌<◌, ◌^◌, ◌≤◌, eqb, leb, length}
use Rattle.std.proofs.Common.{inl, inr, ap, sym, ◌∙◌, arith, length-append}
use Rattle.std.specs.Int.Count.{ones}
use Rattle.std.proofs.lemmas.List.{length-map}
use Rattle.std.proofs.lemmas.Bool.{lt-leb}
use borrow.Table.Steps.{cases}
use Rattle.ground.specs.Laws.Ascending.{filter_once}
use Rattle.ground.specs.Bits.{bit}
use Rattle.ground.specs.Laws.Bits.{bit-above, bit_ext, bit_same, bit-top}
use Rattle.ground.specs.Filters.{both, filter}
use Rattle.ground.specs.Laws.Filters.{filter-append, filter-filter, filter_two}
use Rattle.ground.specs.Laws.Maps.{filter_map}
use Rattle.ground.specs.Laws.Ones.{ones_in_lem, ones_out, ones_pow}
use Rattle.ground.specs.Laws.Tests.{and_l, and_r}
use Rattle.theory.specs.FarSides.{FarSide, holds, inner, sides}
use Rattle.theory.specs.Index.{clipped}
use Rattle.theory.proofs.Laws.Divisions.{at_least_less}
use Rattle.theory.specs.Laws.FarSides.{far-add, far_image, far-more, sides-far}
use Rattle.theory.proofs.Laws.FourPoint.{well_formed_less}
use Rattle.theory.proofs.Laws.Index.{low_clipped}
use Rattle.theory.specs.Laws.Nested.{holds_false, holds_true}
use Rattle.theory.proofs.Laws.OneTree.{drawn_cases, drawn_low, drawn_uncrossed, index-drawn, own-drawn, rows_between, rows-far}
use Rattle.theory.proofs.Laws.OwnLinks.{not_inner_ones, own_not_inner}
use Rattle.theory.specs.Readings.{drawn, rows}
use Rattle.theory.specs.Tables.{WellFormed}

module _ (L : ℕ) (d : ℕ → ℕ → ℕ) (k : ℕ) (c : WellFormed L d (suc (suc k))) where
  fewer : WellFormed L d (suc k)
  fewer = well_formed_less L d (suc k) (suc (suc k)) (omega arith) c

  -- image suc k put on the far side
  abbrev pub drawn_far : ℕ → Bool
  drawn_far S = drawn L d (suc (suc k)) (2 ^ suc k + S)

  near-drawn : (S : ℕ) → FarSide (suc k) S → drawn L d (suc (suc k)) S ≡ true → drawn L d (suc k) S ≡ true
  near-drawn S f e = go (drawn_cases L d (suc (suc k)) S e)
    where
      lone : (ones S ≡ 1) ⊎ (ones S + 1 ≡ suc (suc k)) → inner (suc k) S ≡ false
      lone (inl t) = rw (lt-leb 2 (ones S) (omega arith))
      lone (inr t) = absurd (omega (arith, ones_out (suc k) 0 S f.fits (omega arith) f.near))

      go : (inner (suc (suc k)) S ≡ false) ⊎ (0 < clipped L d (suc (suc k)) (bit S)) → drawn L d (suc k) S ≡ true
      go (inl o) = own-drawn L d (suc k) S (lone (not_inner_ones (suc (suc k)) S (far-more k S f) o))
      go (inr p) =
          let b = far_image (suc k) S f in
          index-drawn L d (suc k) S (low_clipped L d (suc k) (bit S) fewer 1 {a = 0} {b = b.0} (omega arith, f.near) (b.1, b.2)
          (at_least_less d (suc k) (suc (suc k)) (bit S) (bit S) 1 (omega arith) (λ a h. refl) (drawn_low L d (suc (suc k)) c S p)))

  far-drawn : (S : ℕ) → FarSide (suc k) S → drawn_far S ≡ true → drawn L d (suc k) S ≡ true
  far-drawn S f e = go (drawn_cases L d (suc (suc k)) (2 ^ suc k + S) e)
    where
      lone : (ones (2 ^ suc k + S) ≡ 1) ⊎ (ones (2 ^ suc k + S) + 1 ≡ suc (suc k)) → inner (suc k) S ≡ false
      lone (inl t) = let b = far_image (suc k) S f in absurd (omega (arith, ones_pow (suc k) S f.fits, ones_in_lem b.0 S b.2))
      lone (inr t) =
          cases (leb 2 (ones S)) (λ x. rw (x, lt-leb (ones S + 2) (suc k) (omega (arith, ones_pow (suc k) S f.fits)))) (λ x. rw x)

      go : (inner (suc (suc k)) (2 ^ suc k + S) ≡ false) ⊎ (0 < clipped L d (suc (suc k)) (bit (2 ^ suc k + S))) → drawn L d (suc k) S ≡ true
      go (inl o) = own-drawn L d (suc k) S (lone (not_inner_ones (suc (suc k)) (2 ^ suc k + S) (far-add k S f) o))
      go (inr p) =
          let b = far_image (suc k) S f in
          index-drawn L d (suc k) S (low_clipped L d (suc k) (bit S) fewer 1 {a = 0} {b = b.0} (omega arith, f.near) (b.1, b.2)
          (at_least_less d (suc k) (suc (suc k)) (bit S) (bit (2 ^ suc k + S)) 1 (omega arith) (λ a h. sym (bit_same S (suc k) a h))
          (drawn_low L d (suc (suc k)) c (2 ^ suc k + S) p)))

  top-drawn : drawn L d (suc (suc k)) (2 ^ suc k) ≡ true
  top-drawn = own-drawn L d (suc (suc k)) (2 ^ suc k) (own_not_inner k (suc k) (omega arith))

  -- C3. The rows of one image more, from the rows that are there: those with the new image outside, its own link, those with it inside.
  pub rows_step : rows L d (suc (suc k))
      ≡ filter (drawn L d (suc (suc k))) (rows L d (suc k)) ++ (2 ^ suc k ∷ map (λ S. 2 ^ suc k + S) (filter drawn_far (rows L d (suc k))))
  rows_step =
      let e₁ = filter-filter (drawn L d (suc (suc k))) (drawn L d (suc k)) (sides (suc k)) (λ S m. near-drawn S (sides-far (suc k) S m)) in
      let e₂ = filter-filter drawn_far (drawn L d (suc k)) (sides (suc k)) (λ S m. far-drawn S (sides-far (suc k) S m)) in
      rw (e₁, e₂, filter-append (drawn L d (suc (suc k))) (sides (suc k)), filter_map (drawn L d (suc (suc k))), top-drawn)

  -- a far side on either side of which the new image may stand is the only one
  record Both (S : ℕ) : Type 0 where
    side : FarSide (suc k) S
    outside : drawn L d (suc (suc k)) S ≡ true
    inside : drawn_far S ≡ true

  bits_in : (S : ℕ) → FarSide (suc k) S → (i : ℕ) → i < suc k → holds (2 ^ suc k + S) i ≡ holds S i
  bits_in S f i h = ap (λ b. eqb b 1) (bit_same S (suc k) i h)

  top_in : (S : ℕ) → FarSide (suc k) S → holds (2 ^ suc k + S) (suc k) ≡ true
  top_in S f = ap (λ b. eqb b 1) (bit-top S (suc k) f.fits)

  top_out : (S : ℕ) → FarSide (suc k) S → holds S (suc k) ≡ false
  top_out S f = ap (λ b. eqb b 1) (bit-above S (suc k) (suc k) f.fits (omega arith))

  clash : (S R i : ℕ) → Both S → Both R → i < suc k → holds S i ≡ true → holds R i ≡ false → ⊥
  clash S R i p q h e f =
      let j = far_image (suc k) R q.side in
      let jr : holds R j.0 ≡ true = ap (λ b. eqb b 1) j.2 in
      cases (holds S j.0)
      (λ t. (drawn_uncrossed L d (suc (suc k)) c S (2 ^ suc k + R) (far-more k S p.side) (far-add k R q.side) p.outside q.inside
      ).clear {x = j.0} {y = i} {z = suc k} (omega arith) (omega arith) (omega arith) t (bits_in R q.side j.0 j.1 ∙ jr) e
      (bits_in R q.side i h ∙ f) (top_out S p.side) (top_in R q.side))
      (λ t. (drawn_uncrossed L d (suc (suc k)) c (2 ^ suc k + S) (2 ^ suc k + R) (far-add k S p.side) (far-add k R q.side) p.inside q.inside
      ).clear {x = suc k} {y = i} {z = j.0} (omega arith) (omega arith) (omega arith) (top_in S p.side) (top_in R q.side)
      (bits_in S p.side i h ∙ e) (bits_in R q.side i h ∙ f)
      (bits_in S p.side j.0 j.1 ∙ t) (bits_in R q.side j.0 j.1 ∙ jr))

  both_once : (S R : ℕ) → Both S → Both R → S ≡ R
  both_once S R p q =
      bit_ext (suc k) S R p.side.fits q.side.fits (λ i h.
      cases (holds S i)
      (λ e. cases (holds R i) (λ f. holds_true S i e ∙ sym (holds_true R i f)) (λ f. absurd (clash S R i p q h e f)))
      (λ e. cases (holds R i) (λ f. absurd (clash R S i q p h f e)) (λ f. holds_false S i e ∙ sym (holds_false R i f))))

  both_of_lem : (S : ℕ) → FarSide (suc k) S → both (drawn L d (suc (suc k))) drawn_far S ≡ true → Both S
  both_of_lem S f e = record {
    side = f;
    outside = and_l (drawn L d (suc (suc k)) S) (drawn_far S) e;
    inside = and_r (drawn L d (suc (suc k)) S) (drawn_far S) e;
  }

  both_few : length (filter (both (drawn L d (suc (suc k))) drawn_far) (rows L d (suc k))) ≤ 1
  both_few =
      filter_once (both (drawn L d (suc (suc k))) drawn_far) 1 (2 ^ suc k) (rows L d (suc k)) (rows_between L d (suc k) fewer)
      (λ S R m l h e f. omega (arith, both_once S R (both_of_lem S (rows-far L d (suc k) fewer S m).1 e) (both_of_lem R (rows-far L d (suc k) fewer R l).1 f)))

  pub rows_two : length (rows L d (suc (suc k))) ≤ length (rows L d (suc k)) + 2
  rows_two =
      rw (rows_step, length-append, length-map)
      (omega (arith, filter_two (drawn L d (suc (suc k))) drawn_far (rows L d (suc k)), both_few))

-- at most 2 n - 3 rows
pub rows-most : (L : ℕ) (d : ℕ → ℕ → ℕ) (k : ℕ) → WellFormed L d (suc (suc k)) → length (rows L d (suc (suc k))) ≤ 2 * k + 1
rows-most L d zero c = cases (drawn L d 2 2) (λ e. rw e (omega arith)) (λ e. rw e (omega arith))
rows-most L d (suc k) c = omega (arith, rows_two L d (suc k) c, rows-most L d k (well_formed_less L d (suc (suc k)) (suc (suc (suc k))) (omega arith) c))
