-- The algorithm (C3): the measured reading of one image more from the measured reading that is there.
-- Assumes nothing.
use Rattle.std.specs.Prelude.{map, ◌++◌, ◌∷◌, refl, ◌≡◌, suc, ℕ, ◌*◌, ◌+◌, ◌<◌, ◌^◌}
use Rattle.std.proofs.lemmas.Simd.{map-map}
use Rattle.std.proofs.Common.{ap, ap₂, sym, ◌∙◌, arith}
use Rattle.ground.specs.Bits.{bit}
use Rattle.ground.specs.Laws.Bits.{bit_lt, bit_pow_other, bit_same}
use Rattle.ground.specs.Filters.{filter}
use Rattle.ground.specs.Laws.Maps.{filter_map, map-append, map_same}
use Rattle.theory.specs.Index.{clipped}
use Rattle.theory.proofs.Laws.FewSteps.{brought_fast_lem}
use Rattle.theory.proofs.Laws.Index.{shifted_same}
use Rattle.theory.proofs.Laws.OneMore.{shifted-more, shifted_none}
use Rattle.theory.proofs.Laws.RowsGrow.{drawn_far, rows_step}
use Rattle.theory.specs.Readings.{drawn, measured, row, rows}
use Rattle.theory.specs.Tables.{WellFormed}
use Rattle.theory.specs.OneMore.{more, stays, step}

module _ (L : ℕ) (d : ℕ → ℕ → ℕ) (k : ℕ) (c : WellFormed L d (suc (suc k))) where
  abbrev n : ℕ
  n = suc (suc k)

  -- S over one image more, R the same over the images before
  more_is : (S R : ℕ) → ((a : ℕ) → a < suc k → bit S a ≡ bit R a) → more L d (suc k) S (clipped L d (suc k) (bit R)) ≡ row L d n S
  more_is S R e =
      ap (λ v. (S, v)) (omega (
        arith,
        brought_fast_lem L d (suc k) (bit S) c (bit_lt S (suc k)),
        shifted-more L d (suc k) (bit S) c
            (bit_lt S (suc k)),
        shifted_same L d (suc k) (bit S) (bit R) e,
      ))

  -- no far image among those before
  more-own : more L d (suc k) (2 ^ suc k) (2 * L) ≡ row L d n (2 ^ suc k)
  more-own =
      ap (λ v. (2 ^ suc k, v))
      (omega (
        arith,
        brought_fast_lem L d (suc k) (bit (2 ^ suc k)) c (bit_lt (2 ^ suc k) (suc k)),
        shifted-more L d (suc k) (bit (2 ^ suc k)) c (bit_lt (2 ^ suc k) (suc k)),
        shifted_none L d (suc k) (bit (2 ^ suc k)) (λ a h. bit_pow_other (suc k) a (λ e. omega arith)),
      ))

  outside : filter (stays n) (map (λ r. more L d (suc k) r.0 r.1) (measured L d (suc k))) ≡ map (row L d n) (filter (drawn L d n) (rows L d (suc k)))
  outside =
      ap (filter (stays n)) (map-map (λ r. more L d (suc k) r.0 r.1) (row L d (suc k)) (rows L d (suc k))
      ∙ map_same _ (row L d n) (rows L d (suc k)) (λ S m. more_is S S (λ a h. refl)))
      ∙ filter_map (stays n) (row L d n) (rows L d (suc k))

  inside : filter (stays n) (map (λ r. more L d (suc k) (2 ^ suc k + r.0) r.1) (measured L d (suc k)))
      ≡ map (row L d n) (map (λ S. 2 ^ suc k + S) (filter (drawn_far L d k c) (rows L d (suc k))))
  inside =
      ap (filter (stays n)) (map-map (λ r. more L d (suc k) (2 ^ suc k + r.0) r.1) (row L d (suc k)) (rows L d (suc k))
      ∙ map_same _ (λ S. row L d n (2 ^ suc k + S)) (rows L d (suc k)) (λ S m. more_is (2 ^ suc k + S) S (λ a h. bit_same S (suc k) a h)))
      ∙ filter_map (stays n) (λ S. row L d n (2 ^ suc k + S)) (rows L d (suc k))
      ∙ sym (map-map (row L d n) (λ S. 2 ^ suc k + S) (filter (drawn_far L d k c) (rows L d (suc k))))

  pub measured-step : measured L d n ≡ step L d (suc k) (measured L d (suc k))
  measured-step =
      ap (map (row L d n)) (rows_step L d k c)
      ∙ map-append (row L d n) (filter (drawn L d n) (rows L d (suc k))) (2 ^ suc k ∷ map (λ S. 2 ^ suc k + S) (filter (drawn_far L d k c) (rows L d (suc k))))
      ∙ ap₂ ◌++◌ (sym outside) (ap₂ ◌∷◌ (sym more-own) (sym inside))
