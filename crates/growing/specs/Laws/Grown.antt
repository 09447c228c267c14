-- The reading grows by one image: the old rows with it outside, its own link, the old rows with it inside. Assumes nothing.
use Rattle.std.specs.Prelude.{not, true, List, [], ◌++◌, ◌∷◌, ◌≡◌, suc, zero, ℕ, ◌*◌, ◌+◌, ◌<◌, ◌^◌, ◌≤◌, ltb, length}
use Rattle.std.proofs.Common.{append_assoc, ap, ap₂, sym, ◌∙◌, add-one, arith, length-append, length-set}
use Rattle.std.proofs.lemmas.List.{length-map}
use Rattle.ground.specs.Filters.{filter, keep}
use Rattle.ground.specs.Laws.Tests.{false_not, or_l}
use Rattle.theory.specs.FarSides.{inner}
use Rattle.theory.specs.OneMore.{more, stays}
use Rattle.theory.proofs.Laws.OwnLinks.{own_not_inner}
use Rattle.theory.proofs.Laws.ReadingGrows.{measured-step}
use Rattle.theory.proofs.Laws.RowsGrow.{rows-most}
use Rattle.theory.specs.LinkTables.{Row}
use Rattle.theory.specs.Readings.{measured}
use Rattle.theory.specs.Tables.{WellFormed}
use Rattle.lowered_rows.specs.Turning.{Turned}
use Rattle.growing.specs.Growing.{stayed}
use Rattle.lowered_rows.specs.Laws.Turning.{turned}
use Rattle.growing.specs.Laws.Growing.{step-stayed}
use Rattle.lowered_rows.specs.LocalRows.{rows_in}
use Rattle.lowered_rows.specs.Laws.LocalRows.{rows_in-length, rows_in_none}
use Rattle.lowered_rows.specs.Putting.{PutAll, PutRoom}
use Rattle.growing.specs.Held.{RowsHeld}

module _ (L : ℕ) (d : ℕ → ℕ → ℕ) where
  -- over one image there is no row
  pub held_none : (f v : List ℕ) → length f ≡ 128 → length v ≡ 128 → RowsHeld L d 1 f v 0
  held_none f v h l = record { is = rows_in_none f v; far-room = h; cost-room = l; few = omega arith }

  grown : (k : ℕ) → 1 ≤ k → WellFormed L d (suc k)
      → measured L d (suc k) ≡ stayed L d k 0 (measured L d k) ++ (more L d k (2 ^ k) (2 * L) ∷ stayed L d k (2 ^ k) (measured L d k))
  grown zero h c = absurd (omega arith)
  grown (suc k) h c = measured-step L d k c ∙ step-stayed L d (suc k) (measured L d (suc k))

  -- there is room for all that stays
  grown-room : (k : ℕ) → 1 ≤ k → WellFormed L d (suc k)
      → length (stayed L d k 0 (measured L d k)) + length (stayed L d k (2 ^ k) (measured L d k)) + 2 ≤ 2 * k
  grown-room zero h c = absurd (omega arith)
  grown-room (suc k) h c =
      let e = simp (length-append, length-map) at (ap length (grown (suc k) h c)) in
      omega (arith, rows-most L d k c)

  -- the own link of the new image always stays
  own-stays : (k v : ℕ) → 1 ≤ k → stays (suc k) (2 ^ k, v) ≡ true
  own-stays zero v h = absurd (omega arith)
  own-stays (suc k) v h =
      or_l (not (inner (suc (suc k)) (2 ^ suc k))) (ltb 0 v) (false_not (inner (suc (suc k)) (2 ^ suc k)) (own_not_inner k (suc k) (omega arith)))

  -- the rows with image k outside, each cost lowered, of which those stay that the theory names
  module _ (k : ℕ) (h : 1 ≤ k) (few : k < 64) (c : WellFormed L d (suc k)) (outs : List Row)
      (out : filter (stays (suc k)) outs ≡ stayed L d k 0 (measured L d k))
      (f₀ v₀ : List ℕ) (e : length f₀ ≡ 128) (g : length v₀ ≡ 128) where
    pub room-outside : PutRoom k outs 0 f₀ v₀
    room-outside = record { for_fars = rw out (omega (arith, grown-room k h c)); for_costs = rw out (omega (arith, grown-room k h c)) }

    module _ (a : ℕ) (f₁ v₁ : List ℕ) (q : PutAll k outs 0 f₀ v₀ a f₁ v₁) where
      outside-rows : rows_in f₁ v₁ a ≡ stayed L d k 0 (measured L d k)
      outside-rows = q.put ∙ ap₂ ◌++◌ (rows_in_none f₀ v₀) out

      outside-count : a ≡ length (stayed L d k 0 (measured L d k))
      outside-count = sym (rows_in-length f₁ v₁ a) ∙ ap length outside-rows

      pub room-own : (a < length f₁) × (a < length v₁)
      room-own = (omega (arith, outside-count, grown-room k h c, q.far-size), omega (arith, outside-count, grown-room k h c, q.cost-size))

      module _ (x b : ℕ) (f₂ v₂ : List ℕ) (ex : x ≡ (more L d k (2 ^ k) (2 * L)).1) (t : Turned k (2 ^ k) x a f₁ v₁ b f₂ v₂) where
        own-rows : rows_in f₂ v₂ b ≡ stayed L d k 0 (measured L d k) ++ (more L d k (2 ^ k) (2 * L) ∷ [])
        own-rows = turned k (2 ^ k) x a f₁ v₁ b f₂ v₂ room-own.0 room-own.1 t
            ∙ ap₂ ◌++◌ outside-rows (ap (λ s. keep s (2 ^ k, x) []) (own-stays k x h) ∙ ap (λ y. (2 ^ k, y) ∷ []) ex)

        own-count : b ≡ suc a
        own-count = sym (rows_in-length f₂ v₂ b) ∙ ap length own-rows ∙ simp length-append (omega (arith, outside-count))

        sizes : (length f₂ ≡ 128) × (length v₂ ≡ 128)
        sizes = (rw t.far_stored (simp length-set (q.far-size ∙ e)), rw t.cost_stored (simp length-set (q.cost-size ∙ g)))

        -- the rows with image k inside, likewise
        pub room-inside : (ins : List Row) → filter (stays (suc k)) ins ≡ stayed L d k (2 ^ k) (measured L d k) → PutRoom k ins b f₂ v₂
        room-inside ins inn = record {
          for_fars = rw inn (omega (arith, own-count, outside-count, grown-room k h c, sizes));
          for_costs = rw inn (omega (arith, own-count, outside-count, grown-room k h c, sizes));
        }

        pub held_more : (ins : List Row) → filter (stays (suc k)) ins ≡ stayed L d k (2 ^ k) (measured L d k) → (r : ℕ) (f₃ v₃ : List ℕ)
            → PutAll k ins b f₂ v₂ r f₃ v₃ → RowsHeld L d (k + 1) f₃ v₃ r
        held_more ins inn r f₃ v₃ s =
            let all = s.put ∙ ap₂ ◌++◌ own-rows inn
            ∙ append_assoc (stayed L d k 0 (measured L d k)) (more L d k (2 ^ k) (2 * L) ∷ []) (stayed L d k (2 ^ k) (measured L d k))
            ∙ sym (grown k h c) in
            record {
              is = rw add-one all;
              far-room = s.far-size ∙ sizes.0;
              cost-room = s.cost-size ∙ sizes.1;
              few = few_rows (sym (rows_in-length f₃ v₃ r) ∙ ap length all);
            }
          where
            whole : length (measured L d (suc k)) ≡ length (stayed L d k 0 (measured L d k)) + suc (length (stayed L d k (2 ^ k) (measured L d k)))
            whole =
                ap length (grown k h c) ∙ length-append (stayed L d k 0 (measured L d k)) (more L d k (2 ^ k) (2 * L) ∷ stayed L d k (2 ^ k) (measured L d k))

            few_rows : r ≡ length (measured L d (suc k)) → r ≤ 128
            few_rows m = omega (arith, whole, grown-room k h c)
