-- What the call answers is the listing of levels, for which there is room, and there is no other answer. Assumes nothing.
use Rattle.ground.specs.Refusals.{Check}
use Rattle.std.specs.Prelude.{List, refl, ◌≡◌, ℕ, ◌≤◌, drop, length, replicate, take, Ok, Err}
use Rattle.std.proofs.Common.{ap, sym, ◌∙◌, arith, length-append, take_at}
use Rattle.listing_lines.specs.Laws.Lengths.{refused-most}
use Rattle.listing_text.specs.Listing.{images_said, table_said}
use Rattle.levels_text.specs.Laws.Lengths.{levels_most}
use Rattle.levels_text.specs.Lines.{room}
use Rattle.levels_text.specs.Listing.{Listed, levels_text}
use Rattle.levels_text.specs.Promises.{levels_accepted, levels_refused, levels_said}

module _ (s : List ℕ) where
  -- every listing fits
  pub levels_fit : length (levels_text s) ≤ room
  levels_fit = go (levels_said s) refl
    where
      go : (c : Check) → levels_said s ≡ c → length (levels_text s) ≤ room
      go (Ok tt) e =
          let g = levels_accepted s e in
          omega (arith, ap length g.shown, levels_most (images_said s) (table_said s) g.table g.levels)
      go (Err q) e = omega (arith, ap length (levels_refused s q e), refused-most q)

  -- what is printed is the listing
  pub listed-front : {size : ℕ} {text : List ℕ} → Listed s size text → take size text ≡ levels_text s
  listed-front {size} p = ap (take size) p.listed ∙ take_at (levels_text s) _ size (sym p.sized)

  -- it lies within the array
  pub listed_within : {size : ℕ} {text : List ℕ} → Listed s size text → size ≤ length text
  listed_within p =
      let m = levels_text s in
      omega (arith, p.sized, ap length p.listed, length-append m (drop (length m) (replicate room 0)))

  -- no second answer meets the promise
  pub listed_once : {a b : ℕ} {t u : List ℕ} → Listed s a t → Listed s b u → (a ≡ b) × (t ≡ u)
  listed_once p q = (p.sized ∙ sym q.sized, p.listed ∙ sym q.listed)
