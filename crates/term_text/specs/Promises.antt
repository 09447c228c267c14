-- What the promise of the report's text says. Assumes nothing.
use Rattle.std.specs.Prelude.{List, ◌≡◌, ℕ, ◌≤◌, drop, length, replicate, take}
use Rattle.std.proofs.Common.{ap, sym, ◌∙◌, arith, length-append, take_at}
use lib.ListN.{length-replicate}
use Rattle.text.specs.Laws.Putting.{put_front}
use Rattle.text.specs.Putting.{Put}
use Rattle.term_text.specs.Text.{Printed, room, term_text}

module _ (bytes : List ℕ) where
  -- what is printed is the text
  pub printed_front : {size : ℕ} {text : List ℕ} → Printed bytes size text → take size text ≡ term_text bytes
  printed_front {size} p = ap (take size) p.printed ∙ take_at (term_text bytes) _ size (sym p.sized)

  -- it lies within the array
  pub printed_within : {size : ℕ} {text : List ℕ} → Printed bytes size text → size ≤ length text
  printed_within p =
      let m = term_text bytes in
      omega (arith, p.sized, ap length p.printed, length-append m (drop (length m) (replicate room 0)))

  -- no second answer meets the promise: one text for each input
  pub term_once : {a b : ℕ} {t u : List ℕ} → Printed bytes a t → Printed bytes b u → (a ≡ b) × (t ≡ u)
  term_once p q = (p.sized ∙ sym q.sized, p.printed ∙ sym q.printed)

  -- ## What is written into an array of zeros

  pub put_printed : {size : ℕ} {text : List ℕ} → Put (term_text bytes) 0 (replicate room 0) size text → Printed bytes size text
  put_printed t = let p = put_front t in record { sized = p.0; printed = p.1 }

  pub put_within : {size : ℕ} {text : List ℕ} → Put (term_text bytes) 0 (replicate room 0) size text → length text ≡ length (replicate {A = ℕ} room 0)
      → size ≤ room
  put_within t e = omega (arith, printed_within (put_printed t), e, length-replicate {A = ℕ} room 0)
