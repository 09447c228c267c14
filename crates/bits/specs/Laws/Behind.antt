-- Bytes behind those that are looked at cannot matter. Assumes nothing.
use Rattle.std.specs.Prelude.{List, [], ◌++◌, refl, ◌≡◌, ℕ, ◌*◌, ◌+◌, ◌/◌, ◌≤◌, ltb, drop, length, take}
use Rattle.std.proofs.Common.{ap, sym, ◌∙◌, arith, length-append, take-append-drop, length-take-le, take_all, le-ltb, ltb-false, ltb-true}
use borrow.Table.Steps.{cases}
use Rattle.bits.specs.Bits.{bits, part}
use Rattle.bits.specs.Kinds.{end_check, position_check}
use Rattle.bits.specs.Laws.Bytes.{bits-append, length-bits}
use Rattle.bits.specs.Laws.Parts.{part-inside}

-- a field within the bytes s is the same, whatever follows them
pub part-behind : (s b : List ℕ) (position w : ℕ) → position + w ≤ 8 * length s → part (bits (s ++ b)) position w ≡ part (bits s) position w
part-behind s b position w h =
    ap (λ (l : List ℕ). part l position w) (bits-append s b) ∙ part-inside [] (bits s) (bits b) position position w (omega arith) (rw length-bits h)

-- bytes that are enough stay enough
pub end_behind : (s b : List ℕ) (needed : ℕ) → needed ≤ length s → end_check (s ++ b) needed ≡ end_check s needed
end_behind s b needed h = rw (le-ltb (length (s ++ b)) needed (omega (arith, length-append s b)), le-ltb (length s) needed h)

-- and a position within them stays within
pub position_behind : (s b : List ℕ) (position : ℕ) → position / 8 ≤ length s → position_check (s ++ b) position ≡ position_check s position
position_behind s b position h =
    rw (le-ltb (length (s ++ b)) (position / 8) (omega (arith, length-append s b)), le-ltb (length s) (position / 8) h) refl

-- what does not depend on bytes behind the first k is what the first k say
pub first-bytes : {A : Type 0} (f : List ℕ → A) (k : ℕ) → ((s b : List ℕ) → k ≤ length s → f (s ++ b) ≡ f s) → (s : List ℕ) → f s ≡ f (take k s)
first-bytes f k h s =
    cases (ltb k (length s))
    (λ e. ap f (sym (take-append-drop k s)) ∙ h (take k s) (drop k s) (omega (arith, length-take-le k s (omega (arith, ltb-true k (length s) e)))))
    (λ e. ap f (sym (take_all k s (ltb-false k (length s) e))))
