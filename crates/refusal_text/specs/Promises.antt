-- What the promise of the call says: what an accepted call wrote, that a refused one altered nothing, and that no second answer meets it.
-- Assumes nothing.
use Rattle.std.specs.Prelude.{List, [], ◌++◌, ◌∷◌, refl, ◌≡◌, ℕ, ◌+◌, ◌<◌, ◌≤◌, drop, get_or, length, take, Ok, Err}
use Rattle.std.proofs.Common.{append_assoc, ap, sym, ◌∙◌, arith, length-append, length-drop, drop_at, get_or-take, take_at, le-ltb, lt-ltb}
use Rattle.std.proofs.Math.Seq.{get_or-append_seam}
use Rattle.ground.specs.Laws.Outcomes.{left_once}
use Rattle.ground.specs.Outcomes.{Left}
use Rattle.ground.specs.Refusals.{refusal, Written}
use Rattle.text.proofs.Laws.Zeros.{no_zero_at}
use Rattle.refusal_text.specs.Laws.Lengths.{text_fits}
use Rattle.refusal_text.specs.Laws.Zeros.{text_no_zero}
use Rattle.refusal_text.specs.Text.{refusal_bytes, refusal_text, refusal_text_outcome, room}

-- the text m was written into the bytes o, which left e
pub record TextLeft (m o e : List ℕ) : Type 0 where
  -- the text, and behind it the first zero byte, where C ends it
  pub wrote : take (length m) e ≡ m
  pub inside : (i : ℕ) → i < length m → 0 < get_or e i 0
  pub ended : get_or e (length m) 1 ≡ 0
  -- the rest is as it was
  pub rest : drop (length m + 1) e ≡ drop (length m + 1) o
  pub size : length e ≡ length o

module _ (number table a b c d : ℕ) (o e : List ℕ) (r : Written) (p : Left (refusal_text_outcome number table a b c d o) r e) where
  abbrev text : List ℕ
  text = refusal_text number table a b c d

  abbrev bytes : List ℕ
  bytes = refusal_bytes number table a b c d

  -- with room for every text it is accepted, and the answer counts the zero byte
  pub text_written : room ≤ length o → (r ≡ Ok (length text + 1)) × TextLeft text o e
  text_written h =
      let n : length bytes ≡ length text + 1 = length-append text (0 ∷ []) in
      let l : e ≡ bytes ++ drop (length bytes) o = rw (le-ltb (length o) room h) at p.left in
      let s : e ≡ text ++ (0 ∷ drop (length bytes) o) = l ∙ append_assoc text (0 ∷ []) (drop (length bytes) o) in
      let w : take (length text) e ≡ text = ap (take (length text)) s ∙ take_at text _ (length text) refl in (
        (rw (le-ltb (length o) room h) at p.answered) ∙ ap Ok n,
        record {
          wrote = w;
          inside = λ i k.
              let g : get_or e i 0 ≡ get_or text i 0 = sym (get_or-take (length text) e i 0 k) ∙ ap (λ (x : List ℕ). get_or x i 0) w in
              rw g (no_zero_at text (text_no_zero number table a b c d) i k);
          ended = ap (λ (x : List ℕ). get_or x (length text) 1) s ∙ get_or-append_seam text 0 _ 1;
          rest = ap (drop (length text + 1)) l ∙ drop_at bytes _ (length text + 1) n ∙ ap (λ (k : ℕ). drop k o) n;
          size =
              omega (arith, ap length l, length-append bytes (drop (length bytes) o), length-drop (length bytes) o, text_fits number table a b c d);
        },
      )

  -- with less it is refused, and nothing is altered
  pub text-refused : length o < room → (r ≡ Err (refusal 3 0 0 0 0)) × (e ≡ o)
  text-refused h = (rw (lt-ltb (length o) room h) at p.answered, rw (lt-ltb (length o) room h) at p.left)

-- no second answer meets the promise
pub text_once : (number table a b c d : ℕ) (o e f : List ℕ) (r s : Written) → Left (refusal_text_outcome number table a b c d o) r e
    → Left (refusal_text_outcome number table a b c d o) s f → (r ≡ s) × (e ≡ f)
text_once number table a b c d o e f r s p q = left_once p q
