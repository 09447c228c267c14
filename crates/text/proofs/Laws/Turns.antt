-- One turn of a loop that writes text piece by piece, and its end. Assumes nothing.
use Rattle.std.specs.Prelude.{List, [], ◌∷◌, ◌≡◌, ℕ, ◌+◌, ◌<◌, ◌≤◌, drop, get_or, length}
use Rattle.std.proofs.Common.{◌∙◌, refl}
use Rattle.text.specs.Fields.{field, fields}
use Rattle.text.specs.Putting.{Fits, Put, Rest}
use Rattle.text.specs.Laws.Pieces.{drop_none, fields_end, fields-turn, rest_same, word_turn}
use Rattle.text.specs.Laws.Putting.{rest_end, rest_fits, rest-step}

-- a byte of a word
pub word_step : (w : List ℕ) (i p : ℕ) (o text : List ℕ) (p₀ : ℕ) (o₀ : List ℕ) (p' : ℕ) (o' : List ℕ)
    → Rest (drop i w) p o text p₀ o₀ → i < length w → Fits text p₀ o₀ → Put (get_or w i 0 ∷ []) p o p' o' → Rest (drop (i + 1) w) p' o' text p₀ o₀
word_step w i p o text p₀ o₀ p' o' r h f t = rest-step (_ ∷ []) _ (rest_same (word_turn w i h) r) f t

pub word_end : (w : List ℕ) (i p : ℕ) (o text : List ℕ) (p₀ : ℕ) (o₀ : List ℕ)
    → Rest (drop i w) p o text p₀ o₀ → length w ≤ i → Put text p₀ o₀ p o
word_end w i p o text p₀ o₀ r h = rest_end (rest_same (drop_none w i h) r)

-- a number behind its blank
pub field_fits : (l : List ℕ) (i p : ℕ) (o text : List ℕ) (p₀ : ℕ) (o₀ : List ℕ)
    → Rest (fields (drop i l)) p o text p₀ o₀ → i < length l → Fits text p₀ o₀ → Fits (field (get_or l i 0)) p o
field_fits l i p o text p₀ o₀ r h f = rest_fits (field (get_or l i 0)) _ (rest_same (fields-turn l i h) r) f

pub field_step : (l : List ℕ) (i p : ℕ) (o text : List ℕ) (p₀ : ℕ) (o₀ : List ℕ) (x p' : ℕ) (o' : List ℕ)
    → Rest (fields (drop i l)) p o text p₀ o₀ → i < length l → Fits text p₀ o₀ → x ≡ get_or l i 0 → Put (field x) p o p' o'
    → Rest (fields (drop (i + 1) l)) p' o' text p₀ o₀
field_step l i p o text p₀ o₀ x p' o' r h f e t = rest-step (field x) _ (rest_same (fields-turn l i h ∙ rw e refl) r) f t

pub all_fields : (l : List ℕ) (i p : ℕ) (o text : List ℕ) (p₀ : ℕ) (o₀ : List ℕ)
    → Rest (fields (drop i l)) p o text p₀ o₀ → length l ≤ i → Put text p₀ o₀ p o
all_fields l i p o text p₀ o₀ r h = rest_end (rest_same (fields_end l i h) r)
