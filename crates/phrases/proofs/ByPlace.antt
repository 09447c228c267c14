-- What is said of refusal 12, by its row. Assumes nothing.
use Rattle.std.specs.Prelude.{[], ◌++◌, ◌∷◌, refl, ◌≡◌, ℕ}
use Rattle.std.proofs.Common.{append-nil, ne_eqb}
use Rattle.text.specs.Fields.{fields}
use Rattle.text.specs.Words.{bytes_of}
use Rattle.phrases.specs.ByPlace.{bad_row}
use Rattle.phrases.specs.Said.{saying_text}

pub without_row : (row : ℕ) → row ≡ 0 → saying_text (bad_row row) ≡ bytes_of "bad far side or bad row"
unfolding saying_text fields
without_row row e = rw e (append-nil _)

pub with_row : (row : ℕ) → (row ≡ 0 → ⊥) → saying_text (bad_row row) ≡ bytes_of "bad far side or bad row: row" ++ fields (row ∷ [])
unfolding saying_text
with_row row e = rw (ne_eqb row 0 e) refl
