-- The text of a refusal, and what the call answers and leaves in the lent bytes. Assumes nothing.
use Rattle.std.specs.Prelude.{cond, ◌||◌, List, [], ◌++◌, ◌∷◌, ℕ, eqb, length}
use Rattle.ground.specs.Outcomes.{Outcome, written_if}
use Rattle.ground.specs.Refusals.{room_check, Check, Written}
use Rattle.text.specs.Fields.{field}
use Rattle.text.specs.Words.{bytes_of}
use Rattle.sayings.specs.Said.{said_of}

-- in front of what is said stands the table that it is about, if it is about one; 0, which means accepted, is about none
unfoldable pub about_table : ℕ → ℕ → List ℕ
about_table number table = cond (eqb number 0 || eqb table 0) [] (bytes_of "table" ++ (field table ++ bytes_of ": "))

unfoldable pub refusal_text : ℕ → ℕ → ℕ → ℕ → ℕ → ℕ → List ℕ
refusal_text number table a b c d = about_table number table ++ said_of number a b c d

-- the text as C wants it: one zero byte behind it
abbrev pub refusal_bytes : ℕ → ℕ → ℕ → ℕ → ℕ → ℕ → List ℕ
refusal_bytes number table a b c d = refusal_text number table a b c d ++ (0 ∷ [])

-- room for every text and its zero byte
abbrev pub room : ℕ
room = 192

-- 3
abbrev pub refusal_text_check : ℕ → Check
refusal_text_check places = room_check room places

-- all bytes written, the zero byte among them, and these at the front of the lent ones; or the refusal
abbrev pub refusal_text_outcome : ℕ → ℕ → ℕ → ℕ → ℕ → ℕ → List ℕ → Outcome Written
refusal_text_outcome number table a b c d out = written_if (refusal_text_check (length out)) (refusal_bytes number table a b c d) out
