-- How long what is said can be. Assumes nothing.
use Rattle.std.specs.Prelude.{Bool, true, refl, ◌≡◌, ℕ, ◌*◌, ◌+◌, ◌≤◌, leb, length}
use Rattle.std.proofs.Common.{arith, length-append, leb-true}
use Rattle.text.specs.Fields.{fields}
use Rattle.text.proofs.Laws.Lengths.{fields-most}
use Rattle.text.specs.Words.{bytes_of}
use Rattle.sayings.specs.Laws.Said.{all_pass, by_zeros, said_passes}
use Rattle.phrases.specs.Saying.{Saying, saying_in}
use Rattle.sayings.specs.Sayings.{sayings, sayings_from12, sayings_from16, sayings_from20, sayings_from4, sayings_from8}
use Rattle.phrases.specs.Said.{saying_text}
use Rattle.sayings.specs.Said.{said_of}

-- with the longest numbers it is no longer than what the room of a text leaves behind the table and before the zero byte
abbrev short : Saying → Bool
short s = leb (length (bytes_of s.words) + 21 * length s.places) 163

sayings-short : (a b c d : ℕ) → all_pass short (sayings a b c d) ≡ true
unfolding sayings sayings_from4 sayings_from8 sayings_from12 sayings_from16 sayings_from20 bytes_of
sayings-short a b c d =
    by_zeros a b (λ e f. rw (e, f) refl) (λ e f. rw (e, f) refl) (λ e f. rw (e, f) refl) (λ e f. rw (e, f) refl)

saying_most : (s : Saying) → short s ≡ true → length (saying_text s) ≤ 163
unfolding saying_text
saying_most s e =
    let h = leb-true (length (bytes_of s.words) + 21 * length s.places) 163 e in
    omega (arith, length-append (bytes_of s.words) (fields s.places), fields-most s.places)

pub said_most : (number a b c d : ℕ) → length (said_of number a b c d) ≤ 163
unfolding said_of bytes_of
said_most number a b c d =
    let l = sayings a b c d in
    saying_most (saying_in number l) (said_passes short number l (sayings-short a b c d) refl)
