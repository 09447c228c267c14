-- What is said is not empty and has no zero byte. Assumes nothing.
use Rattle.std.specs.Prelude.{Bool, true, List, refl, ◌≡◌, ℕ, ◌<◌, ltb, length}
use Rattle.std.proofs.Common.{arith}
use Rattle.std.proofs.Math.ListN.{length-append}
use borrow.Author.Tests.{ltb-true}
use Rattle.text.specs.Fields.{fields}
use Rattle.text.proofs.Laws.Zeros.{fields_no_zero, no_zero_join}
use Rattle.text.specs.Words.{bytes_of}
use Rattle.text.specs.Zeros.{no_zero}
use Rattle.sayings.specs.Laws.Said.{all_pass, by_zeros, said_passes}
use Rattle.phrases.specs.Said.{saying_text}
use Rattle.sayings.specs.Said.{said_of}
use Rattle.phrases.specs.Saying.{Saying, saying_in}
use Rattle.sayings.specs.Sayings.{sayings, sayings_from12, sayings_from16, sayings_from20, sayings_from4, sayings_from8}

abbrev some : Saying → Bool
some s = ltb 0 (length (bytes_of s.words))

abbrev plain : Saying → Bool
plain s = no_zero (bytes_of s.words)

module _ (number a b c d : ℕ) where
  abbrev all : List Saying
  all = sayings a b c d

  all-some : all_pass some all ≡ true
  unfolding sayings sayings_from4 sayings_from8 sayings_from12 sayings_from16 sayings_from20 bytes_of
  all-some = by_zeros a b (λ e f. rw (e, f) refl) (λ e f. rw (e, f) refl) (λ e f. rw (e, f) refl) (λ e f. rw (e, f) refl)

  all_plain : all_pass plain all ≡ true
  unfolding sayings sayings_from4 sayings_from8 sayings_from12 sayings_from16 sayings_from20 bytes_of
  all_plain = by_zeros a b (λ e f. rw (e, f) refl) (λ e f. rw (e, f) refl) (λ e f. rw (e, f) refl) (λ e f. rw (e, f) refl)

  pub said_some : 0 < length (said_of number a b c d)
  unfolding said_of saying_text bytes_of
  said_some =
      let s = saying_in number all in
      let h = ltb-true 0 (length (bytes_of s.words)) (said_passes some number all all-some refl) in
      simp length-append (omega arith)

  pub said_no_zero : no_zero (said_of number a b c d) ≡ true
  unfolding said_of saying_text bytes_of
  said_no_zero =
      let s = saying_in number all in
      no_zero_join (bytes_of s.words) (fields s.places) (said_passes plain number all all_plain refl) (fields_no_zero s.places)
