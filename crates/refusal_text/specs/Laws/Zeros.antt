-- A text is not empty and has no zero byte, so that the one behind it is the first. Assumes nothing.
use Rattle.std.specs.Prelude.{true, ◌||◌, refl, ◌≡◌, ℕ, ◌<◌, length}
use Rattle.std.proofs.Common.{arith}
use Rattle.std.proofs.Math.Dec.{eqb}
use Rattle.std.proofs.Math.ListN.{length-append}
use borrow.Table.Steps.{cases}
use Rattle.text.specs.Fields.{field}
use Rattle.text.proofs.Laws.Zeros.{field_no_zero, no_zero_join}
use Rattle.text.specs.Words.{bytes_of}
use Rattle.text.specs.Zeros.{no_zero}
use Rattle.sayings.specs.Laws.Zeros.{said_no_zero, said_some}
use Rattle.sayings.specs.Said.{said_of}
use Rattle.refusal_text.specs.Text.{about_table, refusal_text}

module _ (number table a b c d : ℕ) where
  pub text-some : 0 < length (refusal_text number table a b c d)
  unfolding refusal_text
  text-some = simp length-append (omega (arith, said_some number a b c d))

  about_no_zero : no_zero (about_table number table) ≡ true
  unfolding about_table bytes_of
  about_no_zero =
      cases (eqb number 0 || eqb table 0) (λ e. rw e refl) (λ e. rw e (no_zero_join (field table) (bytes_of ": ") (field_no_zero table) refl))

  pub text_no_zero : no_zero (refusal_text number table a b c d) ≡ true
  unfolding refusal_text
  text_no_zero = no_zero_join (about_table number table) (said_of number a b c d) about_no_zero (said_no_zero number a b c d)
