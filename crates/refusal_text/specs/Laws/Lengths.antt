-- How long a text can be: with its zero byte it fits the room that the call asks for. Assumes nothing.
use Rattle.std.specs.Prelude.{ℕ, ◌≤◌, length}
use Rattle.std.proofs.Common.{arith, length-append}
use Rattle.sayings.specs.Laws.Lengths.{said_most}
use Rattle.refusal_text.specs.Laws.About.{about-most}
use Rattle.refusal_text.specs.Text.{refusal_bytes, refusal_text, room}

-- every text fits, whatever its numbers
pub text_fits : (number table a b c d : ℕ) → length (refusal_bytes number table a b c d) ≤ room
unfolding refusal_text
text_fits number table a b c d =
    simp length-append (omega (arith, about-most number table, said_most number a b c d))
