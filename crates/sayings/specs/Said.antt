-- What is said of a refusal, as bytes. Assumes nothing.
use Rattle.std.specs.Prelude.{List, ℕ}
use Rattle.phrases.specs.Saying.{saying_in}
use Rattle.sayings.specs.Sayings.{sayings}
use Rattle.phrases.specs.Said.{saying_text}

-- what is said of the refusal of that number with the places a, b, c, d
unfoldable pub said_of : ℕ → ℕ → ℕ → ℕ → ℕ → List ℕ
said_of number a b c d = saying_text (saying_in number (sayings a b c d))
