-- Settled examples of words and numbers as text, computed. Assumes nothing.
use Rattle.std.specs.Prelude.{[], ◌∷◌, refl, ◌≡◌}
use Rattle.text.specs.Decimal.{decimal, digits}
use Rattle.text.specs.Words.{bytes_of}

-- letters, a blank and a full stop
pub word_written : bytes_of "3..64 Az" ≡ 51 ∷ 46 ∷ 46 ∷ 54 ∷ 52 ∷ 32 ∷ 65 ∷ 122 ∷ []
unfolding bytes_of
word_written = refl

-- 0 has one digit
pub zero_written : decimal 0 ≡ 48 ∷ []
unfolding decimal digits
zero_written = refl

-- the last row at 64 images: 18446744073709551614, of 20 digits
pub longest : decimal 18446744073709551614
    ≡ 49 ∷ 56 ∷ 52 ∷ 52 ∷ 54 ∷ 55 ∷ 52 ∷ 52 ∷ 48 ∷ 55 ∷ 51 ∷ 55 ∷ 48 ∷ 57 ∷ 53 ∷ 53 ∷ 49 ∷ 54 ∷ 49 ∷ 52 ∷ []
unfolding decimal digits
longest = refl
