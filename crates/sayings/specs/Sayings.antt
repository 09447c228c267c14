-- What is said of each refusal: words, and behind them its places. Each list goes on with the next, so that the code can part them too. A refusal
-- more is one more in sayings_from20. Assumes nothing.
use Rattle.std.specs.Prelude.{List, [], ◌∷◌, ℕ}
use Rattle.phrases.specs.Saying.{Saying, says}
use Rattle.phrases.specs.ByPlace.{above_old, bad_row}

unfoldable pub sayings_from20 : ℕ → ℕ → ℕ → List Saying
sayings_from20 a b c =
    says 20 "zero off the diagonal: row and column" (a ∷ b ∷ [])
    ∷ says 21 "no levels: images" (a ∷ b ∷ c ∷ [])
    ∷ says 22 "siblings out of order: byte" (a ∷ [])
    ∷ []

unfoldable pub sayings_from16 : ℕ → ℕ → ℕ → List Saying
sayings_from16 a b c =
    says 16 "no tables or more than sixteen" []
    ∷ above_old a b
    ∷ says 18 "outside the Newick profile: byte" (a ∷ [])
    ∷ says 19 "more than 1,024 far sides in one report" []
    ∷ sayings_from20 a b c

unfoldable pub sayings_from12 : ℕ → ℕ → ℕ → List Saying
sayings_from12 a b c =
    bad_row a
    ∷ says 13 "an own link is missing: image" (a ∷ [])
    ∷ says 14 "neither table includes the other" []
    ∷ says 15 "stored tables of different n" []
    ∷ sayings_from16 a b c

unfoldable pub sayings_from8 : ℕ → ℕ → ℕ → List Saying
sayings_from8 a b c =
    says 8 "image outside 1..n, or first and last the same" []
    ∷ says 9 "stored bytes end early" []
    ∷ says 10 "row count outside n..2n-3: count" (a ∷ [])
    ∷ says 11 "fill bits not zero" []
    ∷ sayings_from12 a b c

unfoldable pub sayings_from4 : ℕ → ℕ → ℕ → ℕ → List Saying
sayings_from4 a b c d =
    says 4 "entry above the limit: row and column" (a ∷ b ∷ [])
    ∷ says 5 "diagonal not zero: image" (a ∷ [])
    ∷ says 6 "asymmetric: row and column" (a ∷ b ∷ [])
    ∷ says 7 "no wiring: images" (a ∷ b ∷ c ∷ d ∷ [])
    ∷ sayings_from8 a b c

-- all of them; 0 means accepted
unfoldable pub sayings : ℕ → ℕ → ℕ → ℕ → List Saying
sayings a b c d =
    says 0 "accepted" []
    ∷ says 1 "n outside 3..64: n" (a ∷ [])
    ∷ says 2 "a length does not fit n or the row count" []
    ∷ says 3 "too little room" []
    ∷ sayings_from4 a b c d
