-- The two refusals whose places decide what is said of them. Assumes nothing.
use Rattle.std.specs.Prelude.{cond, [], ◌∷◌, ℕ, eqb}
use Rattle.phrases.specs.Saying.{Saying, says}

-- 17, which has no column where the number is a cost in a row of a link table
abbrev pub above_old : ℕ → ℕ → Saying
above_old a b =
    says 17 (cond (eqb b 0) "number above the old limits: row" "number above the old limits: row and column")
    (cond (eqb b 0) (a ∷ []) (a ∷ b ∷ []))

-- 12, which the index call gives without a row
abbrev pub bad_row : ℕ → Saying
bad_row a = says 12 (cond (eqb a 0) "bad far side or bad row" "bad far side or bad row: row") (cond (eqb a 0) [] (a ∷ []))
