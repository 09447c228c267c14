-- Text without a zero byte: C reads it to its end. Assumes nothing.
use Rattle.std.specs.Prelude.{Bool, true, ◌&&◌, List, [], ◌∷◌, ℕ, ltb}

abbrev pub no_zero : List ℕ → Bool
no_zero [] = true
no_zero (x ∷ l) = ltb 0 x && no_zero l
