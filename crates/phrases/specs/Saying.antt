-- What is said of one refusal, and which saying of a list is a number's. Assumes nothing.
use Rattle.std.specs.Prelude.{cond, List, [], ◌∷◌, ℕ, eqb}
use Prim.Native.String.{String}

-- the words of the refusal of that number, and the places that are named behind them
pub record Saying : Type 0 where
  pub number : ℕ
  pub words : String
  pub places : List ℕ

abbrev pub says : ℕ → String → List ℕ → Saying
says k w p = record { number = k; words = w; places = p }

-- a number that no refusal has
abbrev pub unknown : ℕ → Saying
unknown k = says k "no such refusal: number" (k ∷ [])

-- the one of number k in the list
unfoldable pub saying_in : ℕ → List Saying → Saying
saying_in k [] = unknown k
saying_in k (s ∷ l) = cond (eqb k s.number) s (saying_in k l)
