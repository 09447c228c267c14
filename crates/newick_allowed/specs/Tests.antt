-- What may follow where a text stands: how many brackets are open, and how many vertices the innermost holds, 3 for more. Assumes nothing.
use Rattle.std.specs.Prelude.{Bool, cond, not, ◌&&◌, ◌||◌, ℕ, ◌+◌, eqb, leb, ltb}

-- image 1 must follow
abbrev pub first_place : ℕ → ℕ → Bool
first_place d k = eqb d 1 && eqb k 0

abbrev pub more : ℕ → ℕ
more k = cond (ltb k 3) (k + 1) 3

abbrev pub opened : ℕ → ℕ → Bool
opened d k = not (first_place d k) && ltb d 62

abbrev pub begun : ℕ → ℕ → ℕ → Bool
begun d k b = (leb 49 b && leb b 57) && (not (first_place d k) || eqb b 49)

abbrev pub grown : ℕ → ℕ → ℕ → Bool
grown x d k = (leb 1 x && ltb x 10) && not (first_place d k)
