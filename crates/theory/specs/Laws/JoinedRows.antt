-- Far sides and costs, joined to rows and taken apart again. Assumes nothing.
use Rattle.std.specs.Prelude.{List, [], ◌∷◌, refl, ◌≡◌, ℕ, ◌≤◌, length}
use Rattle.std.proofs.Common.{ap, arith}
use Rattle.theory.specs.LinkTables.{Row, costs, fars, rows_of}

pub rows_of-fars : (l v : List ℕ) → length l ≡ length v → fars (rows_of l v) ≡ l
rows_of-fars [] v e = refl
rows_of-fars (S ∷ l) [] e = absurd (omega arith)
rows_of-fars (S ∷ l) (c ∷ v) e = ap (λ z. S ∷ z) (rows_of-fars l v (omega arith))

pub rows_of-costs : (l v : List ℕ) → length l ≡ length v → costs (rows_of l v) ≡ v
rows_of-costs [] [] e = refl
rows_of-costs [] (c ∷ v) e = absurd (omega arith)
rows_of-costs (S ∷ l) [] e = absurd (omega arith)
rows_of-costs (S ∷ l) (c ∷ v) e = ap (λ z. c ∷ z) (rows_of-costs l v (omega arith))

-- no more rows than either list has places
pub rows_of-most : (l v : List ℕ) → (length (rows_of l v) ≤ length l) × (length (rows_of l v) ≤ length v)
rows_of-most [] v = (omega arith, omega arith)
rows_of-most (S ∷ l) [] = (omega arith, omega arith)
rows_of-most (S ∷ l) (c ∷ v) = let r = rows_of-most l v in (omega arith, omega arith)

pub rows_of-all : (T : List Row) → rows_of (fars T) (costs T) ≡ T
rows_of-all [] = refl
rows_of-all (r ∷ T) = ap (λ z. r ∷ z) (rows_of-all T)
