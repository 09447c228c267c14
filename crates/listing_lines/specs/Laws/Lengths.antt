-- How long the lines of a listing can be: room for every one of them is there. Assumes nothing.
use Rattle.std.specs.Prelude.{List, [], ◌∷◌, ℕ, ◌*◌, ◌+◌, ◌≤◌, length}
use Rattle.std.proofs.Common.{arith, length-append}
use Rattle.ground.specs.declared.Refusal.{Refusal}
use Rattle.listing_lines.specs.Lines.{header, order_line, reading_text, refused_line, room, row_line, row_lines}
use Rattle.text.specs.Putting.{Fits}
use Rattle.text.proofs.Laws.Lengths.{field-most, fields-most}
use Rattle.text.proofs.Laws.Numbers.{decimal-most}
use Rattle.text.specs.Words.{bytes_of}

header-most : (n r : ℕ) → length (header n r) ≤ 60
unfolding header bytes_of
header-most n r = simp length-append (omega (arith, field-most n, field-most r))

row-most : (s c u : ℕ) → length (row_line s c u) ≤ 64
unfolding row_line
row-most s c u = simp length-append (omega (arith, decimal-most s, field-most c, field-most u))

rows-most : (l v u : List ℕ) → length (row_lines l v u) ≤ 64 * length l
unfolding row_lines
rows-most [] v u = omega arith
rows-most (s ∷ l) [] u = omega arith
rows-most (s ∷ l) (c ∷ v) [] = omega arith
rows-most (s ∷ l) (c ∷ v) (a ∷ u) = simp length-append (omega (arith, row-most s c a, rows-most l v u))

order-most : (o : List ℕ) → length (order_line o) ≤ 8 + 21 * length o
unfolding order_line bytes_of
order-most o = simp length-append (omega (arith, fields-most o))

-- a refusal's line
pub refused-most : (q : Refusal) → length (refused_line q) ≤ room
unfolding refused_line bytes_of
refused-most q =
    simp length-append (omega (arith, field-most q.number, field-most q.a, field-most q.b, field-most q.c, field-most q.d))

pub refused_fits : (q : Refusal) (o : List ℕ) → room ≤ length o → Fits (refused_line q) 0 o
refused_fits q o h = omega (arith, refused-most q)

-- a reading of at most 64 images, with at most 125 rows
pub reading_most : (n : ℕ) (l v u o : List ℕ) → length l ≤ 125 → length o ≤ 64 → length (reading_text n l v u o) ≤ room
unfolding reading_text
reading_most n l v u o a b = simp length-append (omega (arith, header-most n (length l), rows-most l v u, order-most o))
