-- The settled examples of document 01, A to H, upper triangles in stored order. A row is a far side and its doubled cost. What the count of
-- E against G is set over is document 02's, and so is what is said of B, and that no ring is shorter than H's.
use Rattle.std.specs.Prelude.{List, [], ◌∷◌, ℕ}
use Rattle.settled.specs.Settled.{Settled, compared, ordered, reads, refused, shortest, untimed}

abbrev pub triangle_e : List ℕ
triangle_e = 2 ∷ 4 ∷ 4 ∷ 4 ∷ 4 ∷ 2 ∷ []

abbrev pub triangle_g : List ℕ
triangle_g = 2 ∷ 2 ∷ 2 ∷ 2 ∷ 2 ∷ 2 ∷ []

abbrev pub triangle_h : List ℕ
triangle_h = 28 ∷ 5 ∷ 48 ∷ 54 ∷ 59 ∷ 41 ∷ 25 ∷ 56 ∷ 62 ∷ 67 ∷ 49 ∷ 45 ∷ 51 ∷ 56 ∷ 38 ∷ 8 ∷ 55 ∷ 37 ∷ 61 ∷ 43 ∷ 30 ∷ []

abbrev pub example_a : Settled
example_a = reads 3 (1 ∷ 1 ∷ 1 ∷ []) ((2, 1) ∷ (4, 1) ∷ (6, 1) ∷ [])

abbrev pub example_b : Settled
example_b = untimed 3 (0 ∷ 0 ∷ 0 ∷ []) 1 2

abbrev pub example_c : Settled
example_c = refused 3 (1 ∷ 1 ∷ 3 ∷ []) 1 1 2 3 ((2, 2) ∷ (4, 2) ∷ (6, 0) ∷ [])

abbrev pub example_d : Settled
example_d = reads 3 (1 ∷ 1 ∷ 2 ∷ []) ((2, 2) ∷ (4, 2) ∷ (6, 0) ∷ [])

abbrev pub example_e : Settled
example_e = reads 4 triangle_e ((2, 2) ∷ (4, 2) ∷ (8, 2) ∷ (12, 4) ∷ (14, 2) ∷ [])

abbrev pub example_f : Settled
example_f = refused 4 (2 ∷ 3 ∷ 4 ∷ 4 ∷ 4 ∷ 2 ∷ []) 1 2 3 4 ((2, 2) ∷ (4, 1) ∷ (8, 2) ∷ (12, 3) ∷ (14, 1) ∷ [])

abbrev pub example_g : Settled
example_g = reads 4 triangle_g ((2, 2) ∷ (4, 2) ∷ (8, 2) ∷ (14, 2) ∷ [])

abbrev pub example_eg : Settled
example_eg = compared 4 triangle_e triangle_g (record { first = 1; second = 0; common = 0; count = 1; over = 1 })

abbrev pub example_h : Settled
example_h =
    reads 7 triangle_h
    ((2, 36) ∷ (4, 2) ∷ (8, 2) ∷ (16, 14) ∷ (24, 42) ∷ (32, 48) ∷ (64, 12) ∷ (96, 18) ∷ (120, 32) ∷ (122, 12) ∷ (126, 8) ∷ [])

abbrev pub order_h : Settled
order_h = ordered 7 triangle_h 1 2 (1 ∷ 3 ∷ 7 ∷ 6 ∷ 5 ∷ 4 ∷ 2 ∷ []) 226

abbrev pub ring_h : Settled
ring_h = shortest 7 triangle_h (1 ∷ 3 ∷ 7 ∷ 6 ∷ 5 ∷ 4 ∷ 2 ∷ []) 226

abbrev pub settled : List Settled
settled =
    example_a ∷ example_b ∷ example_c ∷ example_d ∷ example_e ∷ example_f ∷ example_g ∷ example_eg ∷ example_h ∷ order_h ∷ ring_h ∷ []
