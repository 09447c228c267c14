-- The checks of a cost table, by the documents' numbers. Images are counted from 0 inside and from 1 in a refusal.
use Rattle.std.specs.Prelude.{not, List, ℕ, ◌*◌, ◌+◌, eqb, ltb, length}
use Rattle.ground.specs.Lowest.{check_all}
use Rattle.ground.specs.Refusals.{refusal, refuse_if, ◌then◌, Check}
use Rattle.theory.specs.Checks.{images_check}
use Rattle.tables.specs.Pairs.{pairs_check}

-- 2: a slice's length does not fit n
abbrev pub length_check : ℕ → List ℕ → Check
length_check n t = refuse_if (not (eqb (length t) (n * n))) (refusal 2 0 0 0 0)

-- 4: an entry above the limit, at the lowest row and column of all n * n
abbrev pub entry_check : ℕ → (ℕ → ℕ → ℕ) → ℕ → ℕ → Check
entry_check L d i j = refuse_if (ltb L (d i j)) (refusal 4 (i + 1) (j + 1) 0 0)

abbrev pub entries_check : ℕ → (ℕ → ℕ → ℕ) → ℕ → Check
entries_check L d n = check_all (λ i. check_all (entry_check L d i) 0 n) 0 n

-- 5: diagonal not zero, at the lowest image
abbrev pub zero_check : (ℕ → ℕ → ℕ) → ℕ → Check
zero_check d i = refuse_if (ltb 0 (d i i)) (refusal 5 (i + 1) 0 0 0)

abbrev pub diagonal_check : (ℕ → ℕ → ℕ) → ℕ → Check
diagonal_check d n = check_all (zero_check d) 0 n

-- 6: asymmetric, at the lowest pair
abbrev pub mirror_check : (ℕ → ℕ → ℕ) → ℕ → ℕ → Check
mirror_check d i j = refuse_if (not (eqb (d i j) (d j i))) (refusal 6 (i + 1) (j + 1) 0 0)

abbrev pub symmetry_check : (ℕ → ℕ → ℕ) → ℕ → Check
symmetry_check d n = pairs_check (mirror_check d) n

-- 20: a zero off the diagonal, at the lowest pair: two different images that cost less than the least, which is 1
abbrev pub least_check : ℕ → (ℕ → ℕ → ℕ) → ℕ → ℕ → Check
least_check K d i j = refuse_if (ltb (d i j) K) (refusal 20 (i + 1) (j + 1) 0 0)

abbrev pub off_diagonal_check : (ℕ → ℕ → ℕ) → ℕ → Check
off_diagonal_check d n = pairs_check (least_check 1 d) n

-- both at one pair
abbrev pub pair_check : ℕ → (ℕ → ℕ → ℕ) → ℕ → ℕ → Check
pair_check K d i j = mirror_check d i j then least_check K d i j

-- ## In the order of the calls

-- 1, 2
abbrev pub size_check : ℕ → List ℕ → Check
size_check n t = images_check n then length_check n t

-- 4, 5, 6, 20
abbrev pub costs_check : ℕ → (ℕ → ℕ → ℕ) → ℕ → Check
costs_check L d n = entries_check L d n then diagonal_check d n then symmetry_check d n then off_diagonal_check d n
