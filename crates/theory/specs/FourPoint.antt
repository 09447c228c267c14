-- The four-point condition, in document 01's words.
use Rattle.std.specs.Prelude.{Bool, List, map, max, ℕ, ◌+◌, ◌-◌, ◌<◌, ◌≤◌, eqb, ltb}
use Rattle.ground.specs.Counts.{one_if}
use Rattle.ground.specs.Filters.{filter}
use Rattle.ground.specs.Ranges.{from, gather}

-- how often the largest of three numbers occurs among them
abbrev pub times_largest : ℕ → ℕ → ℕ → ℕ
times_largest x y z = one_if (eqb x (max x (max y z))) + one_if (eqb y (max x (max y z))) + one_if (eqb z (max x (max y z)))

-- for all images i, j, k, l, repeats allowed, of the three sums the largest occurs at least twice
pub record FourPoint (d : ℕ → ℕ → ℕ) (n : ℕ) : Type 0 where
  pub twice : {i j k l : ℕ} → i < n → j < n → k < n → l < n → 2 ≤ times_largest (d i j + d k l) (d i k + d j l) (d i l + d j k)

-- none of the three sums is above both others by more than q; where q is 0 that is the same
pub record FourPointWithin (q : ℕ) (d : ℕ → ℕ → ℕ) (n : ℕ) : Type 0 where
  pub low : {i j k l : ℕ} → i < n → j < n → k < n → l < n → d i j + d k l ≤ max (d i k + d j l) (d i l + d j k) + q

-- four images
pub record Four : Type 0 where
  pub first : ℕ
  pub second : ℕ
  pub third : ℕ
  pub fourth : ℕ

abbrev pub four : ℕ → ℕ → ℕ → ℕ → Four
four i j k l = record { first = i; second = j; third = k; fourth = l }

-- i ≤ j ≤ k ≤ l below n, in dictionary order: those that begin with i, j, k; with i, j; with i; all of them
abbrev pub fours₃ : ℕ → ℕ → ℕ → ℕ → List Four
fours₃ n i j k = map (four i j k) (from k (n - k))

abbrev pub fours₂ : ℕ → ℕ → ℕ → List Four
fours₂ n i j = gather (from j (n - j)) (fours₃ n i j)

abbrev pub fours₁ : ℕ → ℕ → List Four
fours₁ n i = gather (from i (n - i)) (fours₂ n i)

abbrev pub fours : ℕ → List Four
fours n = gather (from 0 n) (fours₁ n)

-- the largest sum of these four occurs once only
abbrev pub fails : (ℕ → ℕ → ℕ) → Four → Bool
fails d q =
    ltb (times_largest (d q.first q.second + d q.third q.fourth) (d q.first q.third + d q.second q.fourth)
    (d q.first q.fourth + d q.second q.third)) 2

-- those that fail, in dictionary order: no wiring, and the first of them shows why
abbrev pub failing : (ℕ → ℕ → ℕ) → ℕ → List Four
failing d n = filter (fails d) (fours n)
