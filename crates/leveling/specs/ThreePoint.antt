-- The three-point condition, in document 02's words. Images are counted from 0.
use Rattle.std.specs.Prelude.{Bool, List, map, ℕ, ◌-◌, ◌<◌, ◌≤◌, ltb}
use Rattle.ground.specs.Filters.{filter}
use Rattle.ground.specs.Ranges.{from, gather}
use Rattle.theory.specs.FourPoint.{times_largest}

-- for all images i, j, k, repeats allowed, of the three entries the largest occurs at least twice
pub record ThreePoint (d : ℕ → ℕ → ℕ) (n : ℕ) : Type 0 where
  pub twice : {i j k : ℕ} → i < n → j < n → k < n → 2 ≤ times_largest (d i j) (d i k) (d j k)

-- three images
pub record Three : Type 0 where
  pub first : ℕ
  pub second : ℕ
  pub third : ℕ

abbrev pub three : ℕ → ℕ → ℕ → Three
three i j k = record { first = i; second = j; third = k }

-- i ≤ j ≤ k below n, in dictionary order: those that begin with i, j; with i; all of them
abbrev pub threes₂ : ℕ → ℕ → ℕ → List Three
threes₂ n i j = map (three i j) (from j (n - j))

abbrev pub threes₁ : ℕ → ℕ → List Three
threes₁ n i = gather (from i (n - i)) (threes₂ n i)

abbrev pub threes : ℕ → List Three
threes n = gather (from 0 n) (threes₁ n)

-- the largest entry of these three occurs once only
abbrev pub fails : (ℕ → ℕ → ℕ) → Three → Bool
fails d q = ltb (times_largest (d q.first q.second) (d q.first q.third) (d q.second q.third)) 2

-- those that fail, in dictionary order: no levels, and the first of them shows why
abbrev pub failing : (ℕ → ℕ → ℕ) → ℕ → List Three
failing d n = filter (fails d) (threes n)
