-- Link tables and path costs, in document 01's words.
use Rattle.std.specs.Prelude.{Bool, true, ◌≡◌, ℕ, ◌*◌, ◌<◌, ◌^◌, ◌≤◌, eqb}
use mathlib.Core.List.{List, Memᴰ, [], map, ◌∷◌}
use Rattle.ground.specs.Ascending.{Between}
use Rattle.ground.specs.Bits.{bit}
use Rattle.ground.specs.Filters.{Each}
use Rattle.ground.specs.Sums.{sum, when}
use Rattle.ground.specs.Tests.{one_of}
use Rattle.theory.specs.FarSides.{Nested, holds, inner, own}

-- a row: far side and doubled cost
abbrev pub Row : Type 0
Row = ℕ × ℕ

abbrev pub far : Row → ℕ
far r = r.0

abbrev pub fars : List Row → List ℕ
fars T = map far T

abbrev pub costs : List Row → List ℕ
costs T = map (λ r. r.1) T

-- the rows that stand in two lists, as long as both last
abbrev pub rows_of : List ℕ → List ℕ → List Row
rows_of [] v = []
rows_of (S ∷ l) [] = []
rows_of (S ∷ l) (c ∷ v) = (S, c) ∷ rows_of l v

-- far sides strictly ascending, none empty and none with an image beyond n, none with image 0; each image's own link present;
-- any two far sides nested or disjoint; inner costs above 0; every cost at most twice the limit
pub record LinkTable (L n : ℕ) (T : List Row) : Type 0 where
  pub ascending : Between 1 (fars T) (2 ^ n)
  pub near : Each T (λ r. bit r.0 0 ≡ 0)
  pub owns : (i : ℕ) → i < n → Memᴰ (own n i) (fars T)
  pub nested : Each T (λ r. Each T (λ q. Nested n r.0 q.0))
  pub drawn : Each T (λ r. inner n r.0 ≡ true → 0 < r.1)
  pub small : Each T (λ r. r.1 ≤ 2 * L)

-- S holds exactly one of i and j
abbrev pub apart : ℕ → ℕ → ℕ → Bool
apart S i j = one_of (holds S i) (holds S j)

-- path cost: the sum of the doubled costs of the rows whose far side holds exactly one of i and j
abbrev pub path : List Row → ℕ → ℕ → ℕ
path T i j = sum T (λ r. when (apart r.0 i j) r.1)

-- the doubled cost that a link table gives the division S, an absent one counting as zero
abbrev pub cost_of : List Row → ℕ → ℕ
cost_of T S = sum T (λ r. when (eqb r.0 S) r.1)

-- the sum of all doubled costs
abbrev pub all_costs : List Row → ℕ
all_costs T = sum T (λ r. r.1)
