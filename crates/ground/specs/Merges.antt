-- A merge of two ascending lists: how far a turn goes in each. Assumes nothing.
use Rattle.std.specs.Prelude.{ℕ, leb}
use Rattle.ground.specs.Counts.{one_if}

-- 1 where x is at most y, so that the list in which x stands goes on; else 0
unfoldable pub advance : ℕ → ℕ → ℕ
advance x y = one_if (leb x y)
