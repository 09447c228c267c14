-- The checks of stored bytes, one by one, by the refusal they give. Assumes nothing.
use Rattle.std.specs.Prelude.{Bool, ◌||◌, List, ℕ, ◌%◌, ◌/◌, ltb, length}
use Rattle.ground.specs.Refusals.{refusal, refuse_if, Check}

-- 9: stored bytes end early, of which so many are needed
abbrev pub end_check : List ℕ → ℕ → Check
end_check s needed = refuse_if (ltb (length s) needed) (refusal 9 0 0 0 0)

-- 11: fill bits not zero
abbrev pub fill_check : ℕ → Check
fill_check fill = refuse_if (ltb 0 fill) (refusal 11 0 0 0 0)

-- 9: a position past the end of so many bytes, or not at the start of a byte
abbrev pub misplaced : ℕ → ℕ → Bool
misplaced bytes position = ltb bytes (position / 8) || ltb 0 (position % 8)

-- refused with 9 there
abbrev pub position_check : List ℕ → ℕ → Check
position_check bytes position = refuse_if (misplaced (length bytes) position) (refusal 9 0 0 0 0)
