-- 15 as the code tests it. Assumes nothing.
use Rattle.std.specs.Prelude.{cond, not, ℕ, eqb, Ok}
use Rattle.ground.specs.Refusals.{refusal, refuse_if, Check}

-- an n other than the one before, 0 where there is none
abbrev pub other_check : ℕ → ℕ → Check
other_check images n = cond (eqb images 0) (Ok tt) (refuse_if (not (eqb n images)) (refusal 15 0 0 0 0))
