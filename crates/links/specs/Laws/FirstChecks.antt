-- How a check of many places passes. Assumes nothing.
use Rattle.std.specs.Prelude.{Bool, ◌≡◌, ℕ, ltb, Ok}
use Rattle.std.proofs.Common.{arith, le-ltb}
use Rattle.ground.specs.First.{NoneBelow, first}
use Rattle.ground.specs.Laws.First.{first-all, first_none}
use Rattle.ground.specs.Laws.Refusals.{refuse_if-passed}
use Rattle.links.specs.FirstChecks.{first_check}

pub first-passed : (m : ℕ) (bad : ℕ → Bool) (N : ℕ) → first_check m bad N ≡ Ok tt → NoneBelow bad N
first-passed m bad N e = first-all bad N (refuse_if-passed (ltb (first bad N) N) _ e)

pub passed_first : (m : ℕ) (bad : ℕ → Bool) (N : ℕ) → NoneBelow bad N → first_check m bad N ≡ Ok tt
passed_first m bad N h = rw (le-ltb (first bad N) N (omega (arith, first_none bad N N (omega arith) (omega arith) h)))
