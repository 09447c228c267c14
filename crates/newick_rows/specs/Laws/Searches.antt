-- The image that is alone in a far side is found by counting the zeros below its one. Assumes nothing.
use Rattle.std.specs.Prelude.{refl, ◌≡◌, suc, zero, ℕ, ◌%◌, ◌+◌, ◌/◌, eqb}
use Rattle.std.proofs.Common.{ap, arith, eqb-true}
use Rattle.std.proofs.lemmas.Bool.{eqb-false}
use borrow.Table.Steps.{cases}
use lib.Count.{count_trailing_zeros}
use Rattle.ground.specs.First.{first}
use Rattle.theory.specs.FarSides.{holds}
use Rattle.newick_text.specs.LinkTrees.{image_of}

zeros_first : (k s : ℕ) → count_trailing_zeros k s ≡ first (holds s) k
unfolding count_trailing_zeros first
zeros_first zero s = refl
zeros_first (suc k) s =
    let ih = zeros_first k (s / 2) in
    cases (eqb (s % 2) 1)
    (λ e. rw (e, eqb-true (s % 2) 1 e) refl)
    (λ e. let z : s % 2 ≡ 0 = omega (arith, eqb-false (s % 2) 1 e) in rw (e, z) (ap suc ih))

pub zeros_below : (s : ℕ) → count_trailing_zeros 64 s + 1 ≡ image_of s
zeros_below s = omega (arith, zeros_first 64 s)
