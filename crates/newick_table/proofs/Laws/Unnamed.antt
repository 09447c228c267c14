-- The first image that is not named is found by counting the ones that end the number of those named. Assumes nothing.
use Rattle.std.specs.Prelude.{Bool, refl, ◌≡◌, min, suc, zero, ℕ, ◌%◌, ◌-◌, ◌/◌, ◌<◌, ◌^◌, ◌≤◌, eqb}
use Rattle.std.proofs.Common.{ap, ◌∙◌, arith, eqb-true}
use Rattle.std.proofs.lemmas.Bool.{eqb-false}
use Rattle.std.specs.Int.{w64, trailing_ones}
use borrow.Table.Steps.{cases}
use lib.Count.{count_trailing_zeros}
use Rattle.ground.specs.First.{first}
use Rattle.newick_table.specs.Notes.{unnamed}

-- the zeros of the number with all bits turned
zeros_first : (k m : ℕ) → m < 2 ^ k → count_trailing_zeros k (2 ^ k - 1 - m) ≡ first (unnamed m) k
unfolding count_trailing_zeros first unnamed
zeros_first zero m f = refl
zeros_first (suc k) m f =
    let ih = zeros_first k (m / 2) (omega arith) in
    let h : (2 ^ suc k - 1 - m) / 2 ≡ 2 ^ k - 1 - m / 2 = omega arith in
    cases (eqb (m % 2) 1)
    (λ e. let z : (2 ^ suc k - 1 - m) % 2 ≡ 0 = omega (arith, eqb-true (m % 2) 1 e) in rw (e, z, h) (ap suc ih))
    (λ e. let z : (2 ^ suc k - 1 - m) % 2 ≡ 1 = omega (arith, eqb-false (m % 2) 1 e) in rw (e, z) refl)

-- the first place below n, where it is known below N
first_min : (bad : ℕ → Bool) (n N : ℕ) → n ≤ N → min n (first bad N) ≡ first bad n
unfolding first
first_min bad zero N l = omega arith
first_min bad (suc n) zero l = absurd (omega arith)
first_min bad (suc n) (suc N) l =
    let ih = first_min (λ k. bad (suc k)) n N (omega arith) in
    cases (bad zero) (λ e. rw e (omega arith)) (λ e. rw e (omega arith))

pub ones_first : (m n : ℕ) → m < 2 ^ 64 → n ≤ 64 → min n (trailing_ones w64 m) ≡ first (unnamed m) n
ones_first m n f l = ap (min n) (zeros_first 64 m f) ∙ first_min (unnamed m) n 64 l
