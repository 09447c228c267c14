-- The laws by which code and callers use the first place at which a test holds. Assumes nothing.
use Rattle.std.specs.Prelude.{Bool, false, true, ◌≡◌, suc, zero, ℕ, ◌<◌, ◌≤◌, ltb}
use Rattle.std.proofs.Common.{ap, arith, ltb-false}
use borrow.Table.Steps.{cases}
use Rattle.ground.specs.First.{NoneBelow, first}

-- r is that number
pub first_is : (bad : ℕ → Bool) (n r : ℕ) → r ≤ n → NoneBelow bad r → (r < n → bad r ≡ true) → r ≡ first bad n
unfolding first
first_is bad zero r le below here = omega arith
first_is bad (suc n) zero le below here = rw (here (omega arith))
first_is bad (suc n) (suc r) le below here =
    rw (below zero (omega arith))
    (ap suc (first_is (λ k. bad (suc k)) n r (omega arith) (λ k h. below (suc k) (omega arith)) (λ h. here (omega arith))))

-- ## The two ways out of a search

pub first_here : (bad : ℕ → Bool) (n r : ℕ) → r < n → NoneBelow bad r → bad r ≡ true → r ≡ first bad n
first_here bad n r l below here = first_is bad n r (omega arith) below (λ _. here)

pub first_none : (bad : ℕ → Bool) (n r : ℕ) → r ≤ n → n ≤ r → NoneBelow bad r → r ≡ first bad n
first_none bad n r l g below = first_is bad n r l below (λ h. absurd (omega arith))

-- ## What a caller learns

pub first_le : (bad : ℕ → Bool) (n : ℕ) → first bad n ≤ n
unfolding first
first_le bad zero = omega arith
first_le bad (suc n) =
    let ih = first_le (λ k. bad (suc k)) n in cases (bad zero) (λ e. rw e (omega arith)) (λ e. rw e (omega arith))

pub first_below : (bad : ℕ → Bool) (n : ℕ) → NoneBelow bad (first bad n)
unfolding first
first_below bad zero k l = absurd (omega arith)
first_below bad (suc n) k l =
    let ih = first_below (λ k. bad (suc k)) n in
    cases (bad zero) (λ e. absurd (let z = rw e at l in omega arith)) (λ e. go k e (rw e at l) ih)
  where
    go : (k : ℕ) → bad zero ≡ false → k < suc (first (λ k. bad (suc k)) n) → NoneBelow (λ k. bad (suc k)) (first (λ k. bad (suc k)) n) → bad k ≡ false
    go zero e l ih = e
    go (suc k) e l ih = ih k (omega arith)

-- nothing was found
pub first-all : (bad : ℕ → Bool) (n : ℕ) → ltb (first bad n) n ≡ false → NoneBelow bad n
first-all bad n e k l = first_below bad n k (omega (arith, ltb-false (first bad n) n e))
