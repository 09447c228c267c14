-- The index of a division, in document 01's words. The division is given by its sides: s i is 0 for an image i of A, 1 for one of B.
use Rattle.std.specs.Prelude.{min, ℕ, ◌*◌, ◌+◌, ◌-◌, ◌≤◌, pos, ℤ, ◌-ℤ◌}
use Rattle.ground.specs.Least.{On, least_on}
use Rattle.ground.specs.Signed.{group, least_z}

-- min(d(a,b) + d(a',b'), d(a,b') + d(a',b)) - d(a,a') - d(b,b')
abbrev pub value : (ℕ → ℕ → ℕ) → ℕ → ℕ → ℕ → ℕ → ℤ
value d a a' b b' = pos (min (d a b + d a' b') (d a b' + d a' b)) -ℤ pos (d a a') -ℤ pos (d b b')

-- the index: the least of them over a, a' in A and b, b' in B, repeats allowed
unfoldable pub index : (ℕ → ℕ → ℕ) → ℕ → (ℕ → ℕ) → ℤ
index d n s =
    least_z (group n s 0) (λ a. least_z (group n s 0) (λ a'. least_z (group n s 1) (λ b. least_z (group n s 1) (λ b'. value d a a' b b'))))

-- ## The same with 2 L added, so that nothing is below 0: what the laws and the code reckon with (`value-gain`, `index-shifted`)

abbrev pub gain : ℕ → (ℕ → ℕ → ℕ) → ℕ → ℕ → ℕ → ℕ → ℕ
gain L d a a' b b' = 2 * L + min (d a b + d a' b') (d a b' + d a' b) - d a a' - d b b'

unfoldable pub shifted : ℕ → (ℕ → ℕ → ℕ) → ℕ → (ℕ → ℕ) → ℕ
shifted L d n s =
    least_on n s 0 (4 * L) (λ a. least_on n s 0 (4 * L) (λ a'. least_on n s 1 (4 * L) (λ b. least_on n s 1 (4 * L) (λ b'. gain L d a a' b b'))))

-- the index, or 0 where it is negative (`clipped-index`)
abbrev pub clipped : ℕ → (ℕ → ℕ → ℕ) → ℕ → (ℕ → ℕ) → ℕ
clipped L d n s = shifted L d n s - 2 * L

-- the index is at least v, choice by choice
pub record AtLeast (d : ℕ → ℕ → ℕ) (n : ℕ) (s : ℕ → ℕ) (v : ℕ) : Type 0 where
  pub low : {a a' b b' : ℕ} → On n s 0 a → On n s 0 a' → On n s 1 b → On n s 1 b'
      → v + d a a' + d b b' ≤ d a b + d a' b'
