-- What the index is, choice by choice. Assumes nothing.
use Rattle.std.specs.Prelude.{◌≡◌, ℕ, ℤ, ◌≤ℤ◌}
use Rattle.ground.specs.Bits.{bit}
use Rattle.theory.specs.Choices.{Choice, value_of}

-- v is the index of the division with the far side S: some choice of images on the two sides has this value, and none has less
pub record IndexIs (d : ℕ → ℕ → ℕ) (n S : ℕ) (v : ℤ) : Type 0 where
  pub chosen : (q : Choice n (bit S)) × (value_of d q ≡ v)
  pub least : (q : Choice n (bit S)) → v ≤ℤ value_of d q
