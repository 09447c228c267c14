-- What the index call answers.
use Rattle.std.specs.Prelude.{Bool, ◌||◌, List, ℕ, ◌^◌, eqb, leb}
use Rattle.ground.specs.Bits.{bit}
use Rattle.ground.specs.Refusals.{refusal, refuse_if, signed_if, ◌then◌, Check, SignedAnswer}
use Rattle.theory.specs.Index.{index}
use Rattle.theory.specs.Tables.{CostTable, cost}
use Rattle.tables.specs.Checks.{costs_check, size_check}
use Rattle.theory.specs.FarSides.{FarSide}

-- empty, with image 1, or with an image beyond n
abbrev pub bad_far_side : ℕ → ℕ → Bool
bad_far_side n S = eqb S 0 || (eqb (bit S 0) 1 || leb (2 ^ n) S)

-- 12: a bad far side
abbrev pub far_side_check : ℕ → ℕ → Check
far_side_check n S = refuse_if (bad_far_side n S) (refusal 12 0 0 0 0)

-- 1, 2, 4, 5, 6, 20, 12
abbrev pub index_check : ℕ → ℕ → List ℕ → ℕ → Check
index_check L n t S = size_check n t then costs_check L (cost t n) n then far_side_check n S

-- the index, a signed number
abbrev pub index_answer : ℕ → ℕ → List ℕ → ℕ → SignedAnswer
index_answer L n t S = signed_if (index_check L n t S) (index (cost t n) n (bit S))

-- the call is accepted exactly for a cost table and a far side
pub record IndexAsked (L n : ℕ) (t : List ℕ) (S : ℕ) : Type 0 where
  pub table : CostTable L n t
  pub side : FarSide n S
