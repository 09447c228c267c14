-- The index of a far side, by the index with two limits added: some choice has it, and none has less. Assumes nothing.
use Rattle.ground.specs.Refusals.{Check}
use Rattle.std.specs.Prelude.{List, ◌≡◌, ℕ, ◌*◌, ◌+◌, ◌≤◌, pos, ℤ, ◌-ℤ◌, Ok, Err}
use Rattle.std.proofs.Common.{ap, sym, ◌∙◌, arith}
use Rattle.ground.specs.Bits.{bit}
use Rattle.ground.specs.Laws.Refusals.{if_goes}
use Rattle.ground.proofs.Laws.Signed.{le_signed}
use Rattle.theory.specs.Choices.{Choice, across, inside, value_of}
use Rattle.theory.specs.FarSides.{FarSide}
use Rattle.theory.specs.Index.{gain, index, shifted}
use Rattle.theory.proofs.Laws.Attained.{gain-whole, shifted_at}
use Rattle.theory.specs.Laws.FarSides.{far_image}
use Rattle.theory.proofs.Laws.Index.{shifted_le}
use Rattle.theory.proofs.Laws.SignedIndex.{far-shifted, value-gain}
use Rattle.theory.specs.Tables.{WellFormed, cost}
use Rattle.index.specs.Call.{IndexAsked, index_answer, index_check}
use Rattle.index.specs.IndexIs.{IndexIs}
use Rattle.index.proofs.Laws.Passed.{index-passed}

module _ (L : ℕ) (d : ℕ → ℕ → ℕ) {n : ℕ} {s : ℕ → ℕ} (q : Choice n s) where
  -- the value of a choice with two limits added
  abbrev pub gain_of : ℕ
  gain_of = gain L d q.a q.a' q.b q.b'

  pub least_gain : shifted L d n s ≤ gain_of
  least_gain = shifted_le L d n s q.on_a q.on_a' q.on_b q.on_b'

  module _ (c : WellFormed L d n) where
    pub choice_gain : value_of d q ≡ pos gain_of -ℤ pos (2 * L)
    choice_gain = value-gain L d n c q.on_a.0 q.on_a'.0 q.on_b.0 q.on_b'.0

    pub balance : gain_of + inside d q ≡ 2 * L + across d q
    balance = omega (arith, gain-whole L d n c q.on_a.0 q.on_a'.0 q.on_b.0 q.on_b'.0)

module _ (L : ℕ) (d : ℕ → ℕ → ℕ) (n : ℕ) (c : WellFormed L d n) (S : ℕ) (f : FarSide n S) where
  pub some-gain : (q : Choice n (bit S)) × (shifted L d n (bit S) ≡ gain_of L d q)
  some-gain = let b = far_image n S f in shifted_at L d n c (bit S) {x = 0} {y = b.0} (omega arith, f.near) (b.1, b.2)

  pub index_is : IndexIs d n S (index d n (bit S))
  index_is = record {
    chosen = let s = some-gain in (s.0, choice_gain L d s.0 c ∙ sym (far-shifted L d n c S f ∙ rw s.1));
    least = λ q. rw (far-shifted L d n c S f, choice_gain L d q c)
        ((le_signed (shifted L d n (bit S)) (2 * L) (gain_of L d q) (2 * L)).1 (omega (arith, least_gain L d q)));
  }

-- the last step of the call: where the checks passed, two limits are taken off
pub value_answered : (L n : ℕ) (t : List ℕ) (S : ℕ) {x : Check} {v : ℕ} {z : ℤ} → x ≡ Ok tt → x ≡ index_check L n t S
    → v ≡ shifted L (cost t n) n (bit S) → z ≡ pos v -ℤ pos (2 * L) → Ok z ≡ index_answer L n t S
value_answered L n t S p e h k =
    let a = (index-passed L n t S).0 (sym e ∙ p) in
    if_goes Err _ _ p e (ap Ok (k ∙ rw h (sym (far-shifted L (cost t n) n a.table.formed S a.side))))

pub passed_asked : (L n : ℕ) (t : List ℕ) (S : ℕ) → index_check L n t S ≡ Ok tt → IndexAsked L n t S
passed_asked L n t S = (index-passed L n t S).0

-- what the author of the call names
pub ruleset call_laws = (passed_asked, value_answered)
