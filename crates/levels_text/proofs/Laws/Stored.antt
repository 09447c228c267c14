-- The two ways out of the reader of a stored cost table, into 4,096 zeros. Assumes nothing.
use Rattle.std.specs.Prelude.{List, ◌≡◌, ℕ, ◌*◌, ◌≤◌, length, replicate, take, Ok, Err}
use Rattle.std.proofs.Common.{arith}
use lib.ListN.{length-replicate}
use Rattle.ground.specs.Outcomes.{Left}
use Rattle.ground.specs.declared.Refusal.{Refusal}
use Rattle.theory.specs.Tables.{CostTable, limit}
use Rattle.bits.specs.Laws.Written.{over_at_front}
use Rattle.cost_forms.specs.Laws.Sizes.{square_le}
use Rattle.stored_costs.specs.Outcomes.{read_either}
use Rattle.stored_costs.specs.declared.CostsRead.{CostsRead}
use Rattle.listing_lines.specs.Lines.{refused_line}
use Rattle.listing_text.specs.Laws.Stored.{stored_refused, stored_table_lem}
use Rattle.levels_text.specs.Answered.{levels_fit}
use Rattle.levels_text.specs.Laws.Lengths.{refused_fits}
use Rattle.levels_text.specs.Listing.{levels_text, table_levels}

-- a cost table of n images was read, and the listing of the bytes s is its own
pub record TableRead (s e : List ℕ) (n : ℕ) : Type 0 where
  pub square : n * n ≤ 4096
  pub table : CostTable limit n (take (n * n) e)
  pub text : levels_text s ≡ table_levels n (take (n * n) e)

enough : 4096 ≤ length {A = ℕ} (replicate 4096 0)
enough = omega (arith, length-replicate {A = ℕ} 4096 0)

module _ (s e : List ℕ) where
  pub stored_refusal : (q : Refusal) → Left (read_either s 0 (replicate 4096 0)) (Err q) e → levels_text s ≡ refused_line q
  unfolding levels_text
  stored_refusal q l = stored_refused table_levels s (replicate 4096 0) e enough q l

  pub stored_read : (r : CostsRead) → Left (read_either s 0 (replicate 4096 0)) (Ok r) e → TableRead s e r.n
  unfolding levels_text
  stored_read r l =
      let t = stored_table_lem table_levels s (replicate 4096 0) e enough r.n r.used l in
      record { square = square_le t.few; table = t.table; text = t.text }

pub ruleset stored_ways = (refused_fits, stored_refusal, stored_read)

-- what the public call names
pub ruleset whole = (levels_fit, over_at_front)
