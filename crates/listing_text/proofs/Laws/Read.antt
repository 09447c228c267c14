-- The two ways out of the reader of a stored cost table, into 4,096 zeros, the last image that is asked for, and the whole text. Assumes nothing.
use Rattle.std.specs.Prelude.{List, ◌≡◌, ℕ, ◌+◌, ◌≤◌, length, replicate, Ok, Err}
use Rattle.std.proofs.Common.{ap, arith, drop, length-append, ◌∙◌}
use lib.ListN.{length-replicate}
use Rattle.ground.specs.Outcomes.{Left}
use Rattle.ground.specs.declared.Refusal.{Refusal}
use Rattle.theory.specs.Tables.{CostTable, limit}
use Rattle.tables.specs.Entries.{costs_in}
use Rattle.tables.specs.declared.costs.Costs.{Costs}
use Rattle.far_end.proofs.Laws.FarEnd.{far_end_is}
use Rattle.far_end.specs.FarEnd.{far_end}
use Rattle.bits.specs.Laws.Written.{over_at_front}
use Rattle.stored_costs.specs.Outcomes.{read_either}
use Rattle.stored_costs.specs.declared.CostsRead.{CostsRead}
use Rattle.listing_lines.specs.Lines.{refused_line, room}
use Rattle.table_text.specs.LastImage.{Other}
use Rattle.text.specs.Putting.{Put}
use Rattle.listing_text.specs.LastImage.{last_image}
use Rattle.listing_text.specs.Laws.LastImage.{last_other}
use Rattle.listing_text.specs.Laws.Stored.{StoredTable, stored_refused, stored_table_lem}
use Rattle.listing_text.specs.Listing.{stored_text}
use Rattle.listing_text.specs.declared.Last.{Last}

-- ## A stored table

pub enough : 4096 ≤ length {A = ℕ} (replicate 4096 0)
enough = omega (arith, length-replicate {A = ℕ} 4096 0)

module _ (said : ℕ → List ℕ → List ℕ) (s e : List ℕ) where
  pub stored_refusal : (q : Refusal) → Left (read_either s 0 (replicate 4096 0)) (Err q) e → stored_text said s ≡ refused_line q
  stored_refusal q l = stored_refused said s (replicate 4096 0) e enough q l

  pub stored_read : (r : CostsRead) → Left (read_either s 0 (replicate 4096 0)) (Ok r) e → StoredTable said s (replicate 4096 0) e enough r.n
  stored_read r l = stored_table_lem said s (replicate 4096 0) e enough r.n r.used l

-- ## The last image

-- the number of the far end is a small one
pub far_small : (t : Costs) (x : ℕ) → x ≡ far_end (costs_in t) t.n → x + 1 ≤ 64
far_small t x e =
    let d = costs_in t in
    omega (arith, e, t.formed.few, (far_end_is d t.n (omega (arith, t.formed.some))).image)

pub last_asked : (which : Last) (n : ℕ) (t : List ℕ) → CostTable limit n t → (x : ℕ) → x ≡ last_image which n t → Other n x
last_asked which n t c x e = rw e (last_other which n t c)

-- ## The whole text

-- what was written lies within the array
pub put_within : (m o o' : List ℕ) (r : ℕ) → Put m 0 o r o' → length o' ≡ room → r ≤ room
put_within m o o' r p h =
    let f = p.left ∙ over_at_front o m in
    omega (arith, p.behind, h, ap length f, length-append m (drop (length m) o))

pub ruleset whole = (put_within, over_at_front)
