-- Writing what was read, for any form. Assumes nothing.
use Rattle.std.specs.Prelude.{List, ◌≡◌, ℕ, ◌/◌, ◌≤◌, drop, length, take, Ok}
use Rattle.ground.specs.Outcomes.{wrote_into}
use Rattle.theory.specs.Tables.{CostTable, limit}
use Rattle.bits.specs.Bits.{AllBytes}
use Rattle.bits.specs.Editions.{Marked}
use Rattle.cost_writer.proofs.Laws.Accepted.{passed_write}
use Rattle.cost_writer.specs.Writing.{write_outcome}
use Rattle.cost_forms.specs.Said.{stored_table}
use Rattle.stored_costs.proofs.Laws.Passed.{table-at}
use Rattle.stored_costs.proofs.Laws.Positions.{used_bytes}
use Rattle.stored_costs.specs.Laws.WriteBack.{read_table}
use Rattle.stored_costs.specs.Outcomes.{judged}
use Rattle.bits.specs.declared.Form.{Form}

module _ (form : Form) where
  -- writing what was read gives the same used bytes
  pub read_again : form.limit ≤ limit → (bytes : List ℕ) (position room n used : ℕ) (out : List ℕ) → AllBytes bytes
      → judged form bytes position room ≡ Ok (record { n = n; used = used })
      → Marked form (drop (position / 8) bytes) → used ≤ length out
      → write_outcome form n (stored_table form n (drop (position / 8) bytes)) out
      ≡ wrote_into used (take used (drop (position / 8) bytes)) out
  read_again l bytes position room n used out b e m h =
      let s = drop (position / 8) bytes in
      let a = table-at form bytes position room n used e in
      let c : CostTable form.limit n (stored_table form n s) = rw (← a.number) (read_table form s room a.readable) in
      rw (passed_write form n (stored_table form n s) (length out) l c (rw a.count h), a.count, used_bytes form bytes position room n used b e m)
