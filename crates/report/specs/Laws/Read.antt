-- The next table as the reader gives it. Assumes nothing.
use Rattle.std.specs.Prelude.{List, refl, ◌≡◌, ℕ, ◌*◌, ◌-◌, ◌≤◌, drop, length, take, Ok, Err}
use Rattle.std.proofs.Common.{sym, arith}
use Rattle.ground.specs.Laws.Buffers.{rest_part}
use Rattle.ground.specs.Outcomes.{Left}
use Rattle.ground.specs.declared.Refusal.{Refusal}
use Rattle.theory.specs.Tables.{CostTable, limit}
use Rattle.cost_forms.specs.Form.{cost_form_at}
use Rattle.stored_costs.proofs.Laws.Enough.{front_read, front-refused}
use Rattle.stored_costs.proofs.Laws.Passed.{table-at}
use Rattle.cost_forms.specs.Laws.Sizes.{square_le}
use Rattle.stored_costs.specs.Outcomes.{read_either, StoredCosts}
use Rattle.figures.specs.Checks.{stored_checks}
use Rattle.figures.specs.Tables.{table_at, table_of}

-- a table over n images of so many bytes, in the first places of t: it is the one at the front of the bytes s
pub record Read (s t : List ℕ) (n more : ℕ) : Type 0 where
  pub passed : stored_checks s ≡ Ok tt
  pub is : table_of n more (take (n * n) t) ≡ table_at s
  pub formed : CostTable limit n (take (n * n) t)
  pub size : n * n ≤ 4096
  pub within : more ≤ length s

module _ (s out t : List ℕ) (room : length out ≡ 4096) where
  read_refused : (r : Refusal) → Left (read_either s 0 out) (Err r) t → stored_checks s ≡ Err r
  read_refused r l = front-refused s out t (omega arith) r l

  read_table : (n more : ℕ) → Left (read_either s 0 out) (Ok (record { n = n; used = more })) t → Read s t n more
  read_table n more l =
      let a = front_read s out t (omega arith) n more l in
      let b = table-at (cost_form_at s 0) s 0 (length out) n more (sym l.answered) in
      record {
        passed = a.passed;
        is = rw (a.stands, ← b.count, ← a.images) refl;
        formed = a.table;
        size = square_le a.few;
        within = rw (← b.count, ← a.images) b.readable.whole;
      }

-- from the used count onward
module _ (bytes : List ℕ) (used : ℕ) (out t : List ℕ) (x : StoredCosts) (room : length out ≡ 4096)
    (l : Left (read_either (take (length bytes - used) (drop used bytes)) 0 out) x t) where
  there : Left (read_either (drop used bytes) 0 out) x t
  there = rw (rest_part bytes used) at l

  pub unread_at : (r : Refusal) → x ≡ Err r → stored_checks (drop used bytes) ≡ Err r
  unread_at r e = read_refused (drop used bytes) out t room r (rw e at there)

  pub read_at : (n more : ℕ) → x ≡ Ok (record { n = n; used = more }) → Read (drop used bytes) t n more
  read_at n more e = read_table (drop used bytes) out t room n more (rw e at there)
