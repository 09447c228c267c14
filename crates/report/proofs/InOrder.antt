-- The checks of the report by their numbers, each with the number of the table that it is about: 0 for the room. Assumes nothing.
use Rattle.std.specs.Prelude.{List, [], ◌++◌, ◌∷◌, refl, ◌≡◌, suc, zero, ℕ, ◌+◌, ltb, drop, length, Ok, Err}
use Rattle.std.proofs.Common.{ap, ◌∙◌, arith, length-append}
use Rattle.ground.specs.InOrder.{Decides, InOrder, Own}
use Rattle.ground.specs.Laws.Filters.{each_nil}
use Rattle.ground.specs.Laws.InOrder.{decides_next, join-order, refuse_order}
use Rattle.ground.specs.Ranges.{from, gather}
use Rattle.ground.specs.Refusals.{if_passed, refusal, Check}
use Rattle.ground.specs.Steps.{numbers_of, of_table}
use Rattle.ground.specs.declared.Refusal.{Refusal}
use Rattle.cost_forms.specs.Form.{cost_form_at}
use Rattle.stored_costs.proofs.InOrder.{table-order}
use Rattle.figures.specs.Figures.{sides_at}
use Rattle.report.specs.Outcome.{outcome, report_outcome, room_check, short}
use Rattle.figures.specs.Checks.{differs, most_sides, most_tables, next_check}
use Rattle.figures.specs.Reading.{Ended, go_on, read_all, read_on}
use Rattle.figures.specs.Tables.{Table, table_at}
pub use Rattle.report.specs.InOrder.{next_steps, report_steps, Stop, stop_at, stop_of, table_numbers}
unfoldable pub use Rattle.report.specs.InOrder.{steps_from, tables_in}

next-order : (L : ℕ) (ts : List Table) (s : List ℕ) → InOrder (next_steps L ts s) (next_check L ts s)
unfolding next_check
next-order L ts s =
    join-order (table-order (cost_form_at s 0) s)
    (join-order (refuse_order (differs ts (table_at s).images) (refusal 15 0 0 0 0) (omega arith))
    (refuse_order (ltb most_sides (sides_at L (ts ++ (table_at s ∷ [])))) (refusal 19 0 0 0 0) (omega arith)))

-- ## They decide how the report ends

from_decides : (L k : ℕ) (ts : List Table) (s : List ℕ) → Decides stop_at (steps_from L k ts s) (0, (Ok tt)) (stop_of (read_on L k ts s))
unfolding steps_from read_on
from_decides L zero ts s = record { same = refl; own = each_nil Own }
from_decides L (suc k) ts [] = record { same = refl; own = each_nil Own }
from_decides L (suc k) ts (b ∷ s) =
    let next = read_on L k (ts ++ (table_at (b ∷ s) ∷ [])) (drop (table_at (b ∷ s)).used (b ∷ s)) in
    let d = decides_next stop_at (length ts + 1) (next-order L ts (b ∷ s))
    (from_decides L k (ts ++ (table_at (b ∷ s) ∷ [])) (drop (table_at (b ∷ s)).used (b ∷ s))) in
    record { same = go (next_check L ts (b ∷ s)) next ∙ d.same; own = d.own }
  where
    go : (c : Check) (e : Ended) → stop_of (go_on c ts e) ≡ if_passed (stop_at (length ts + 1)) c (stop_of e)
    go (Ok tt) e = refl
    go (Err r) e = refl

pub report_decides : (L : ℕ) (bytes f t s : List ℕ)
    → let a = (report_outcome L bytes f t s).answer in Decides stop_at (report_steps L bytes (length f) (length t) (length s)) (0, (Ok tt)) (a.table, a.stop)
report_decides L bytes f t s =
    let d = decides_next stop_at 0 (refuse_order (short (length f) (length t) (length s)) (refusal 3 0 0 0 0) (omega arith)) (from_decides L most_tables [] bytes) in
    record { same = go (room_check (length f) (length t) (length s)) (read_all L bytes) ∙ d.same; own = d.own }
  where
    go : (c : Check) (e : Ended) → ((outcome L c e f t s).answer.table, (outcome L c e f t s).answer.stop) ≡ if_passed (stop_at 0) c (stop_of e)
    go (Ok tt) e = refl
    go (Err r) e = refl

-- ## Refused with table number 0, as 3 alone is, it leaves the lent slices as they were

pub room_unaltered : (L : ℕ) (bytes f t s : List ℕ) (q : Refusal) → let o = report_outcome L bytes f t s in
    o.answer.stop ≡ Err q → o.answer.table ≡ 0 → (o.far_list ≡ f) × (o.tree_list ≡ t) × (o.sum_list ≡ s)
room_unaltered L bytes f t s q = go (room_check (length f) (length t) (length s)) (read_all L bytes)
  where
    go : (c : Check) (e : Ended) → let o = outcome L c e f t s in
        o.answer.stop ≡ Err q → o.answer.table ≡ 0 → (o.far_list ≡ f) × (o.tree_list ≡ t) × (o.sum_list ≡ s)
    go (Err r) e a b = (refl, refl, refl)
    go (Ok tt) e a b = absurd (let z = rw a at b in omega (arith, z))

-- ## The numbers

from-numbers : (L k m : ℕ) (ts : List Table) (s : List ℕ) → length ts + 1 ≡ m → numbers_of (steps_from L k ts s) ≡ gather (from m (tables_in k s)) table_numbers
unfolding steps_from tables_in
from-numbers L zero m ts s e = refl
from-numbers L (suc k) m ts [] e = refl
from-numbers L (suc k) m ts (b ∷ s) e =
    let tb = table_at (b ∷ s) in
    rw e (ap (λ (z : List (ℕ × ℕ)). table_numbers m ++ z)
    (from-numbers L k (suc m) (ts ++ (tb ∷ [])) (drop tb.used (b ∷ s)) (omega (arith, length-append ts (tb ∷ [])))))

-- 3 with number 0, then 9, 1, 9, 11, 4, 20, 15, 19 table by table
pub report_numbers : (L : ℕ) (bytes : List ℕ) (f t s : ℕ)
    → numbers_of (report_steps L bytes f t s) ≡ of_table 0 (3 ∷ []) ++ gather (from 1 (tables_in most_tables bytes)) table_numbers
report_numbers L bytes f t s = ap (λ (z : List (ℕ × ℕ)). of_table 0 (3 ∷ []) ++ z) (from-numbers L most_tables 1 [] bytes refl)
