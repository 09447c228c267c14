-- The checks of a batch by their numbers, and by the table that each is about. Assumes nothing.
use Rattle.std.specs.Prelude.{not, List, [], ◌++◌, ◌∷◌, ◌≡◌, suc, ℕ, ◌+◌, ◌-◌, eqb, ltb, drop, length, take, Ok}
use Rattle.std.proofs.Common.{ap, ap₂, ◌∙◌, add-one, arith}
use Rattle.ground.specs.InOrder.{Decides, InOrder}
use Rattle.ground.specs.Laws.InOrder.{decides_last, decides_next, join-order, refuse_order, refuse_if_only, step-order, then_only}
use Rattle.ground.specs.Laws.Steps.{first-decided}
use Rattle.ground.specs.Ranges.{from, gather}
use Rattle.ground.specs.Refusals.{refusal, refuse_if, refused_in}
use Rattle.ground.specs.Steps.{FirstRefused, Step, about, numbers_of, of_table, ◌by◌}
use Rattle.ground.specs.declared.Refusal.{Refusal}
use Rattle.bits.specs.declared.Form.{Form}
use Rattle.links.specs.InOrder.{count-order, count_steps}
use Rattle.link_forms.specs.Form.{link_used}
use Rattle.link_writer.specs.InOrder.{fit_order, fit_steps}
use Rattle.batch.specs.Batch.{batch_answer, batch_from, batch_outcome}
use Rattle.joined_tables.specs.Tables.{Table, left_over_checks, next_checks, run_out_checks, tables}

-- 1, 10, 2, 12, 13, 17, 3 of the next table
abbrev pub next_steps : Form → ℕ → ℕ → List ℕ → List ℕ → ℕ → List Step
next_steps form n N l v room = count_steps n N ++ (2 by run_out_checks N l v ∷ fit_steps form n (take N l) (take N v) room)

next-order : (form : Form) (n N : ℕ) (l v : List ℕ) (room : ℕ) → InOrder (next_steps form n N l v room) (next_checks form n N l v room)
next-order form n N l v room =
    join-order (count-order n N)
    (join-order
    (step-order 2 (run_out_checks N l v) (omega arith)
    (then_only 2 (refuse_if (ltb (length l) N) (refusal 2 0 0 0 0)) (refuse_if (ltb (length v) N) (refusal 2 0 0 0 0))
    (refuse_if_only (ltb (length l) N) (refusal 2 0 0 0 0)) (refuse_if_only (ltb (length v) N) (refusal 2 0 0 0 0))))
    (fit_order form n (take N l) (take N v) room))

left_over_order : (l v : List ℕ) → InOrder (2 by left_over_checks l v ∷ []) (left_over_checks l v)
left_over_order l v =
    step-order 2 (left_over_checks l v) (omega arith)
    (then_only 2 (refuse_if (ltb 0 (length l)) (refusal 2 0 0 0 0)) (refuse_if (ltb 0 (length v)) (refusal 2 0 0 0 0))
    (refuse_if_only (ltb 0 (length l)) (refusal 2 0 0 0 0)) (refuse_if_only (ltb 0 (length v)) (refusal 2 0 0 0 0)))

-- table by table, after the first k; then 2 of the places left over, with the last table's number
unfoldable pub steps_from : Form → ℕ → List Table → List ℕ → List ℕ → ℕ → List Step
steps_from form k [] l v room = about k (2 by left_over_checks l v ∷ [])
steps_from form k (t ∷ ts) l v room =
    about (k + 1) (next_steps form t.0 t.1 l v room)
    ++ steps_from form (k + 1) ts (drop t.1 l) (drop t.1 v) (room - link_used form t.0 t.1)

from_decides : (form : Form) (k used : ℕ) (ts : List Table) (l v : List ℕ) (room : ℕ)
    → (u : ℕ) × Decides refused_in (steps_from form k ts l v room) (Ok u) (batch_from form k used ts l v room)
unfolding batch_from steps_from
from_decides form k used [] l v room = (used, decides_last refused_in k (Ok used) (left_over_order l v))
from_decides form k used (t ∷ ts) l v room =
    let x = link_used form t.0 t.1 in
    let ih = from_decides form (k + 1) (used + x) ts (drop t.1 l) (drop t.1 v) (room - x) in
    (ih.0, decides_next refused_in (k + 1) (next-order form t.0 t.1 l v room) ih.1)

-- 2 of two lists of different lengths, then table by table
abbrev pub batch_steps : Form → List ℕ → List ℕ → List ℕ → List ℕ → ℕ → List Step
batch_steps form ns counts l v room =
    2 by refuse_if (not (eqb (length ns) (length counts))) (refusal 2 0 0 0 0) ∷ steps_from form 0 (tables ns counts) l v room

pub batch_decides : (form : Form) (ns counts l v : List ℕ) (room : ℕ)
    → (u : ℕ) × Decides refused_in (batch_steps form ns counts l v room) (Ok u) (batch_answer form ns counts l v room)
batch_decides form ns counts l v room =
    let d = from_decides form 0 0 (tables ns counts) l v room in
    (d.0, decides_next refused_in 0 (refuse_order (not (eqb (length ns) (length counts))) (refusal 2 0 0 0 0) (omega arith)) d.1)

-- a refused batch leaves the lent bytes as they were
pub batch_unaltered : (form : Form) (ns counts l v out : List ℕ) (s : Step) (q : Refusal) → FirstRefused (batch_steps form ns counts l v (length out)) s q
    → (batch_outcome form ns counts l v out).places ≡ out
batch_unaltered form ns counts l v out s q f =
    let d = batch_decides form ns counts l v (length out) in
    rw (d.1.same ∙ first-decided refused_in (batch_steps form ns counts l v (length out)) (Ok d.0) f)

-- ## The numbers of m tables

-- the link writer's
abbrev pub table_numbers : ℕ → List (ℕ × ℕ)
table_numbers k = of_table k (1 ∷ 10 ∷ 2 ∷ 12 ∷ 13 ∷ 17 ∷ 3 ∷ [])

from-numbers : (form : Form) (k : ℕ) (ts : List Table) (l v : List ℕ) (room : ℕ)
    → numbers_of (steps_from form k ts l v room) ≡ gather (from (suc k) (length ts)) table_numbers ++ of_table (k + length ts) (2 ∷ [])
unfolding steps_from
from-numbers form k [] l v room = ap (λ (m : ℕ). of_table m (2 ∷ [])) (omega arith)
from-numbers form k (t ∷ ts) l v room =
    ap (λ (z : List (ℕ × ℕ)). table_numbers (k + 1) ++ z) (from-numbers form (k + 1) ts (drop t.1 l) (drop t.1 v) (room - link_used form t.0 t.1))
    ∙ ap₂ (λ (i j : ℕ). table_numbers i ++ (gather (from (suc i) (length ts)) table_numbers ++ of_table j (2 ∷ []))) (add-one k) (omega arith)

-- 2 with number 0, then table by table the link writer's, then 2 with the last table's number, 0 in an empty batch
abbrev pub batch_numbers : ℕ → List (ℕ × ℕ)
batch_numbers m = of_table 0 (2 ∷ []) ++ (gather (from 1 m) table_numbers ++ of_table m (2 ∷ []))

pub batch_numbers_lem : (form : Form) (ns counts l v : List ℕ) (room : ℕ)
    → numbers_of (batch_steps form ns counts l v room) ≡ batch_numbers (length (tables ns counts))
batch_numbers_lem form ns counts l v room =
    ap (λ (z : List (ℕ × ℕ)). (0, 2) ∷ z)
    (from-numbers form 0 (tables ns counts) l v room
    ∙ ap (λ (m : ℕ). gather (from 1 (length (tables ns counts))) table_numbers ++ of_table m (2 ∷ [])) (omega arith))
