-- A turn of the loop that answers for a batch: i tables passed, used so many bytes, and left the rows from `rows` on. Assumes nothing.
use Rattle.ground.specs.Refusals.{Check, refused_in}
use mathlib.Core.List.{List}
use Rattle.std.proofs.Math.Path.{ap, ap₂}
use Rattle.std.specs.Prelude.{MatchResult, refl, ◌≡◌, ℕ, ◌+◌, ◌-◌, ◌<◌, ◌≤◌, drop, get_or, length, Ok, Err}
use Rattle.std.proofs.Common.{sym, ◌∙◌, drop-drop}
use native.Mathlib.Omega.{arith}
use Rattle.ground.specs.Laws.Refusals.{if_goes, if_stops}
use Rattle.link_forms.specs.Form.{link_used}
use Rattle.joined_tables.proofs.Laws.Steps.{table_is, tables_end}
use Rattle.joined_tables.specs.Tables.{Table, left_over_checks, next_checks, tables}
use Rattle.batch.specs.Batch.{batch_from, numbered, Batched}
use Rattle.bits.specs.declared.Form.{Form}

module _ (form : Form) (ns counts l v : List ℕ) (room used rows i : ℕ) where
  -- the answer for the tables that are left
  abbrev pub answer_at : Batched
  answer_at = batch_from form i used (drop i (tables ns counts)) (drop rows l) (drop rows v) (room - used)

  pub answer_end : length ns ≡ length counts → length ns ≤ i → answer_at ≡ numbered i (left_over_checks (drop rows l) (drop rows v)) (Ok used)
  unfolding batch_from
  answer_end e h = ap (λ (ts : List Table). batch_from form i used ts (drop rows l) (drop rows v) (room - used)) (tables_end ns counts i e h)

-- before the first table
pub answer-start : (form : Form) (ns counts l v : List ℕ) (room : ℕ) → batch_from form 0 0 (tables ns counts) l v room ≡ answer_at form ns counts l v room 0 0 0
answer-start form ns counts l v room = ap (λ (x : ℕ). batch_from form 0 0 (tables ns counts) l v x) (omega arith)

module _ (form : Form) (ns counts l v : List ℕ) (room used rows i n N : ℕ) (e : length ns ≡ length counts) (h : i < length ns) (en : get_or ns i 0 ≡ n)
    (eN : get_or counts i 0 ≡ N) where
  answer-step : answer_at form ns counts l v room used rows i
      ≡ numbered (i + 1) (next_checks form n N (drop rows l) (drop rows v) (room - used))
      (answer_at form ns counts l v room (used + link_used form n N) (rows + N) (i + 1))
  unfolding batch_from
  answer-step =
      let x = link_used form n N in
      let c = next_checks form n N (drop rows l) (drop rows v) (room - used) in
      let q : room - used - x ≡ room - (used + x) = omega arith in
      ap (λ (ts : List Table). batch_from form i used ts (drop rows l) (drop rows v) (room - used)) (table_is ns counts i n N e h en eN)
      ∙ ap₂ (λ (a b : List ℕ). numbered (i + 1) c (batch_from form (i + 1) (used + x) (drop (i + 1) (tables ns counts)) a b (room - used - x)))
      (drop-drop N rows l) (drop-drop N rows v)
      ∙ ap (λ (m : ℕ). numbered (i + 1) c (batch_from form (i + 1) (used + x) (drop (i + 1) (tables ns counts)) (drop (rows + N) l) (drop (rows + N) v) m)) q

  pub answer_stops : {c : Check} {y : Batched} → MatchResult c (λ o. ⊥) (λ r. y ≡ refused_in (i + 1) r)
      → c ≡ next_checks form n N (drop rows l) (drop rows v) (room - used) → y ≡ answer_at form ns counts l v room used rows i
  answer_stops {c = Ok o} p q = elim p [ ]
  answer_stops {c = Err r} p q =
      p
      ∙ if_stops (refused_in (i + 1)) (next_checks form n N (drop rows l) (drop rows v) (room - used))
      (answer_at form ns counts l v room (used + link_used form n N) (rows + N) (i + 1)) refl q
      ∙ sym answer-step

  pub answer_goes : {c : Check} → c ≡ Ok tt → c ≡ next_checks form n N (drop rows l) (drop rows v) (room - used)
      → answer_at form ns counts l v room used rows i ≡ answer_at form ns counts l v room (used + link_used form n N) (rows + N) (i + 1)
  answer_goes p q =
      let b = answer_at form ns counts l v room (used + link_used form n N) (rows + N) (i + 1) in
      answer-step ∙ sym (if_goes (refused_in (i + 1)) {w = b} (next_checks form n N (drop rows l) (drop rows v) (room - used)) b p q refl)
