-- Bytes behind a stored cost table cannot matter, and so none behind the longest, which has 64 images: not for what the reader's checks say,
-- not for the table, and not for what the reader answers and leaves. Assumes nothing.
use mathlib.Core.List.{List, ◌++◌}
use Rattle.std.proofs.Math.Path.{ap, refl}
use Rattle.std.proofs.Common.{◌∙◌, arith, length-drop}
use Rattle.std.specs.Prelude.{◌≡◌, ℕ, ◌*◌, ◌+◌, ◌/◌, ◌<◌, ◌≤◌, length, take, Ok, Err}
use Rattle.std.proofs.Math.ListN.{drop}
use Rattle.std.proofs.Math.Seq.{drop-append-le}
use Rattle.ground.specs.Outcomes.{Outcome, front_if}
use Rattle.ground.specs.Refusals.{◌then◌, Check}
use Rattle.bits.specs.Bits.{value_of}
use Rattle.bits.specs.Forms.{bytes_for, field_value, fill_width}
use Rattle.bits.specs.Kinds.{end_check, position_check}
use Rattle.bits.specs.Laws.Behind.{end_behind, first-bytes, part-behind, position_behind}
use Rattle.bits.specs.Laws.OneWidth.{field_end}
use Rattle.bits.specs.declared.Form.{Form}
use Rattle.cost_forms.specs.Entries.{entry_cost, entry_count}
use Rattle.cost_forms.specs.Form.{cost_end, cost_used}
use Rattle.cost_forms.specs.Said.{entry_of, fill_of, images_of, stored_table}
use Rattle.stored_costs.proofs.Laws.Agreeing.{agreeing_checks, agreeing_tables, end_grows}
use Rattle.stored_costs.proofs.Laws.Passed.{read_at_passed, start-passed}
use Rattle.stored_costs.specs.Outcomes.{read_outcome, table_if, StoredCosts}
use Rattle.stored_costs.specs.Reading.{body_checks, read_at_checks, read_checks, start_checks, values_check}
use Rattle.stored_costs.specs.Stored.{read_into}
use Rattle.ground.specs.Laws.Refusals.{then_same}

-- the bytes s reach as far as reading looks: to the end of n, and where n is one of a table to the end of the table
pub record Reaching (form : Form) (s : List ℕ) : Type 0 where
  pub begun : bytes_for (form.head + 7) ≤ length s
  pub whole : images_of form s ≤ 64 → cost_used form (images_of form s) ≤ length s

-- with the whole table
pub whole-reaches : (form : Form) (s : List ℕ) → cost_used form (images_of form s) ≤ length s → Reaching form s
whole-reaches form s h = record { begun = omega (arith, h); whole = λ few. h }

-- with as many bytes as the longest table has
pub longest_reaches : (form : Form) (s : List ℕ) → cost_used form 64 ≤ length s → Reaching form s
longest_reaches form s h = record { begun = omega (arith, h); whole = λ few. omega (arith, end_grows form (images_of form s) 64 few, h) }

module _ (form : Form) (s b : List ℕ) (reach : Reaching form s) where
  pub images-behind : images_of form (s ++ b) ≡ images_of form s
  unfolding images_of
  images-behind = ap value_of (part-behind s b form.head 7 (omega (arith, reach.begun)))

  module _ (few : images_of form s ≤ 64) where
    entry-behind : (k : ℕ) → k < entry_count (images_of form s) → entry_of form (s ++ b) k ≡ entry_of form s k
    unfolding entry_of field_value
    entry-behind k h =
        ap value_of (part-behind s b (form.head + 7 + form.width * k) form.width
        (omega (arith, field_end (form.head + 7) form.width (entry_count (images_of form s)) k h, reach.whole few)))

    fill_behind : fill_of form (images_of form s) (s ++ b) ≡ fill_of form (images_of form s) s
    unfolding fill_of
    fill_behind =
        let end = cost_end form (images_of form s) in
        ap value_of (part-behind s b end (fill_width end) (omega (arith, reach.whole few)))

    pub table-behind : stored_table form (images_of form s) (s ++ b) ≡ stored_table form (images_of form s) s
    table-behind = agreeing_tables (entry_of form (s ++ b)) (entry_of form s) (images_of form s) entry-behind

    -- 9, 11, 4, 20
    rest-behind : let n = images_of form s in
        (body_checks form n (s ++ b) then values_check form.limit (entry_cost (entry_of form (s ++ b)) n) n)
        ≡ (body_checks form n s then values_check form.limit (entry_cost (entry_of form s) n) n)
    rest-behind =
        let n = images_of form s in
        then_same (body_checks form n s)
        (then_same (end_check s (cost_used form n)) (end_behind s b (cost_used form n) (reach.whole few)) (λ p. rw fill_behind refl))
        (λ p. agreeing_checks form.limit (entry_of form (s ++ b)) (entry_of form s) n entry-behind)

  pub checks_behind : (room : ℕ) → read_checks form (s ++ b) room ≡ read_checks form s room
  checks_behind room =
      then_same (start_checks form s room)
      (then_same (end_check s (bytes_for (form.head + 7))) (end_behind s b (bytes_for (form.head + 7)) reach.begun) (λ p. rw images-behind refl))
      (λ p. rw images-behind (rest-behind (start-passed form s room p).2))

-- ## What the reader answers and leaves

-- by the check, from the bytes s
left_from : Form → List ℕ → Check → List ℕ → Outcome StoredCosts
left_from form out c s =
    record {
      answer = table_if c (images_of form s) (cost_used form (images_of form s));
      places = front_if c (stored_table form (images_of form s) s) out;
    }

module _ (form : Form) (position : ℕ) (out : List ℕ) where
  -- at a position within the bytes, from which on they reach as far as reading looks
  pub read_behind : (bytes b : List ℕ) → position / 8 ≤ length bytes → Reaching form (drop (position / 8) bytes)
      → read_outcome form (bytes ++ b) position out ≡ read_outcome form bytes position out
  unfolding left_from
  read_behind bytes b inside reach =
      let s = drop (position / 8) bytes in
      let rest : drop (position / 8) (bytes ++ b) ≡ s ++ b = drop-append-le (position / 8) bytes b inside in
      let same : read_at_checks form (bytes ++ b) position (length out) ≡ read_at_checks form bytes position (length out) =
      then_same (position_check bytes position) (position_behind bytes b position inside) (λ p. rw rest (checks_behind form s b reach (length out))) in
      ap (λ (c : Check). left_from form out c (drop (position / 8) (bytes ++ b))) same
      ∙ ap (left_from form out (read_at_checks form bytes position (length out))) rest
      ∙ go (read_at_checks form bytes position (length out)) refl
    where
      go : (c : Check) → read_at_checks form bytes position (length out) ≡ c
          → left_from form out c (drop (position / 8) bytes ++ b) ≡ left_from form out c (drop (position / 8) bytes)
      go (Ok tt) e =
          let s = drop (position / 8) bytes in
          ap (λ (n : ℕ). read_into n (cost_used form n) (stored_table form n (s ++ b)) out) (images-behind form s b reach)
          ∙ ap (λ (t : List ℕ). read_into (images_of form s) (cost_used form (images_of form s)) t out)
          (table-behind form s b reach (read_at_passed form bytes position (length out) e).2.few)
      go (Err r) e = refl

  -- so no byte matters behind as many as the longest table has
  pub read_first : (bytes : List ℕ) → read_outcome form bytes position out ≡ read_outcome form (take (position / 8 + cost_used form 64) bytes) position out
  read_first bytes =
      first-bytes (λ (x : List ℕ). read_outcome form x position out) (position / 8 + cost_used form 64)
      (λ x b h. read_behind x b (omega arith) (longest_reaches form (drop (position / 8) x) (omega (arith, length-drop (position / 8) x)))) bytes
