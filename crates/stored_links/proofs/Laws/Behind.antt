-- Bytes behind a stored link table cannot matter, and so none behind the longest, which has 125 rows over 64 images: not for what the checks
-- say, not for the rows, and not for what the reader answers and leaves. Assumes nothing.
use mathlib.Core.List.{List, ◌++◌}
use Rattle.std.proofs.Math.Path.{ap}
use Rattle.std.proofs.Common.{ap₂, ◌∙◌, mul-le-mul, arith, length-drop}
use Rattle.std.specs.Prelude.{refl, ◌≡◌, min, ℕ, ◌*◌, ◌+◌, ◌-◌, ◌/◌, ◌<◌, ◌≤◌, drop, length, take, Ok, Err}
use Rattle.std.proofs.lemmas.List.{drop-append-le}
use Rattle.ground.specs.Laws.Refusals.{then_passed, then_same}
use Rattle.ground.specs.Refusals.{room_check, ◌then◌, Check}
use Rattle.bits.specs.Bits.{value_of}
use Rattle.bits.specs.Forms.{bytes_for, fill_width}
use Rattle.bits.specs.Kinds.{end_check, position_check}
use Rattle.bits.specs.Laws.Behind.{end_behind, first-bytes, part-behind, position_behind}
use Rattle.bits.specs.Laws.Listed.{listed_same}
use Rattle.bits.specs.declared.Form.{Form}
use Rattle.link_forms.specs.Form.{link_used, row_at, row_width}
use Rattle.stored_links.proofs.Laws.Passed.{head_passed}
use Rattle.link_forms.specs.Laws.Sizes.{row_within}
use Rattle.stored_links.specs.Outcomes.{read_outcome, rows_if}
use Rattle.stored_links.specs.Reading.{body_checks, head_checks, read_at_checks, read_checks, table_checks}
use Rattle.link_forms.specs.Said.{cost_at, costs_of, count_of, far_at, fars_of, fill_of, images_of, used_of}

-- the bytes s reach as far as reading looks: to the end of the row count, and where n and the row count are ones of a table to the end of the table
pub record Reaching (form : Form) (s : List ℕ) : Type 0 where
  pub begun : bytes_for (form.head + 14) ≤ length s
  pub whole : head_checks form s ≡ Ok tt → used_of form s ≤ length s

-- with the whole table
pub whole-reaches : (form : Form) (s : List ℕ) → used_of form s ≤ length s → Reaching form s
whole-reaches form s h = record { begun = omega (arith, h); whole = λ p. h }

-- with as many bytes as the longest table has
pub longest_reaches : (form : Form) (s : List ℕ) → link_used form 64 125 ≤ length s → Reaching form s
longest_reaches form s h = record {
  begun = omega (arith, h);
  whole = λ p.
      let n = images_of form s in
      let w = form.width in
      let few : n ≤ 64 = (head_passed form s p).2 in
      let rows : count_of form s ≤ 125 = omega (arith, few, (head_passed form s p).4) in
      omega (arith, mul-le-mul {n₁ = row_width w n} {m₁ = count_of form s} {n₂ = row_width w 64} {m₂ = 125} (omega arith) rows, h);
}

module _ (form : Form) (s b : List ℕ) (reach : Reaching form s) where
  pub images-behind : images_of form (s ++ b) ≡ images_of form s
  unfolding images_of
  images-behind = ap value_of (part-behind s b form.head 7 (omega (arith, reach.begun)))

  count-behind : count_of form (s ++ b) ≡ count_of form s
  unfolding count_of
  count-behind = ap value_of (part-behind s b (form.head + 7) 7 (omega (arith, reach.begun)))

  pub used_behind : used_of form (s ++ b) ≡ used_of form s
  used_behind = ap₂ (link_used form) images-behind count-behind

  module _ (n N : ℕ) (within : link_used form n N ≤ length s) where
    far-behind : (k : ℕ) → k < N → far_at form n (s ++ b) k ≡ far_at form n s k
    unfolding far_at
    far-behind k h = ap (λ (x : List ℕ). 2 * value_of x) (part-behind s b (row_at form n k) (n - 1) (omega (arith, row_within form n N k h, within)))

    cost-behind : (k : ℕ) → k < N → cost_at form n (s ++ b) k ≡ cost_at form n s k
    unfolding cost_at
    cost-behind k h = ap value_of (part-behind s b (row_at form n k + (n - 1)) form.width (omega (arith, row_within form n N k h, within)))

    fill_behind : fill_of form n N (s ++ b) ≡ fill_of form n N s
    unfolding fill_of
    fill_behind = ap value_of (part-behind s b (row_at form n N) (fill_width (row_at form n N)) (omega (arith, within)))

    fars_within : fars_of form n N (s ++ b) ≡ fars_of form n N s
    fars_within = listed_same (far_at form n (s ++ b)) (far_at form n s) N far-behind

    costs_within : costs_of form n N (s ++ b) ≡ costs_of form n N s
    costs_within = listed_same (cost_at form n (s ++ b)) (cost_at form n s) N cost-behind

    -- 9, 11, 12, 13
    body_within : body_checks form n N (s ++ b) ≡ body_checks form n N s
    body_within =
        then_same (end_check s (link_used form n N)) (end_behind s b (link_used form n N) within) (λ p. rw (fill_behind, fars_within, costs_within) refl)

  -- 9, 1, 10
  head_behind : head_checks form (s ++ b) ≡ head_checks form s
  head_behind =
      then_same (end_check s (bytes_for (form.head + 14))) (end_behind s b (bytes_for (form.head + 14)) reach.begun)
      (λ p. rw (images-behind, count-behind) refl)

  body_behind : head_checks form s ≡ Ok tt
      → body_checks form (images_of form (s ++ b)) (count_of form (s ++ b)) (s ++ b) ≡ body_checks form (images_of form s) (count_of form s) s
  body_behind p = rw (images-behind, count-behind) (body_within (images_of form s) (count_of form s) (reach.whole p))

  pub checks_behind : table_checks form (s ++ b) ≡ table_checks form s
  checks_behind = then_same (head_checks form s) head_behind body_behind

  room-behind : (room : ℕ) → read_checks form (s ++ b) room ≡ read_checks form s room
  room-behind room =
      then_same (head_checks form s) head_behind
      (λ p. then_same (room_check (2 * images_of form s - 3) room) (ap (λ (n : ℕ). room_check (2 * n - 3) room) images-behind) (λ q. body_behind p))

  pub fars-behind : head_checks form s ≡ Ok tt
      → fars_of form (images_of form (s ++ b)) (count_of form (s ++ b)) (s ++ b) ≡ fars_of form (images_of form s) (count_of form s) s
  fars-behind p = rw (images-behind, count-behind) (fars_within (images_of form s) (count_of form s) (reach.whole p))

  costs-behind : head_checks form s ≡ Ok tt
      → costs_of form (images_of form (s ++ b)) (count_of form (s ++ b)) (s ++ b) ≡ costs_of form (images_of form s) (count_of form s) s
  costs-behind p = rw (images-behind, count-behind) (costs_within (images_of form s) (count_of form s) (reach.whole p))

-- ## What the reader answers and leaves

module _ (form : Form) (position : ℕ) (f v : List ℕ) where
  -- at a position within the bytes, from which on they reach as far as reading looks
  pub read_behind : (bytes b : List ℕ) → position / 8 ≤ length bytes → Reaching form (drop (position / 8) bytes)
      → read_outcome form (bytes ++ b) position f v ≡ read_outcome form bytes position f v
  read_behind bytes b inside reach =
      let room = min (length f) (length v) in
      let s = drop (position / 8) bytes in
      let rest : drop (position / 8) (bytes ++ b) ≡ s ++ b = drop-append-le (position / 8) bytes b inside in
      let same : read_at_checks form (bytes ++ b) position room ≡ read_at_checks form bytes position room =
      then_same (position_check bytes position) (position_behind bytes b position inside) (λ p. rw rest (room-behind form s b reach room)) in
      ap (λ (c : Check). rows_if c form (drop (position / 8) (bytes ++ b)) f v) same
      ∙ ap (λ (x : List ℕ). rows_if (read_at_checks form bytes position room) form x f v) rest
      ∙ go (read_at_checks form bytes position room) refl
    where
      go : (c : Check) → read_at_checks form bytes position (min (length f) (length v)) ≡ c
          → rows_if c form (drop (position / 8) bytes ++ b) f v ≡ rows_if c form (drop (position / 8) bytes) f v
      go (Ok tt) e =
          let s = drop (position / 8) bytes in
          let n = images_of form s in
          let N = count_of form s in
          let room = min (length f) (length v) in
          let p = (then_passed (position_check bytes position) (read_checks form s room) e).1 in
          let h = (then_passed (head_checks form s) (room_check (2 * n - 3) room then body_checks form n N s) p).0 in
          rw (fars-behind form s b reach h, costs-behind form s b reach h, images-behind form s b reach, count-behind form s b reach) refl
      go (Err r) e = refl

  -- so no byte matters behind as many as the longest table has
  pub read_first : (bytes : List ℕ) → read_outcome form bytes position f v ≡ read_outcome form (take (position / 8 + link_used form 64 125) bytes) position f v
  read_first bytes =
      first-bytes (λ (x : List ℕ). read_outcome form x position f v) (position / 8 + link_used form 64 125)
      (λ x b h. read_behind x b (omega arith) (longest_reaches form (drop (position / 8) x) (omega (arith, length-drop (position / 8) x)))) bytes
