-- The loops that put the entries: one entry more of a row, one row more, and the whole form. Assumes nothing.
use Rattle.std.specs.Prelude.{List, ◌++◌, ◌≡◌, ℕ, ◌*◌, ◌+◌, ◌-◌, ◌<◌, ◌≤◌, length}
use Rattle.std.proofs.Common.{ap, arith, subst, sym, ◌∙◌}
use Rattle.ground.specs.Buffers.{front}
use Rattle.bits.specs.Bits.{AllBytes, bits_of}
use Rattle.bits.specs.Forms.{bytes_for, field_bits, field_bytes, fields_of}
use Rattle.bits.specs.Laws.Listed.{length-listed, listed_more}
use Rattle.bits.specs.Laws.OneWidth.{field_end, fields-append, fields-more, length_fields}
use Rattle.bits.specs.Listed.{listed}
use Rattle.bits.specs.declared.Form.{Form}
use Rattle.packer.specs.Gathering.{Finished, Part, Put, Room, put_count}
use Rattle.packer.proofs.Laws.Finished.{form_packed}
use Rattle.packer.specs.Laws.Putting.{put_none, put_then, room-begun, room_then}
use Rattle.packer.specs.Start.{start_bits, started}
use Rattle.packer.specs.declared.Gathered.{Gathered}
use Rattle.cost_forms.specs.Entries.{entries, entries_to, entry_count, row_entries, row_start}
use Rattle.cost_forms.specs.Form.{cost_bytes, cost_used}
use Rattle.cost_forms.specs.Laws.Entries.{entries-more, length-entries, row_within}
use Rattle.cost_forms.specs.Laws.Form.{all_bits_costs, cost_parts, cost_bits, entry_bits, length_cost_bits}

-- ## Within a row: the values f 0, f 1, ..

module _ (w : ℕ) (f : ℕ → ℕ) where
  pub row_put_none : (out : List ℕ) (g : Gathered) → Part g → Put (field_bits (fields_of w (listed f 0))) out out g g
  unfolding listed field_bits
  row_put_none out g h = put_none out g h

  pub row_put_more : {k v : ℕ} {old mid new : List ℕ} {g s r : Gathered} → v ≡ f k → Put (field_bits (fields_of w (listed f k))) old mid g s
      → Put (bits_of w v) mid new s r → Put (field_bits (fields_of w (listed f (k + 1)))) old new g r
  row_put_more {k = k} e p q =
      put_then
      (ap (λ (vs : List ℕ). field_bits (fields_of w vs)) (listed_more f k) ∙ fields-more w (listed f k) (f k)
      ∙ ap (λ (x : ℕ). field_bits (fields_of w (listed f k)) ++ bits_of w x) (sym e)) p q

  pub length_listed_bits : (k : ℕ) → length (field_bits (fields_of w (listed f k))) ≡ w * k
  length_listed_bits k = length_fields w (listed f k) ∙ ap (λ (x : ℕ). w * x) (length-listed f k)

  -- room for one entry more of m
  pub row_put_room : {m k : ℕ} {old new : List ℕ} {g r : Gathered} → Room (length old) g (w * m) → Put (field_bits (fields_of w (listed f k))) old new g r
      → length new ≡ length old → k < m → Room (length new) r w
  row_put_room {m = m} {k = k} h p e l = rw e (room_then w h p (omega (arith, length_listed_bits k, field_end 0 w m k l)))

-- ## Row after row

module _ (w : ℕ) (d : ℕ → ℕ → ℕ) (n : ℕ) where
  pub row_put_end : (i : ℕ) {k : ℕ} {old new : List ℕ} {g r : Gathered} → k ≡ n - (i + 1)
      → Put (field_bits (fields_of w (listed (λ k. d i (i + 1 + k)) k))) old new g r → Put (field_bits (fields_of w (row_entries d n i))) old new g r
  unfolding row_entries
  row_put_end i e p = rw (← e) p

  pub rows_put_none : (out : List ℕ) (g : Gathered) → Part g → Put (field_bits (fields_of w (entries_to d n 0))) out out g g
  unfolding entries_to field_bits
  rows_put_none out g h = put_none out g h

  pub rows_put_more : (i : ℕ) {old mid new : List ℕ} {g s r : Gathered} → Put (field_bits (fields_of w (entries_to d n i))) old mid g s
      → Put (field_bits (fields_of w (row_entries d n i))) mid new s r → Put (field_bits (fields_of w (entries_to d n (i + 1)))) old new g r
  rows_put_more i p q =
      put_then (ap (λ (vs : List ℕ). field_bits (fields_of w vs)) (entries-more d n i) ∙ fields-append w (entries_to d n i) (row_entries d n i)) p q

  pub rows_put_end : {i : ℕ} {old new : List ℕ} {g r : Gathered} → i ≡ n → Put (field_bits (fields_of w (entries_to d n i))) old new g r
      → Put (field_bits (fields_of w (entries d n))) old new g r
  rows_put_end {old = old} {new = new} {g = g} {r = r} e p = subst (λ (k : ℕ). Put (field_bits (fields_of w (entries_to d n k))) old new g r) e p

  pub length_rows_bits : (i : ℕ) → length (field_bits (fields_of w (entries_to d n i))) ≡ w * row_start n i
  length_rows_bits i = length_fields w (entries_to d n i) ∙ ap (λ (x : ℕ). w * x) (length-entries d n i)

  -- room for one row more
  pub rows_put_room : {i : ℕ} {old new : List ℕ} {g r : Gathered} → Room (length old) g (w * entry_count n) → Put (field_bits (fields_of w (entries_to d n i))) old new g r
      → length new ≡ length old → i < n → Room (length new) r (w * (n - (i + 1)))
  rows_put_room {i = i} h p e l = rw e (room_then (w * (n - (i + 1))) h p (omega (arith, length_rows_bits i, row_within n w i l)))

  -- room for the fill bits, behind all entries
  pub fill_room : {begun entered : List ℕ} {g r : Gathered} → Room (length begun) g (w * entry_count n) → length entered ≡ length begun
      → Put (field_bits (fields_of w (entries d n))) begun entered g r → Part r × (bytes_for (put_count r) ≤ length entered)
  fill_room h e p = let r = room_then 0 h p (omega (arith, length_rows_bits n)) in (r.part, omega (arith, r.within, e))

-- ## The whole form: the mark and n, the entries, and then the fill bits

module _ (form : Form) (n : ℕ) where
  -- room for the entries, behind the mark and n
  pub entries_room : {old begun : List ℕ} {g : Gathered} → cost_used form n ≤ length old → length begun ≡ length old → Put (start_bits form n) old begun started g
      → Room (length begun) g (form.width * entry_count n)
  entries_room h e p = room-begun form n (form.width * entry_count n) (omega (arith, h, e)) p

module _ (form : Form) (n : ℕ) (d : ℕ → ℕ → ℕ) where
  entries-put : {old mid new : List ℕ} {g r : Gathered} → Put (start_bits form n) old mid started g
      → Put (field_bits (fields_of form.width (entries d n))) mid new g r → Put (cost_bits form n d) old new started r
  unfolding entry_bits
  entries-put p q = put_then (cost_parts form n d) p q

  pub form_put : {old begun entered new : List ℕ} {g r : Gathered} {used : ℕ} → AllBytes new
      → Put (start_bits form n) old begun started g
      → Put (field_bits (fields_of form.width (entries d n))) begun entered g r → Finished entered new r used
      → (used ≡ cost_used form n) × (new ≡ front (cost_bytes form n d) old)
  unfolding cost_bytes field_bytes cost_bits
  form_put y p q f = form_packed (all_bits_costs form n d) (length_cost_bits form n d) y (entries-put p q) f
