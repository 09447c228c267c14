-- Reading at the start of a byte: what stands there is read, whatever stands ahead and behind. Assumes nothing.
use Rattle.ground.specs.Refusals.{Check}
use Rattle.std.specs.Prelude.{List, ◌++◌, refl, ◌≡◌, min, ℕ, ◌%◌, ◌*◌, ◌-◌, ◌/◌, ◌<◌, ◌^◌, ◌≤◌, drop, length, take}
use Rattle.std.proofs.Common.{ap, ap₂, sym, ◌∙◌, arith, length-append, le-ltb}
use Rattle.std.proofs.Math.Seq.{drop-append_seam}
use Rattle.bits.specs.Bits.{AllBytes}
use Rattle.bits.specs.Editions.{Marked}
use Rattle.bits.specs.Laws.Written.{all_bytes_drop}
use Rattle.links.specs.Links.{Links}
use Rattle.link_forms.specs.Form.{link_bytes, link_used}
use Rattle.stored_links.proofs.Laws.Passed.{passed_read}
use Rattle.stored_links.proofs.Laws.Positions.{enough_room}
use Rattle.stored_links.specs.Laws.ReadBack.{written_costs, written_fars, written_stored}
use Rattle.stored_links.specs.Laws.WriteBack.{read_written}
use Rattle.stored_links.specs.Outcomes.{read_outcome, rows_if}
use Rattle.stored_links.specs.Reading.{read_checks, table_at_checks}
use Rattle.link_forms.specs.Said.{costs_of, fars_of}
use Rattle.bits.specs.declared.Form.{Form}
use Rattle.stored_links.specs.Stored.{Stored, TableAt, read_into}

module _ (form : Form) where
  read_front : (bytes s : List ℕ) (k : ℕ) (f u : List ℕ) → k ≤ length bytes → drop k bytes ≡ s
      → read_outcome form bytes (8 * k) f u ≡ rows_if (read_checks form s (min (length f) (length u))) form s f u
  read_front bytes s k f u h e =
      let q : 8 * k / 8 ≡ k = omega arith in
      let z : 8 * k % 8 ≡ 0 = omega arith in
      rw (q, z, e, le-ltb (length bytes) k h)

  -- the table that s begins with is read, where there is room
  read_stored : (n N : ℕ) (s f u : List ℕ) → Stored form n N s → 2 * n - 3 ≤ length f → 2 * n - 3 ≤ length u
      → rows_if (read_checks form s (min (length f) (length u))) form s f u ≡ read_into n N (link_used form n N) (fars_of form n N s) (costs_of form n N s) f u
  read_stored n N s f u r h k =
      let m : 2 * n - 3 ≤ min (length f) (length u) = omega arith in
      ap (λ (c : Check). rows_if c form s f u) (passed_read form s n N (min (length f) (length u)) r m)
      ∙ ap₂ (λ (x y : ℕ). read_into x y (link_used form x y) (fars_of form x y s) (costs_of form x y s) f u) r.images r.counted

  -- the rest of the bytes, from byte k on, reads as the whole does at that byte
  pub read_rest : (bytes : List ℕ) (k : ℕ) (f u : List ℕ) → k ≤ length bytes → read_outcome form (drop k bytes) 0 f u ≡ read_outcome form bytes (8 * k) f u
  read_rest bytes k f u h = read_front (drop k bytes) (drop k bytes) 0 f u (omega arith) refl ∙ sym (read_front bytes (drop k bytes) k f u h refl)

  -- reading what was written gives the table back, whatever stands ahead and behind
  pub written_at : (n N : ℕ) (l v ahead behind f u : List ℕ) → Links form.limit n N l v → 2 * form.limit < 2 ^ form.width → 2 * n - 3 ≤ length f
      → 2 * n - 3 ≤ length u
      → read_outcome form (ahead ++ (link_bytes form n l v ++ behind)) (8 * length ahead) f u ≡ read_into n N (link_used form n N) l v f u
  written_at n N l v ahead behind f u t g h k =
      let s = link_bytes form n l v ++ behind in
      read_front (ahead ++ s) s (length ahead) f u (omega (arith, length-append ahead s)) (drop-append_seam ahead s)
      ∙ read_stored n N s f u (written_stored form n N l v behind t g) h k
      ∙ ap₂ (λ (x y : List ℕ). read_into n N (link_used form n N) x y f u) (written_fars form n N l v behind t g) (written_costs form n N l v behind t g)

  -- with 125 places in both outputs the answer is that of the checks without 3
  pub read_enough : (bytes : List ℕ) (position : ℕ) (f u : List ℕ) → 125 ≤ length f → 125 ≤ length u
      → read_outcome form bytes position f u ≡ rows_if (table_at_checks form bytes position) form (drop (position / 8) bytes) f u
  read_enough bytes position f u h k =
      let m : 125 ≤ min (length f) (length u) = omega arith in
      ap (λ (c : Check). rows_if c form (drop (position / 8) bytes) f u) (enough_room form bytes position (min (length f) (length u)) m)

  -- the bytes used are the form of the table that was read
  pub used_bytes : (bytes : List ℕ) (position n N used : ℕ) → AllBytes bytes → TableAt form bytes position n N used → Marked form (drop (position / 8) bytes)
      → link_bytes form n (fars_of form n N (drop (position / 8) bytes)) (costs_of form n N (drop (position / 8) bytes))
      ≡ take used (drop (position / 8) bytes)
  used_bytes bytes position n N used b t m =
      read_written form n N (drop (position / 8) bytes) t.stored m (all_bytes_drop (position / 8) bytes b)
      ∙ ap (λ (x : ℕ). take x (drop (position / 8) bytes)) t.used_is

  -- one stored form for one table: bytes that are read as the same table are the same
  pub same_bytes : (a b : List ℕ) (p q n N i j : ℕ) → AllBytes a → AllBytes b → TableAt form a p n N i → TableAt form b q n N j
      → Marked form (drop (p / 8) a) → Marked form (drop (q / 8) b)
      → fars_of form n N (drop (p / 8) a) ≡ fars_of form n N (drop (q / 8) b) → costs_of form n N (drop (p / 8) a) ≡ costs_of form n N (drop (q / 8) b)
      → take i (drop (p / 8) a) ≡ take j (drop (q / 8) b)
  same_bytes a b p q n N i j ha hb s t g h e f =
      sym (used_bytes a p n N i ha s g) ∙ ap₂ (λ (x y : List ℕ). link_bytes form n x y) e f ∙ used_bytes b q n N j hb t h
