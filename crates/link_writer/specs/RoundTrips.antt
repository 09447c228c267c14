-- What document 01 says of stored link tables, in the words of the calls: of both forms at once, e and g being either. Assumes nothing.
use Rattle.ground.specs.Refusals.{Written}
use Rattle.std.specs.Prelude.{List, [], ◌++◌, ◌≡◌, min, ℕ, ◌*◌, ◌+◌, ◌-◌, ◌/◌, ◌≤◌, drop, length, take, Ok, Err}
use Rattle.std.proofs.Common.{ap, subst, sym, ◌∙◌, arith, length-append, length-drop, drop_at, take_at}
use Rattle.ground.specs.declared.Refusal.{Refusal}
use Rattle.ground.specs.Outcomes.{Outcome, wrote_into}
use Rattle.theory.specs.Tables.{limit}
use Rattle.bits.specs.Bits.{AllBytes}
use Rattle.bits.specs.Editions.{Marked, edition_of}
use Rattle.bits.specs.declared.Edition.{Edition}
use Rattle.bits.specs.declared.Form.{Form}
use Rattle.link_writer.specs.Laws.Again.{read_again, written_is}
use Rattle.link_writer.specs.Laws.Fitting.{links_wide}
use Rattle.link_writer.specs.Writing.{write_checks, write_outcome}
use Rattle.links.specs.Links.{Links}
use Rattle.link_forms.specs.Form.{link_bytes, link_form, link_form_at, link_used}
use Rattle.link_forms.specs.Laws.Form.{length_links}
use Rattle.stored_links.specs.Laws.Outcomes.{refused_alters_nothing}
use Rattle.stored_links.proofs.Laws.Positions.{table-at}
use Rattle.stored_links.proofs.Laws.ReadAt.{same_bytes}
use Rattle.stored_links.proofs.Laws.Told.{either_rest, either_written, form_limit, links_marked}
use Rattle.stored_links.specs.Laws.WriteBack.{read_links}
use Rattle.stored_links.specs.Outcomes.{judged_either, read_either, read_outcome}
use Rattle.stored_links.specs.Reading.{read_at_checks}
use Rattle.link_forms.specs.Said.{costs_of, fars_of}
use Rattle.stored_links.specs.Stored.{TableAt, read_into}

-- Reading what was written gives the table back, in whichever form it was written: the rows, their count, and the bytes used.
pub reading_undoes_writing : (e : Edition) (n N : ℕ) (l v out f u : List ℕ) → Links (link_form e).limit n N l v → link_used (link_form e) n N ≤ length out
    → 2 * n - 3 ≤ length f → 2 * n - 3 ≤ length u
    → ((write_outcome (link_form e) n N l v out).answer ≡ Ok (link_used (link_form e) n N))
    × (read_either (write_outcome (link_form e) n N l v out).places 0 f u ≡ read_into n N (link_used (link_form e) n N) l v f u)
reading_undoes_writing e n N l v out f u t h i j =
    let w = written_is (link_form e) (form_limit e) n N l v out t h in
    let m = link_bytes (link_form e) n l v in (
      ap (λ (o : Outcome Written). o.answer) w,
      ap (λ (o : Outcome Written). read_either o.places 0 f u) w ∙ either_written e n N l v [] (drop (length m) out) f u t i j,
    )

-- Writing what was read, in the form that it had, gives the same used bytes.
pub writing_undoes_reading : (bytes : List ℕ) (position room n N used : ℕ) (out : List ℕ) → AllBytes bytes
    → judged_either bytes position room ≡ Ok (record { n = n; count = N; used = used }) → used ≤ length out
    → let form = link_form_at bytes position in
    write_outcome form n N (fars_of form n N (drop (position / 8) bytes)) (costs_of form n N (drop (position / 8) bytes)) out
    ≡ wrote_into used (take used (drop (position / 8) bytes)) out
writing_undoes_reading bytes position room n N used out b e h =
    let form = link_form_at bytes position in
    read_again form (form_limit (edition_of (drop (position / 8) bytes))) bytes position n N used out b (table-at form bytes position room n N used e).1
    (links_marked bytes position) h

-- What is read is a link table over n images with so many rows.
pub reading_is_a_table : (bytes : List ℕ) (position room n N used : ℕ) → judged_either bytes position room ≡ Ok (record { n = n; count = N; used = used })
    → let form = link_form_at bytes position in
    Links limit n N (fars_of form n N (drop (position / 8) bytes)) (costs_of form n N (drop (position / 8) bytes))
reading_is_a_table bytes position room n N used e =
    let form = link_form_at bytes position in
    let s = drop (position / 8) bytes in
    links_wide form.limit n N (fars_of form n N s) (costs_of form n N s) limit (form_limit (edition_of s))
    (read_links form n N s (table-at form bytes position room n N used e).1.stored)

-- One table has one stored form of each kind: what is read as the same table, in the same form, stands in the same bytes.
pub one_stored_form : (a b : List ℕ) (p q r s n N i j : ℕ) → AllBytes a → AllBytes b → edition_of (drop (p / 8) a) ≡ edition_of (drop (q / 8) b)
    → judged_either a p r ≡ Ok (record { n = n; count = N; used = i }) → judged_either b q s ≡ Ok (record { n = n; count = N; used = j })
    → fars_of (link_form_at a p) n N (drop (p / 8) a) ≡ fars_of (link_form_at b q) n N (drop (q / 8) b)
    → costs_of (link_form_at a p) n N (drop (p / 8) a) ≡ costs_of (link_form_at b q) n N (drop (q / 8) b)
    → take i (drop (p / 8) a) ≡ take j (drop (q / 8) b)
one_stored_form a b p q r s n N i j ha hb k e f g h =
    let same : link_form_at a p ≡ link_form_at b q = ap link_form k in
    same_bytes (link_form_at b q) a b p q n N i j ha hb
    (subst (λ (x : Form). TableAt x a p n N i) same (table-at (link_form_at a p) a p r n N i e).1) (table-at (link_form_at b q) b q s n N j f).1
    (subst (λ (x : Form). Marked x (drop (p / 8) a)) same (links_marked a p)) (links_marked b q)
    (ap (λ (x : Form). fars_of x n N (drop (p / 8) a)) (sym same) ∙ g) (ap (λ (x : Form). costs_of x n N (drop (p / 8) a)) (sym same) ∙ h)

-- Two stored tables are read one after the other, whichever forms they have, the second from the byte where the first ended: at that
-- position, or as the part of the bytes from there on.
pub read_in_turn : (e g : Edition) (m n M N : ℕ) (k x l y behind f u : List ℕ) → Links (link_form e).limit m M k x → Links (link_form g).limit n N l y
    → 2 * m - 3 ≤ length f → 2 * m - 3 ≤ length u → 2 * n - 3 ≤ length f → 2 * n - 3 ≤ length u
    → let both = link_bytes (link_form e) m k x ++ (link_bytes (link_form g) n l y ++ behind) in
    let used = link_used (link_form e) m M in
    (read_either both 0 f u ≡ read_into m M used k x f u)
    × (read_either both (8 * used) f u ≡ read_into n N (link_used (link_form g) n N) l y f u)
    × (read_either (drop used both) 0 f u ≡ read_into n N (link_used (link_form g) n N) l y f u)
read_in_turn e g m n M N k x l y behind f u s t h i o j =
    let a = link_bytes (link_form e) m k x in
    let b = link_bytes (link_form g) n l y ++ behind in
    let used = link_used (link_form e) m M in
    let q : length a ≡ used = length_links (link_form e) m k x ∙ ap (link_used (link_form e) m) s.counted in
    let second : read_either (a ++ b) (8 * used) f u ≡ read_into n N (link_used (link_form g) n N) l y f u =
    ap (λ (z : ℕ). read_either (a ++ b) (8 * z) f u) (sym q) ∙ either_written g n N l y a behind f u t o j in
    (either_written e m M k x [] b f u s h i, second, either_rest (a ++ b) used f u (omega (arith, q, length-append a b)) ∙ second)

-- Two tables that two calls wrote, the second into the rest of the lent bytes, are read one after the other: the bytes as both calls left them.
abbrev pub both_written : (e g : Edition) (m n M N : ℕ) (k x l y out : List ℕ) → List ℕ
both_written e g m n M N k x l y out =
    let first = (write_outcome (link_form e) m M k x out).places in
    take (link_used (link_form e) m M) first ++ (write_outcome (link_form g) n N l y (drop (link_used (link_form e) m M) first)).places

pub one_after_another : (e g : Edition) (m n M N : ℕ) (k x l y out f u : List ℕ) → Links (link_form e).limit m M k x → Links (link_form g).limit n N l y
    → link_used (link_form e) m M + link_used (link_form g) n N ≤ length out
    → 2 * m - 3 ≤ length f → 2 * m - 3 ≤ length u → 2 * n - 3 ≤ length f → 2 * n - 3 ≤ length u
    → (read_either (both_written e g m n M N k x l y out) 0 f u ≡ read_into m M (link_used (link_form e) m M) k x f u)
    × (read_either (both_written e g m n M N k x l y out) (8 * link_used (link_form e) m M) f u ≡ read_into n N (link_used (link_form g) n N) l y f u)
one_after_another e g m n M N k x l y out f u s t r h i z j =
    let a = link_bytes (link_form e) m k x in
    let b = link_bytes (link_form g) n l y in
    let o = drop (length a) out in
    let used = link_used (link_form e) m M in
    let q : length a ≡ used = length_links (link_form e) m k x ∙ ap (link_used (link_form e) m) s.counted in
    let first : (write_outcome (link_form e) m M k x out).places ≡ a ++ o =
    ap (λ (p : Outcome Written). p.places) (written_is (link_form e) (form_limit e) m M k x out s (omega arith)) in
    let second : (write_outcome (link_form g) n N l y o).places ≡ b ++ drop (length b) o =
    ap (λ (p : Outcome Written). p.places) (written_is (link_form g) (form_limit g) n N l y o t (omega (arith, q, length-drop (length a) out))) in
    let both : both_written e g m n M N k x l y out ≡ a ++ (b ++ drop (length b) o) = rw (first, take_at a o used q, drop_at a o used q, second) in
    let p = read_in_turn e g m n M N k x l y (drop (length b) o) f u s t h i z j in
    rw both (p.0, p.1)

-- Refused, no lent place is altered.
pub refused_writing : (form : Form) (n N : ℕ) (l v out : List ℕ) (r : Refusal) → write_checks form n N l v (length out) ≡ Err r
    → write_outcome form n N l v out ≡ record { answer = Err r; places = out }
refused_writing form n N l v out r e = rw e

pub refused_reading : (form : Form) (bytes : List ℕ) (position : ℕ) (f u : List ℕ) (r : Refusal)
    → read_at_checks form bytes position (min (length f) (length u)) ≡ Err r
    → read_outcome form bytes position f u ≡ record { answer = Err r; far_list = f; cost_list = u }
refused_reading form bytes position f u r e = refused_alters_nothing form (drop (position / 8) bytes) f u e
