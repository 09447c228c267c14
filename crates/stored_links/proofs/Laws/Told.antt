-- Both forms of a stored link table: what they have in common, and that what was written in either is read in it. Assumes nothing.
use Rattle.std.specs.Prelude.{List, ◌++◌, refl, ◌≡◌, ℕ, ◌*◌, ◌-◌, ◌/◌, ◌<◌, ◌^◌, ◌≤◌, drop, length}
use Rattle.std.proofs.Common.{append_assoc, ap, sym, ◌∙◌, arith}
use Rattle.std.proofs.Math.Seq.{drop-append_seam}
use Rattle.theory.specs.Tables.{limit}
use Rattle.bits.specs.Bits.{bits, bits_of}
use Rattle.bits.specs.Editions.{Marked, ToldApart, edition_of}
use Rattle.bits.specs.Forms.{fill_width}
use Rattle.bits.specs.Laws.Editions.{told_form, told_marked}
use Rattle.bits.specs.declared.Edition.{Edition}
use Rattle.bits.specs.declared.Edition.TheVariants.{New, Old}
use Rattle.links.specs.Links.{Links}
use Rattle.link_forms.specs.Form.{link_bytes, link_form, link_form_at, link_used, row_at}
use Rattle.link_forms.specs.Laws.Form.{all_rows, bits_links_then, front_bits}
use Rattle.stored_links.proofs.Laws.ReadAt.{read_rest, written_at}
use Rattle.stored_links.specs.Outcomes.{read_either, read_outcome}
use Rattle.stored_links.specs.Stored.{read_into}

pub links_apart : ToldApart link_form
links_apart = record { plain = (refl, refl); marked = (refl, refl) }

-- a short mark, and numbers in which every doubled cost within the form's limit has place, which is never above that of link tables
pub form_small : (e : Edition) → ((link_form e).head ≤ 7) × ((link_form e).width ≤ 32)
form_small Old = (omega arith, omega arith)
form_small New = (omega arith, omega arith)

pub form_fits : (e : Edition) → 2 * (link_form e).limit < 2 ^ (link_form e).width
form_fits Old = omega arith
form_fits New = omega arith

pub form_limit : (e : Edition) → (link_form e).limit ≤ limit
form_limit Old = omega arith
form_limit New = omega arith

pub told_small : (bytes : List ℕ) (position : ℕ) → ((link_form_at bytes position).head ≤ 7) × ((link_form_at bytes position).width ≤ 32)
told_small bytes position = form_small (edition_of (drop (position / 8) bytes))

-- the mark of the form that is told stands in front
pub links_marked : (bytes : List ℕ) (position : ℕ) → Marked (link_form_at bytes position) (drop (position / 8) bytes)
links_marked bytes position = told_marked link_form links_apart (drop (position / 8) bytes)

-- what is stored tells its form
pub told_links : (e : Edition) (n : ℕ) (l v behind : List ℕ) → n ≤ 64 → edition_of (link_bytes (link_form e) n l v ++ behind) ≡ e
unfolding front_bits
told_links e n l v behind h =
    let form = link_form e in
    let front = bits_of form.head form.mark ++ bits_of 7 n in
    let rows = all_rows form n l v ++ (bits_of (fill_width (row_at form n (length l))) 0 ++ bits behind) in
    told_form link_form links_apart e n (link_bytes form n l v ++ behind) (bits_of 7 (length l) ++ rows) (omega arith)
    (bits_links_then form n l v behind ∙ append_assoc front (bits_of 7 (length l)) rows)

-- what stands at the start of byte k is read in the form that it tells
pub either_at : (bytes s : List ℕ) (k : ℕ) (e : Edition) (f u : List ℕ) → drop k bytes ≡ s → edition_of s ≡ e
    → read_either bytes (8 * k) f u ≡ read_outcome (link_form e) bytes (8 * k) f u
either_at bytes s k e f u h q =
    let m : 8 * k / 8 ≡ k = omega arith in
    ap (λ (x : Edition). read_outcome (link_form x) bytes (8 * k) f u) (ap (λ (x : ℕ). edition_of (drop x bytes)) m ∙ ap edition_of h ∙ q)

-- reading what was written in either form gives the table back, whatever stands ahead and behind
pub either_written : (e : Edition) (n N : ℕ) (l v ahead behind f u : List ℕ) → Links (link_form e).limit n N l v → 2 * n - 3 ≤ length f → 2 * n - 3 ≤ length u
    → read_either (ahead ++ (link_bytes (link_form e) n l v ++ behind)) (8 * length ahead) f u ≡ read_into n N (link_used (link_form e) n N) l v f u
either_written e n N l v ahead behind f u t h k =
    let s = link_bytes (link_form e) n l v ++ behind in
    either_at (ahead ++ s) s (length ahead) e f u (drop-append_seam ahead s) (told_links e n l v behind t.few)
    ∙ written_at (link_form e) n N l v ahead behind f u t (form_fits e) h k

-- the rest of the bytes, from byte k on, reads as the whole does at that byte
pub either_rest : (bytes : List ℕ) (k : ℕ) (f u : List ℕ) → k ≤ length bytes → read_either (drop k bytes) 0 f u ≡ read_either bytes (8 * k) f u
either_rest bytes k f u h =
    let m : 8 * k / 8 ≡ k = omega arith in
    read_rest (link_form (edition_of (drop k bytes))) bytes k f u h
    ∙ ap (λ (x : ℕ). read_outcome (link_form (edition_of (drop x bytes))) bytes (8 * k) f u) (sym m)
