-- What the report has left in three arrays of 1,024 places, and the text of it. Assumes nothing.
use Rattle.ground.specs.Refusals.{Check}
use Rattle.std.specs.Prelude.{List, [], map, ◌++◌, ◌∷◌, refl, ◌≡◌, ℕ, ◌≤◌, drop, length, replicate, take, Ok, Result}
use Rattle.std.proofs.Common.{ap, ap₂, subst, sym, ◌∙◌, arith, length-append, length-drop, length-take-le, take_at}
use Rattle.std.proofs.lemmas.List.{length-map}
use lib.ListN.{length-replicate}
use Rattle.ground.specs.declared.TableRefusal.{TableRefusal}
use Rattle.ground.specs.Buffers.{front}
use Rattle.theory.specs.Tables.{limit}
use Rattle.listing_lines.specs.Lines.{row_line, row_lines}
use Rattle.seen.specs.Columns.{sides_in, sums_in, trees_in}
use Rattle.seen.specs.Seen.{Entry, entries, seen}
use Rattle.figures.specs.Figures.{entries_at, sides_at}
use Rattle.figures.specs.Reading.{Ended, read_all}
use Rattle.figures.specs.Tables.{Table, images_in, trees}
use Rattle.report.specs.Outcome.{LeftReport, outcome, report_of, report_outcome, room_check, end_in, seen_as, table_in, Report}
use Rattle.term_text.specs.Laws.Lengths.{report_most}
use Rattle.report.specs.declared.TermReport.{TermReport}
use Rattle.text.specs.Laws.Pieces.{put_same}
use Rattle.text.specs.Putting.{Fits, Put}
use Rattle.term_text.specs.Lines.{end_line, entry_line, entry_lines}
use Rattle.term_text.specs.Text.{ended_text, report_with, room, term_text}

-- the lines of the entries are those of their columns
column_lines : (E : List Entry) → row_lines (sides_in E) (trees_in E) (sums_in E) ≡ entry_lines E
unfolding row_lines row_line entry_lines entry_line
column_lines [] = refl
column_lines (e ∷ E) = ap (λ (m : List ℕ). entry_line e ++ m) (column_lines E)

-- as many as the figure says
entries-counted : (ts : List Table) → length (entries_at limit ts) ≡ sides_at limit ts
unfolding entries_at sides_at entries
entries-counted ts = length-map (seen (images_in ts) (trees limit ts)) _

-- a list in front of an array of the same length is no longer than the array
front-short : (m d : List ℕ) → length (front m d) ≡ length d → length m ≤ length d
front-short m d h = omega (arith, h, length-append m (drop (length m) d), length-drop (length m) d)

-- the report r with the entries in front of three arrays of 1,024 places is a text that there is room for
pub record Left (text : List ℕ) (r : Report) (f t s : List ℕ) : Type 0 where
  pub few : r.figures.sides ≤ 1024
  pub same : report_with r (row_lines (take r.figures.sides f) (take r.figures.sides t) (take r.figures.sides s)) ≡ text
  pub short : length text ≤ room

module _ (e : Ended) (f t s : List ℕ) (r : Report) (f' t' s' : List ℕ) (l : LeftReport (outcome limit (Ok tt) e f t s) r f' t' s') where
  abbrev E : List Entry
  E = entries_at limit e.read

  counted : length E ≡ r.figures.sides
  counted = entries-counted e.read ∙ sym (ap (λ (x : Report). x.figures.sides) l.answered)

  -- a column stands in front of its array
  column : (g : Entry → ℕ) (d d' : List ℕ) → d' ≡ front (map g E) d → take r.figures.sides d' ≡ map g E
  column g d d' h = ap (take r.figures.sides) h ∙ take_at (map g E) (drop (length (map g E)) d) r.figures.sides (length-map E g ∙ counted)

  lines : row_lines (take r.figures.sides f') (take r.figures.sides t') (take r.figures.sides s') ≡ entry_lines E
  lines =
      rw (column (λ x. x.0) f f' l.far-sides, column (λ x. x.1) t t' l.tree_numbers, column (λ x. x.2) s s' l.cost_sums) (column_lines E)

  ended-left : length f' ≡ 1024 → length f ≡ 1024 → Left (ended_text e) r f' t' s'
  ended-left a b =
      let h = front-short (sides_in E) f (sym (ap length l.far-sides) ∙ a ∙ sym b) in
      let k : length E ≤ 1024 = omega (arith, h, b, length-map E (λ x. x.0)) in
      record { few = omega (arith, k, counted); same = ap₂ report_with l.answered lines; short = report_most (report_of limit e) E k }

-- 1,024 places in each are enough
pub term_left : (bytes f t s : List ℕ) → length f ≡ 1024 → length t ≡ 1024 → length s ≡ 1024 → (r : Report) (f' t' s' : List ℕ) → length f' ≡ 1024
    → LeftReport (report_outcome limit bytes f t s) r f' t' s' → Left (term_text bytes) r f' t' s'
unfolding term_text
term_left bytes f t s a b c r f' t' s' h l =
    let p : room_check (length f) (length t) (length s) ≡ (Ok tt) = rw (a, b, c) refl in
    ended-left (read_all limit bytes) f t s r f' t' s' (subst (λ (x : Check). LeftReport (outcome limit x (read_all limit bytes) f t s) r f' t' s') p l) h a

-- ## In three such arrays, 0 before

zeros : length (replicate {A = ℕ} 1024 0) ≡ 1024
zeros = length-replicate {A = ℕ} 1024 0

module _ (bytes : List ℕ) (r : TermReport) (f t s : List ℕ) (a : length f ≡ length (replicate {A = ℕ} 1024 0)) (b : length t ≡ length (replicate {A = ℕ} 1024 0))
    (c : length s ≡ length (replicate {A = ℕ} 1024 0))
    (l : LeftReport (report_outcome limit bytes (replicate 1024 0) (replicate 1024 0) (replicate 1024 0)) (seen_as r) f t s) where
  left_so : Left (term_text bytes) (seen_as r) f t s
  left_so = term_left bytes (replicate 1024 0) (replicate 1024 0) (replicate 1024 0) zeros zeros zeros (seen_as r) f t s (a ∙ zeros) l

  pub far_places : r.figures.sides ≤ length f
  far_places = omega (arith, left_so.few, a, zeros)

  pub tree_places : r.figures.sides ≤ length t
  tree_places = omega (arith, left_so.few, b, zeros)

  pub sum_places : r.figures.sides ≤ length s
  sum_places = omega (arith, left_so.few, c, zeros)

  pub far_taken : r.figures.sides ≡ length (take r.figures.sides f)
  far_taken = sym (length-take-le r.figures.sides f far_places)

  pub tree_taken : r.figures.sides ≡ length (take r.figures.sides t)
  tree_taken = sym (length-take-le r.figures.sides t tree_places)

  pub sum_taken : r.figures.sides ≡ length (take r.figures.sides s)
  sum_taken = sym (length-take-le r.figures.sides s sum_places)

  pub report_fits : (o : List ℕ) → room ≤ length o
      → Fits (report_with (seen_as r) (row_lines (take r.figures.sides f) (take r.figures.sides t) (take r.figures.sides s))) 0 o
  report_fits o h = omega (arith, ap length left_so.same, left_so.short, h)

  pub report_put : (o : List ℕ) (p : ℕ) (o' : List ℕ)
      → Put (report_with (seen_as r) (row_lines (take r.figures.sides f) (take r.figures.sides t) (take r.figures.sides s))) 0 o p o' → Put (term_text bytes) 0 o p o'
  report_put o p o' w = put_same left_so.same w

pub ruleset in_arrays = (far_places, tree_places, sum_places, far_taken, tree_taken, sum_taken)

-- ## The last line

pub end_passed : {e : Result (Unit {0}) TableRefusal} → e ≡ Ok tt → end_line (table_in e) (end_in e) ≡ []
unfolding end_line
end_passed h = rw h refl
