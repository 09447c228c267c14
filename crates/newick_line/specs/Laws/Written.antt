-- What the Newick writer leaves in places enough for every line, and the newline behind it. Assumes nothing.
use Rattle.ground.specs.Refusals.{Written}
use Rattle.std.specs.Prelude.{List, ◌++◌, ◌≡◌, ℕ, ◌<◌, ◌≤◌, length, Ok, Err}
use Rattle.std.proofs.Common.{ap, sym, ◌∙◌, arith, length-append}
use Rattle.ground.specs.Outcomes.{Left, Outcome}
use Rattle.ground.specs.declared.Refusal.{Refusal}
use Rattle.theory.specs.LinkTables.{rows_of}
use Rattle.theory.specs.Tables.{limit}
use Rattle.links.specs.Links.{Links}
use Rattle.bits.specs.Laws.Written.{over_at_front}
use Rattle.listing_lines.specs.Lines.{newline, room}
use Rattle.text.specs.Laws.Putting.{put-length, rest_begin, rest_last, rest-step}
use Rattle.text.specs.Putting.{Fits, Put}
use Rattle.newick_text.specs.LinkTrees.{newick}
use Rattle.newick_writer.specs.Laws.Longest.{text_longest}
use Rattle.newick_writer.proofs.Promises.{written}
use Rattle.newick_writer.specs.Writing.{write_outcome}
use Rattle.newick_line.specs.Line.{line_of}

module _ (n : ℕ) (l v o e : List ℕ) (t : Links limit n (length l) l v) (h : room ≤ length o) where
  abbrev text : List ℕ
  text = newick (rows_of l v)

  short : length text ≤ 1432
  short = text_longest n (rows_of l v) t.some t.few t.table

  -- the line fits
  pub line_fits : Fits (line_of (rows_of l v)) 0 o
  line_fits = omega (arith, short, length-append text newline)

  -- the writer never refuses
  pub line_never : (q : Refusal) → Left (write_outcome n (length l) l v o) (Err q) e → ⊥
  line_never q p =
      let a : Err q ≡ Ok (length text) = p.answered ∙ ap (λ (w : Outcome Written). w.answer) (written n (length l) l v o t (omega (arith, short))) in
      let z : ◌≡◌ {A = ℕ} 0 1 = cc in omega arith

  -- the text stands in front, and there is a place behind it
  pub line_written : (used : ℕ) → Left (write_outcome n (length l) l v o) (Ok used) e → Put text 0 o used e × (used < length e)
  line_written used p =
      let w = written n (length l) l v o t (omega (arith, short)) in
      let a : Ok used ≡ Ok (length text) = p.answered ∙ ap (λ (x : Outcome Written). x.answer) w in
      let u : used ≡ length text = cc in
      let k : Put text 0 o used e =
      record { behind = omega arith; left = p.left ∙ ap (λ (x : Outcome Written). x.places) w ∙ sym (over_at_front o text) } in
      (k, omega (arith, short, put-length (omega (arith, short)) k))

  -- and with a newline there the line does
  pub line-ended : (used : ℕ) → Put text 0 o used e → {r : ℕ} {d : List ℕ} → Put newline used e r d → Put (line_of (rows_of l v)) 0 o r d
  line-ended used k s = rest_last (rest-step text newline (rest_begin (text ++ newline) 0 o) line_fits k) s
