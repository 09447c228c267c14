-- What the promise of the program's line says: which tables have a Newick text and which, what a refusal prints, and that there is no other
-- line. Assumes nothing.
use Rattle.ground.specs.Refusals.{Check}
use Rattle.std.specs.Prelude.{List, ◌++◌, refl, ◌≡◌, ℕ, ◌*◌, ◌-◌, ◌≤◌, drop, length, replicate, take, Ok, Err}
use Rattle.std.proofs.Common.{ap, sym, ◌∙◌, arith, length-append, take_at}
use Rattle.ground.specs.InOrder.{Decides}
use Rattle.ground.specs.Laws.InOrder.{decides_last}
use Rattle.ground.specs.Laws.Refusals.{then_passed}
use Rattle.ground.specs.declared.Refusal.{Refusal}
use Rattle.theory.specs.LinkTables.{Row}
use Rattle.theory.specs.Readings.{Exact}
use Rattle.theory.specs.Tables.{CostTable, cost, limit}
use Rattle.tree.specs.Exact.{exact_rows, tree_check}
use Rattle.tree.proofs.Laws.Exact.{exact_rows_lem, table-passed, table_sized}
use Rattle.bits.specs.declared.Edition.{Edition}
use Rattle.cost_forms.specs.Form.{cost_bytes, cost_form}
use Rattle.listing_lines.specs.Lines.{newline, refused_line, room}
use Rattle.listing_text.specs.Ignored.{longest_table}
use Rattle.listing_text.proofs.Ignored.{stored_ignores}
use Rattle.listing_text.specs.InOrder.{listing_order, listing_steps}
use Rattle.listing_text.specs.Listing.{images_said, stored_checks, table_said}
use Rattle.listing_text.specs.Promises.{listing_table, listing_checks, stored_said, text_then}
use Rattle.table_text.specs.TableText.{text_if}
use Rattle.newick_text.proofs.Laws.Reading.{read_written}
use Rattle.newick_text.specs.LinkTrees.{newick}
use Rattle.newick_text.specs.Reading.{read_checks, tree_in}
use Rattle.newick_text.specs.Tables.{table_of}
use Rattle.newick_line.specs.Line.{Printed, line_of, newick_line, table_line}

-- the exact reading of the table that the bytes say
abbrev pub rows_said : List ℕ → List Row
rows_said s = exact_rows limit (images_said s) (table_said s)

-- the line is the text of T, which is the one link table whose path costs are twice the entries of the table that the bytes say; read without
-- its newline, with room, it is T again
pub record LineOfTree (s : List ℕ) (T : List Row) : Type 0 where
  pub exact : Exact limit (cost (table_said s) (images_said s)) (images_said s) T
  pub only : (U : List Row) → Exact limit (cost (table_said s) (images_said s)) (images_said s) U → U ≡ T
  pub line : newick_line s ≡ newick T ++ newline
  pub passes : (places : ℕ) → 2 * images_said s - 3 ≤ places → read_checks limit (newick T) places ≡ Ok tt
  pub again : table_of (tree_in (newick T)) ≡ T

module _ (s : List ℕ) where
  -- its checks are those of a listing
  pub line_checks : newick_line s ≡ text_if (listing_checks s) (line_of (rows_said s))
  unfolding newick_line
  line_checks = text_then (stored_checks s) (tree_check limit (images_said s) (table_said s)) (line_of (rows_said s))

  -- 9, 1, 9, 11, 4, 20, 7: the line of the first check that refuses, and the text where all pass
  pub line_decides : Decides (λ m. refused_line) (listing_steps s) (line_of (rows_said s)) (newick_line s)
  line_decides = rw line_checks (decides_last (λ m. refused_line) 0 (line_of (rows_said s)) (listing_order s))

  pub line_refused : (q : Refusal) → listing_checks s ≡ Err q → newick_line s ≡ refused_line q
  line_refused q e = line_checks ∙ ap (λ (c : Check). text_if c (line_of (rows_said s))) e

  pub line-accepted : listing_checks s ≡ Ok tt → LineOfTree s (rows_said s)
  line-accepted e =
      let n = images_said s in
      let t = table_said s in
      let c = listing_table s e in
      let p = then_passed (stored_checks s) (tree_check limit n t) e in
      let w = (table-passed limit n t c.some c.few).0 (table_sized limit n t c.sized ∙ p.1) in
      let x = (exact_rows_lem limit n t w (rows_said s)).1 refl in
      let r = read_written limit n (rows_said s) x.tree c.some c.few (omega arith) in
      record {
        exact = x;
        only = λ U u. (exact_rows_lem limit n t w U).0 u;
        line = line_checks ∙ ap (λ (k : Check). text_if k (line_of (rows_said s))) e;
        passes = λ places h. (r places h).0;
        again = (r (2 * n - 3) (omega arith)).1;
      }

  -- the program need not read more bytes than the longest stored table has
  pub line_ignores : newick_line s ≡ newick_line (take longest_table s)
  unfolding newick_line
  line_ignores = stored_ignores table_line s

  -- ## What the call answers

  -- what is printed is the line
  pub printed_front : {size : ℕ} {text : List ℕ} → Printed s size text → take size text ≡ newick_line s
  printed_front {size} p = ap (take size) p.printed ∙ take_at (newick_line s) _ size (sym p.sized)

  -- it lies within the array
  pub printed_within : {size : ℕ} {text : List ℕ} → Printed s size text → size ≤ length text
  printed_within p =
      let m = newick_line s in
      omega (arith, p.sized, ap length p.printed, length-append m (drop (length m) (replicate room 0)))

  -- no second answer meets the promise
  pub printed_once : {a b : ℕ} {t u : List ℕ} → Printed s a t → Printed s b u → (a ≡ b) × (t ≡ u)
  printed_once p q = (p.sized ∙ sym q.sized, p.printed ∙ sym q.printed)

-- a table has the same line in whichever form it is stored, whatever follows it
pub line_stored : (e : Edition) (n : ℕ) (t b : List ℕ) → CostTable (cost_form e).limit n t
    → newick_line (cost_bytes (cost_form e) n (cost t n) ++ b) ≡ table_line n t
unfolding newick_line
line_stored = stored_said table_line
