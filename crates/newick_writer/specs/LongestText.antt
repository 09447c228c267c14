-- The longest text is reached: by the caterpillar of 64 images whose costs are all the greatest. Assumes nothing.
use Rattle.std.specs.Prelude.{Bool, false, ◌&&◌, ◌||◌, List, map, ◌++◌, refl, ◌≡◌, ℕ, ◌-◌, ◌<◌, ◌^◌, ltb, get_or, length, replicate, Ok}
use Rattle.std.proofs.Common.{◌∙◌}
use Rattle.std.proofs.lemmas.List.{get_or-replicate}
use borrow.Table.Steps.{cases}
use Rattle.ground.specs.First.{first}
use Rattle.ground.specs.Laws.First.{first-all}
use Rattle.ground.specs.Laws.Tests.{or_false}
use Rattle.ground.specs.Ranges.{from}
use Rattle.theory.specs.FarSides.{inner}
use Rattle.theory.specs.LinkTables.{rows_of}
use Rattle.theory.specs.Tables.{limit}
use Rattle.bad_rows.specs.BadRows.{bad_row, bad_side, first_crossed, missing, row_before}
use Rattle.links.specs.FirstChecks.{first_check}
use Rattle.links.specs.Laws.FirstChecks.{passed_first}
use Rattle.links.specs.Laws.LinkChecks.{link_checks_lem}
use Rattle.links.specs.Links.{Links}
use Rattle.text.specs.Decimal.{decimal, digits}
use Rattle.newick_text.specs.LinkTrees.{newick}
use Rattle.newick_writer.specs.Bytes.{head_bytes, longest_text, row_bytes, text_bytes}
use Rattle.newick_writer.specs.Laws.Bytes.{text-bytes}
use Rattle.newick_writer.specs.Writing.{table_checks}

-- images 2 to 64 alone; then 63 and 64, 62 to 64, .., and last 2 to 64
abbrev pub long_fars : List ℕ
long_fars = map (λ i. 2 ^ i) (from 1 63) ++ map (λ i. 2 ^ 64 - 2 ^ (63 - i)) (from 1 62)

abbrev pub long_costs : List ℕ
long_costs = replicate 125 16000000

-- ## It is a link table

-- row k is bad, its cost apart
bad_here : ℕ → Bool
bad_here k = bad_side 64 (row_before long_fars k) (get_or long_fars k 0) || ltb (first_crossed long_fars k) k

none_bad : ltb (first bad_here 125) 125 ≡ false
unfolding first bad_here
none_bad = refl

none_missing : first_check 13 (missing 64 long_fars) 64 ≡ Ok tt
unfolding first missing
none_missing = refl

good_row : (k : ℕ) → k < 125 → bad_row limit 64 long_fars long_costs k ≡ false
unfolding bad_row bad_here
good_row k h =
    let p = or_false (bad_side 64 (row_before long_fars k) (get_or long_fars k 0)) (ltb (first_crossed long_fars k) k) (first-all bad_here 125 none_bad k h) in
    rw (p.0, get_or-replicate {A = ℕ} 125 k 16000000 0 h, p.1) (either (inner 64 (get_or long_fars k 0)))
  where
    either : (b : Bool) → ((b && false) || false) ≡ false
    either b = cases b (λ e. rw e refl) (λ e. rw e refl)

pub long_links : Links limit 64 125 long_fars long_costs
long_links =
    let r = passed_first 12 (bad_row limit 64 long_fars long_costs) 125 good_row in
    let c : table_checks 64 125 long_fars long_costs ≡ (Ok tt) = rw (r, none_missing) refl in
    (link_checks_lem limit 64 125 long_fars long_costs).0 c

-- ## Its text has 1,432 bytes

long_bytes : text_bytes (rows_of long_fars long_costs) ≡ longest_text
unfolding head_bytes row_bytes decimal digits first
long_bytes = refl

pub longest_reached : length (newick (rows_of long_fars long_costs)) ≡ longest_text
longest_reached =
    let t = long_links in text-bytes limit 64 t.few (rows_of long_fars long_costs) t.table t.some ∙ long_bytes
