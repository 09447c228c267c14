-- What the promise of a listing says, of both programs: which tables are listed and as what, what a refusal prints, and that there is no other
-- text. Assumes nothing.
use Rattle.std.specs.Prelude.{List, ◌++◌, refl, ◌≡◌, ℕ, ◌≤◌, drop, length, replicate, take, Ok, Err}
use Rattle.std.proofs.Common.{ap, sym, ◌∙◌, arith, length-append, take_at}
use Rattle.ground.specs.Refusals.{◌then◌, Check}
use Rattle.ground.specs.declared.Refusal.{Refusal}
use Rattle.ground.specs.Laws.Refusals.{then_passed}
use Rattle.theory.specs.Laws.Limits.{table_wide}
use Rattle.theory.specs.LinkTables.{Row}
use Rattle.theory.specs.Readings.{Exact}
use Rattle.theory.specs.Tables.{CostTable, cost, limit, old_limit}
use Rattle.wiring.specs.Check.{wiring_check}
use Rattle.order.specs.Outcome.{images}
use Rattle.tree.specs.Exact.{exact_rows, tree_check}
use Rattle.tree.proofs.Laws.Exact.{exact_rows_lem, table-passed, table_sized, tree_wiring}
use Rattle.bits.specs.declared.Edition.{Edition}
use Rattle.bits.specs.declared.Edition.TheVariants.{New, Old}
use Rattle.cost_forms.specs.Form.{cost_bytes, cost_form, new_costs, old_costs}
use Rattle.cost_forms.specs.Said.{stored_table}
use Rattle.stored_costs.proofs.Laws.Enough.{table_said_lem, table_stored}
use Rattle.listing_text.specs.LastImage.{last_image}
use Rattle.listing_text.specs.Laws.Behind.{text_by, text_in}
use Rattle.listing_lines.specs.Lines.{refused_line, room}
use Rattle.listing_text.specs.Listing.{Listed, images_said, listing_text, stored_checks, stored_text, table_said, text_with}
use Rattle.table_text.specs.TableText.{links_text, text_if}
use Rattle.listing_text.specs.declared.Last.{Last}

-- the checks of a listing in their order: 9, 1, 9, 11, 4, 20, and those of the exact reading
abbrev pub listing_checks : List ℕ → Check
listing_checks s = stored_checks s then tree_check limit (images_said s) (table_said s)

-- the order of the table that the bytes say, from 1 to the last image that is asked for
abbrev pub order_said : Last → List ℕ → List ℕ
order_said which s = images (images_said s) (table_said s) 1 (last_image which (images_said s) (table_said s))

-- the exact reading of that table, and this order
abbrev pub accepted_text : Last → List ℕ → List ℕ
accepted_text which s = links_text (images_said s) (exact_rows limit (images_said s) (table_said s)) (order_said which s)

-- the listing shows the rows T: they are the one link table whose path costs are twice the entries of the table t over n images
pub record ExactListed (which : Last) (s : List ℕ) (n : ℕ) (t : List ℕ) (T : List Row) : Type 0 where
  pub exact : Exact limit (cost t n) n T
  pub only : (U : List Row) → Exact limit (cost t n) n U → U ≡ T
  pub shown : listing_text which s ≡ links_text n T (images n t 1 (last_image which n t))

-- two checks one after the other
pub text_then : (c d : Check) (m : List ℕ) → text_if c (text_if d m) ≡ text_if (c then d) m
text_then (Ok tt) d m = refl
text_then (Err q) d m = refl

module _ (s : List ℕ) where
  -- what is listed is a cost table, in whichever form it is stored
  pub listing_table : listing_checks s ≡ Ok tt → CostTable limit (images_said s) (table_said s)
  listing_table e = table_said_lem s (then_passed (stored_checks s) (tree_check limit (images_said s) (table_said s)) e).0

  -- of the exact reading only 7 is left
  pub listing_wiring : stored_checks s ≡ Ok tt → listing_checks s ≡ wiring_check (cost (table_said s) (images_said s)) (images_said s)
  listing_wiring e =
      ap (λ (c : Check). c then tree_check limit (images_said s) (table_said s)) e
      ∙ tree_wiring limit (images_said s) (table_said s) (table_said_lem s e)

module _ (which : Last) (s : List ℕ) where
  -- the listing by its checks
  pub listing_checks_lem : listing_text which s ≡ text_if (listing_checks s) (accepted_text which s)
  unfolding listing_text
  listing_checks_lem = text_then (stored_checks s) (tree_check limit (images_said s) (table_said s)) (accepted_text which s)

  -- a table that passes them all is listed
  pub listing_accepted : listing_checks s ≡ Ok tt → listing_text which s ≡ accepted_text which s
  listing_accepted e = listing_checks_lem ∙ ap (λ (c : Check). text_if c (accepted_text which s)) e

  -- what it shows is the exact reading, of which there is no other
  pub listing_exact : listing_checks s ≡ Ok tt → (T : List Row) × ExactListed which s (images_said s) (table_said s) T
  listing_exact e =
      let n = images_said s in
      let t = table_said s in
      let T = exact_rows limit n t in
      let c = listing_table s e in
      let p = then_passed (stored_checks s) (tree_check limit n t) e in
      let w = (table-passed limit n t c.some c.few).0 (table_sized limit n t c.sized ∙ p.1) in
      (T, record { exact = (exact_rows_lem limit n t w T).1 refl; only = λ U x. (exact_rows_lem limit n t w U).0 x; shown = listing_accepted e })

  -- the first refusal prints one line and no other
  pub listing_refused : (q : Refusal) → listing_checks s ≡ Err q → listing_text which s ≡ refused_line q
  listing_refused q e = listing_checks_lem ∙ ap (λ (c : Check). text_if c (accepted_text which s)) e

  -- what is printed is the listing
  pub listed-front : {size : ℕ} {text : List ℕ} → Listed which s size text → take size text ≡ listing_text which s
  listed-front {size} p = ap (λ (t : List ℕ). take size t) p.listed ∙ take_at (listing_text which s) _ size (sym p.sized)

  -- it lies within the array
  pub listed_within : {size : ℕ} {text : List ℕ} → Listed which s size text → size ≤ length text
  listed_within p =
      let m = listing_text which s in
      omega (arith, p.sized, ap length p.listed, length-append m (drop (length m) (replicate room 0)))

  -- no second answer meets the promise, which names no engine: either one gives the same text
  pub listed_once : {a b : ℕ} {t u : List ℕ} → Listed which s a t → Listed which s b u → (a ≡ b) × (t ≡ u)
  listed_once p q = (p.sized ∙ sym q.sized, p.listed ∙ sym q.listed)

-- what is said of a table as it is stored in either form, whatever follows it, is said of the table
pub stored_said : (said : ℕ → List ℕ → List ℕ) (e : Edition) (n : ℕ) (t b : List ℕ) → CostTable (cost_form e).limit n t
    → stored_text said (cost_bytes (cost_form e) n (cost t n) ++ b) ≡ said n t
stored_said said e n t b c =
    let s = cost_bytes (cost_form e) n (cost t n) ++ b in
    let k = table_stored e n t b c in
    ap (λ (x : Edition). text_in said (cost_form x) s) k.told
    ∙ ap (λ (x : Check). text_by said (cost_form e) x s) k.passed
    ∙ ap (λ (m : ℕ). said m (stored_table (cost_form e) m s)) k.images
    ∙ ap (said n) k.table

-- the listing, for one
pub listing_stored : (which : Last) (e : Edition) (n : ℕ) (t b : List ℕ) → CostTable (cost_form e).limit n t
    → listing_text which (cost_bytes (cost_form e) n (cost t n) ++ b) ≡ text_with which n t
unfolding listing_text
listing_stored which = stored_said (text_with which)

-- the new form holds what the old one does, so a table that both forms hold has one listing, in whichever it is stored
pub either_form_same : (which : Last) (n : ℕ) (t a b : List ℕ) → CostTable old_limit n t
    → listing_text which (cost_bytes old_costs n (cost t n) ++ a) ≡ listing_text which (cost_bytes new_costs n (cost t n) ++ b)
either_form_same which n t a b c = listing_stored which Old n t a c ∙ sym (listing_stored which New n t b (table_wide old_limit limit n t (omega arith) c))
