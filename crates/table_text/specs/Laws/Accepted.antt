-- What the calls that a listing makes have shown by then, and what they have left. Assumes nothing.
use Rattle.ground.specs.Refusals.{Check, Written}
use Rattle.std.specs.Prelude.{List, refl, ◌≡◌, ℕ, ◌≤◌, length, take, Ok, Err}
use Rattle.std.proofs.Common.{ap, sym, ◌∙◌, arith, length-take-le, take_at}
use Rattle.std.proofs.lemmas.List.{length-map}
use Rattle.ground.specs.declared.Refusal.{Refusal}
use Rattle.ground.specs.Outcomes.{Left, Outcome}
use Rattle.theory.proofs.Laws.RowCount.{row_count}
use Rattle.theory.specs.LinkTables.{costs, far, fars, rows_of}
use Rattle.theory.specs.Outcomes.{LeftRows}
use Rattle.theory.specs.Routes.{uppers}
use Rattle.theory.specs.Tables.{CostTable, limit}
use Rattle.links.specs.Links.{Links}
use Rattle.links.specs.Laws.LinkChecks.{rows-length}
use Rattle.routes.specs.Outcomes.{upper_outcome}
use Rattle.routes.specs.Promises.{upper-answer}
use Rattle.climbing.specs.Laws.UpperRows.{uppers-length}
use Rattle.order.specs.Outcome.{OrderAsked, images, order_outcome}
use Rattle.order.proofs.Promises.{order-accepted, order_wrote}
use Rattle.tree.specs.Exact.{exact_rows, tree_check}
use Rattle.tree.proofs.Promises.{exact_answer}
use Rattle.tree.specs.Readings.{exact_check, exact_outcome, outcome}
use Rattle.tree.proofs.Laws.Exact.{exact_check_lem, table_sized}
use Rattle.listing_lines.specs.Lines.{reading_text, refused_line}
use Rattle.table_text.specs.LastImage.{Other}
use Rattle.table_text.specs.TableText.{table_text}

-- ## Upper rows and order of a table that was read

-- a link table has at most 125 rows
pub links_few : (n : ℕ) (l v : List ℕ) → Links limit n (length l) l v → length l ≤ 125
links_few n l v t =
    let e : length l ≡ length v = sym t.costed in
    omega (arith, t.few, row_count limit n (rows_of l v) t.some t.table, rows-length l v e)

-- the upper rows that were left
pub uppers-left : (n : ℕ) (l v o e : List ℕ) (r : Written) → Links limit n (length l) l v → 125 ≤ length o → Left (upper_outcome limit n (length l) l v o) r e
    → take (length l) e ≡ uppers l
uppers-left n l v o e r t h p =
    let k = upper-answer limit n (length l) l v o (record { table = t; spare = omega (arith, t.few) }) in
    ap (take (length l)) (p.left ∙ ap (λ (w : Outcome Written). w.places) k) ∙ take_at (uppers l) _ (length l) (uppers-length 1 l)

-- an order from 1 to another image may be asked for
pub order_asked : (n : ℕ) (t : List ℕ) (last : ℕ) (o : List ℕ) → CostTable limit n t → Other n last → 64 ≤ length o
    → OrderAsked limit n t 1 last (length o)
order_asked n t last o c b h = record {
  table = c;
  space = omega (arith, c.few);
  first_low = omega arith;
  first_high = omega (arith, c.some);
  last_low = omega (arith, b.low);
  last_high = b.high;
  differ = λ e. omega (arith, b.low);
}

-- the order that was left
pub order-left : (n : ℕ) (t : List ℕ) (last : ℕ) (o e : List ℕ) (r : Written) → CostTable limit n t → Other n last → 64 ≤ length o
    → Left (order_outcome limit n t 1 last o) r e → (take n e ≡ images n t 1 last) × (length (images n t 1 last) ≡ n)
order-left n t last o e r c b h p =
    let a = order-accepted limit n t 1 last o r e p (order_asked n t last o c b h) in
    let w = (order_wrote limit n t 1 last o r e n p a).1 in
    (w.wrote, sym (ap length w.wrote) ∙ length-take-le n e (omega (arith, w.size, c.few)))

-- ## The exact reading of a cost table

-- 1, 2 and 3 are not given
only_tree : (n : ℕ) (t f v : List ℕ) → CostTable limit n t → 125 ≤ length f → 125 ≤ length v → exact_check limit n t (length f) (length v) ≡ tree_check limit n t
only_tree n t f v c a b =
    exact_check_lem limit n t c.some c.few (length f) (length v) (omega (arith, c.few)) (omega (arith, c.few)) ∙ table_sized limit n t c.sized

pub table-refused : (n : ℕ) (t f v f' v' : List ℕ) (q : Refusal) → CostTable limit n t → 125 ≤ length f → 125 ≤ length v
    → LeftRows (exact_outcome limit n t f v) (Err q) f' v' → tree_check limit n t ≡ Err q
table-refused n t f v f' v' q c a b l = go (tree_check limit n t) (rw (only_tree n t f v c a b) at l.answered)
  where
    go : (k : Check) → Err q ≡ (outcome k (exact_rows limit n t) f v).answer → k ≡ Err q
    go (Ok tt) e = absurd (let z : ◌≡◌ {A = ℕ} 0 1 = cc in omega arith)
    go (Err p) e = let s : p ≡ q = cc in ap Err s

-- the rows r that were left in front: a link table, the exact reading of the table
pub record RowsRead (n : ℕ) (t : List ℕ) (r : ℕ) (f v : List ℕ) : Type 0 where
  pub few : r ≤ 125
  pub far-length : length (take r f) ≡ r
  pub cost-length : length (take r v) ≡ r
  pub links : Links limit n (length (take r f)) (take r f) (take r v)
  pub passed : tree_check limit n t ≡ Ok tt
  pub far-sides : take r f ≡ fars (exact_rows limit n t)
  pub doubled : take r v ≡ costs (exact_rows limit n t)

pub table_read : (n : ℕ) (t f v f' v' : List ℕ) (r : ℕ) → CostTable limit n t → 125 ≤ length f → 125 ≤ length v
    → LeftRows (exact_outcome limit n t f v) (Ok r) f' v' → RowsRead n t r f' v'
table_read n t f v f' v' r c a b l =
    let T = exact_rows limit n t in
    let g = go (tree_check limit n t) (rw (only_tree n t f v c a b) at l.answered) (rw (only_tree n t f v c a b) at l.far-sides)
    (rw (only_tree n t f v c a b) at l.doubled) in
    let x : length (take r f') ≡ r = ap length g.1 ∙ length-map T far ∙ sym g.0 in
    let y : length (take r v') ≡ r = ap length g.2 ∙ length-map T (λ q. q.1) ∙ sym g.0 in
    let k : Links limit n (length (take r f')) (take r f') (take r v') =
    record { some = c.some; few = c.few; counted = refl; costed = y ∙ sym x; table = (exact_answer limit n t f v r f' v' l).exact.tree } in
    record {
      few = omega (arith, x, links_few n (take r f') (take r v') k);
      far-length = x;
      cost-length = y;
      links = k;
      passed = g.3;
      far-sides = g.1;
      doubled = g.2;
    }
  where
    go : (k : Check) → Ok r ≡ (outcome k (exact_rows limit n t) f v).answer → f' ≡ (outcome k (exact_rows limit n t) f v).far_list
        → v' ≡ (outcome k (exact_rows limit n t) f v).cost_list
        → (r ≡ length (exact_rows limit n t)) × (take r f' ≡ fars (exact_rows limit n t)) × (take r v' ≡ costs (exact_rows limit n t)) × (k ≡ Ok tt)
    go (Ok tt) e x y =
        let T = exact_rows limit n t in
        let s : r ≡ length T = cc in
        (s, ap (take r) x ∙ take_at (fars T) _ r (length-map T far ∙ sym s), ap (take r) y ∙ take_at (costs T) _ r (length-map T (λ q. q.1) ∙ sym s), refl)
    go (Err p) e x y = absurd (let z : ◌≡◌ {A = ℕ} 0 1 = cc in omega arith)

-- ## The text of the table

pub text-refused : (last n : ℕ) (t : List ℕ) (q : Refusal) → tree_check limit n t ≡ Err q → table_text last n t ≡ refused_line q
text-refused last n t q e = rw e refl

pub text_read : (last n : ℕ) (t : List ℕ) (r : ℕ) (f v : List ℕ) → RowsRead n t r f v
    → table_text last n t ≡ reading_text n (take r f) (take r v) (uppers (take r f)) (images n t 1 last)
text_read last n t r f v k = rw (k.passed, k.far-sides, k.doubled) refl
