-- What the calls of a listing leave in arrays of zeros. Assumes nothing.
use Rattle.std.specs.Prelude.{List, ◌≡◌, ℕ, ◌≤◌, length, replicate, take, Ok, Err}
use Rattle.std.proofs.Common.{arith, length-take-le, sym}
use lib.ListN.{length-replicate}
use Rattle.ground.specs.Outcomes.{Left}
use Rattle.ground.specs.Refusals.{Written}
use Rattle.ground.specs.declared.Refusal.{Refusal}
use Rattle.theory.specs.Outcomes.{LeftRows}
use Rattle.theory.specs.Routes.{uppers}
use Rattle.theory.specs.Tables.{limit}
use Rattle.tables.specs.declared.costs.Costs.{Costs}
use Rattle.links.specs.Links.{Links}
use Rattle.routes.specs.Outcomes.{upper_outcome}
use Rattle.order.specs.Outcome.{images, order_outcome}
use Rattle.tree.specs.Exact.{tree_check}
use Rattle.tree.specs.Readings.{exact_outcome}
use Rattle.listing_lines.specs.Laws.Lengths.{reading_most, refused_fits}
use Rattle.listing_lines.specs.Lines.{reading_text, room}
use Rattle.text.specs.Putting.{Fits}
use Rattle.table_text.specs.LastImage.{Other}
use Rattle.table_text.specs.Laws.Accepted.{RowsRead, links_few, order-left, table-refused, table_read, uppers-left}

zeros : (n : ℕ) → n ≤ length {A = ℕ} (replicate n 0)
zeros n = omega (arith, length-replicate {A = ℕ} n 0)

-- ## Upper rows and order

module _ (t : Costs) (l v : List ℕ) (k : Links limit t.n (length l) l v) where
  pub upper_read : (e : List ℕ) (r : Written) → Left (upper_outcome limit t.n (length l) l v (replicate 128 0)) r e → take (length l) e ≡ uppers l
  upper_read e r p = uppers-left t.n l v (replicate 128 0) e r k (omega (arith, zeros 128)) p

  pub costs_there : length l ≤ length v
  costs_there = omega (arith, k.costed)

  pub above_there : (u : List ℕ) → length u ≡ 128 → length l ≡ length (take (length l) u)
  above_there u w = sym (length-take-le (length l) u (omega (arith, links_few t.n l v k)))

  pub above_enough : (u : List ℕ) → length u ≡ 128 → length l ≤ length (take (length l) u)
  above_enough u w = omega (arith, above_there u w)

  -- the text fits, whatever stands in places enough for every order
  pub reading_fits : (u e o : List ℕ) → length e ≡ 64 → room ≤ length o → Fits (reading_text t.n l v (take (length l) u) (take t.n e)) 0 o
  reading_fits u e o w h =
      let few = t.formed.few in
      let m : t.n ≤ length e = omega arith in
      omega (arith, reading_most t.n l v (take (length l) u) (take t.n e) (links_few t.n l v k) (omega (arith, length-take-le t.n e m)))

pub order_read : (t : Costs) (last : ℕ) → Other t.n last → (e : List ℕ) (r : Written)
    → Left (order_outcome limit t.n t.entries.now 1 last (replicate 64 0)) r e → take t.n e ≡ images t.n t.entries.now 1 last
order_read t last x e r p = (order-left t.n t.entries.now last (replicate 64 0) e r t.formed x (zeros 64) p).0

pub ruleset reading_ways = (links_few, costs_there, above_there, above_enough, reading_fits)

-- ## The exact reading

module _ (t : Costs) (f v : List ℕ) where
  pub reading_refused : (q : Refusal) → LeftRows (exact_outcome limit t.n t.entries.now (replicate 128 0) (replicate 128 0)) (Err q) f v
      → tree_check limit t.n t.entries.now ≡ Err q
  reading_refused q p =
      table-refused t.n t.entries.now (replicate 128 0) (replicate 128 0) f v q t.formed (omega (arith, zeros 128)) (omega (arith, zeros 128)) p

  pub rows_read : (r : ℕ) → LeftRows (exact_outcome limit t.n t.entries.now (replicate 128 0) (replicate 128 0)) (Ok r) f v
      → RowsRead t.n t.entries.now r f v
  rows_read r p =
      table_read t.n t.entries.now (replicate 128 0) (replicate 128 0) f v r t.formed (omega (arith, zeros 128)) (omega (arith, zeros 128)) p

pub ruleset table_ways = (refused_fits, rows_read)
