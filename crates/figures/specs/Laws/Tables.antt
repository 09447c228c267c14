-- The trees of the tables read, once a table more was read. Assumes nothing.
use Rattle.std.specs.Prelude.{false, true, ◌&&◌, ◌≡◌, ℕ}
use mathlib.Core.List.Memᴰ
use mathlib.Core.List.{List, [], append-nil, map, ◌++◌, ◌∷◌}
use Rattle.std.proofs.Math.Path.{ap, refl, sym}
use Rattle.std.proofs.Common.{◌∙◌}
use Rattle.std.proofs.Math.ListN.{length}
use Rattle.std.proofs.lemmas.List.{length-map}
use borrow.Table.Steps.{cases}
use Rattle.ground.specs.Filters.{Each}
use Rattle.ground.specs.Laws.Filters.{filter-append, filter-mem, filter_none}
use Rattle.ground.specs.Laws.Maps.{map-append, map-mem}
use Rattle.theory.specs.Demands.{OneTree}
use Rattle.theory.proofs.Demands.{measured_reading}
use Rattle.theory.specs.FarSides.{inner, sides}
use Rattle.theory.specs.LinkTables.{Row}
use Rattle.theory.specs.Tables.{CostTable, cost}
use Rattle.tree.proofs.Laws.Exact.{readings_agree}
use Rattle.seen.specs.Columns.{sides_in}
use Rattle.seen.specs.Seen.{cost_sum, entries, in_some, in_trees, seen}
use Rattle.figures.specs.Figures.{count_of, counts, entries_at, neighbours, sides_at}
use Rattle.figures.specs.Tables.{Table, accepted, images_in, is_accepted, tree_of, trees}

-- ## One n

pub images-more : (n : ℕ) (ts : List Table) (tb : Table) → Each ts (λ t. t.images ≡ n) → tb.images ≡ n → images_in (ts ++ (tb ∷ [])) ≡ n
images-more n [] tb h e = e
images-more n (t ∷ ts) tb h e = h t (Memᴰ.head refl)

-- where no table was read there is nothing that n could change
seen_none : (n : ℕ) → seen n [] ≡ []
unfolding seen
seen_none n = filter_none (λ S. inner n S && in_some [] S) (sides n) (λ S m. cases (inner n S) (λ e. rw e) (λ e. rw e))

module _ (L n : ℕ) where
  pub sides-at : (ts : List Table) → Each ts (λ t. t.images ≡ n) → sides_at L ts ≡ length (seen n (trees L ts))
  unfolding sides_at trees
  sides-at [] h = ap length (seen_none 0 ∙ sym (seen_none n))
  sides-at (t ∷ ts) h = ap (λ (m : ℕ). length (seen m (trees L (t ∷ ts)))) (h t (Memᴰ.head refl))

  pub entries-at : (ts : List Table) → Each ts (λ t. t.images ≡ n) → entries_at L ts ≡ entries n (trees L ts)
  unfolding entries_at trees entries
  entries-at [] h = rw (seen_none 0, seen_none n) refl
  entries-at (t ∷ ts) h = ap (λ (m : ℕ). entries m (trees L (t ∷ ts))) (h t (Memᴰ.head refl))

  pub counts-at : (ts : List Table) → Each ts (λ t. t.images ≡ n) → counts L ts ≡ map (count_of n) (neighbours (trees L ts))
  unfolding counts trees
  counts-at [] h = refl
  counts-at (t ∷ ts) h = ap (λ (m : ℕ). map (count_of m) (neighbours (trees L (t ∷ ts)))) (h t (Memᴰ.head refl))

-- the columns of the entries: as many as far sides seen, and those are the first
pub entries-sides : (n : ℕ) (Ts : List (List Row)) → sides_in (entries n Ts) ≡ seen n Ts
unfolding entries
entries-sides n Ts = go (seen n Ts)
  where
    go : (l : List ℕ) → sides_in (map (λ S. (S, in_trees Ts S, cost_sum Ts S)) l) ≡ l
    go [] = refl
    go (x ∷ l) = ap (λ z. x ∷ z) (go l)

pub entries-count : (L : ℕ) (ts : List Table) → length (entries_at L ts) ≡ sides_at L ts
unfolding entries_at sides_at entries
entries-count L ts = length-map (seen (images_in ts) (trees L ts)) (λ (S : ℕ). (S, in_trees (trees L ts) S, cost_sum (trees L ts) S))

-- ## The trees

pub trees_yes : (L : ℕ) (ts : List Table) (tb : Table) → is_accepted tb ≡ true → trees L (ts ++ (tb ∷ [])) ≡ trees L ts ++ (tree_of L tb ∷ [])
unfolding trees
trees_yes L ts tb e = rw (filter-append is_accepted ts (tb ∷ []), e) (map-append (tree_of L) (accepted ts) (tb ∷ []))

pub trees_no : (L : ℕ) (ts : List Table) (tb : Table) → is_accepted tb ≡ false → trees L (ts ++ (tb ∷ [])) ≡ trees L ts
unfolding trees
trees_no L ts tb e = rw (filter-append is_accepted ts (tb ∷ []), e) (ap (map (tree_of L)) (append-nil (accepted ts)))

pub trees-length : (L : ℕ) (ts : List Table) → length (trees L ts) ≡ length (accepted ts)
unfolding trees
trees-length L ts = length-map (accepted ts) (tree_of L)

pub table_tree : (L : ℕ) (tb : Table) → CostTable L tb.images tb.costs → OneTree L tb.images (tree_of L tb)
table_tree L tb c =
    rw (readings_agree L tb.images tb.costs) (measured_reading L (cost tb.costs tb.images) tb.images c.some c.formed).drawn

pub trees_link : (L n : ℕ) (ts : List Table) → Each ts (λ t. t.images ≡ n) → Each ts (λ t. CostTable L t.images t.costs) → Each (trees L ts) (OneTree L n)
unfolding trees
trees_link L n ts h g T m =
    let r = map-mem (tree_of L) (accepted ts) T m in
    let q = (filter-mem is_accepted ts r.0 r.2).1 in
    rw (r.1, ← (h r.0 q)) (table_tree L r.0 (g r.0 q))
