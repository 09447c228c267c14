-- The figures of the tables read, once a table more was read. Assumes nothing.
use Rattle.std.specs.Prelude.{false, not, true, List, [], map, ◌++◌, ◌∷◌, refl, ◌≡◌, max, ℕ, ◌+◌, length}
use Rattle.std.proofs.Common.{append-nil, ap, sym, ◌∙◌, arith, length-append}
use Rattle.ground.specs.Filters.{Each}
use Rattle.ground.specs.Laws.Filters.{each_end, filter-append}
use Rattle.ground.specs.Sums.{sum}
use Rattle.theory.specs.LinkTables.{Row, fars}
use Rattle.seen.specs.Seen.{seen}
use Rattle.figures.specs.Figures.{count_of, counts, figures_of, largest, neighbours, sides_at}
use Rattle.figures.specs.Laws.Pairs.{most-more, pairs_more, sum_more}
use Rattle.figures.specs.OneMore.{with_apart, with_tree}
use Rattle.figures.specs.Pairing.{last_tree, pair_count}
use Rattle.figures.specs.Tables.{Table, accepted, apart, is_accepted, tree_of, trees}
use Rattle.figures.specs.Laws.Tables.{counts-at, images-more, sides-at, trees-length, trees_no, trees_yes}

pub sum_end : (ts : List Table) (tb : Table) → sum (ts ++ (tb ∷ [])) (λ t. t.used) ≡ sum ts (λ t. t.used) + tb.used
sum_end [] tb = omega arith
sum_end (t ∷ ts) tb = omega (arith, sum_end ts tb)

length_end : {A : Type 0} (l : List A) (x : A) → length (l ++ (x ∷ [])) ≡ length l + 1
length_end l x = length-append l (x ∷ [])

module _ (L n : ℕ) (ts : List Table) (tb : Table) (one : Each ts (λ t. t.images ≡ n)) (e : tb.images ≡ n) where
  all : Each (ts ++ (tb ∷ [])) (λ t. t.images ≡ n)
  all = each_end (λ (t : Table). t.images ≡ n) ts tb one e

  -- a table that gets 7
  pub figures_apart : is_accepted tb ≡ false
      → with_apart (figures_of L ts) n tb.used ≡ figures_of L (ts ++ (tb ∷ []))
  figures_apart sev =
      let a : accepted (ts ++ (tb ∷ [])) ≡ accepted ts = rw (filter-append is_accepted ts (tb ∷ []), sev) (append-nil (accepted ts)) in
      let b : length (apart (ts ++ (tb ∷ []))) ≡ length (apart ts) + 1 =
      rw (filter-append (λ t. not (is_accepted t)) ts (tb ∷ []), sev) (length_end (apart ts) tb) in
      let s : sides_at L (ts ++ (tb ∷ [])) ≡ sides_at L ts =
      sides-at L n (ts ++ (tb ∷ [])) all ∙ ap (λ (Ts : List (List Row)). length (seen n Ts)) (trees_no L ts tb sev) ∙ sym (sides-at L n ts one) in
      let k : counts L (ts ++ (tb ∷ [])) ≡ counts L ts =
      counts-at L n (ts ++ (tb ∷ [])) all ∙ ap (λ (Ts : List (List Row)). map (count_of n) (neighbours Ts)) (trees_no L ts tb sev) ∙ sym (counts-at L n ts one) in
      rw (images-more n ts tb one e, length_end ts tb, a, b, s, k, sum_end ts tb) refl

  -- one with a tree; d is its count with the last tree before it
  pub figures_tree : is_accepted tb ≡ true → (d : ℕ) → d ≡ pair_count n (length (accepted ts)) (fars (last_tree (trees L ts))) (fars (tree_of L tb))
      → with_tree (figures_of L ts) n tb.used (sides_at L (ts ++ (tb ∷ []))) d ≡ figures_of L (ts ++ (tb ∷ []))
  figures_tree acc d ed =
      let T = tree_of L tb in
      let Ts = trees L ts in
      let a : length (accepted (ts ++ (tb ∷ []))) ≡ length (accepted ts) + 1 = rw (filter-append is_accepted ts (tb ∷ []), acc) (length_end (accepted ts) tb) in
      let b : apart (ts ++ (tb ∷ [])) ≡ apart ts = rw (filter-append (λ t. not (is_accepted t)) ts (tb ∷ []), acc) (append-nil (apart ts)) in
      let k : counts L (ts ++ (tb ∷ [])) ≡ map (count_of n) (neighbours (Ts ++ (T ∷ []))) =
      counts-at L n (ts ++ (tb ∷ [])) all ∙ ap (λ (Ts : List (List Row)). map (count_of n) (neighbours Ts)) (trees_yes L ts tb acc) in
      let q = counts-at L n ts one in
      let x = trees-length L ts in
      let p : length (counts L (ts ++ (tb ∷ []))) ≡ length (accepted ts) = ap length k ∙ pairs_more n T Ts ∙ x in
      let u : sum (counts L (ts ++ (tb ∷ []))) (λ c. c) ≡ sum (counts L ts) (λ c. c) + d =
      rw (k, q) (sum_more n T Ts ∙ rw (x, ← ed) refl) in
      let v : largest (counts L (ts ++ (tb ∷ []))) ≡ max (largest (counts L ts)) d =
      rw k (most-more n T Ts ∙ rw (x, ← ed, ← q) refl) in
      rw (images-more n ts tb one e, length_end ts tb, a, b, p, u, v, sum_end ts tb) refl
