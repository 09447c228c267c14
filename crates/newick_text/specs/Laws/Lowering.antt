-- A tree without its last row: the last vertex goes, and what was below it stands among the others. Assumes nothing.
use Rattle.std.specs.Prelude.{Bool, false, not, true, ◌⊎◌, refl, ◌≡◌, suc, ℕ, ◌+◌, ◌<◌, ◌^◌, ◌≤◌, length}
use Rattle.std.proofs.lemmas.Bool.{false≢true}
use mathlib.Core.List.{List, Memᴰ, [], ◌++◌, ◌∷◌}
use Rattle.std.proofs.Common.{inl, inr, ap, sym, ◌∙◌, arith, length-append}
use borrow.Table.Steps.{cases}
use Rattle.ground.specs.Filters.{Each}
use Rattle.ground.specs.Laws.Bits.{bit-some}
use Rattle.theory.specs.LinkTables.{Row}
use Rattle.theory.specs.Routes.{contains}
use Rattle.newick_text.specs.Trees.{Head, Siblings, add}
use Rattle.newick_text.specs.Tables.{insert, rows, sorted}
use Rattle.newick_text.specs.Order.{Rising}
use Rattle.newick_text.specs.LinkTrees.{grow, part}
use Rattle.newick_text.specs.Laws.Below.{below, below_bushy, below_less, below-named, below-occ, below_rising, below_rows, head_again}
use Rattle.newick_text.specs.Laws.Containing.{bit-contains, contains-bit}
use Rattle.newick_text.specs.Laws.LastVertex.{add-occ, add-rows, add-sorted, un_bushy, un_named, un_rising}
use Rattle.newick_text.specs.Laws.Merging.{merge, merge_bushy, merge-first, merge-length, merge-named, merge-occ, merge_rising, merge-rows, merge-second}
use Rattle.newick_text.specs.Laws.Merging.{merge-tops}
use Rattle.newick_text.specs.Laws.Parts.{part-all, part_none}
use Rattle.newick_text.specs.Laws.Sides.{head_bit, head_fits, top_fits, top-occ}
use Rattle.newick_text.specs.Laws.Sizes.{head_some, rows-below, tops-some}
use Rattle.newick_text.specs.Laws.Sorting.{insert-behind, mem-sorted, sorted_all}
use Rattle.newick_text.specs.Laws.Vertices.{Bushy, HeadBushy, HeadNamed, HeadRising, Named, Once, Proper, head_occ, head_side, occ, tops}

-- what the tree without its last row is to the tree
pub record Lowered (n : ℕ) (f : Siblings) (v : Head) (c : ℕ) : Type 0 where
  pub proper : Proper n (merge f (below v))
  -- the last row, and where it stands
  pub some : 1 ≤ head_side v
  pub fits : head_side v < 2 ^ n
  pub lower : Each (sorted (rows (merge f (below v)))) (λ r. r.0 < head_side v)
  pub last : sorted (rows (add f v c)) ≡ sorted (rows (merge f (below v))) ++ ((head_side v, c) ∷ [])
  pub fewer : length (rows (add f v c)) ≡ suc (length (rows (merge f (below v))))
  -- it takes what was below the vertex
  pub again : grow (head_side v, c) (merge f (below v)) ≡ add f v c

module _ (n : ℕ) (few : n ≤ 64) (f : Siblings) (v : Head) (c : ℕ) (w : Proper n (add f v c)) where
  nm : Named n f × HeadNamed n v
  nm = un_named n f v c w.named

  bs : Bushy f × HeadBushy v
  bs = un_bushy f v c w.bushy

  rs : Rising 0 f × HeadRising v × (0 ≤ head_side v) × Each (tops f) (λ X. X < head_side v)
  rs = un_rising 0 f v c w.rising

  both_once : (m : ℕ) → occ f m + head_occ v m < 2
  both_once m = omega (arith, w.once m, add-occ f v c m)

  first_once : Once f
  first_once m = omega (arith, both_once m)

  last_once : (m : ℕ) → head_occ v m < 2
  last_once m = omega (arith, both_once m)

  below_once : Once (below v)
  below_once m = omega (arith, last_once m, below-occ v m)

  abbrev S : ℕ
  S = head_side v

  -- no other vertex is within the last
  out : Each (tops f) (λ X. contains S X ≡ false)
  out X d =
      let k = bit-some n X (tops-some f bs.0 X d) (top_fits n f nm.0 first_once X d) in
      let o = top-occ n f X k.0 nm.0 first_once k.1 d k.2 in
      cases (contains S X)
      (λ e. absurd (omega (arith, contains-bit n S X k.0 k.1 e k.2, both_once k.0, head_bit n v k.0 nm.1 last_once k.1)))
      (λ e. e)

  -- those below it are
  inn : Each (tops (below v)) (λ X. contains S X ≡ true)
  inn X d =
      let h = below-named n v nm.1 in
      bit-contains n S X (top_fits n (below v) h below_once X d) (λ m l x.
      omega (arith, top-occ n (below v) X m h below_once l d x, head_bit n v m nm.1 last_once l, below-occ v m, last_once m))

  abbrev all : Siblings
  all = merge f (below v)

  all_proper : Proper n all
  all_proper = record {
    named = merge-named n f (below v) nm.0 (below-named n v nm.1);
    once = λ m. omega (arith, merge-occ f (below v) m, both_once m, below-occ v m);
    bushy = merge_bushy f (below v) bs.0 (below_bushy v bs.1);
    rising = merge_rising 0 f (below v) rs.0 (below_rising v rs.1) (λ X x y. false≢true (sym (out X x) ∙ inn X y));
  }

  abbrev R : Row
  R = (S, c)

  tops_lower : Each (tops all) (λ X. X < S)
  tops_lower X d = go (merge-tops f (below v) X d)
    where
      go : Memᴰ X (tops f) ⊎ Memᴰ X (tops (below v)) → X < S
      go (inl x) = rs.3 X x
      go (inr x) = below_less v bs.1 X x

  rows_lower : Each (sorted (rows all)) (λ r. r.0 < S)
  rows_lower r d = rows-below S all tops_lower r (mem-sorted r (rows all) d)

  -- the last row comes last
  rows_last : sorted (rows (add f v c)) ≡ sorted (rows all) ++ (R ∷ [])
  rows_last =
      add-sorted f v c (rows (below v)) R (below_rows v c)
      ∙ ap (insert R) (sym (merge-rows f (below v) []) ∙ sym (sorted_all (rows all)))
      ∙ insert-behind R (sorted (rows all)) rows_lower

  rows_fewer : length (rows (add f v c)) ≡ suc (length (rows all))
  rows_fewer =
      let e = ap length (add-rows f v c ∙ ap (λ (l : List Row). rows f ++ l) (below_rows v c)) in
      let k = length-append (rows f) (rows (below v) ++ (R ∷ [])) in
      omega (arith, e, k, length-append (rows (below v)) (R ∷ []), merge-length f (below v))

  grow_again : grow R all ≡ add f v c
  grow_again =
      let o : ℕ → Bool = λ X. not (contains S X) in
      let p : part o all ≡ f = merge-first o 0 f (below v) rs.0 (λ X d. ap not (out X d)) (part_none o (below v) (λ X d. ap not (inn X d))) in
      let q : part (contains S) all ≡ below v = merge-second (contains S) f (below v) out ∙ part-all (contains S) (below v) inn in
      rw (p, q, head_again n v few nm.1 bs.1) refl

  pub lowered : Lowered n f v c
  lowered = record {
    proper = all_proper;
    some = head_some v bs.1;
    fits = head_fits n v nm.1 last_once;
    lower = rows_lower;
    last = rows_last;
    fewer = rows_fewer;
    again = grow_again;
  }
