-- The figures of the far sides seen once a tree more is there. Assumes nothing.
use Rattle.std.specs.Prelude.{Bool, false, true, ◌&&◌, ◌||◌, refl, ◌≡◌, suc, ℕ, ◌+◌, ◌^◌, eqb}
use Rattle.std.proofs.lemmas.Bool.{false≢true}
use mathlib.Core.List.{List, Memᴰ, [], ◌++◌, ◌∷◌}
use Rattle.std.proofs.Common.{ap, sym, ◌∙◌, arith, eq-eqb, eqb-true, ne_eqb}
use borrow.Table.Steps.{cases}
use Rattle.ground.specs.Ascending.{Between}
use Rattle.ground.specs.Counts.{one_if}
use Rattle.ground.specs.Filters.{Each}
use Rattle.ground.specs.Laws.Ascending.{between_mem}
use Rattle.ground.specs.Laws.Counts.{sum_miss}
use Rattle.ground.specs.Laws.Maps.{mem-map}
use Rattle.ground.specs.Laws.Tests.{and_l, or_false}
use Rattle.ground.specs.Members.{is_in, occurs}
use Rattle.ground.specs.Sums.{sum, when}
use Rattle.theory.specs.FarSides.{inner, sides}
use Rattle.theory.specs.Laws.FarSides.{sides_all}
use Rattle.theory.specs.LinkTables.{LinkTable, Row, cost_of, far, fars}
use Rattle.seen.specs.Laws.Tally.{tally, tally_same}
use Rattle.seen.specs.Laws.WholeTree.{Zero, all-costs, all-tally, all_test, all-trees}
use Rattle.seen.specs.Put.{put_all}
use Rattle.seen.specs.Seen.{cost_sum, entries, has, in_some, in_trees, seen}

-- ## One tree

-- every row of a link table has a far side over its images
pub tree_sides : (L n : ℕ) (T : List Row) → LinkTable L n T → Each T (λ r. Memᴰ r.0 (sides n))
tree_sides L n T t r m =
    let b = between_mem 1 (2 ^ n) (fars T) t.ascending r.0 (mem-map far m) in
    sides_all n r.0 (record { some = b.0; fits = b.1; near = t.near r m })

pub absent : (T : List Row) (X : ℕ) → has T X ≡ false → cost_of T X ≡ 0
absent [] X e = refl
absent (r ∷ T) X e =
    let o = or_false (eqb X r.0) (has T X) e in
    rw (ne_eqb r.0 X (λ q. false≢true (sym o.0 ∙ eq-eqb X r.0 (sym q)))) (omega (arith, absent T X o.1))

occurs_once : (m k X : ℕ) (l : List ℕ) → Between m l k → occurs X l ≡ one_if (is_in X l)
occurs_once m k X [] b = refl
occurs_once m k X (y ∷ l) b =
    let ih = occurs_once (suc y) k X l b.1 in
    cases (eqb X y)
    (λ e. rw e (omega (arith, sum_miss (suc y) k X l (omega (arith, eqb-true X y e)) b.1)))
    (λ e. rw e (omega arith))

-- ## A tree more at the end

module _ (Ts : List (List Row)) (T : List Row) (X : ℕ) where
  pub some_more : in_some (Ts ++ (T ∷ [])) X ≡ (in_some Ts X || has T X)
  some_more = go Ts
    where
      end : (x : Bool) → (x || false) ≡ x
      end true = refl
      end false = refl

      go : (Ts : List (List Row)) → in_some (Ts ++ (T ∷ [])) X ≡ (in_some Ts X || has T X)
      go [] = end (has T X)
      go (U ∷ Ts) = let ih = go Ts in cases (has U X) (λ e. rw e) (λ e. rw e ih)

  sum_end : (f : List Row → ℕ) → sum (Ts ++ (T ∷ [])) f ≡ sum Ts f + f T
  sum_end f = go Ts
    where
      go : (Ts : List (List Row)) → sum (Ts ++ (T ∷ [])) f ≡ sum Ts f + f T
      go [] = omega arith
      go (U ∷ Ts) = omega (arith, go Ts)

  pub trees-more : in_trees (Ts ++ (T ∷ [])) X ≡ in_trees Ts X + one_if (has T X)
  trees-more = sum_end (λ T. one_if (has T X))

  pub costs-more : cost_sum (Ts ++ (T ∷ [])) X ≡ cost_sum Ts X + cost_of T X
  costs-more = sum_end (λ T. cost_of T X)

-- what is in no tree has the figures 0
none_zero : (Ts : List (List Row)) (X : ℕ) → in_some Ts X ≡ false → (in_trees Ts X ≡ 0) × (cost_sum Ts X ≡ 0)
none_zero [] X e = (refl, refl)
none_zero (T ∷ Ts) X e =
    let o = or_false (has T X) (in_some Ts X) e in
    let r = none_zero Ts X o.1 in
    rw o.0 (omega arith, omega (arith, absent T X o.0))

test : ℕ → List (List Row) → ℕ → Bool
test n Ts X = inner n X && in_some Ts X

figure : ℕ → (ℕ → ℕ) → ℕ → ℕ
figure n a X = when (inner n X) (a X)

entries-tally : (n : ℕ) (Ts : List (List Row)) → entries n Ts ≡ tally (sides n) (test n Ts) (figure n (in_trees Ts)) (figure n (cost_sum Ts))
unfolding entries seen test figure
entries-tally n Ts =
    tally_same (sides n) (test n Ts) (test n Ts) (in_trees Ts) (cost_sum Ts) _ _ (λ X m. refl)
    (λ X m e. rw (and_l (inner n X) (in_some Ts X) e) (refl, refl))

test_zero : (n : ℕ) (Ts : List (List Row)) → Zero (test n Ts) (figure n (in_trees Ts)) (figure n (cost_sum Ts))
unfolding test figure
test_zero n Ts = record {
  zero = λ X e. cases (inner n X) (λ i. rw i (none_zero Ts X (rw i at e))) (λ i. rw i (refl, refl));
}

pub entries-more : (L n : ℕ) (Ts : List (List Row)) (T : List Row) → LinkTable L n T → entries n (Ts ++ (T ∷ [])) ≡ put_all n T (entries n Ts)
unfolding test figure all_test all-trees all-costs
entries-more L n Ts T t =
    sym (
    ap (put_all n T) (entries-tally n Ts) ∙ all-tally n T (test n Ts) (figure n (in_trees Ts)) (figure n (cost_sum Ts)) (tree_sides L n T t) (test_zero n Ts)
    ∙ tally_same (sides n) _ (test n (Ts ++ (T ∷ []))) _ _ (figure n (in_trees (Ts ++ (T ∷ [])))) (figure n (cost_sum (Ts ++ (T ∷ []))))
    (λ X m. cases (inner n X) (λ i. rw i (sym (some_more Ts T X))) (λ i. rw i))
    (λ X m e. cases (inner n X)
    (λ i. rw (i, trees-more Ts T X, costs-more Ts T X, occurs_once 1 (2 ^ n) X (fars T) t.ascending) (refl, refl))
    (λ i. rw i (refl, refl)))
    ∙ sym (entries-tally n (Ts ++ (T ∷ [])))
    )
