-- What the promise of the comparison is worth: what an accepted answer says of the two trees, and that the count is a distance. Assumes
-- nothing.
use mathlib.Core.List.{List, Memᴰ}
use Rattle.std.specs.Prelude.{refl, ◌≡◌, ℕ, ◌+◌, ◌^◌, ◌≤◌, length, Ok}
use Rattle.std.proofs.Common.{ap, ap₂, subst, sym, ◌∙◌, add_comm, arith}
use Rattle.ground.specs.Ascending.{Between}
use Rattle.ground.specs.Laws.Ascending.{between_filter, between_mem}
use Rattle.ground.specs.Filters.{Each}
use Rattle.ground.specs.Laws.Filters.{filter-mem}
use Rattle.ground.specs.Laws.Maps.{map-mem}
use Rattle.theory.specs.Comparison.{inners}
use Rattle.theory.specs.FarSides.{inner, sides}
use Rattle.theory.specs.Laws.Comparison.{common_same}
use Rattle.theory.specs.Laws.FarSides.{sides_all, sides_between}
use Rattle.theory.specs.LinkTables.{LinkTable, Row, far, fars}
use Rattle.theory.specs.Readings.{Exact}
use Rattle.theory.specs.Tables.{cost}
use Rattle.tree.specs.Exact.{Wired, exact_rows, exact_sides}
use Rattle.tree.proofs.Laws.Exact.{exact_rows_lem, exact_tree}
use Rattle.counts.specs.Differ.{differ, over_of}
use Rattle.counts.proofs.Laws.Distance.{differing_exactly, differing-over, differing_sym, differing_zero}
use Rattle.counts.proofs.Laws.Formula.{formula, same_numbers}
use Rattle.counts.specs.Laws.InnerRows.{inner-most}
use Rattle.counts.specs.declared.Difference.{Difference}
use Rattle.compare.specs.Call.{comparison}
use Rattle.compare.proofs.Laws.Answers.{compare_accepted, compare_accepts}
pub use Rattle.compare.specs.Promises.{inner_rows, exactly_one, TreesDiffer, turned}

tree_sides : (L n : ℕ) (T : List Row) → LinkTable L n T → Each (inner_rows n T) (λ S. Memᴰ S (sides n))
tree_sides L n T t S m =
    let q = filter-mem (inner n) (fars T) S m in
    let b = between_mem 1 (2 ^ n) (fars T) t.ascending S q.1 in
    let r = map-mem far T S q.1 in
    sides_all n S (record { some = b.0; fits = b.1; near = rw r.1 (t.near r.0 r.2) })

tree_ascends : (L n : ℕ) (T : List Row) → LinkTable L n T → Between 1 (inner_rows n T) (2 ^ n)
tree_ascends L n T t = between_filter (inner n) 1 (2 ^ n) (fars T) t.ascending

pub trees-differ : (L n : ℕ) (T U : List Row) → 3 ≤ n → LinkTable L n T → LinkTable L n U → TreesDiffer n T U (differ n (fars T) (fars U))
trees-differ L n T U h t u =
    let a = tree_ascends L n T t in
    let b = tree_ascends L n U u in
    let f = formula n (2 ^ n) (fars T) (fars U) t.ascending u.ascending in
    let i = inner-most L n T h t in
    let j = inner-most L n U h u in
    record {
      in_first = refl;
      in_second = refl;
      in_both = refl;
      in_one = differing_exactly 1 (2 ^ n) (sides n) (inner_rows n T) (inner_rows n U) (sides_between n) a b (tree_sides L n T t) (tree_sides L n U u);
      none = differing_zero 1 (2 ^ n) (inner_rows n T) (inner_rows n U) a b;
      adds_up = f;
      three_links = (λ e. (omega (arith, f, i, j), omega (arith, f, i, j)), λ e. omega (arith, f));
      most = omega (arith, f, i, j);
    }

module _ (L n : ℕ) where
  -- ## An accepted answer speaks of the two exact readings

  -- what holds of the difference of every two link tables holds of it
  pub of_trees : (P : List Row → List Row → Difference → Type 0)
      → ((T U : List Row) → 3 ≤ n → LinkTable L n T → LinkTable L n U → P T U (differ n (fars T) (fars U)))
      → (t u : List ℕ) (x : Difference) → comparison L n t u ≡ Ok x → (T U : List Row) → Exact L (cost t n) n T → Exact L (cost u n) n U
      → P T U x
  of_trees P h t u x e T U p q =
      let a = compare_accepted L n t u x e in
      let v = (exact_rows_lem L n t a.first T).0 p in
      let w = (exact_rows_lem L n u a.second U).0 q in
      let s : x ≡ differ n (fars T) (fars U) = a.answer ∙ ap₂ (λ (A B : List Row). differ n (fars A) (fars B)) (sym v) (sym w) in
      subst (P T U) (sym s) (h T U a.first.table.some p.tree q.tree)

  pub compare_says : (t u : List ℕ) (x : Difference) → comparison L n t u ≡ Ok x → (T U : List Row) → Exact L (cost t n) n T → Exact L (cost u n) n U
      → TreesDiffer n T U x
  compare_says = of_trees (TreesDiffer n) (trees-differ L n)

  -- ## The count is a distance

  ascends : (t : List ℕ) → Wired L n t → Between 1 (inners n (exact_sides L n t)) (2 ^ n)
  ascends t a = tree_ascends L n (exact_rows L n t) (exact_tree L n t a).tree

  -- the same both ways
  pub compare_turned : (t u : List ℕ) (x : Difference) → comparison L n t u ≡ Ok x → comparison L n u t ≡ Ok (turned x)
  compare_turned t u x e =
      let a = compare_accepted L n t u x e in
      let l = inners n (exact_sides L n t) in
      let r = inners n (exact_sides L n u) in
      let c = ap length (common_same 1 (2 ^ n) r l (ascends u a.second) (ascends t a.first)) in
      let v = ap over_of (add_comm (length r) (length l)) in
      compare_accepts L n u t a.second a.first
      ∙ ap Ok (same_numbers refl refl c (differing_sym r l) v)
      ∙ ap (λ (d : Difference). Ok (turned d)) (sym a.answer)

  -- never longer over a third, which is accepted with both
  pub compare_over : (t u w : List ℕ) (x y : Difference) → comparison L n t u ≡ Ok x → comparison L n u w ≡ Ok y
      → (z : Difference) × (comparison L n t w ≡ Ok z) × (z.count ≤ x.count + y.count)
  compare_over t u w x y e f =
      let a = compare_accepted L n t u x e in
      let b = compare_accepted L n u w y f in
      let l = inners n (exact_sides L n t) in
      let m = inners n (exact_sides L n u) in
      let r = inners n (exact_sides L n w) in (
        differ n (exact_sides L n t) (exact_sides L n w),
        compare_accepts L n t w a.first b.second,
        omega (
          arith,
          ap (λ (d : Difference). d.count) a.answer,
          ap (λ (d : Difference). d.count) b.answer,
          differing-over 1 (2 ^ n) l m r (ascends t a.first) (ascends u a.second) (ascends w b.second),
        ),
      )
