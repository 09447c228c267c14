-- A table more with its tree: what the code asks of it, and its refusal. Assumes nothing.
use Rattle.std.specs.Prelude.{List, [], ◌++◌, ◌∷◌, refl, ◌≡◌, ℕ, ◌+◌, ◌-◌, ◌^◌, ◌≤◌, ltb, length, take, Ok, Err}
use Rattle.std.proofs.Common.{ap, sym, ◌∙◌, arith, length-take-le, ltb-false}
use Rattle.ground.specs.Ascending.{Between}
use Rattle.ground.specs.Laws.Filters.{each_end}
use Rattle.ground.specs.Laws.Refusals.{refuse_if-passed}
use Rattle.ground.specs.Refusals.{refusal, refuse_if, Check}
use Rattle.ground.specs.declared.Refusal.{Refusal}
use Rattle.theory.specs.Comparison.{common, inners}
use Rattle.theory.specs.Demands.{OneTree}
use Rattle.theory.specs.LinkTables.{Row, fars}
use Rattle.theory.specs.Tables.{limit}
use Rattle.tree.specs.Laws.LocalRows.{rows_in-fars}
use Rattle.seen.specs.Laws.HowMany.{seen_more}
use Rattle.seen.specs.Laws.Which.{seen_ascends}
use Rattle.seen.specs.Seen.{seen}
use Rattle.figures.specs.Figures.{sides_at}
use Rattle.counting.specs.Laws.Before.{kept-front, sides-room}
use Rattle.figures.specs.Laws.Pairs.{common_few}
use Rattle.figures.specs.Laws.Tables.{sides-at, table_tree, trees_yes}
use Rattle.figures.specs.Checks.{many_check, most_sides}
use Rattle.counting.specs.Ready.{TreeReady}
use Rattle.counting.specs.Taking.{Moved}
use Rattle.figures.specs.Tables.{Table, table_of, tree_of, trees}
use Rattle.figures.specs.declared.Figures.{Figures}
use Rattle.counting.specs.declared.Rows.{Rows}
use Rattle.counting.specs.declared.Standing.{Standing}

module _ (ts : List Table) (n more : ℕ) (u : List ℕ) (tree : Rows) (here : Standing) (f t s : List ℕ)
    (y : TreeReady ts (table_of n more u) tree here f t s) where
  pub tree_link : OneTree limit n (tree_of limit (table_of n more u))
  tree_link = table_tree limit (table_of n more u) y.table.read.formed

  pub far-front : take tree.count tree.fars ≡ fars (tree_of limit (table_of n more u))
  far-front = rows_in-fars tree.fars tree.costs tree.count (omega (arith, y.few, y.far-room)) ∙ ap fars y.is

  pub far_ascends : Between 1 (take tree.count tree.fars) (2 ^ n)
  far_ascends = rw far-front tree_link.tree.ascending

  pub far_few : length (take tree.count tree.fars) ≤ 128
  far_few = omega (arith, length-take-le tree.count tree.fars (omega (arith, y.few, y.far-room)), y.few)

  pub fresh_ready : (here.figures.sides ≤ length f) × Between 1 (take here.figures.sides f) (2 ^ n) × Between 1 (take tree.count tree.fars) (2 ^ n)
  fresh_ready = (
    (sides-room ts here f t s y.table.read.stands y.table.read.holds).sides,
    rw (kept-front ts here f t s y.table.read.stands y.table.read.holds n y.table.one) (seen_ascends n (trees limit ts)),
    far_ascends,
  )

  -- so many far sides are seen with it
  pub more-sides : (added : ℕ)
      → added ≡ length (inners n (take tree.count tree.fars)) - length (common (inners n (take here.figures.sides f)) (inners n (take tree.count tree.fars)))
      → here.figures.sides + added ≡ sides_at limit (ts ++ (table_of n more u ∷ []))
  more-sides added e =
      let T = tree_of limit (table_of n more u) in
      let Ts = trees limit ts in
      let one = y.table.one in
      let k = kept-front ts here f t s y.table.read.stands y.table.read.holds n one in
      let q = rw (k, far-front) at e in
      let a = seen_more limit n Ts T tree_link.tree in
      let b = common_few n (2 ^ n) (seen n Ts) (fars T) (seen_ascends n Ts) tree_link.tree.ascending in
      let c : here.figures.sides ≡ length (seen n Ts) = ap (λ (x : Figures). x.sides) y.table.read.stands.figures ∙ sides-at limit n ts one in
      let d : sides_at limit (ts ++ (table_of n more u ∷ [])) ≡ length (seen n (Ts ++ (T ∷ []))) =
      sides-at limit n (ts ++ (table_of n more u ∷ [])) (each_end (λ (t : Table). t.images ≡ n) ts (table_of n more u) one refl)
      ∙ ap (λ (Us : List (List Row)). length (seen n Us)) (trees_yes limit ts (table_of n more u) y.accepted) in
      omega (arith, q, a, b, c, d)

  -- 19 passed: there is room for all of them
  pub not_many : (m : ℕ) {c : Check} → c ≡ refuse_if (ltb most_sides m) (refusal 19 0 0 0 0) → c ≡ Ok tt → m ≤ most_sides
  not_many m h g = ltb-false most_sides m (refuse_if-passed (ltb most_sides m) _ (sym h ∙ g))

  -- refused with 19: nothing has moved
  pub moved_many : (m : ℕ) → m ≡ sides_at limit (ts ++ (table_of n more u ∷ [])) → {c : Check} {r : Refusal}
      → c ≡ refuse_if (ltb most_sides m) (refusal 19 0 0 0 0) → c ≡ Err r
      → Moved limit (many_check limit (ts ++ (table_of n more u ∷ []))) ts (table_of n more u)
      (record { standing = here; stop = Err r }) f t s f t s
  moved_many m e {c} {r} h g =
      let q : many_check limit (ts ++ (table_of n more u ∷ [])) ≡ Err r = sym (rw e at h) ∙ g in
      rw q (record { stopped = refl; stands = y.table.read.stands; grown = omega arith; stored = y.table.read.holds.stored })
