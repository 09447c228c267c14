-- A table more with its tree, put in and counted. Assumes nothing.
use Rattle.std.specs.Prelude.{false, List, [], ◌++◌, ◌∷◌, refl, ◌≡◌, ℕ, ◌*◌, ◌^◌, ◌≤◌, ltb, length, take, Ok}
use Rattle.std.proofs.Common.{ap, ap₂, sym, ◌∙◌, arith, le-ltb}
use Rattle.ground.specs.Filters.{Each}
use Rattle.ground.specs.Laws.Filters.{each_end}
use Rattle.theory.specs.LinkTables.{fars}
use Rattle.theory.specs.Tables.{CostTable, limit}
use Rattle.tree.specs.LocalRows.{rows_in}
use Rattle.tree.specs.Laws.Held.{rows_in-mem}
use Rattle.counts.proofs.Laws.Formula.{filter_le}
use Rattle.seen.specs.Columns.{Stored, entries_in}
use Rattle.seen.specs.Laws.Back.{all-grows}
use Rattle.seen.specs.Laws.Columns.{stored_in}
use Rattle.seen.specs.Laws.OneMore.{entries-more}
use Rattle.seen.specs.Laws.Sizes.{entries_small, small_to}
use Rattle.seen.specs.Laws.Which.{seen_ascends}
use Rattle.seen.specs.Put.{put_all}
use Rattle.seen.specs.Ready.{PutReady}
use Rattle.seen.specs.Seen.{entries}
use Rattle.figures.specs.Figures.{entries_at, sides_at}
use Rattle.counting.specs.Laws.Before.{links}
use Rattle.figures.specs.Laws.Pairs.{last_more}
use Rattle.figures.proofs.Laws.Grown.{figures_tree}
use Rattle.figures.specs.Laws.Tables.{entries-at, entries-count, entries-sides, images-more, trees-length, trees_yes}
use Rattle.figures.specs.Checks.{many_check, most_sides}
use Rattle.counting.specs.Ready.{TreeReady}
use Rattle.figures.specs.OneMore.{with_tree}
use Rattle.figures.specs.Pairing.{last_tree, pair_count}
use Rattle.counting.specs.Taking.{Moved}
use Rattle.figures.specs.Tables.{Table, accepted, is_accepted, table_of, tree_of, trees}
use Rattle.figures.specs.declared.Figures.{Figures}
use Rattle.counting.specs.declared.Rows.{Rows}
use Rattle.counting.specs.declared.Standing.{Standing}
use Rattle.counting.specs.Laws.Taken.{far-front, tree_link}

module _ (ts : List Table) (n more : ℕ) (u : List ℕ) (tree : Rows) (here : Standing) (f t s : List ℕ)
    (y : TreeReady ts (table_of n more u) tree here f t s) where
  put_is : put_all n (rows_in tree.fars tree.costs tree.count) (entries_in f t s here.figures.sides) ≡ entries_at limit (ts ++ (table_of n more u ∷ []))
  put_is =
      let T = tree_of limit (table_of n more u) in
      let Ts = trees limit ts in
      let one = y.table.one in
      ap₂ (put_all n) y.is (stored_in _ _ _ _ _ _ _ _ y.table.read.holds.stored ∙ entries-at limit n ts one)
      ∙ sym (entries-more limit n Ts T (tree_link ts n more u tree here f t s y).tree)
      ∙ sym (entries-at limit n (ts ++ (table_of n more u ∷ [])) (each_end (λ (t : Table). t.images ≡ n) ts (table_of n more u) one refl)
      ∙ ap (entries n) (trees_yes limit ts (table_of n more u) y.accepted))

  pub put_ready : (all : ℕ) → all ≡ sides_at limit (ts ++ (table_of n more u ∷ [])) → all ≤ most_sides
      → PutReady n tree.fars tree.costs tree.count here.figures.sides all (2 ^ n) f t s
  put_ready all e h =
      let b = y.table.read in
      let Ts = trees limit ts in
      let r = b.holds.room in
      let k = (tree_link ts n more u tree here f t s y).tree in
      let m : entries_in f t s here.figures.sides ≡ entries n Ts = stored_in _ _ _ _ _ _ _ _ b.holds.stored ∙ entries-at limit n ts y.table.one in
      let cheap : Each (rows_in tree.fars tree.costs tree.count) (λ q. q.1 ≤ 2 * limit) = rw y.is k.small in
      let few : length Ts ≤ 500 = omega (arith, trees-length limit ts, filter_le is_accepted ts, b.below) in
      record {
        far_places = omega (arith, y.few, y.far-room);
        cost_places = omega (arith, y.few, y.cost-room);
        cheap = λ {i} j. cheap _ (rows_in-mem tree.fars tree.costs i tree.count j);
        rows_ascend = rw y.is k.ascending;
        sides_ascend = rw (m, entries-sides n Ts) (seen_ascends n Ts);
        small = rw m (small_to limit (length Ts) 500 (entries n Ts) few (omega (arith, few))
            (entries_small limit n Ts (λ T d. (links ts here f t s b.stands b.holds n y.table.one T d).tree)));
        counted = rw put_is (e ∙ sym (entries-count limit (ts ++ (table_of n more u ∷ []))));
        room = record { sides = omega (arith, r.sides); trees = omega (arith, r.trees); sums = omega (arith, r.sums) };
      }

  pub moved_tree : (all d : ℕ) (f' t' s' : List ℕ) → all ≡ sides_at limit (ts ++ (table_of n more u ∷ [])) → all ≤ most_sides
      → d ≡ pair_count n here.figures.accepted (take here.rows here.last) (take tree.count tree.fars)
      → Stored (put_all n (rows_in tree.fars tree.costs tree.count) (entries_in f t s here.figures.sides)) all f t s f' t' s'
      → Moved limit (many_check limit (ts ++ (table_of n more u ∷ []))) ts (table_of n more u) (record {
        standing = record {
          figures = with_tree here.figures n more all d;
          rows = tree.count;
          last = tree.fars;
        };
        stop = Ok tt;
      }) f t s f' t' s'
  moved_tree all d f' t' s' e h ed o =
      let tb = table_of n more u in
      let T = tree_of limit tb in
      let one = y.table.one in
      let x = y.table.read.stands in
      let q : ltb most_sides (sides_at limit (ts ++ (tb ∷ []))) ≡ false = le-ltb _ _ (rw e at h) in
      let w = rw put_is at o in
      let ed' : d ≡ pair_count n (length (accepted ts)) (fars (last_tree (trees limit ts))) (fars T) =
      ed ∙ ap₂ (λ (l r : List ℕ). pair_count n here.figures.accepted l r) x.last_sides (far-front ts n more u tree here f t s y)
      ∙ ap (λ (z : Figures). pair_count n z.accepted (fars (last_tree (trees limit ts))) (fars T)) x.figures in
      rw q (record {
        stopped = refl;
        stands = record {
          sound = record {
            one = rw (images-more n ts tb one refl) (each_end (λ (t : Table). t.images ≡ n) ts tb one refl);
            formed = each_end (λ (t : Table). CostTable limit t.images t.costs) ts tb x.sound.formed y.table.read.formed;
            kept = rw e at h;
          };
          figures = rw (x.figures, e) (figures_tree limit n ts tb one refl y.accepted d ed');
          last_room = y.far-room;
          few = y.few;
          last_sides = rw (trees_yes limit ts tb y.accepted, last_more (trees limit ts) T) (far-front ts n more u tree here f t s y);
        };
        grown = rw (← put_is, ← (stored_in _ _ _ _ _ _ _ _ y.table.read.holds.stored))
            (all-grows n (rows_in tree.fars tree.costs tree.count) (entries_in f t s here.figures.sides));
        stored = w;
      })
