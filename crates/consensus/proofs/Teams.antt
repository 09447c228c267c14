-- What two calls for teams say of each other, over what they answered and left: the order of the tables plays no part, one table gives its
-- exact reading, and one table more only takes rows away or lowers costs. Assumes nothing.
use mathlib.Core.List.{List, Memᴰ, map, ◌++◌}
use Rattle.std.specs.Prelude.{◌↔◌, ◌≡◌, ℕ, ◌+◌, ◌^◌, ◌≤◌, length, Ok}
use Rattle.std.proofs.Common.{ap, subst, sym, ◌∙◌, arith}
use Rattle.std.proofs.lemmas.List.{length-map}
use Rattle.ground.specs.Ascending.{Between}
use Rattle.ground.specs.Filters.{Each}
use Rattle.ground.specs.Laws.Ascending.{between_ext, between_filter}
use Rattle.ground.specs.Laws.Filters.{filter-mem, mem-filter}
use Rattle.ground.specs.Laws.Maps.{map-mem, mem-map}
use Rattle.ground.specs.Laws.Members.{is_in-mem, mem-is_in}
use Rattle.ground.specs.Members.{is_in}
use Rattle.theory.specs.Comparison.{common}
use Rattle.theory.specs.Laws.Comparison.{split_length}
use Rattle.theory.specs.LinkTables.{far, fars}
use Rattle.theory.specs.Outcomes.{LeftRows}
use Rattle.tree.specs.Exact.{Wired, exact_rows}
use Rattle.tree.proofs.Promises.{exact_answer}
use Rattle.tree.specs.Readings.{exact_outcome}
use Rattle.tree.specs.Writing.{rows_left}
use Rattle.shared_rows.proofs.Laws.Members.{consensus_same}
use Rattle.consensus.specs.Call.{consensus_outcome}
use Rattle.consensus.specs.Laws.Joined.{each_table, in_tables, part-front, table_in_lem}
use Rattle.consensus.proofs.Laws.Left.{consensus-left, left_again}
use Rattle.consensus.proofs.Laws.One.{exact_to_one, one_to_exact, only_table}
use Rattle.consensus.proofs.Promises.{consensus-answer}
use Rattle.consensus.specs.Team.{Joined, shared_links, tables_in}
pub use Rattle.consensus.specs.Teams.{SameTables, FewerLinks}

pub same_shared : (L n : ℕ) (ts us : List (List ℕ)) → SameTables ts us → shared_links L n ts ≡ shared_links L n us
same_shared L n ts us s =
    let F = exact_rows L n in
    consensus_same n (map F ts) (map F us)
    (record {
      to = λ T m. let r = map-mem F ts T m in subst (λ X. Memᴰ X (map F us)) (sym r.1) (mem-map F (s.to r.0 r.2));
      back = λ T m. let r = map-mem F us T m in subst (λ X. Memᴰ X (map F ts)) (sym r.1) (mem-map F (s.back r.0 r.2));
    })

fewer : (m k : ℕ) (l r : List ℕ) → Between m l k → Between m r k → Each l (λ x. Memᴰ x r) → length l ≤ length r
fewer m k l r a b h =
    let e : l ≡ common r l =
    between_ext m k l (common r l) a (between_filter (λ x. is_in x l) m k r b) (λ x t. mem-filter (λ y. is_in y l) x (mem-is_in x l t) r (h x t))
    (λ x t. is_in-mem x l (filter-mem (λ y. is_in y l) r x t).0) in
    omega (arith, ap length e, split_length (λ x. is_in x l) r)

module _ (L n m k : ℕ) (t u f v : List ℕ) where
  -- the order of accepted tables plays no part: any rearrangement of them, joined in u, gives the same answer and leaves the same places
  pub any_order : Joined n k u → SameTables (tables_in n m t) (tables_in n k u) → (r : ℕ) (f' v' : List ℕ)
      → LeftRows (consensus_outcome L n m t f v) (Ok r) f' v' → LeftRows (consensus_outcome L n k u f v) (Ok r) f' v'
  any_order j s r f' v' l =
      let a = consensus-left L n m t f v r f' v' l in
      left_again L n m k t u f v r f' v' l j (λ x q. a.wired x (s.back x q)) (same_shared L n (tables_in n m t) (tables_in n k u) s)

  -- more tables only take rows away or lower costs: g' and w' were left for tables among which are all those of the first call
  pub more-tables : Each (tables_in n m t) (λ x. Memᴰ x (tables_in n k u)) → (r s : ℕ) (g w f' v' g' w' : List ℕ)
      → LeftRows (consensus_outcome L n m t f v) (Ok r) f' v' → LeftRows (consensus_outcome L n k u g w) (Ok s) g' w'
      → FewerLinks r (rows_left r f' v') s (rows_left s g' w')
  more-tables h r s g w f' v' g' w' p q =
      let x = consensus-left L n m t f v r f' v' p in
      let y = consensus-left L n k u g w s g' w' q in
      let a = (consensus-answer L n m t f v r f' v' p).shared in
      let b = (consensus-answer L n k u g w s g' w' q).shared in
      let sides : Each (fars (rows_left s g' w')) (λ S. Memᴰ S (fars (rows_left r f' v'))) = λ S i. (a.members S).1 (λ z c. (b.members S).0 i z (h z c)) in
      record {
        sides = sides;
        rows =
            omega (
              arith,
              x.counted ∙ ap length (sym x.left.rows),
              y.counted ∙ ap length (sym y.left.rows),
              length-map (rows_left r f' v') far,
              length-map (rows_left s g' w') far,
              fewer 1 (2 ^ n) (fars (rows_left s g' w')) (fars (rows_left r f' v')) b.tree.tree.ascending a.tree.tree.ascending sides,
            );
        costs = λ S. let c = a.costs S in omega (arith, c.at, (b.costs S).low c.table (h c.table c.is_one));
      }

-- one table gives its exact reading: the two calls answer the same count and leave the same places
pub one_table : (L n : ℕ) (t f v : List ℕ) (r : ℕ) (f' v' : List ℕ)
    → LeftRows (consensus_outcome L n 1 t f v) (Ok r) f' v' ↔ LeftRows (exact_outcome L n t f v) (Ok r) f' v'
one_table L n t f v r f' v' = (
  λ l.
      let a = consensus-left L n 1 t f v r f' v' l in
      let w = subst (Wired L n) (only_table n t a.ready.joined.sized) (table_in_lem n 1 t (Wired L n) a.wired 0 (omega arith)) in
      one_to_exact L n t f v a.ready w r f' v' l,
  λ l.
      let a = exact_answer L n t f v r f' v' l in
      let c = a.ready.table in
      let j : Joined n 1 t = record { some = c.some; few = c.few; one = omega arith; sixteen = omega arith; sized = omega (arith, c.sized) } in
      exact_to_one L n t f v (record { joined = j; far-room = a.ready.far-room; cost-room = a.ready.cost-room })
      (record { table = c; condition = a.condition }) r f' v' l,
)

-- one table u more behind the first m only takes rows away or lowers costs
pub one_more : (L n m : ℕ) (t u f v g w : List ℕ) (r s : ℕ) (f' v' g' w' : List ℕ) → LeftRows (consensus_outcome L n m t f v) (Ok r) f' v'
    → LeftRows (consensus_outcome L n (m + 1) (t ++ u) g w) (Ok s) g' w'
    → FewerLinks r (rows_left r f' v') s (rows_left s g' w')
one_more L n m t u f v g w r s f' v' g' w' p q =
    let j = (consensus-left L n m t f v r f' v' p).ready.joined in
    more-tables L n m (m + 1) t (t ++ u) f v
    (each_table n m t (λ x. Memᴰ x (tables_in n (m + 1) (t ++ u)))
    (λ i l. subst (λ x. Memᴰ x (tables_in n (m + 1) (t ++ u))) (part-front n m t u j i l) (in_tables n (m + 1) (t ++ u) i (omega arith))))
    r s g w f' v' g' w' p q
