-- What the links shared by a team are worth, as document 02 says it: what an accepted call left in the two slices, f' and v' after f and v.
-- Assumes nothing.
use mathlib.Core.List.{List, Memᴰ, map, ◌∷◌}
use Rattle.std.specs.Prelude.{refl, ◌≡◌, suc, zero, ℕ, ◌^◌, ◌≤◌, length, Ok}
use Rattle.std.proofs.Common.{ap, subst, sym, ◌∙◌, arith}
use Rattle.ground.specs.Filters.{Each}
use Rattle.ground.specs.Laws.Maps.{map-mem, mem-map}
use Rattle.ground.specs.Ranges.{from}
use Rattle.theory.proofs.Demands.{one_tree}
use Rattle.theory.specs.LinkTables.{LinkTable, Row, cost_of, fars}
use Rattle.theory.specs.Outcomes.{LeftRows}
use Rattle.tree.specs.Exact.{Wired, exact_rows}
use Rattle.tree.proofs.Laws.Exact.{exact_rows_lem}
use Rattle.tree.specs.Writing.{RowsStand, rows_left}
use Rattle.shared_rows.proofs.Laws.Fold.{consensus-cost, consensus-mem}
use Rattle.shared_rows.proofs.Laws.Members.{smallest_is}
use Rattle.shared_rows.specs.Laws.Rows.{cost-row}
use Rattle.consensus.specs.Call.{consensus_outcome}
use Rattle.consensus.proofs.Laws.Left.{consensus-left}
use Rattle.consensus.specs.Laws.Sharing.{shared_tree, trees_of}
use Rattle.consensus.specs.Team.{TeamReady, shared_links, table_at, tables_in}
pub use Rattle.consensus.specs.Promises.{SmallestCost, SharedByTeam}

-- of one accepted table or more
pub shared_by_team : (L n : ℕ) (t : List ℕ) (ts : List (List ℕ)) → Each (t ∷ ts) (Wired L n) → SharedByTeam L n (t ∷ ts) (shared_links L n (t ∷ ts))
shared_by_team L n t ts h =
    let F = exact_rows L n in
    let all = trees_of L n (t ∷ ts) h in
    record {
      trees = λ u m. (exact_rows_lem L n u (h u m) (F u)).1 refl;
      members = λ S. (
        λ m u k. (consensus-mem L n (F t) (map F ts) all S).0 m (F u) (mem-map F k),
        λ p. (consensus-mem L n (F t) (map F ts) all S).1
            (λ T m. let r = map-mem F (t ∷ ts) T m in subst (λ X. Memᴰ S (fars X)) (sym r.1) (p r.0 r.2)),
      );
      rows = λ r m. subst (SmallestCost L n (t ∷ ts) r.0) (cost-row 1 (2 ^ n) T drawn.ascending r m) (smallest-cost r.0);
      costs = smallest-cost;
      tree = one_tree L n T (h t (Memᴰ.head refl)).table.some drawn;
    }
  where
    T : List Row
    T = shared_links L n (t ∷ ts)

    drawn : LinkTable L n T
    drawn = shared_tree L n t ts h

    smallest-cost : (S : ℕ) → SmallestCost L n (t ∷ ts) S (cost_of T S)
    smallest-cost S =
        let F = exact_rows L n in
        let s = smallest_is (F t) (map F ts) S in
        let e = consensus-cost L n (F t) (map F ts) (trees_of L n (t ∷ ts) h) S in
        let r = map-mem F (t ∷ ts) s.tree s.is_one in
        record {
          low = λ u m. omega (arith, e, s.low (F u) (mem-map F m));
          table = r.0;
          is_one = r.2;
          at = e ∙ s.at ∙ ap (λ (X : List Row). cost_of X S) r.1;
        }

module _ (L n m : ℕ) (t f v : List ℕ) where
  -- an accepted call: one to sixteen tables, joined, with room; each is accepted by the exact reading; the r rows left are the links that
  -- they share, and every place behind them is as it was
  pub record ConsensusAnswer (r : ℕ) (f' v' : List ℕ) : Type 0 where
    pub ready : TeamReady n m t (length f) (length v)
    pub wired : Each (tables_in n m t) (Wired L n)
    pub counted : r ≡ length (rows_left r f' v')
    pub left : RowsStand (shared_links L n (tables_in n m t)) r f v f' v'
    pub shared : SharedByTeam L n (tables_in n m t) (rows_left r f' v')

  pub consensus-answer : (r : ℕ) (f' v' : List ℕ) → LeftRows (consensus_outcome L n m t f v) (Ok r) f' v' → ConsensusAnswer r f' v'
  consensus-answer r f' v' l =
      let a = consensus-left L n m t f v r f' v' l in
      record {
        ready = a.ready;
        wired = a.wired;
        counted = a.counted ∙ sym (ap length a.left.rows);
        left = a.left;
        shared = subst (SharedByTeam L n (tables_in n m t)) (sym a.left.rows) (all m a.ready.joined.one a.wired);
      }
    where
      all : (k : ℕ) → 1 ≤ k → Each (tables_in n k t) (Wired L n) → SharedByTeam L n (tables_in n k t) (shared_links L n (tables_in n k t))
      all zero h w = absurd (omega arith)
      all (suc k) h w = shared_by_team L n (table_at n t 0) (map (table_at n t) (from 1 k)) w
