-- The links that accepted tables share: their trees are link tables, and one table more is one tree more to meet. Assumes nothing.
use Rattle.std.specs.Prelude.{List, [], map, ◌++◌, ◌∷◌, refl, ◌≡◌, suc, zero, ℕ, ◌+◌, ◌≤◌, eqb}
use Rattle.std.proofs.Common.{ap, subst, sym, ◌∙◌, add-one, arith, eqb-true}
use Rattle.std.proofs.lemmas.Bool.{eqb-false}
use borrow.Table.Steps.{cases}
use Rattle.ground.specs.Filters.{Each}
use Rattle.ground.specs.Laws.Maps.{map-append, map-mem}
use Rattle.ground.specs.Laws.Ranges.{from_last}
use Rattle.ground.specs.Ranges.{from}
use Rattle.theory.specs.LinkTables.{LinkTable, Row}
use Rattle.tree.specs.Exact.{Wired, exact_rows}
use Rattle.tree.proofs.Laws.Exact.{exact_tree}
use Rattle.shared_rows.proofs.Laws.Fold.{consensus-fold, consensus-one, consensus_tree}
use Rattle.shared_rows.specs.Meet.{meet, meet_all}
use Rattle.consensus.specs.Laws.Joined.{each_table, table_in_lem}
use Rattle.consensus.specs.Team.{shared_links, table_at, tables_in}

meet_last : (T : List Row) (Ts : List (List Row)) (U : List Row) → meet_all T (Ts ++ (U ∷ [])) ≡ meet (meet_all T Ts) U
meet_last T [] U = refl
meet_last T (S ∷ Ts) U = meet_last (meet T S) Ts U

-- ## The trees

module _ (L n : ℕ) where
  pub tree_of : (t : List ℕ) → Wired L n t → LinkTable L n (exact_rows L n t)
  tree_of t w = (exact_tree L n t w).tree

  pub trees_of : (ts : List (List ℕ)) → Each ts (Wired L n) → Each (map (exact_rows L n) ts) (LinkTable L n)
  trees_of ts h T m = let r = map-mem (exact_rows L n) ts T m in subst (LinkTable L n) (sym r.1) (tree_of r.0 (h r.0 r.2))

  pub shared_tree : (t : List ℕ) (ts : List (List ℕ)) → Each (t ∷ ts) (Wired L n) → LinkTable L n (shared_links L n (t ∷ ts))
  shared_tree t ts h = consensus_tree L n (exact_rows L n t) (map (exact_rows L n) ts) (trees_of (t ∷ ts) h)

  pub shared-one : (t : List ℕ) → Wired L n t → shared_links L n (t ∷ []) ≡ exact_rows L n t
  shared-one t w = consensus-one L n (exact_rows L n t) (tree_of t w)

-- ## The tables of a team

module _ (L n : ℕ) (t : List ℕ) where
  pub fewer : (m k : ℕ) → k ≤ m → Each (tables_in n m t) (Wired L n) → Each (tables_in n k t) (Wired L n)
  fewer m k l h = each_table n k t (Wired L n) (λ i q. table_in_lem n m t (Wired L n) h i (omega arith))

  pub wired-more : (k : ℕ) → Each (tables_in n k t) (Wired L n) → Wired L n (table_at n t k) → Each (tables_in n (k + 1) t) (Wired L n)
  wired-more k h w =
      each_table n (k + 1) t (Wired L n) (λ i q. cases (eqb i k) (λ s. rw (eqb-true i k s) w)
      (λ s. table_in_lem n k t (Wired L n) h i (omega (arith, eqb-false i k s))))

  -- what the first k share is a link table
  pub first_tree : (k : ℕ) → 1 ≤ k → Each (tables_in n k t) (Wired L n) → LinkTable L n (shared_links L n (tables_in n k t))
  first_tree zero a h = absurd (omega arith)
  first_tree (suc k) a h = shared_tree L n (table_at n t 0) (map (table_at n t) (from 1 k)) h

  -- table k is one tree more
  pub share_next : (k : ℕ) → 1 ≤ k → Each (tables_in n (k + 1) t) (Wired L n)
      → shared_links L n (tables_in n (k + 1) t) ≡ meet (shared_links L n (tables_in n k t)) (exact_rows L n (table_at n t k))
  share_next zero a h = absurd (omega arith)
  share_next (suc k) a h =
      let F = exact_rows L n in
      let T = F (table_at n t 0) in
      let Ts = map F (map (table_at n t) (from 1 k)) in
      let U = F (table_at n t (suc k)) in
      let e : 1 + k ≡ suc k = omega arith in
      let all : map F (map (table_at n t) (from 1 (suc k))) ≡ Ts ++ (U ∷ []) =
      ap (λ l. map F (map (table_at n t) l)) (from_last 1 k) ∙ ap (map F) (map-append (table_at n t) (from 1 k) ((1 + k) ∷ []))
      ∙ map-append F (map (table_at n t) (from 1 k)) (table_at n t (1 + k) ∷ []) ∙ ap (λ x. Ts ++ (F (table_at n t x) ∷ [])) e in
      let more = rw add-one at h in
      rw add-one
      (consensus-fold L n T (map F (map (table_at n t) (from 1 (suc k)))) (trees_of L n (tables_in n (suc (suc k)) t) more)
      ∙ ap (meet_all T) all
      ∙ meet_last T Ts U
      ∙ ap (λ X. meet X U) (sym (consensus-fold L n T Ts (trees_of L n (tables_in n (suc k) t) (fewer (suc (suc k)) (suc k) (omega arith) more)))))
