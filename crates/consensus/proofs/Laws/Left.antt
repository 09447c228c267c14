-- What the answer of the call for a team says: which tables were accepted, which was refused first, and what was left. Assumes nothing.
use Rattle.ground.specs.Refusals.{Check, refused_in}
use Rattle.std.specs.Prelude.{List, refl, ◌≡◌, suc, zero, ℕ, ◌+◌, ◌<◌, ◌≤◌, eqb, length, Ok, Err}
use Rattle.std.proofs.Common.{ap, subst, sym, ◌∙◌, arith, eqb-true}
use Rattle.std.proofs.lemmas.Bool.{eqb-false}
use borrow.Table.Steps.{cases}
use Rattle.ground.specs.Filters.{Each}
use Rattle.ground.specs.Laws.Refusals.{if_accepted}
use Rattle.theory.specs.LinkTables.{Row}
use Rattle.theory.specs.Outcomes.{LeftRows, RowsOutcome}
use Rattle.tree.specs.Exact.{Wired, tree_check}
use Rattle.tree.proofs.Laws.Writing.{written_stand}
use Rattle.tree.specs.Writing.{RowsStand}
use Rattle.consensus.specs.Call.{consensus_outcome, leaving, numbered, table_by_table, team_answer, team_check, Shared}
use Rattle.consensus.specs.Laws.Joined.{each_table, passed-wired, table_in_lem, tables-passed, wired-passed}
use Rattle.consensus.proofs.Laws.Taking.{team_passed}
use Rattle.consensus.specs.Team.{Joined, TeamReady, shared_links, table_at, tables_in}

numbered-rows : (k : ℕ) (c : Check) (y : Shared) (r : ℕ) → numbered k c y ≡ Ok r → (c ≡ Ok tt) × (y ≡ Ok r)
numbered-rows k c y r = if_accepted (refused_in k) c y (λ q e. absurd (let o : ◌≡◌ {A = ℕ} 0 1 = cc in omega arith))

-- rows only where every table passed
rows-passed : (L n : ℕ) (t : List ℕ) (k m : ℕ) (y : Shared) (r : ℕ) → table_by_table L n t k m y ≡ Ok r
    → ((i : ℕ) → k ≤ i → i < k + m → tree_check L n (table_at n t i) ≡ Ok tt) × (y ≡ Ok r)
unfolding table_by_table
rows-passed L n t k zero y r e = (λ i a b. absurd (omega arith), e)
rows-passed L n t k (suc m) y r e =
    let p = numbered-rows (k + 1) (tree_check L n (table_at n t k)) (table_by_table L n t (suc k) m y) r e in
    let q = rows-passed L n t (suc k) m y r p.1 in
    (λ i a b. cases (eqb i k) (λ s. rw (eqb-true i k s) p.0) (λ s. q.0 i (omega (arith, eqb-false i k s)) (omega arith)), q.1)

module _ (L n m : ℕ) (t f v : List ℕ) where
  -- ## Accepted

  pub record ConsensusLeft (r : ℕ) (f' v' : List ℕ) : Type 0 where
    pub ready : TeamReady n m t (length f) (length v)
    pub wired : Each (tables_in n m t) (Wired L n)
    pub counted : r ≡ length (shared_links L n (tables_in n m t))
    pub left : RowsStand (shared_links L n (tables_in n m t)) r f v f' v'

  abbrev T : List Row
  T = shared_links L n (tables_in n m t)

  pub consensus-accepted : (r : ℕ) → numbered 0 (team_check n m t (length f) (length v)) (team_answer L n m t) ≡ Ok r
      → TeamReady n m t (length f) (length v) × Each (tables_in n m t) (Wired L n)
  consensus-accepted r e =
      let a = numbered-rows 0 (team_check n m t (length f) (length v)) (team_answer L n m t) r e in
      let b = rows-passed L n t 0 m (Ok (length T)) r a.1 in
      let y = (team_passed n m t (length f) (length v)).0 a.0 in
      (y, each_table n m t (Wired L n) (λ i h. passed-wired L n m t y.joined i h (b.0 i (omega arith) (omega arith))))

  -- accepted tables with room are read
  pub consensus_reads : TeamReady n m t (length f) (length v) → Each (tables_in n m t) (Wired L n)
      → numbered 0 (team_check n m t (length f) (length v)) (team_answer L n m t) ≡ Ok (length T)
  consensus_reads y w =
      rw ((team_passed n m t (length f) (length v)).1 y)
      (tables-passed L n t (Ok (length T)) 0 m (λ i a b. wired-passed L n m t y.joined i (omega arith) (table_in_lem n m t (Wired L n) w i (omega arith))))

  pub consensus-left : (r : ℕ) (f' v' : List ℕ) → LeftRows (consensus_outcome L n m t f v) (Ok r) f' v' → ConsensusLeft r f' v'
  consensus-left r f' v' = go (numbered 0 (team_check n m t (length f) (length v)) (team_answer L n m t)) refl
    where
      same : (x y : ℕ) → ◌≡◌ {A = Shared} (Ok x) (Ok y) → x ≡ y
      same x y e = cc

      go : (x : Shared) → numbered 0 (team_check n m t (length f) (length v)) (team_answer L n m t) ≡ x → LeftRows (leaving x T f v) (Ok r) f' v'
          → ConsensusLeft r f' v'
      go (Err x) e l = absurd (let w = l.answered in let z : ◌≡◌ {A = ℕ} 0 1 = cc in omega arith)
      go (Ok x) e l =
          let a = consensus-accepted x e in
          let c : r ≡ length T = same r x l.answered ∙ same x (length T) (sym e ∙ consensus_reads a.0 a.1) in
          record {
            ready = a.0;
            wired = a.1;
            counted = c;
            left = written_stand T r f v f' v' (record { counted = c; far-front = l.far-sides; cost-front = l.doubled });
          }

-- another call over accepted tables that share the same links, into the same places, is accepted and leaves the same
pub left_again : (L n m k : ℕ) (t u f v : List ℕ) (r : ℕ) (f' v' : List ℕ) → LeftRows (consensus_outcome L n m t f v) (Ok r) f' v' → Joined n k u
    → Each (tables_in n k u) (Wired L n) → shared_links L n (tables_in n m t) ≡ shared_links L n (tables_in n k u)
    → LeftRows (consensus_outcome L n k u f v) (Ok r) f' v'
left_again L n m k t u f v r f' v' l j w e =
    let a = consensus-left L n m t f v r f' v' l in
    let T = shared_links L n (tables_in n m t) in
    let U = shared_links L n (tables_in n k u) in
    let x = consensus_reads L n m t f v a.ready a.wired in
    let y = consensus_reads L n k u f v (record { joined = j; far-room = a.ready.far-room; cost-room = a.ready.cost-room }) w in
    let z : consensus_outcome L n m t f v ≡ consensus_outcome L n k u f v =
    ap (λ (s : Shared). leaving s T f v) x ∙ ap (λ (X : List Row). leaving (Ok (length X)) X f v) e ∙ ap (λ (s : Shared). leaving s U f v) (sym y) in
    subst (λ (o : RowsOutcome Shared). LeftRows o (Ok r) f' v') z l
