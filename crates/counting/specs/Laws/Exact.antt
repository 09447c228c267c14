-- The exact reading of a table that the reader accepted: it gets 7, or its tree stands in two local arrays. Assumes nothing.
use Rattle.ground.specs.Refusals.{Check, Written}
use Rattle.std.proofs.Math.Bool.{false}
use Rattle.std.specs.Prelude.{true, List, ℕ, ◌≤◌, Ok, Err}
use Rattle.std.proofs.Math.Path.{ap, ap₂, refl, subst, sym, ◌≡◌}
use Rattle.std.proofs.Common.{◌∙◌, arith}
use Rattle.std.proofs.Math.ListN.{length}
use Rattle.ground.specs.declared.Refusal.{Refusal}
use Rattle.theory.specs.Laws.JoinedRows.{rows_of-all}
use Rattle.theory.specs.LinkTables.{rows_of}
use Rattle.theory.specs.Outcomes.{LeftRows}
use Rattle.theory.specs.Tables.{CostTable, cost, limit}
use Rattle.wiring.specs.Check.{wiring_check}
use Rattle.tree.specs.Exact.{exact_rows}
use Rattle.tree.specs.LocalRows.{rows_in}
use Rattle.tree.proofs.Laws.Exact.{exact_check_lem, table_sized, tree_wiring}
use Rattle.tree.specs.Laws.LocalRows.{rows_in-costs, rows_in-fars}
use Rattle.tree.proofs.Laws.Writing.{left_stand}
use Rattle.tree.proofs.Promises.{exact_answer}
use Rattle.tree.specs.Readings.{exact_check, exact_outcome}
use Rattle.tree.specs.Writing.{rows_left}
use Rattle.figures.specs.Tables.{Table, is_accepted, table_of, tree_of}
use Rattle.counting.specs.Ready.{TableReady, TreeReady}
use Rattle.counting.specs.declared.Standing.{Standing}

module _ (n more : ℕ) (u f v f' v' : List ℕ) (c : CostTable limit n u) (a : length f ≡ 128) (b : length v ≡ 128) (w : Written)
    (l : LeftRows (exact_outcome limit n u f v) w f' v') where
  -- no refusal but 7 is left
  checks : exact_check limit n u (length f) (length v) ≡ wiring_check (cost u n) n
  checks =
      exact_check_lem limit n u c.some c.few (length f) (length v) (omega (arith, c.few)) (omega (arith, c.few)) ∙ table_sized limit n u c.sized
      ∙ tree_wiring limit n u c

  pub exact_apart : (q : Refusal) → w ≡ Err q → is_accepted (table_of n more u) ≡ false
  unfolding is_accepted
  exact_apart q e = go (wiring_check (cost u n) n) refl
    where
      go : (x : Check) → wiring_check (cost u n) n ≡ x → is_accepted (table_of n more u) ≡ false
      go (Err r) s = rw s
      go (Ok tt) s = absurd (let z = rw (e, checks, s) at l.answered in let o : ◌≡◌ {A = ℕ} 0 1 = cc in omega arith)

  -- accepted: its rows stand in the first k places
  record Held (k : ℕ) : Type 0 where
    pub accepted : is_accepted (table_of n more u) ≡ true
    pub is : rows_in f' v' k ≡ tree_of limit (table_of n more u)
    pub few : k ≤ 128

  exact_tree : (k : ℕ) → w ≡ Ok k → length f' ≡ 128 → length v' ≡ 128 → Held k
  unfolding is_accepted
  exact_tree k e g h =
      let l' = subst (λ r. LeftRows (exact_outcome limit n u f v) r f' v') e l in
      let s = left_stand (exact_check limit n u (length f) (length v)) (exact_rows limit n u) k f v f' v' l' in
      let x = exact_answer limit n u f v k f' v' l' in
      let few : k ≤ 128 = omega (arith, counted (rw s.0 at l'.answered), ap length x.left.rows, x.tree.most, c.few) in
      let is : rows_left k f' v' ≡ rows_in f' v' k =
      ap₂ rows_of (rows_in-fars f' v' k (omega arith)) (rows_in-costs f' v' k (omega arith)) ∙ rows_of-all (rows_in f' v' k) in
      record { accepted = rw (sym checks ∙ s.0); is = sym is ∙ x.left.rows; few = few }
    where
      counted : ◌≡◌ {A = Written} (Ok k) (Ok (length (exact_rows limit n u))) → k ≡ length (exact_rows limit n u)
      counted e = cc

-- so the tree is ready to be taken
pub exact_ready : (ts : List Table) (n more : ℕ) (u f v f' v' : List ℕ) (here : Standing) (fs ns ss : List ℕ) → TableReady ts (table_of n more u) here fs ns ss
    → length f ≡ 128 → length v ≡ 128 → (w : Written) → LeftRows (exact_outcome limit n u f v) w f' v' → (k : ℕ) → w ≡ Ok k → length f' ≡ 128
    → length v' ≡ 128 → TreeReady ts (table_of n more u) (record { count = k; fars = f'; costs = v' }) here fs ns ss
exact_ready ts n more u f v f' v' here fs ns ss y a b w l k e g h =
    let t = exact_tree n more u f v f' v' y.read.formed a b w l k e g h in
    record { table = y; accepted = t.accepted; is = t.is; far-room = g; cost-room = h; few = t.few }
