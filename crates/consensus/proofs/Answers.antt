-- When the call for a team accepts, and by what it refuses. Assumes nothing.
use Rattle.ground.specs.declared.TableRefusal.{TableRefusal}
use Rattle.ground.specs.Refusals.{Check, refused_in}
use Rattle.std.specs.Prelude.{List, ◌↔◌, refl, ◌≡◌, suc, zero, ℕ, ◌+◌, eqb, length, Ok, Err}
use Rattle.std.proofs.Common.{ap, sym, ◌∙◌, arith, eqb-true}
use Rattle.std.proofs.lemmas.Bool.{eqb-false}
use borrow.Table.Steps.{cases}
use Rattle.ground.specs.Filters.{Each}
use Rattle.ground.specs.declared.Refusal.{Refusal}
use Rattle.theory.specs.LinkTables.{Row}
use Rattle.theory.specs.Outcomes.{LeftRows}
use Rattle.tree.specs.Exact.{Wired, tree_check}
use Rattle.consensus.specs.Call.{consensus_outcome, leaving, numbered, table_by_table, team_answer, team_check, Shared}
use Rattle.consensus.proofs.InOrder.{consensus-answers}
use Rattle.consensus.proofs.Laws.Left.{consensus-accepted, consensus_reads}
use Rattle.consensus.specs.Team.{TeamReady, shared_links, table_at, tables_in}
pub use Rattle.consensus.specs.Answers.{FirstTable, FirstRefusal, of_team, of_table_lem}

-- a refusal with a table's number is one refusal of one table
both_same : (a b : ℕ) (p q : Refusal) → ◌≡◌ {A = Shared} (refused_in a p) (refused_in b q)
    → ◌≡◌ {A = TableRefusal} (record { table = a; refusal = p }) (record { table = b; refusal = q })
both_same a b p q e = cc

number_same : {a b : ℕ} {p q : Refusal} → ◌≡◌ {A = Shared} (refused_in a p) (refused_in b q) → b ≡ a
number_same {a = a} {b = b} {p = p} {q = q} e = sym (ap (λ (x : TableRefusal). x.table) (both_same a b p q e))

refusal_same : {a b : ℕ} {p q : Refusal} → ◌≡◌ {A = Shared} (refused_in a p) (refused_in b q) → p ≡ q
refusal_same {a = a} {b = b} {p = p} {q = q} e = ap (λ (x : TableRefusal). x.refusal) (both_same a b p q e)

table-refused : (L n : ℕ) (t : List ℕ) (k m r j : ℕ) (q : Refusal) → table_by_table L n t k m (Ok r) ≡ refused_in j q → FirstTable L n t k m j q
unfolding table_by_table
table-refused L n t k zero r j q e = absurd (let o : ◌≡◌ {A = ℕ} 0 1 = cc in omega arith)
table-refused L n t k (suc m) r j q e = go (tree_check L n (table_at n t k)) refl e (table-refused L n t (suc k) m r j q)
  where
    go : (c : Check) → tree_check L n (table_at n t k) ≡ c → numbered (k + 1) c (table_by_table L n t (suc k) m (Ok r)) ≡ refused_in j q
        → (table_by_table L n t (suc k) m (Ok r) ≡ refused_in j q → FirstTable L n t (suc k) m j q) → FirstTable L n t k (suc m) j q
    go (Err p) s e ih = record {
      place = k;
      number = number_same e;
      least = omega arith;
      most = omega arith;
      refused = s ∙ ap Err (refusal_same e);
      before = λ i a b. absurd (omega arith);
    }
    go (Ok tt) s e ih =
        let f = ih e in
        record {
          place = f.place;
          number = f.number;
          least = omega (arith, f.least);
          most = omega (arith, f.most);
          refused = f.refused;
          before = λ i a b. cases (eqb i k) (λ u. rw (eqb-true i k u) s) (λ u. f.before i (omega (arith, eqb-false i k u)) b);
        }

module _ (L n m : ℕ) (t f v : List ℕ) where
  -- accepted exactly when one to sixteen tables over 3 to 64 images are joined, there is room, and some wiring gives each of them
  pub consensus_exactly : ((r : ℕ) × ((consensus_outcome L n m t f v).answer ≡ Ok r))
      ↔ (TeamReady n m t (length f) (length v) × Each (tables_in n m t) (Wired L n))
  consensus_exactly = (
    λ p. consensus-accepted L n m t f v p.0 (sym (consensus-answers L n m t f v) ∙ p.1),
    λ p. (
      length (shared_links L n (tables_in n m t)),
      consensus-answers L n m t f v ∙ consensus_reads L n m t f v p.0 p.1,
    ),
  )

  pub consensus-refused : (j : ℕ) (q : Refusal) → (consensus_outcome L n m t f v).answer ≡ refused_in j q → FirstRefusal L n m t (length f) (length v) j q
  consensus-refused j q e =
      go (team_check n m t (length f) (length v)) refl (sym (consensus-answers L n m t f v) ∙ e)
    where
      go : (c : Check) → team_check n m t (length f) (length v) ≡ c → numbered 0 c (team_answer L n m t) ≡ refused_in j q
          → FirstRefusal L n m t (length f) (length v) j q
      go (Err p) s e = of_team (number_same e) (s ∙ ap Err (refusal_same e))
      go (Ok tt) s e = of_table_lem s (table-refused L n t 0 m _ j q e)

-- refused, nothing is altered; that no second answer meets the promise is `left_rows_once` of theory
pub refused_unaltered : (x : Shared) (T : List Row) (j : ℕ) (q : Refusal) (f v f' v' : List ℕ) → LeftRows (leaving x T f v) (refused_in j q) f' v'
    → (f' ≡ f) × (v' ≡ v)
refused_unaltered (Ok r) T j q f v f' v' l = absurd (let e = l.answered in let z : ◌≡◌ {A = ℕ} 0 1 = cc in omega arith)
refused_unaltered (Err e) T j q f v f' v' l = (l.far-sides, l.doubled)
