-- How the tables of a team are taken one after another, and what the call then leaves. Assumes nothing.
use Rattle.std.specs.Prelude.{not, List, ◌↔◌, refl, ◌≡◌, ℕ, ◌*◌, ◌+◌, ◌-◌, ◌<◌, ◌≤◌, eqb, ltb, length, Ok, Err}
use Rattle.std.proofs.Common.{ap, subst, sym, ◌∙◌, arith, eq-eqb, eqb-true, le-ltb, ltb-false}
use Rattle.std.proofs.lemmas.Bool.{not-false}
use Rattle.ground.specs.Filters.{Each}
use Rattle.ground.specs.Laws.Refusals.{outside_false, refuse_if-passed, then_passed}
use Rattle.ground.specs.Laws.Tests.{or_false}
use Rattle.ground.specs.Refusals.{outside, ◌then◌, Check, refused_in}
use Rattle.ground.specs.declared.Refusal.{Refusal}
use Rattle.theory.specs.Checks.{images_check}
use Rattle.theory.proofs.Demands.{one_tree}
use Rattle.theory.specs.Laws.Checks.{images-passed}
use Rattle.theory.specs.Outcomes.{LeftRows}
use Rattle.tree.specs.Exact.{Wired, exact_rows, tree_check}
use Rattle.tree.proofs.Laws.Writing.{room-passed}
use Rattle.tree.specs.Readings.{outputs_room_check, short}
use Rattle.tree.specs.Writing.{RowsWritten}
use Rattle.shared_rows.specs.Meet.{meet}
use Rattle.consensus.specs.Call.{consensus_outcome, joined_check, leaving, number_check, team_answer, team_check, Shared}
use Rattle.consensus.specs.Laws.Joined.{no_table, table_in_lem, tables-passed, tables_stop, wired-passed}
use Rattle.consensus.specs.Laws.Sharing.{first_tree, wired-more, share_next, shared-one}
use Rattle.consensus.specs.Taking.{RowsHeld, Shares, Taken}
use Rattle.consensus.specs.Team.{Joined, TeamReady, shared_links, table_at, tables_in}

-- ## What the call's own checks have shown

pub number_passed : (m : ℕ) → number_check m ≡ Ok tt → (1 ≤ m) × (m ≤ 16)
number_passed m e = outside_false 1 16 m (refuse_if-passed (outside 1 16 m) _ e)

pub team_passed : (n m : ℕ) (t : List ℕ) (f v : ℕ) → (team_check n m t f v ≡ Ok tt) ↔ TeamReady n m t f v
unfolding team_check
team_passed n m t f v = (
  λ e.
      let p = then_passed (images_check n) (number_check m then joined_check n m t then outputs_room_check (2 * n - 3) f v) e in
      let q = then_passed (number_check m) (joined_check n m t then outputs_room_check (2 * n - 3) f v) p.1 in
      let s = then_passed (joined_check n m t) (outputs_room_check (2 * n - 3) f v) q.1 in
      let i = images-passed n p.0 in
      let o = number_passed m q.0 in
      let z = eqb-true (length t) (m * (n * n)) (not-false (eqb (length t) (m * (n * n))) (refuse_if-passed (not (eqb (length t) (m * (n * n)))) _ s.0)) in
      let w = or_false (ltb f (2 * n - 3)) (ltb v (2 * n - 3)) (refuse_if-passed (short (2 * n - 3) f v) _ s.1) in
      record {
        joined = record { some = i.0; few = i.1; one = o.0; sixteen = o.1; sized = z };
        far-room = ltb-false f (2 * n - 3) w.0;
        cost-room = ltb-false v (2 * n - 3) w.1;
      },
  λ y.
      let j = y.joined in
      rw (
        le-ltb n 3 j.some,
        le-ltb 64 n j.few,
        le-ltb m 1 j.one,
        le-ltb 16 m j.sixteen,
        eq-eqb (length t) (m * (n * n)) j.sized,
      ) (room-passed (2 * n - 3) f v y.far-room y.cost-room),
)

-- ## One table after another

module _ (L n m : ℕ) (t f v : List ℕ) (j : Joined n m t) where
  passed : (k : ℕ) → k ≤ m → Each (tables_in n k t) (Wired L n) → (i : ℕ) → i < k → tree_check L n (table_at n t i) ≡ Ok tt
  passed k l h i q = wired-passed L n m t j i (omega arith) (table_in_lem n k t (Wired L n) h i q)

  -- table k is refused, and those before it were accepted
  pub taken_refused : (k i : ℕ) (q : Refusal) → k < m → Each (tables_in n k t) (Wired L n) → tree_check L n (table_at n t k) ≡ Err q
      → Taken L n m t i (refused_in (k + 1) q) f v
  taken_refused k i q l h e = record {
    refused = λ a b s y. tables_stop L n t y 0 m k q (omega arith) (omega arith) (λ x _ d. passed k (omega arith) h x d) e ∙ s;
    accepted = λ c s. absurd (let z : ◌≡◌ {A = ℕ} 0 1 = cc in omega arith);
  }

  pub taken-rows : (k c : ℕ) → Shares L n t k f v c → Taken L n m t k (Ok c) f v
  taken-rows k c h = record {
    refused = λ a b s y. absurd (let z : ◌≡◌ {A = ℕ} 0 1 = cc in omega arith);
    accepted = λ e s. let z : c ≡ e = cc in subst (Shares L n t k f v) z h;
  }

-- a refusal is handed on
pub taken_on : (L n m : ℕ) (t : List ℕ) {k i : ℕ} {x : Shared} {f v g w : List ℕ} {j : ℕ} {q : Refusal} → Taken L n m t k x f v → x ≡ refused_in j q
    → Taken L n m t i (refused_in j q) g w
taken_on L n m t {j = j} {q = q} h e = record {
  refused = λ a b s y. h.refused j q e y ∙ s;
  accepted = λ c s. absurd (let z : ◌≡◌ {A = ℕ} 0 1 = cc in omega arith);
}

module _ (L n : ℕ) (t f v : List ℕ) (c : ℕ) where
  -- what is shared has no more rows than a tree can have
  pub shares_room : (k : ℕ) → 3 ≤ n → 1 ≤ k → Shares L n t k f v c → c ≤ 2 * n - 3
  shares_room k h l s =
      let T = shared_links L n (tables_in n k t) in
      omega (arith, s.held.counted, (one_tree L n T h (first_tree L n t k l s.wired)).most)

  -- the first table's tree is what one table shares
  pub shares_first : Wired L n (table_at n t 0) → RowsHeld (exact_rows L n (table_at n t 0)) f v c → Shares L n t 1 f v c
  shares_first w h = record {
    wired = wired-more L n t 0 (no_table n t (Wired L n)) w;
    held = subst (λ T. RowsHeld T f v c) (sym (shared-one L n (table_at n t 0) w)) h;
  }

  -- one tree more was met
  pub shares_next : (k : ℕ) → 1 ≤ k → Each (tables_in n k t) (Wired L n) → Wired L n (table_at n t k)
      → RowsHeld (meet (shared_links L n (tables_in n k t)) (exact_rows L n (table_at n t k))) f v c → Shares L n t (k + 1) f v c
  shares_next k l a w h =
      let all = wired-more L n t k a w in
      record { wired = all; held = subst (λ T. RowsHeld T f v c) (sym (share_next L n t k l all)) h }

-- ## What the call leaves

module _ (L n m : ℕ) (t f v : List ℕ) where
  pub left-table : {x : Shared} {g w : List ℕ} {k : ℕ} {q : Refusal} → Taken L n m t m x g w → x ≡ refused_in k q
      → LeftRows (leaving (team_answer L n m t) (shared_links L n (tables_in n m t)) f v) (refused_in k q) f v
  left-table {x} {g} {w} {k} {q} h e =
      rw (h.refused k q e (Ok (length (shared_links L n (tables_in n m t))))) (record { answered = refl; far-sides = refl; doubled = refl })

  pub left-rows : {c : ℕ} {g w f' v' : List ℕ} → Joined n m t → Shares L n t m g w c → RowsWritten (shared_links L n (tables_in n m t)) c f v f' v'
      → LeftRows (leaving (team_answer L n m t) (shared_links L n (tables_in n m t)) f v) (Ok c) f' v'
  left-rows j h w =
      rw (tables-passed L n t (Ok (length (shared_links L n (tables_in n m t)))) 0 m (λ i a b. passed L n m t f v j m (omega arith) h.wired i (omega arith)))
      (record { answered = ap Ok w.counted; far-sides = w.far-front; doubled = w.cost-front })

  pub left_team : {x : Check} {q : Refusal} → x ≡ team_check n m t (length f) (length v) → x ≡ Err q
      → LeftRows (consensus_outcome L n m t f v) (refused_in 0 q) f v
  left_team e s = let z = sym e ∙ s in rw z (record { answered = refl; far-sides = refl; doubled = refl })

  pub left_through : {x : Check} {r : Shared} {f' v' : List ℕ} → x ≡ team_check n m t (length f) (length v) → x ≡ Ok tt
      → LeftRows (leaving (team_answer L n m t) (shared_links L n (tables_in n m t)) f v) r f' v' → LeftRows (consensus_outcome L n m t f v) r f' v'
  left_through e s l = let z = sym e ∙ s in rw z l
