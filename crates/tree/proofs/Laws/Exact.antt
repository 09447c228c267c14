-- What the checks and the rows of one table say, for the crates that stand on the promise of this one: which tables pass, whose tree
-- the rows are, and what a call with room enough leaves. Assumes nothing.
use Rattle.std.specs.Prelude.{List, ◌↔◌, ◌≡◌, ℕ, ◌*◌, ◌-◌, ◌≤◌, drop, length, take, Ok, Err}
use Rattle.std.proofs.Common.{ap, sym, ◌∙◌, arith, take_at}
use Rattle.std.proofs.Math.Path.{refl}
use Rattle.std.proofs.lemmas.List.{length-map}
use borrow.Author.Tests.{eq-eqb, le-ltb}
use Rattle.ground.specs.Refusals.{places_if, ◌then◌, Check, Written}
use Rattle.ground.specs.Laws.Refusals.{then_assoc, then_passed}
use Rattle.ground.specs.declared.Refusal.{Refusal}
use Rattle.theory.specs.Demands.{OneTree}
use Rattle.theory.proofs.Demands.{exact_reading, one_tree}
use Rattle.theory.specs.LinkTables.{Row, far, fars}
use Rattle.theory.specs.Outcomes.{LeftRows}
use Rattle.theory.specs.Readings.{Exact, measured}
use Rattle.theory.specs.Tables.{CostTable, cost}
use Rattle.tables.specs.Checks.{costs_check, length_check, size_check}
use Rattle.tables.proofs.Laws.Formed.{cost-table, passed-costs}
use Rattle.wiring.specs.Check.{wiring_check}
use Rattle.wiring.proofs.Promises.{wiring_passed}
use Rattle.tree.specs.Exact.{SidesRead, SidesStand, Wired, exact_rows, exact_sides, table_check, tree_check}
use Rattle.tree.specs.Readings.{exact_check, exact_outcome, outcome, outputs_room_check}
use Rattle.tree.proofs.Laws.Writing.{room-passed}

-- a table of the right length has 4, 5, 6, 20, 7 left to pass
pub table_sized : (L n : ℕ) (t : List ℕ) → length t ≡ n * n → table_check L n t ≡ tree_check L n t
unfolding table_check
table_sized L n t e = rw (eq-eqb (length t) (n * n) e)

-- a check that passed says nothing among others
passed_between : (x y z w : Check) → y ≡ Ok tt → ((x then (y then z)) then w) ≡ (x then (z then w))
passed_between x y z w e = rw e (then_assoc x z w)

module _ (L n : ℕ) (t : List ℕ) where
  -- a cost table has only 7 left
  pub tree_wiring : CostTable L n t → tree_check L n t ≡ wiring_check (cost t n) n
  unfolding tree_check
  tree_wiring c = rw (passed-costs L (cost t n) n c.formed) refl

  -- ## The tree of a wired table

  -- some link table has path costs equal to twice the entries exactly when the table is wired
  pub wired_exactly : CostTable L n t → ((T : List Row) × Exact L (cost t n) n T) ↔ Wired L n t
  wired_exactly c =
      let a = (exact_reading L (cost t n) n (omega (arith, c.some)) c.formed).accepted in
      (λ x. record { table = c; condition = a.1 x }, λ w. a.0 w.condition)

  -- and then it is that of the exact rows, and no other
  pub exact_rows_lem : Wired L n t → (T : List Row) → Exact L (cost t n) n T ↔ (T ≡ exact_rows L n t)
  unfolding exact_rows
  exact_rows_lem w T = (exact_reading L (cost t n) n (omega (arith, w.table.some)) w.table.formed).answer T w.condition

  -- the measured reading has the same rows
  pub readings_agree : exact_rows L n t ≡ measured L (cost t n) n
  unfolding exact_rows
  readings_agree = refl

  pub exact_tree : Wired L n t → OneTree L n (exact_rows L n t)
  exact_tree w = one_tree L n (exact_rows L n t) w.table.some ((exact_rows_lem w (exact_rows L n t)).1 refl).tree

  -- ## A call with room enough

  -- what a refusal tells the caller
  pub read_refused : {r : Written} {f : List ℕ} {q : Refusal} → SidesRead L n t r f → r ≡ Err q → table_check L n t ≡ Err q
  read_refused {q = q} p e = go (table_check L n t) refl (sym e ∙ p.answered)
    where
      go : (c : Check) → table_check L n t ≡ c → Err q ≡ places_if (table_check L n t) (length (exact_sides L n t)) → table_check L n t ≡ Err q
      go (Ok tt) s h = absurd (let z = rw s at h in let o : ◌≡◌ {A = ℕ} 0 1 = cc in omega arith)
      go (Err x) s h = let z = rw s at h in let o : x ≡ q = cc in s ∙ ap Err o

  -- ## Of 3 to 64 images

  module _ (least : 3 ≤ n) (most : n ≤ 64) where
    -- the checks of a table are passed exactly by the wired ones
    pub table-passed : (table_check L n t ≡ Ok tt) ↔ Wired L n t
    unfolding table_check tree_check
    table-passed = (
      λ e.
          let p = then_passed (length_check n t) (costs_check L (cost t n) n then wiring_check (cost t n) n) e in
          let q = then_passed (costs_check L (cost t n) n) (wiring_check (cost t n) n) p.1 in
          let c = (cost-table L n t).0 (rw (le-ltb n 3 least, le-ltb 64 n most, p.0) q.0) in
          record { table = c; condition = (wiring_passed L (cost t n) n c.formed).0 q.1 },
      λ w.
          let c = w.table in
          table_sized L n t c.sized ∙ tree_wiring c ∙ (wiring_passed L (cost t n) n c.formed).1 w.condition,
    )

    -- 1 and 3 are never given where there is room enough
    pub exact_check_lem : (f v : ℕ) → 2 * n - 3 ≤ f → 2 * n - 3 ≤ v → exact_check L n t f v ≡ table_check L n t
    unfolding table_check tree_check
    exact_check_lem f v a b =
        let r = room-passed (2 * n - 3) f v a b in
        passed_between (size_check n t) (outputs_room_check (2 * n - 3) f v) (costs_check L (cost t n) n) (wiring_check (cost t n) n) r
        ∙ rw (le-ltb n 3 least, le-ltb 64 n most) refl

    -- what a call leaves
    pub sides_read : {r : Written} (f v f' v' : List ℕ) → 2 * n - 3 ≤ length f → 2 * n - 3 ≤ length v → LeftRows (exact_outcome L n t f v) r f' v'
        → SidesRead L n t r f'
    sides_read {r} f v f' v' a b l =
        let e = exact_check_lem (length f) (length v) a b in
        go (table_check L n t) refl (rw e at l.answered) (rw e at l.far-sides)
      where
        T : List Row
        T = exact_rows L n t

        go : (c : Check) → table_check L n t ≡ c → r ≡ (outcome (table_check L n t) T f v).answer → f' ≡ (outcome (table_check L n t) T f v).far_list
            → SidesRead L n t r f'
        go (Ok tt) s p q = record {
          answered = rw s (rw s at p ∙ ap Ok (sym (length-map T far)));
          stand = λ _. rw (rw s at q) (take_at (fars T) (drop (length (fars T)) f) (length (fars T)) refl);
        }
        go (Err x) s p q = record {
          answered = rw s (rw s at p);
          stand = λ h. absurd (let z = sym s ∙ h in let o : ◌≡◌ {A = ℕ} 0 1 = cc in omega arith);
        }

    -- what an accepted call tells the caller
    pub read_accepted : {r : Written} {f : List ℕ} {k : ℕ} → SidesRead L n t r f → r ≡ Ok k → SidesStand L n t k f
    read_accepted {f = f} {k = k} p e = go (table_check L n t) refl (sym e ∙ p.answered)
      where
        go : (c : Check) → table_check L n t ≡ c → Ok k ≡ places_if (table_check L n t) (length (exact_sides L n t)) → SidesStand L n t k f
        go (Ok tt) s h =
            let z = rw s at h in
            let m : k ≡ length (exact_sides L n t) = cc in
            let o = exact_tree (table-passed.0 s) in
            let q : take k f ≡ exact_sides L n t = ap (λ i. take i f) m ∙ p.stand s in
            record {
              passed = s;
              sides = q;
              counted = ap length q ∙ sym m;
              few = omega (arith, length-map (exact_rows L n t) far, o.most, m);
              ascending = rw q o.tree.ascending;
            }
        go (Err x) s h = absurd (let z = rw s at h in let o : ◌≡◌ {A = ℕ} 0 1 = cc in omega arith)
