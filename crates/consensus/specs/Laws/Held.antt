-- Trees held in local arrays: one read exactly, by the promise of the tree part alone; one more met there; and the rows written out.
-- Assumes nothing.
use Rattle.ground.specs.Refusals.{Check, Written}
use Rattle.std.specs.Prelude.{List, [], ◌∷◌, refl, ◌≡◌, suc, ℕ, ◌*◌, ◌^◌, ◌≤◌, drop, length, take, Ok, Err}
use Rattle.std.proofs.Common.{ap, ap₂, sym, ◌∙◌, arith, length-append, length-drop, pow_mono, length-take-le, take_at}
use Rattle.std.proofs.lemmas.List.{length-map}
use Rattle.ground.specs.Ascending.{Between}
use Rattle.ground.specs.Buffers.{front, over}
use Rattle.ground.specs.Laws.Buffers.{over-front}
use Rattle.theory.specs.Laws.JoinedRows.{rows_of-all, rows_of-costs, rows_of-fars}
use Rattle.theory.specs.LinkTables.{LinkTable, Row, costs, far, fars, rows_of}
use Rattle.theory.specs.Outcomes.{LeftRows}
use Rattle.tree.specs.Exact.{exact_rows, tree_check}
use Rattle.tree.proofs.Laws.Exact.{exact_check_lem, exact_tree, table-passed, table_sized}
use Rattle.tree.specs.Readings.{exact_outcome, outcome}
use Rattle.tree.specs.Writing.{RowsWritten, rows_left}
use Rattle.shared_rows.specs.Meet.{meet}
use Rattle.shared_rows.specs.Merge.{Met}
use Rattle.consensus.specs.Taking.{RowsHeld, TreeRead}

-- ## A tree read

front_length : (m d : List ℕ) → length m ≤ length d → length (front m d) ≡ length d
front_length m d h = omega (arith, length-append m (drop (length m) d), length-drop (length m) d)

costs-length : (T : List Row) → length (costs T) ≡ length T
costs-length T = length-map T (λ (r : Row). r.1)

-- rows written to the front of 128 places are held there
front_held : (T : List Row) (f v : List ℕ) (c : ℕ) → c ≡ length T → c ≤ 128 → length f ≡ 128 → length v ≡ 128
    → RowsHeld T (front (fars T) f) (front (costs T) v) c
front_held T f v c e l a b = record {
  far-part = take_at (fars T) (drop (length (fars T)) f) c (length-map T far ∙ sym e);
  cost-part = take_at (costs T) (drop (length (costs T)) v) c (costs-length T ∙ sym e);
  counted = e;
  few = l;
  far-room = front_length (fars T) f (omega (arith, length-map T far)) ∙ a;
  cost-room = front_length (costs T) v (omega (arith, costs-length T)) ∙ b;
}

module _ (L n : ℕ) (u : List ℕ) (least : 3 ≤ n) (most : n ≤ 64) (sized : length u ≡ n * n) where
  -- refusal 3 is never given, nor 1 or 2
  pub tree_read : {r : Written} (f v f' v' : List ℕ) → length f ≡ 128 → length v ≡ 128 → LeftRows (exact_outcome L n u f v) r f' v' → TreeRead L n u r f' v'
  tree_read {r} f v f' v' a b l =
      let e = exact_check_lem L n u least most (length f) (length v) (omega arith) (omega arith) ∙ table_sized L n u sized in
      go (tree_check L n u) refl (rw e at l.answered) (rw e at l.far-sides) (rw e at l.doubled)
    where
      T : List Row
      T = exact_rows L n u

      go : (c : Check) → tree_check L n u ≡ c → r ≡ (outcome (tree_check L n u) T f v).answer → f' ≡ (outcome (tree_check L n u) T f v).far_list
          → v' ≡ (outcome (tree_check L n u) T f v).cost_list → TreeRead L n u r f' v'
      go (Ok tt) s p x y =
          let w = (table-passed L n u least most).0 (table_sized L n u sized ∙ s) in
          let p' = rw s at p in
          record {
            refused = λ q h. absurd (let z : ◌≡◌ {A = ℕ} 0 1 = cc in omega arith);
            accepted = λ c h.
                let m : c ≡ length T = cc in
                (w, rw (rw s at x, rw s at y) (front_held T f v c m (omega (arith, (exact_tree L n u w).most, m)) a b));
          }
      go (Err q') s p x y =
          let p' = rw s at p in
          record {
            refused = λ q h. let z : q' ≡ q = cc in s ∙ ap Err z;
            accepted = λ c h. absurd (let z : ◌≡◌ {A = ℕ} 0 1 = cc in omega arith);
          }

-- ## One tree more

-- up to a higher end
between_to : (m k h : ℕ) (l : List ℕ) → k ≤ h → Between m l k → Between m l h
between_to m k h [] e b = omega arith
between_to m k h (x ∷ l) e b = (b.0, between_to (suc x) k h l e b.1)

module _ {T : List Row} {f v : List ℕ} {c : ℕ} (h : RowsHeld T f v c) where
  pub held_rows : rows_left c f v ≡ T
  held_rows = ap₂ rows_of h.far-part h.cost-part ∙ rows_of-all T

  pub held_far_length : c ≡ length (take c f)
  held_far_length = sym (length-take-le c f (omega (arith, h.few, h.far-room)))

  pub held_cost_length : c ≡ length (take c v)
  held_cost_length = sym (length-take-le c v (omega (arith, h.few, h.cost-room)))

  pub held_ascends : (L n : ℕ) → n ≤ 64 → LinkTable L n T → Between 1 (take c f) (2 ^ 64)
  held_ascends L n l t = rw h.far-part (between_to 1 (2 ^ n) (2 ^ 64) (fars T) (pow_mono {i = n} {j = 64} l) t.ascending)

  -- written over the front of the lent slices
  pub held_written : (g w g' w' : List ℕ) → g' ≡ over c f g → w' ≡ over c v w → RowsWritten T c g w g' w'
  held_written g w g' w' e q = record {
    counted = h.counted;
    far-front = e ∙ over-front c f g (fars T) h.far-part (length-map T far ∙ sym h.counted);
    cost-front = q ∙ over-front c v w (costs T) h.cost-part (costs-length T ∙ sym h.counted);
  }

  -- what was met with the rows held is held in their place
  pub held_met : {U : List Row} {g w : List ℕ} {e : ℕ} (f' v' : List ℕ) (r : ℕ) → RowsHeld U g w e → length f' ≡ length f → length v' ≡ length v
      → Met c f v (take e g) (take e w) r f' v' → RowsHeld (meet T U) f' v' r
  held_met {U} {g} {w} {e} f' v' r k a b q =
      let x = q.rows ∙ ap₂ meet held_rows (ap₂ rows_of k.far-part k.cost-part ∙ rows_of-all U) in
      let l = length-take-le r f' (omega (arith, q.few, h.few, h.far-room)) in
      let m = length-take-le r v' (omega (arith, q.few, h.few, h.cost-room)) in
      let y = sym (rows_of-fars (take r f') (take r v') (l ∙ sym m)) ∙ ap fars x in
      record {
        far-part = y;
        cost-part = sym (rows_of-costs (take r f') (take r v') (l ∙ sym m)) ∙ ap costs x;
        counted = sym l ∙ ap length y ∙ length-map (meet T U) far;
        few = omega (arith, q.few, h.few);
        far-room = a ∙ h.far-room;
        cost-room = b ∙ h.cost-room;
      }
