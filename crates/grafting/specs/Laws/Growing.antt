-- Path and table as they grow place by place in local arrays. Assumes nothing.
use Rattle.std.specs.Prelude.{true, ◌≡◌, suc, ℕ, ◌*◌, ◌+◌, ◌-◌, ◌<◌, ◌^◌, ◌≤◌, ltb, get_or, length}
use mathlib.Core.List.{List, Memᴰ, [], ◌++◌, ◌∷◌}
use Rattle.std.proofs.Common.{inr, ap, ap₂, subst, sym, ◌∙◌, add-one, arith, pow_mono, ltb-true}
use Rattle.ground.specs.Laws.Bits.{bit_add_fits}
use Rattle.ground.specs.Laws.Filters.{filter-mem}
use Rattle.theory.specs.LinkTables.{all_costs}
use Rattle.theory.specs.Tables.{WellFormed, limit}
use Rattle.tree.specs.Laws.Held.{rows_in-mem}
use Rattle.tree.specs.Laws.LocalRows.{rows_in-length, rows_in_none}
use Rattle.tree.specs.LocalRows.{rows_in}
use Rattle.recognition.specs.Recognition.{Places, placed}
use Rattle.recognition.specs.Seats.{seat}
use Rattle.rows.proofs.Laws.PutAll.{costly-append, costly-total}
use Rattle.rows.specs.Rows.{costly, put_all}
use Rattle.path_cuts.specs.Cuts.{closed, height, kept, own_cost}
use Rattle.grafting.specs.Grafting.{grafted, path_to}
use Rattle.grafting.specs.Held.{OwnTable, PathHeld, TableGrafted, TableHeld}
use Rattle.path_cuts.specs.Laws.Cutting.{closed_all, costly-closed, costly_few, costly-kept}
use Rattle.grafting.specs.Laws.Room.{few, path-length, path-more, path_none, path-sides, table_more, table_none, total}
use Rattle.grafting.specs.Laws.Sides.{side_fits, side_out}
use Rattle.grafting.specs.Sides.{side}
use Rattle.path_cuts.specs.Steps.{AddRow, KeepRoom, KeepRows}
use Rattle.grafting.specs.Steps.{CloseRoom, CloseRows}

-- ## By the places of the order

pub seats_bit : (l : List ℕ) (p z : ℕ) → z ≡ seat l (p + 1) → 2 ^ z ≡ 2 ^ seat l (suc p)
seats_bit l p z c = rw (c, add-one p)

-- ## One place more

module _ (d : ℕ → ℕ → ℕ) (l : List ℕ) where
  abbrev o : ℕ → ℕ
  o = seat l

  abbrev e : ℕ → ℕ → ℕ
  e = placed d o

  pub path-start : (s w : List ℕ) → length s ≡ 64 → length w ≡ 64 → PathHeld d l 0 0 s w
  path-start s w a b = record { rows = rows_in_none s w ∙ sym (ap costly (path_none e o)); side-room = a; length-room = b }

  pub table-start : (n : ℕ) (f₀ v₀ f v : List ℕ) → length f₀ ≡ 192 → length v₀ ≡ 192 → OwnTable n f₀ v₀ f v → TableHeld d l n 0 n f v
  table-start n f₀ v₀ f v a b t = record {
    rows = t.rows ∙ sym (table_none e o n);
    ascends = t.ascends;
    far-room = t.far-size ∙ a;
    cost-room = t.cost-size ∙ b;
  }

  module _ (p m : ℕ) (s w : List ℕ) (g : PathHeld d l p m s w) where
    pub path_few : m ≤ p
    path_few = omega (arith, sym (rows_in-length s w m) ∙ ap length g.rows, costly_few (path_to e o p), path-length e o p)

    a_row : {i : ℕ} → i < m → (ltb 0 (get_or w i 0) ≡ true) × Memᴰ (get_or s i 0, get_or w i 0) (path_to e o p)
    a_row {i} h =
        filter-mem (λ r. ltb 0 r.1) (path_to e o p) (get_or s i 0, get_or w i 0) (subst (Memᴰ (get_or s i 0, get_or w i 0)) g.rows (rows_in-mem s w i m h))

    pub path_extended : (h b a q r : ℕ) (s' w' s'' w'' : List ℕ) → h ≡ height e p (suc p) → b ≡ 2 ^ o (suc p) → a ≡ own_cost e p
        → KeepRows h b m s w q s' w' → AddRow s' w' q b a r s'' w'' → PathHeld d l (suc p) r s'' w''
    path_extended h b a q r s' w' s'' w'' x y z k t = record {
      rows =
          t.rows ∙ ap₂ ◌++◌ (k.rows ∙ same) (ap₂ (λ (b a : ℕ). costly ((b, a) ∷ [])) y z)
          ∙ sym (costly-append (kept (height e p (suc p)) (2 ^ o (suc p)) (path_to e o p)) ((2 ^ o (suc p), own_cost e p) ∷ []))
          ∙ ap costly (sym (path-more e o p));
      side-room = t.side-size ∙ k.side-size ∙ g.side-room;
      length-room = t.length-size ∙ k.length-size ∙ g.length-room;
    }
      where
        same : costly (kept h b (rows_in s w m)) ≡ costly (kept (height e p (suc p)) (2 ^ o (suc p)) (path_to e o p))
        same = rw (x, y, g.rows) (costly-kept (height e p (suc p)) (2 ^ o (suc p)) (path_to e o p))

    module _ (n : ℕ) (k : n ≤ 64) (u : Places o n) where
      pub keep-room : suc p < n → KeepRoom (2 ^ o (suc p)) m s w
      keep-room hp = record {
        for_side = omega (arith, path_few, g.side-room);
        for_length = omega (arith, path_few, g.length-room);
        drawn = λ {i} h. ltb-true 0 (get_or w i 0) (a_row h).0;
        fits = λ {i} h.
            let x = path-sides e o p (get_or s i 0, get_or w i 0) (a_row h).1 in
            let S = side o (suc x.0) p in
            let f = side_fits o n u (suc x.0) (omega arith) p (omega arith) in
            let z = side_out o n u (suc x.0) (omega arith) p (suc p) (omega arith) hp (inr (omega arith)) in
            rw x.2 (omega (arith, bit_add_fits n (o (suc p)) S (u.range hp) f z, pow_mono {i = n} {j = 64} k));
      }

      module _ (c : WellFormed limit d n) (count : ℕ) (f v : List ℕ) (t : TableHeld d l n p count f v) where
        pub close-room : p < n → CloseRoom m s w f v count
        close-room hp = record {
          for_side = omega (arith, path_few, g.side-room);
          for_length = omega (arith, path_few, g.length-room);
          ascends = t.ascends;
          for_far = omega (arith, room, t.far-room);
          for_cost = omega (arith, room, t.cost-room);
          spent = omega (arith, ap all_costs t.rows, ap all_costs g.rows, costly-total (path_to e o p), total e o n p small);
        }
          where
            room : count + m ≤ n + 2 * p
            room =
                let a = sym (rows_in-length f v count) ∙ ap length t.rows in
                omega (arith, a, sym (rows_in-length s w m) ∙ ap length g.rows, few e o n p (omega arith))

            small : (i j : ℕ) → i ≤ p → j ≤ p → e i j ≤ limit
            small i j hi hj = c.small (u.range (omega arith)) (u.range (omega arith))

    module _ (n count : ℕ) (f v : List ℕ) (t : TableHeld d l n p count f v) (r : ℕ) (f' v' : List ℕ) where
      closed-path : (h : ℕ) → costly (closed h (rows_in s w m)) ≡ costly (closed h (path_to e o p))
      closed-path h = ap (λ R. costly (closed h R)) g.rows ∙ costly-closed h (path_to e o p)

      pub table-closed : (h : ℕ) → h ≡ height e p (suc p) → CloseRows h m s w f v count r f' v' → TableHeld d l n (suc p) r f' v'
      table-closed h x k = record {
        rows =
            k.rows ∙ ap₂ put_all (closed-path h ∙ ap (λ (a : ℕ). costly (closed a (path_to e o p))) x) t.rows ∙ sym (table_more e o n p);
        ascends = k.ascends;
        far-room = k.far-size ∙ t.far-room;
        cost-room = k.cost-size ∙ t.cost-room;
      }

      -- the whole path is closed at the end
      pub table-grafted : p + 1 ≡ n → CloseRows 0 m s w f v count r f' v' → TableGrafted d l n r f' v'
      table-grafted q k = record {
        rows =
            let z : p ≡ n - 1 = omega arith in
            k.rows ∙ ap₂ put_all (closed-path 0 ∙ ap costly (closed_all (path_to e o p))) t.rows ∙ ap (grafted e o n) z;
        far-room = k.far-size ∙ t.far-room;
        cost-room = k.cost-size ∙ t.cost-room;
      }
