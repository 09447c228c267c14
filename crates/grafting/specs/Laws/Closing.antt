-- What lies behind the height is closed row by row. Assumes nothing.
use Rattle.std.specs.Prelude.{List, [], ◌++◌, ◌∷◌, ◌≡◌, min, suc, ℕ, ◌+◌, ◌-◌, ◌<◌, ◌^◌, ◌≤◌, get_or, length}
use Rattle.std.proofs.Common.{ap, sym, ◌∙◌, arith}
use Rattle.std.proofs.Math.Path.{refl}
use Rattle.ground.specs.Laws.Sums.{sum-append}
use Rattle.theory.specs.LinkTables.{Row, all_costs}
use Rattle.tree.specs.Laws.LocalRows.{rows_in-length, rows_in-more, rows_in_none}
use Rattle.tree.specs.LocalRows.{rows_in}
use Rattle.rows.proofs.Laws.Places.{in_at}
use Rattle.rows.proofs.Laws.PutAll.{costly-append, costly-total, put_all-append, put_all-length, put_all-total}
use Rattle.rows.specs.Putting.{CloseRow, PutRoom, rows_from}
use Rattle.rows.specs.Rows.{costly, put_all}
use Rattle.path_cuts.specs.Cuts.{closed}
use Rattle.path_cuts.specs.Laws.Cutting.{closed-append, closed-length, costly_few, cut-total, left, left-append}
use Rattle.grafting.specs.Steps.{CloseRoom, CloseRows}

-- the first i rows are, and of the height this is left
pub record Closing (h i m : ℕ) (s w f v : List ℕ) (count r togo : ℕ) (f' v' : List ℕ) : Type 0 where
  pub at : i ≤ m
  pub done : CloseRows h i s w f v count r f' v'
  pub to_go : togo ≡ left h (rows_in s w i)

module _ (h m : ℕ) (s w f v : List ℕ) (count : ℕ) (k : CloseRoom m s w f v count) where
  pub closing_start : Closing h 0 m s w f v count count h f v
  unfolding put_all
  closing_start = record {
    at = omega arith;
    done = record { rows = rw (rows_in_none s w); ascends = k.ascends; far-size = refl; cost-size = refl };
    to_go = rw (rows_in_none s w);
  }

  module _ (i : ℕ) (f' v' : List ℕ) (r togo : ℕ) (c : Closing h i m s w f v count r togo f' v') (l : i < m) where
    few : r ≤ count + i
    few =
        let a = sym (rows_in-length f' v' r) ∙ ap length c.done.rows in
        omega (
          arith,
          a,
          put_all-length (costly (closed h (rows_in s w i))) (rows_in f v count),
          costly_few (closed h (rows_in s w i)),
          closed-length h (rows_in s w i),
          rows_in-length s w i,
          rows_in-length f v count,
        )

    total : all_costs (rows_in f' v' r) + get_or w i 0 < 2 ^ 32
    total =
        let last : Row = (get_or s i 0, get_or w i 0) in
        let b = ap all_costs (in_at s w i m l) ∙ sum-append (λ r. r.1) (rows_in s w i) (last ∷ rows_from s w (suc i) (m - suc i)) in
        omega (
          arith,
          ap all_costs c.done.rows,
          put_all-total (costly (closed h (rows_in s w i))) (rows_in f v count),
          costly-total (closed h (rows_in s w i)),
          cut-total h 0 (rows_in s w i),
          b,
          k.spent,
        )

    pub closing_room : (x : ℕ) → x ≡ min togo (get_or w i 0) → PutRoom f' v' r (get_or w i 0 - x)
    closing_room x e = record {
      ascends = c.done.ascends;
      for_far = omega (arith, few, k.for_far, c.done.far-size);
      for_cost = omega (arith, few, k.for_cost, c.done.cost-size);
      spent = omega (arith, total);
    }

    pub closing_more : (x q : ℕ) (f'' v'' : List ℕ) → x ≡ min togo (get_or w i 0) → CloseRow f' v' r (get_or s i 0) (get_or w i 0 - x) q f'' v''
        → Closing h (i + 1) m s w f v count q (togo - x) f'' v''
    closing_more x q f'' v'' e p = record {
      at = omega arith;
      done = record {
        rows =
            p.rows ∙ ap (put_all (costly last)) c.done.rows
            ∙ sym (put_all-append (costly (closed h (rows_in s w i))) (costly last) (rows_in f v count))
            ∙ ap (λ R. put_all R (rows_in f v count)) (sym (costly-append (closed h (rows_in s w i)) last) ∙ ap costly whole);
        ascends = p.ascends;
        far-size = p.far-size ∙ c.done.far-size;
        cost-size = p.cost-size ∙ c.done.cost-size;
      };
      to_go =
          let a : togo - x ≡ left h (rows_in s w i) - get_or w i 0 = omega (arith, c.to_go) in
          a ∙ sym (ap (left h) (rows_in-more s w i) ∙ left-append h (rows_in s w i) ((get_or s i 0, get_or w i 0) ∷ []));
    }
      where
        last : List Row
        last = (get_or s i 0, get_or w i 0 - x) ∷ []

        whole : closed h (rows_in s w i) ++ last ≡ closed h (rows_in s w (i + 1))
        whole =
            let a : get_or w i 0 - x ≡ get_or w i 0 - left h (rows_in s w i) = omega (arith, c.to_go) in
            ap (λ (y : ℕ). closed h (rows_in s w i) ++ ((get_or s i 0, y) ∷ [])) a
            ∙ sym (ap (closed h) (rows_in-more s w i) ∙ closed-append h (rows_in s w i) ((get_or s i 0, get_or w i 0) ∷ []))

  pub closing_end : (i : ℕ) (f' v' : List ℕ) (r togo : ℕ) → Closing h i m s w f v count r togo f' v' → m ≤ i → CloseRows h m s w f v count r f' v'
  closing_end i f' v' r togo c l = let q : i ≡ m = omega (arith, c.at) in let a = c.done in rw q at a
