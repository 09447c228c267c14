-- The promise of the link reader gives the choice what it needs of one stored table. Assumes nothing.
use Rattle.ground.specs.Refusals.{Check}
use Rattle.std.specs.Prelude.{List, ◌≡◌, ℕ, ◌^◌, ◌≤◌, length, take, Ok, Err}
use Rattle.std.proofs.Common.{ap, sym, ◌∙◌, arith, le-ltb}
use Rattle.ground.specs.Ascending.{Between}
use Rattle.ground.specs.declared.Refusal.{Refusal}
use Rattle.ground.specs.Outcomes.{front_if}
use Rattle.theory.specs.Laws.JoinedRows.{rows_of-fars}
use Rattle.theory.specs.Outcomes.{LeftRows, RowsOutcome}
use Rattle.bits.specs.Laws.Listed.{length-listed}
use Rattle.choice.specs.Call.{sides_of}
use Rattle.stored_links.specs.Laws.Outcomes.{front-taken, table-passed, table-refused}
use Rattle.stored_links.proofs.Laws.Enough.{table-begins}
use Rattle.stored_links.proofs.Laws.ReadAt.{read_enough}
use Rattle.stored_links.specs.Outcomes.{read_outcome, rows_if, StoredLinks}
use Rattle.stored_links.specs.Reading.{table_at_checks, table_checks}
use Rattle.link_forms.specs.Said.{cost_at, costs_of, count_of, far_at, fars_of, images_of, used_of}
use Rattle.choice.specs.Read.{SidesListed, TableRead}
use Rattle.bits.specs.declared.Form.{Form}

module _ (form : Form) (s : List ℕ) where
  -- the first byte is inside, and at the start of a byte
  at_front : table_at_checks form s 0 ≡ table_checks form s
  at_front = rw (le-ltb (length s) 0 (omega arith))

  pub read_is : {r : StoredLinks} (f v f' v' : List ℕ) → length f ≡ 128 → length v ≡ 128 → LeftRows (read_outcome form s 0 f v) r f' v' → TableRead form s r f'
  read_is {r} f v f' v' a b o =
      let e : read_outcome form s 0 f v ≡ rows_if (table_checks form s) form s f v =
      read_enough form s 0 f v (omega arith) (omega arith) ∙ ap (λ (c : Check). rows_if c form s f v) at_front in
      record {
        answered = o.answered ∙ ap (λ (x : RowsOutcome StoredLinks). x.answer) e;
        stands = λ p. front-taken (count_of form s) (sides_of form s) f f' (length-listed (far_at form (images_of form s) s) (count_of form s))
            (o.far-sides ∙ ap (λ (x : RowsOutcome StoredLinks). x.far_list) e ∙ ap (λ (c : Check). front_if c (sides_of form s) f) p);
      }

  -- ## What the caller learns

  pub read_refused : {r : StoredLinks} {f : List ℕ} {q : Refusal} → TableRead form s r f → r ≡ Err q → table_checks form s ≡ Err q
  read_refused {q = q} p e = table-refused (table_checks form s) (images_of form s) (count_of form s) (used_of form s) q (sym p.answered ∙ e)

  -- its far sides ascend
  pub sides_ascend : table_checks form s ≡ Ok tt → Between 1 (sides_of form s) (2 ^ images_of form s)
  sides_ascend e =
      let n = images_of form s in
      let N = count_of form s in
      let q = length-listed (far_at form n s) N ∙ sym (length-listed (cost_at form n s) N) in
      rw (rows_of-fars (fars_of form n N s) (costs_of form n N s) q) at (table-begins form s e).rows.ascending

  pub read_listed : {r : StoredLinks} {f : List ℕ} {n k used : ℕ} → TableRead form s r f → r ≡ Ok (record { n = n; count = k; used = used }) → SidesListed form s n k used f
  read_listed {f = f} {n = n} {k = k} {used = used} p e =
      let q = table-passed (table_checks form s) (images_of form s) (count_of form s) (used_of form s) n k used (sym p.answered ∙ e) in
      let t = table-begins form s q.0 in
      let h : take k f ≡ sides_of form s = ap (λ i. take i f) (sym q.2) ∙ p.stands q.0 in
      let c : count_of form s ≤ 128 = omega (arith, t.most, t.few) in
      record {
        passed = q.0;
        images = q.1;
        ended = q.3;
        front = h;
        ascending = rw (h, ← q.1) (sides_ascend q.0);
        few = omega (arith, q.2, c);
        short = rw h (omega (arith, c, length-listed (far_at form (images_of form s) s) (count_of form s)));
        least = omega (arith, q.1, t.some);
        most = omega (arith, q.1, t.few);
      }
