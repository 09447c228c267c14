-- Two limits at once: what the lower one says of both. Assumes nothing.
use Rattle.std.specs.Prelude.{Bool, false, true, List, refl, ◌≡◌, min, suc, zero, ℕ, ◌+◌, ◌-◌, ◌<◌, ◌≤◌, ltb, Ok, Err}
use Rattle.std.proofs.Common.{ap, sym, ◌∙◌, arith, ltb-false, ltb-true}
use borrow.Table.Steps.{cases}
use Rattle.ground.specs.Lowest.{check_all}
use Rattle.ground.specs.Refusals.{refusal, refuse_if, ◌then◌, Check}
use Rattle.ground.specs.Laws.Refusals.{then_none, then_passed}
use Rattle.ground.specs.declared.Refusal.{Refusal}
use Rattle.theory.specs.Tables.{cost}
use Rattle.theory.specs.Checks.{images_check}
use Rattle.tables.specs.Checks.{entry_check, off_diagonal_check}
use Rattle.bits.specs.Forms.{bytes_for}
use Rattle.bits.specs.Kinds.{end_check}
use Rattle.bits.specs.declared.Form.{Form}
use Rattle.cost_forms.specs.Entries.{entry_cost, table_of}
use Rattle.cost_forms.specs.Said.{entry_of, fill_of, images_of, stored_table}
use Rattle.stored_costs.proofs.Laws.Enough.{enough_room, readable_table, table_readable}
use Rattle.cost_forms.specs.Laws.Tables.{table-cost, table_formed}
use Rattle.stored_costs.specs.Reading.{body_checks, read_checks, stored_check, table_checks, values_check}
use Rattle.cost_limits.specs.Laws.Fitting.{passed_fit}
use Rattle.cost_limits.specs.Checks.{fit_check, large_check}
use Rattle.conversion.specs.Costs.{entry_checks}

-- the same places with the number 17
abbrev renumbered : Check → Check
renumbered (Ok tt) = Ok tt
renumbered (Err r) = Err (refusal 17 r.a r.b 0 0)

renumbered_then : (x y : Check) → (renumbered x then renumbered y) ≡ renumbered (x then y)
renumbered_then (Ok tt) y = refl
renumbered_then (Err r) y = refl

renumbered-all : (f g : ℕ → Check) (i m : ℕ) → ((k : ℕ) → i ≤ k → k < i + m → g k ≡ renumbered (f k)) → check_all g i m ≡ renumbered (check_all f i m)
unfolding check_all
renumbered-all f g i zero h = refl
renumbered-all f g i (suc m) h =
    rw (h i (omega arith) (omega arith), renumbered-all f g (suc i) m (λ k l u. h k (omega arith) (omega arith)))
    (renumbered_then (f i) (check_all f (suc i) m))

-- 17 is what 4 would be under the limit L
fit_renumbered : (L : ℕ) (f : ℕ → ℕ) (n : ℕ) → fit_check L (cost (table_of f n) n) n ≡ renumbered (stored_check L (entry_cost f n) n)
fit_renumbered L f n =
    renumbered-all (λ i. check_all (entry_check L (entry_cost f n) i) (i + 1) (n - (i + 1)))
    (λ i. check_all (large_check L (cost (table_of f n) n) i) (i + 1) (n - (i + 1)))
    0 n (λ i l u. renumbered-all (entry_check L (entry_cost f n) i) (large_check L (cost (table_of f n) n) i) (i + 1) (n - (i + 1))
    (λ j m v. rw (table-cost f n i j (omega arith) (omega arith)) (one i j (ltb L (entry_cost f n i j)))))
  where
    one : (i j : ℕ) (b : Bool) → refuse_if b (refusal 17 (i + 1) (j + 1) 0 0) ≡ renumbered (refuse_if b (refusal 4 (i + 1) (j + 1) 0 0))
    one i j true = refl
    one i j false = refl

-- the form with the lower of its limit and another
abbrev pub stricter : Form → ℕ → Form
stricter form L = record { head = form.head; mark = form.mark; width = form.width; limit = min form.limit L }

-- no entry is above the lower limit: neither 4 nor 17
pub stricter-passed : (form : Form) (L : ℕ) (s : List ℕ) → table_checks (stricter form L) s ≡ Ok tt → entry_checks form L s ≡ Ok tt
unfolding images_of entry_of fill_of
stricter-passed form L s e =
    let n = images_of form s in
    let r = table_readable (stricter form L) s e in
    let p = readable_table form s
    (record {
      begun = r.begun;
      some = r.some;
      few = r.few;
      roomy = r.roomy;
      whole = r.whole;
      clear = r.clear;
      fine = λ i j h k. omega (arith, r.fine i j h k);
      nonzero = r.nonzero;
    }) in
    let c = table_formed (entry_of form s) n (min form.limit L) r.some r.few r.fine r.nonzero in
    rw p (passed_fit L (cost (stored_table form n s) n) n (λ i j hi hj. omega (arith, c.formed.small {i = i} {j = j} hi hj)))

passed-refused : {c : Check} {r : Refusal} → c ≡ Ok tt → c ≡ Err r → ⊥
passed-refused p e = let q : ◌≡◌ {A = ℕ} 0 1 = cc in omega arith

-- one is, and none is above the form's own: 17, at the place that the lower limit named
stricter-refused : (form : Form) (L : ℕ) (s : List ℕ) (r : Refusal) → table_checks (stricter form L) s ≡ Err r → table_checks form s ≡ Ok tt
    → entry_checks form L s ≡ Err (refusal 17 r.a r.b 0 0)
unfolding images_of entry_of fill_of
stricter-refused form L s r e p =
    let n = images_of form s in
    let f = entry_of form s in
    let values = values_check form.limit (entry_cost f n) n in
    let a = then_passed (end_check s (bytes_for (form.head + 7))) (images_check n then body_checks form n s then values) p in
    let b = then_passed (images_check n) (body_checks form n s then values) a.1 in
    let c = then_passed (body_checks form n s) values b.1 in
    let v = then_passed (stored_check form.limit (entry_cost f n) n) (off_diagonal_check (entry_cost f n) n) c.1 in
    let lower = stored_check (min form.limit L) (entry_cost f n) n in
    let under : lower ≡ Err r = sym (then_none lower (off_diagonal_check (entry_cost f n) n) v.1) ∙ (rw (a.0, b.0, c.0) at e) in
    cases (ltb L form.limit)
    (λ h.
    let m : min form.limit L ≡ L = omega (arith, ltb-true L form.limit h) in
    rw p (fit_renumbered L f n ∙ ap renumbered (ap (λ (x : ℕ). stored_check x (entry_cost f n) n) (sym m) ∙ under)))
    (λ h.
    let m : min form.limit L ≡ form.limit = omega (arith, ltb-false L form.limit h) in
    absurd (passed-refused v.0 (ap (λ (x : ℕ). stored_check x (entry_cost f n) n) (sym m) ∙ under)))

-- so, where the lower limit refused: what the form's own refuses, and else 17
pub stricter_again : (form : Form) (L : ℕ) (s : List ℕ) (r : Refusal) → table_checks (stricter form L) s ≡ Err r
    → (table_checks form s then Err (refusal 17 r.a r.b 0 0)) ≡ entry_checks form L s
stricter_again form L s r e = go (table_checks form s) refl
  where
    go : (c : Check) → table_checks form s ≡ c → (table_checks form s then Err (refusal 17 r.a r.b 0 0)) ≡ entry_checks form L s
    go (Ok tt) p = ap (λ (x : Check). x then Err (refusal 17 r.a r.b 0 0)) p ∙ sym (stricter-refused form L s r e p)
    go (Err q) p = rw p refl

-- so, as the reader asks with places enough for every table: where the lower limit let all pass, and where it refused
pub passed_stricter : (form : Form) (L : ℕ) (s : List ℕ) → read_checks (stricter form L) s 4096 ≡ Ok tt → entry_checks form L s ≡ Ok tt
passed_stricter form L s e = stricter-passed form L s (sym (enough_room (stricter form L) s 4096 (omega arith)) ∙ e)

pub refused_stricter : (form : Form) (L : ℕ) (s : List ℕ) (r : Refusal) → read_checks (stricter form L) s 4096 ≡ Err r
    → (table_checks form s then Err (refusal 17 r.a r.b 0 0)) ≡ entry_checks form L s
refused_stricter form L s r e = stricter_again form L s r (sym (enough_room (stricter form L) s 4096 (omega arith)) ∙ e)
