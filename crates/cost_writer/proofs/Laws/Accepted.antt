-- The writer's checks pass exactly for the cost tables within the form's limit that the lent bytes have room for. Assumes nothing.
use Rattle.std.specs.Prelude.{List, refl, ◌≡◌, ℕ, ◌≤◌, ltb, length, Ok, Err}
use Rattle.std.proofs.Common.{ap, subst, le-ltb, ltb-false}
use Rattle.ground.specs.Refusals.{room_check, ◌then◌, Check, Written}
use Rattle.ground.specs.Laws.Refusals.{refuse_if-passed, then_assoc, then_passed}
use Rattle.ground.specs.Outcomes.{Left, Outcome}
use Rattle.ground.specs.declared.Refusal.{Refusal}
use Rattle.theory.specs.Laws.Limits.{table_wide}
use Rattle.theory.specs.Tables.{CostTable, cost, limit}
use Rattle.tables.specs.Checks.{costs_check, size_check}
use Rattle.tables.proofs.Laws.Formed.{cost-table}
use Rattle.cost_limits.specs.Laws.Fitting.{passed_fit, table-narrow}
use Rattle.cost_limits.specs.Checks.{fit_check}
use Rattle.cost_writer.specs.Writing.{store_checks, stored_if, write_checks}
use Rattle.cost_forms.specs.Form.{cost_used}
use Rattle.bits.specs.declared.Form.{Form}

module _ (form : Form) (n : ℕ) (t : List ℕ) (room : ℕ) where
  -- 17, 3
  pub store_passed : store_checks form n (cost t n) room ≡ Ok tt → (fit_check form.limit (cost t n) n ≡ Ok tt) × (cost_used form n ≤ room)
  store_passed e =
      let p = then_passed (fit_check form.limit (cost t n) n) (room_check (cost_used form n) room) e in
      (p.0, ltb-false _ _ (refuse_if-passed (ltb room (cost_used form n)) _ p.1))

  pub passed_store : CostTable form.limit n t → cost_used form n ≤ room → store_checks form n (cost t n) room ≡ Ok tt
  passed_store c h =
      rw (passed_fit form.limit (cost t n) n (λ i j hi hj. c.formed.small {i = i} {j = j} hi hj), le-ltb room (cost_used form n) h)

  -- all of them
  pub write_passed : write_checks form n t room ≡ Ok tt → CostTable form.limit n t × (cost_used form n ≤ room)
  write_passed e =
      let p = then_passed (size_check n t then costs_check limit (cost t n) n) (store_checks form n (cost t n) room) e in
      let q = store_passed p.1 in
      (table-narrow form.limit limit n t ((cost-table limit n t).0 p.0) q.0, q.1)

  pub passed_write : form.limit ≤ limit → CostTable form.limit n t → cost_used form n ≤ room → write_checks form n t room ≡ Ok tt
  passed_write l c h = rw ((cost-table limit n t).1 (table_wide form.limit limit n t l c)) (passed_store c h)

-- ## Whatever a and b check together, and then the room

module _ (a b : Check) (form : Form) (n : ℕ) (t out : List ℕ) where
  together : stored_if ((a then b) then room_check (cost_used form n) (length out)) form n t out
      ≡ stored_if (a then b then room_check (cost_used form n) (length out)) form n t out
  together = ap (λ (c : Check). stored_if c form n t out) (then_assoc a b (room_check (cost_used form n) (length out)))

  pub together_refused : {r : Refusal} → (a then b) ≡ Err r
      → Left (stored_if (a then b then room_check (cost_used form n) (length out)) form n t out) (Err r) out
  together_refused {r} h = subst (λ (o : Outcome Written). Left o (Err r) out) together (rw h (record { answered = refl; left = refl }))

  pub together_passed : {w : Written} {d : List ℕ} → (a then b) ≡ Ok tt → Left (stored_if (room_check (cost_used form n) (length out)) form n t out) w d
      → Left (stored_if (a then b then room_check (cost_used form n) (length out)) form n t out) w d
  together_passed {w} {d} h p = subst (λ (o : Outcome Written). Left o w d) together (rw h p)
