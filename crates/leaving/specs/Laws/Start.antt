-- The start as the code reads it: 1, 2 and 3 asked of the lent slices, then read into local arrays. Assumes nothing.
use Rattle.std.specs.Prelude.{List, refl, ◌≡◌, ℕ, ◌*◌, ◌-◌, ◌≤◌, ltb, length, Ok, Err}
use Rattle.std.proofs.Common.{ap, ap₂, subst, sym, ◌∙◌, arith, ltb-false}
use Rattle.ground.specs.Laws.Refusals.{refuse_if-passed, then_passed}
use Rattle.ground.specs.Laws.Tests.{or_false}
use Rattle.ground.specs.Refusals.{◌then◌, Check, Written}
use Rattle.ground.specs.declared.Refusal.{Refusal}
use Rattle.tables.specs.Checks.{size_check}
use Rattle.tables.proofs.Laws.Formed.{size-passed}
use Rattle.theory.specs.Laws.JoinedRows.{rows_of-all}
use Rattle.theory.specs.LinkTables.{rows_of}
use Rattle.theory.specs.Outcomes.{LeftRows}
use Rattle.theory.specs.Readings.{Exact}
use Rattle.theory.specs.Tables.{cost, limit}
use Rattle.tree.specs.Exact.{exact_rows}
use Rattle.tree.proofs.Laws.Exact.{exact_check_lem}
use Rattle.tree.specs.Laws.LocalRows.{rows_in-costs, rows_in-fars}
use Rattle.tree.proofs.Laws.Writing.{left_stand}
use Rattle.tree.specs.LocalRows.{rows_in}
use Rattle.tree.proofs.Promises.{exact_answer}
use Rattle.tree.specs.Readings.{exact_check, exact_outcome, outputs_room_check, short}
use Rattle.tree.specs.Writing.{rows_left}
use Rattle.leaving.specs.Standing.{SoundRows}

abbrev pub start : ℕ → List ℕ → ℕ → ℕ → Check
start n t f v = size_check n t then outputs_room_check (2 * n - 3) f v

-- ## The checks of the start

module _ (L n : ℕ) (t : List ℕ) (f v : ℕ) where
  -- refused there, the exact reading is refused so
  pub start-refused : (r : Refusal) → start n t f v ≡ Err r → exact_check L n t f v ≡ Err r
  start-refused r e = go (size_check n t) (outputs_room_check (2 * n - 3) f v) _ _ e
    where
      go : (a b c d : Check) → (a then b) ≡ Err r → ((a then (b then c)) then d) ≡ Err r
      go (Ok _) (Ok _) c d e = absurd (let y : ◌≡◌ {A = ℕ} 0 1 = cc in omega arith)
      go (Ok _) (Err q) c d e = e
      go (Err q) b c d e = e

  pub start-room : start n t f v ≡ Ok tt → (2 * n - 3 ≤ f) × (2 * n - 3 ≤ v)
  start-room e =
      let r = (then_passed (size_check n t) (outputs_room_check (2 * n - 3) f v) e).1 in
      let s = or_false (ltb f (2 * n - 3)) (ltb v (2 * n - 3)) (refuse_if-passed (short (2 * n - 3) f v) _ r) in
      (ltb-false f (2 * n - 3) s.0, ltb-false v (2 * n - 3) s.1)

  -- passed, 128 places do as well
  pub start-passed : start n t f v ≡ Ok tt → exact_check L n t f v ≡ exact_check L n t 128 128
  start-passed e =
      let s = size-passed n t (then_passed (size_check n t) (outputs_room_check (2 * n - 3) f v) e).0 in
      let r = start-room e in
      exact_check_lem L n t s.some s.few f v r.0 r.1
      ∙ sym (exact_check_lem L n t s.some s.few 128 128 (omega (arith, s.few)) (omega (arith, s.few)))

-- ## The rows at the start

-- the start was accepted, and its exact reading stands in f and v; a and b are the lengths of the lent slices
pub record Began (n : ℕ) (t : List ℕ) (a b count : ℕ) (f v : List ℕ) : Type 0 where
  pub far_places : 2 * n - 3 ≤ a
  pub cost_places : 2 * n - 3 ≤ b
  pub passed : exact_check limit n t a b ≡ Ok tt
  pub is : rows_in f v count ≡ exact_rows limit n t
  pub held : SoundRows limit n f v count

module _ (n : ℕ) (t f₀ v₀ : List ℕ) (a b : ℕ) (far-room : length f₀ ≡ 128) (cost-room : length v₀ ≡ 128) where
  to_local : start n t a b ≡ Ok tt → exact_check limit n t a b ≡ exact_check limit n t (length f₀) (length v₀)
  to_local e = start-passed limit n t a b e ∙ ap₂ (exact_check limit n t) (sym far-room) (sym cost-room)

  pub began : (y : Check) (x : Written) (count : ℕ) (f v : List ℕ) → y ≡ Ok tt → y ≡ start n t a b → x ≡ Ok count
      → LeftRows (exact_outcome limit n t f₀ v₀) x f v → length f ≡ length f₀ → length v ≡ length v₀ → Began n t a b count f v
  began y x count f v e q g l h w =
      let z = sym q ∙ e in
      let l' = subst (λ r. LeftRows (exact_outcome limit n t f₀ v₀) r f v) g l in
      let s = left_stand (exact_check limit n t (length f₀) (length v₀)) (exact_rows limit n t) count f₀ v₀ f v l' in
      let x = exact_answer limit n t f₀ v₀ count f v l' in
      let m = x.ready.table in
      let few : count ≤ 128 = omega (arith, counted count (rw s.0 at l'.answered), ap length x.left.rows, x.tree.most, m.few) in
      let is : rows_left count f v ≡ rows_in f v count =
      ap₂ rows_of (rows_in-fars f v count (omega arith)) (rows_in-costs f v count (omega arith)) ∙ rows_of-all (rows_in f v count) in
      let r = start-room limit n t a b z in
      record {
        far_places = r.0;
        cost_places = r.1;
        passed = to_local z ∙ s.0;
        is = sym is ∙ x.left.rows;
        held = record {
          sound = record { some = m.some; few = m.few; table = cost t n; formed = m.formed; exact = subst (Exact limit (cost t n) n) is x.exact };
          kept = record { is = refl; far-room = h ∙ far-room; cost-room = w ∙ cost-room; few = few };
        };
      }
    where
      counted : (r : ℕ) → ◌≡◌ {A = Written} (Ok r) (Ok (length (exact_rows limit n t))) → r ≡ length (exact_rows limit n t)
      counted r e = cc

  -- or the exact reading refused it
  pub began_refused : (y : Check) (x : Written) (r : Refusal) (f v : List ℕ) → y ≡ Ok tt → y ≡ start n t a b → x ≡ Err r
      → LeftRows (exact_outcome limit n t f₀ v₀) x f v → exact_check limit n t a b ≡ Err r
  began_refused y x r f v e q g l =
      to_local (sym q ∙ e) ∙ go (exact_check limit n t (length f₀) (length v₀)) refl (subst (λ z. LeftRows (exact_outcome limit n t f₀ v₀) z f v) g l)
    where
      go : (c : Check) → exact_check limit n t (length f₀) (length v₀) ≡ c → LeftRows (exact_outcome limit n t f₀ v₀) (Err r) f v
          → exact_check limit n t (length f₀) (length v₀) ≡ Err r
      go (Ok tt) s l = absurd (let w = rw s at l.answered in let y : ◌≡◌ {A = ℕ} 0 1 = cc in omega arith)
      go (Err u) s l = let w = rw s at l.answered in let z : u ≡ r = cc in rw z at s
