-- What a reading says that answers 20: it names the first two images that cost nothing. Assumes nothing.
use Rattle.ground.specs.Refusals.{Check}
use Rattle.std.specs.Prelude.{List, [], ◌∷◌, refl, ◌≡◌, ℕ, ◌*◌, ◌-◌, Err}
use Rattle.std.proofs.Common.{arith}
use Rattle.ground.specs.Filters.{Each}
use Rattle.ground.specs.Laws.Filters.{each_append, each_cons, each_nil}
use Rattle.ground.specs.Steps.{Step, ◌by◌}
use Rattle.ground.specs.declared.Refusal.{Refusal}
use Rattle.theory.specs.Checks.{images_check}
use Rattle.theory.specs.Tables.{cost}
use Rattle.tables.specs.Checks.{diagonal_check, entries_check, length_check, off_diagonal_check, symmetry_check}
use Rattle.tables.specs.Zeros.{FirstZero}
use Rattle.tables.proofs.Zeros.{zero_named_by}
use Rattle.wiring.specs.Check.{wiring_check}
use Rattle.tree.specs.InOrder.{exact_steps, measured_steps}
use Rattle.tree.proofs.InOrder.{exact_order, measured-order}
use Rattle.tree.specs.Readings.{exact_check, measured_check, outputs_room_check}

module _ (L n : ℕ) (t : List ℕ) (f v : ℕ) where
  -- a step that refuses by 20 is that of the zeros
  abbrev Zeros : Step → Type 0
  Zeros s = s.number ≡ 20 → s.check ≡ off_diagonal_check (cost t n) n

  other : (k : ℕ) (c : Check) (l : List Step) → (k ≡ 20 → ⊥) → Each l Zeros → Each (k by c ∷ l) Zeros
  other k c l h e = each_cons Zeros (k by c) l (λ q. absurd (h q)) e

  measured_zeros : Each (measured_steps L n t f v) Zeros
  measured_zeros =
      other 1 (images_check n) _ (λ e. omega arith) (other 2 (length_check n t) _ (λ e. omega arith)
      (other 3 (outputs_room_check (2 * n - 3) f v) _ (λ e. omega arith) (other 4 (entries_check L (cost t n) n) _ (λ e. omega arith)
      (other 5 (diagonal_check (cost t n) n) _ (λ e. omega arith) (other 6 (symmetry_check (cost t n) n) _ (λ e. omega arith)
      (each_cons Zeros (20 by off_diagonal_check (cost t n) n) [] (λ q. refl) (each_nil Zeros)))))))

  exact_zeros : Each (exact_steps L n t f v) Zeros
  exact_zeros =
      each_append Zeros (measured_steps L n t f v) (7 by wiring_check (cost t n) n ∷ []) measured_zeros
      (other 7 (wiring_check (cost t n) n) [] (λ e. omega arith) (each_nil Zeros))

  pub twenty-measured : (r : Refusal) → measured_check L n t f v ≡ Err r → r.number ≡ 20 → FirstZero (cost t n) n r
  twenty-measured r = zero_named_by (cost t n) n (measured-order L n t f v) measured_zeros

  pub twenty_exact : (r : Refusal) → exact_check L n t f v ≡ Err r → r.number ≡ 20 → FirstZero (cost t n) n r
  twenty_exact r = zero_named_by (cost t n) n (exact_order L n t f v) exact_zeros
