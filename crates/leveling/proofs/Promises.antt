-- What refusal 21 is worth: it is given exactly where the three-point condition does not hold, and shows the first three images, in
-- ascending order, that fail it. Assumes nothing.
use Rattle.std.specs.Prelude.{Bool, true, ◌↔◌, refl, ◌≡◌, ℕ, ◌-◌, ◌<◌, ◌≤◌, Ok, Err}
use Rattle.std.proofs.Math.Bool.{false}
use Rattle.std.proofs.Math.Logic.{inl, inr}
use Rattle.std.proofs.Common.{ap, sym, ◌∙◌, arith}
use Rattle.ground.specs.Lowest.{LowestRefused}
use Rattle.ground.specs.Laws.Lowest.{all-passed, all-refused}
use Rattle.ground.specs.Refusals.{refuse_if}
use Rattle.ground.specs.Laws.Refusals.{refuse_if-passed}
use Rattle.ground.specs.declared.Refusal.{Refusal}
use Rattle.theory.specs.Tables.{WellFormed, limit}
use Rattle.tables.specs.Entries.{costs_in}
use Rattle.tables.specs.declared.costs.Costs.{Costs}
use Rattle.leveling.specs.Check.{first_three, levels_check}
use Rattle.leveling.proofs.Laws.Scan.{first-passed, levels_scan}
use Rattle.leveling.proofs.Laws.Sorted.{none_failing, fail_apart}
use Rattle.leveling.specs.Scan.{last_scan, second_scan, three_check}
use Rattle.leveling.specs.ThreePoint.{ThreePoint, failing, fails, three}
pub use Rattle.leveling.specs.Promises.{Before, FirstFailing}

-- passed exactly when the condition holds
pub levels_passed : (L : ℕ) (d : ℕ → ℕ → ℕ) (n : ℕ) → WellFormed L d n → (levels_check d n ≡ Ok tt) ↔ ThreePoint d n
levels_passed L d n c = (λ e. (none_failing L d n c).0 (first-passed (failing d n) e), λ t. ap first_three ((none_failing L d n c).1 t))

-- a cost table with levels passes
pub levels_pass : (t : Costs) → ThreePoint (costs_in t) t.n → levels_check (costs_in t) t.n ≡ Ok tt
levels_pass t h = (levels_passed limit (costs_in t) t.n t.formed.formed).1 h

refused_is : (b : Bool) (r q : Refusal) → refuse_if b r ≡ Err q → (b ≡ true) × (q ≡ r)
refused_is true r q e = (refl, cc)
refused_is false r q e = absurd (let z : ◌≡◌ {A = ℕ} 0 1 = cc in omega arith)

module _ (d : ℕ → ℕ → ℕ) (n : ℕ) where
  last_passed : (i j k : ℕ) → last_scan d n i j ≡ Ok tt → j ≤ k → k < n → fails d (three i j k) ≡ false
  unfolding last_scan
  last_passed i j k e h m = refuse_if-passed (fails d (three i j k)) _ (all-passed (three_check d i j) j (n - j) e k h (omega arith))

  second-passed : (i j k : ℕ) → second_scan d n i ≡ Ok tt → i ≤ j → j ≤ k → k < n → fails d (three i j k) ≡ false
  unfolding second_scan
  second-passed i j k e g h m = last_passed i j k (all-passed (last_scan d n i) i (n - i) e j g (omega arith)) h m

  -- refused with the first of all
  pub levels_refused : (r : Refusal) → levels_check d n ≡ Err r → FirstFailing d n r
  unfolding second_scan last_scan
  levels_refused r e =
      let x = all-refused (second_scan d n) 0 n r (sym (levels_scan d n) ∙ e) in
      let y = all-refused (last_scan d n x.place) x.place (n - x.place) r x.refused in
      let z = all-refused (three_check d x.place y.place) y.place (n - y.place) r y.refused in
      let q = refused_is (fails d (three x.place y.place z.place)) _ r z.refused in
      record {
        i = x.place;
        j = y.place;
        k = z.place;
        sorted = (y.least, z.least, omega (arith, z.most, y.least, x.least));
        is = q.1;
        fail = q.0;
        first = λ a b c ab bc cn. earlier x y z a b c ab bc cn;
      }
    where
      earlier : (x : LowestRefused (second_scan d n) 0 n r) (y : LowestRefused (last_scan d n x.place) x.place (n - x.place) r)
          (z : LowestRefused (three_check d x.place y.place) y.place (n - y.place) r)
          → (a b c : ℕ) → a ≤ b → b ≤ c → c < n → Before a b c x.place y.place z.place → fails d (three a b c) ≡ false
      earlier x y z a b c ab bc cn (inl h) = second-passed a b c (x.below a (omega arith) h) ab bc cn
      earlier x y z a b c ab bc cn (inr (p, inl h)) = last_passed a b c (ap (λ u. last_scan d n u b) p ∙ y.below b (omega arith) h) bc cn
      earlier x y z a b c ab bc cn (inr (p, inr (q, h))) =
          rw (p, q) (refuse_if-passed (fails d (three x.place y.place c)) _ (z.below c (omega arith) h))

-- the three images of a refusal are different
pub refused-apart : (L : ℕ) (d : ℕ → ℕ → ℕ) (n : ℕ) → WellFormed L d n → (r : Refusal) (f : FirstFailing d n r) → (f.i < f.j) × (f.j < f.k)
refused-apart L d n c r f = fail_apart L d n c f.i f.j f.k f.sorted.0 f.sorted.1 f.sorted.2 f.fail
