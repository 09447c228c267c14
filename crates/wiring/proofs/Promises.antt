-- What refusal 7 is worth: it is given exactly where the four-point condition does not hold, and shows the first four images, in
-- ascending order, that fail it. Assumes nothing.
use Rattle.std.specs.Prelude.{Bool, true, ◌↔◌, refl, ◌≡◌, ℕ, ◌-◌, ◌<◌, ◌≤◌, Ok, Err}
use Rattle.std.proofs.Math.Bool.{false}
use Rattle.std.proofs.Math.Logic.{inl, inr}
use Rattle.std.proofs.Common.{ap, ap₂, sym, ◌∙◌, arith}
use Rattle.ground.specs.Lowest.{LowestRefused}
use Rattle.ground.specs.Laws.Lowest.{all-passed, all-refused}
use Rattle.ground.specs.Refusals.{refuse_if}
use Rattle.ground.specs.Laws.Refusals.{refuse_if-passed}
use Rattle.ground.specs.declared.Refusal.{Refusal}
use Rattle.theory.specs.FourPoint.{FourPoint, failing, fails, four}
use Rattle.theory.proofs.Laws.Sorted.{none_failing}
use Rattle.theory.specs.Tables.{WellFormed}
use Rattle.wiring.specs.Check.{first_four, wiring_check}
use Rattle.wiring.specs.Scan.{four_check, last_scan, second_scan, third_scan}
use Rattle.wiring.proofs.Laws.Scan.{first-passed, wiring_scan}
pub use Rattle.wiring.specs.Promises.{Before, FirstFailing}

-- passed exactly when the condition holds
pub wiring_passed : (L : ℕ) (d : ℕ → ℕ → ℕ) (n : ℕ) → WellFormed L d n → (wiring_check d n ≡ Ok tt) ↔ FourPoint d n
wiring_passed L d n c = (λ e. (none_failing L d n c).0 (first-passed (failing d n) e), λ fp. ap first_four ((none_failing L d n c).1 fp))

refused_is : (b : Bool) (r q : Refusal) → refuse_if b r ≡ Err q → (b ≡ true) × (q ≡ r)
refused_is true r q e = (refl, cc)
refused_is false r q e = absurd (let z : ◌≡◌ {A = ℕ} 0 1 = cc in omega arith)

module _ (d : ℕ → ℕ → ℕ) (n : ℕ) where
  last_passed : (i j k l : ℕ) → last_scan d n i j k ≡ Ok tt → k ≤ l → l < n → fails d (four i j k l) ≡ false
  unfolding last_scan
  last_passed i j k l e h m = refuse_if-passed (fails d (four i j k l)) _ (all-passed (four_check d i j k) k (n - k) e l h (omega arith))

  third_passed : (i j k l : ℕ) → third_scan d n i j ≡ Ok tt → j ≤ k → k ≤ l → l < n → fails d (four i j k l) ≡ false
  unfolding third_scan
  third_passed i j k l e g h m = last_passed i j k l (all-passed (last_scan d n i j) j (n - j) e k g (omega arith)) h m

  second-passed : (i j k l : ℕ) → second_scan d n i ≡ Ok tt → i ≤ j → j ≤ k → k ≤ l → l < n → fails d (four i j k l) ≡ false
  unfolding second_scan
  second-passed i j k l e f g h m = third_passed i j k l (all-passed (third_scan d n i) i (n - i) e j f (omega arith)) g h m

  -- refused with the first of all
  pub wiring_refused : (r : Refusal) → wiring_check d n ≡ Err r → FirstFailing d n r
  unfolding second_scan third_scan last_scan
  wiring_refused r e =
      let x = all-refused (second_scan d n) 0 n r (sym (wiring_scan d n) ∙ e) in
      let y = all-refused (third_scan d n x.place) x.place (n - x.place) r x.refused in
      let z = all-refused (last_scan d n x.place y.place) y.place (n - y.place) r y.refused in
      let w = all-refused (four_check d x.place y.place z.place) z.place (n - z.place) r z.refused in
      let q = refused_is (fails d (four x.place y.place z.place w.place)) _ r w.refused in
      record {
        i = x.place;
        j = y.place;
        k = z.place;
        l = w.place;
        sorted = (y.least, z.least, w.least, omega (arith, w.most, z.least, y.least, x.least));
        is = q.1;
        fail = q.0;
        first = λ a b c f ab bc cf fn. earlier x y z w a b c f ab bc cf fn;
      }
    where
      earlier : (x : LowestRefused (second_scan d n) 0 n r) (y : LowestRefused (third_scan d n x.place) x.place (n - x.place) r)
          (z : LowestRefused (last_scan d n x.place y.place) y.place (n - y.place) r)
          (w : LowestRefused (four_check d x.place y.place z.place) z.place (n - z.place) r)
          → (a b c e : ℕ) → a ≤ b → b ≤ c → c ≤ e → e < n → Before a b c e x.place y.place z.place w.place → fails d (four a b c e) ≡ false
      earlier x y z w a b c e ab bc ce en (inl h) = second-passed a b c e (x.below a (omega arith) h) ab bc ce en
      earlier x y z w a b c e ab bc ce en (inr (p, inl h)) =
          third_passed a b c e (ap (λ u. third_scan d n u b) p ∙ y.below b (omega arith) h) bc ce en
      earlier x y z w a b c e ab bc ce en (inr (p, inr (q, inl h))) =
          last_passed a b c e (ap₂ (λ u v. last_scan d n u v c) p q ∙ z.below c (omega arith) h) ce en
      earlier x y z w a b c e ab bc ce en (inr (p, inr (q, inr (s, h)))) =
          rw (p, q, s) (refuse_if-passed (fails d (four x.place y.place z.place e)) _ (w.below e (omega arith) h))
