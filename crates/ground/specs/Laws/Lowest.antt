-- How a loop over places meets the checks one after another, and what their answer says. Assumes nothing.
use Rattle.std.proofs.Common.{ap, sym, ◌∙◌, add-one, arith, eqb-true}
use Rattle.std.specs.Prelude.{refl, ◌≡◌, suc, zero, ℕ, ◌+◌, ◌-◌, ◌<◌, ◌≤◌, eqb, Ok, Err}
use Rattle.std.proofs.lemmas.Bool.{eqb-false}
use borrow.Table.Steps.{cases}
use Rattle.ground.specs.Refusals.{◌then◌, Check}
use Rattle.ground.specs.Laws.Refusals.{then_passed}
use Rattle.ground.specs.declared.Refusal.{Refusal}
use Rattle.ground.specs.Lowest.{LowestRefused, check_all}

-- ## A loop from i on, where w is the answer of the whole: before it, one place more, at a refusal, after it

pub all-begins : (f : ℕ → Check) (n : ℕ) → check_all f 0 n ≡ check_all f 0 (n - 0)
all-begins f n = ap (check_all f 0) (omega arith)

pub all_goes : (f : ℕ → Check) (i n : ℕ) {w x : Check} → i < n → w ≡ check_all f i (n - i) → x ≡ Ok tt → x ≡ f i
    → w ≡ check_all f (i + 1) (n - (i + 1))
unfolding check_all
all_goes f i n l e p q = let m : n - i ≡ suc (n - (i + 1)) = omega arith in rw (m, ← q, p, ← (add-one i)) at e

pub all_stops : (f : ℕ → Check) (i n : ℕ) {w x : Check} {r : Refusal} → i < n → w ≡ check_all f i (n - i) → x ≡ Err r → x ≡ f i → x ≡ w
unfolding check_all
all_stops f i n l e p q = let m : n - i ≡ suc (n - (i + 1)) = omega arith in let z = rw (m, ← q, p) at e in cc

pub all_ends : (f : ℕ → Check) (i n : ℕ) {w : Check} → n ≤ i → w ≡ check_all f i (n - i) → (Ok tt) ≡ w
unfolding check_all
all_ends f i n l e = let m : n - i ≡ 0 = omega arith in sym (rw m at e)

-- what an author names on a function whose loop makes the checks one after another
pub ruleset in_turn = (all_goes, all_stops, all_ends)

-- ## What it says

-- checks that agree at these places
pub all_agree : (f g : ℕ → Check) (i m : ℕ) → ((k : ℕ) → i ≤ k → k < i + m → f k ≡ g k) → check_all f i m ≡ check_all g i m
unfolding check_all
all_agree f g i zero h = refl
all_agree f g i (suc m) h = rw (h i (omega arith) (omega arith), all_agree f g (suc i) m (λ k l u. h k (omega arith) (omega arith)))

pub all_same : (f g : ℕ → Check) (i m : ℕ) → ((k : ℕ) → f k ≡ g k) → check_all f i m ≡ check_all g i m
all_same f g i m h = all_agree f g i m (λ k l u. h k)

pub all-passed : (f : ℕ → Check) (i m : ℕ) → check_all f i m ≡ Ok tt → (k : ℕ) → i ≤ k → k < i + m → f k ≡ Ok tt
unfolding check_all
all-passed f i zero e k l h = absurd (omega arith)
all-passed f i (suc m) e k l h =
    let p = then_passed (f i) (check_all f (suc i) m) e in
    cases (eqb k i) (λ t. rw (eqb-true k i t) p.0) (λ t. all-passed f (suc i) m p.1 k (omega (arith, eqb-false k i t)) (omega arith))

pub passed-all : (f : ℕ → Check) (i m : ℕ) → ((k : ℕ) → i ≤ k → k < i + m → f k ≡ Ok tt) → check_all f i m ≡ Ok tt
unfolding check_all
passed-all f i zero h = refl
passed-all f i (suc m) h = rw (h i (omega arith) (omega arith)) (passed-all f (suc i) m (λ k l u. h k (omega arith) (omega arith)))

pub all-refused : (f : ℕ → Check) (i m : ℕ) (r : Refusal) → check_all f i m ≡ Err r → LowestRefused f i m r
unfolding check_all
all-refused f i zero r e = absurd (let q : ◌≡◌ {A = ℕ} 0 1 = cc in omega arith)
all-refused f i (suc m) r e = go (f i) refl e (all-refused f (suc i) m r)
  where
    go : (x : Check) → f i ≡ x → (x then check_all f (suc i) m) ≡ Err r
        → (check_all f (suc i) m ≡ Err r → LowestRefused f (suc i) m r) → LowestRefused f i (suc m) r
    go (Err q) t e ih = record { place = i; least = omega arith; most = omega arith; refused = t ∙ e; below = λ k l h. absurd (omega arith) }
    go (Ok tt) t e ih =
        let s = ih e in
        record {
          place = s.place;
          least = omega (arith, s.least);
          most = omega (arith, s.most);
          refused = s.refused;
          below = λ k l h. cases (eqb k i) (λ u. rw (eqb-true k i u) t) (λ u. s.below k (omega (arith, eqb-false k i u)) h);
        }
