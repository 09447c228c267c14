-- An image and a cost, digit by digit. Assumes nothing.
use Rattle.std.proofs.Math.Bool.{false}
use Rattle.std.proofs.lemmas.Bool.{false≢true}
use Rattle.std.specs.Prelude.{true, ◌≡◌, ltb}
use mathlib.Core.List.{List, [], append_assoc, ◌++◌, ◌∷◌}
use Rattle.std.proofs.Math.Path.{ap, refl}
use Rattle.std.proofs.Common.{sym, ◌∙◌, arith}
use Prim.Native.Nat.{suc, zero, ℕ, ◌%◌, ◌*◌, ◌+◌, ◌-◌, ◌/◌, ◌<◌, ◌^◌, ◌≤◌}
use borrow.Author.Tests.{le-leb, lt-ltb, ltb-false, ltb-true, ne_eqb}
use borrow.Table.Steps.{cases}
use Rattle.text.specs.Decimal.{decimal, digit}
use Rattle.text.proofs.Laws.Numbers.{decimal-more, decimal_small}
use Rattle.newick_text.specs.Trees.{Head, named}
use Rattle.newick_text.specs.Profile.{CostFits, ImageFits}
use Rattle.newick_text.specs.States.{Open, State, at_one, blank, costing, head, value, vertex}
use Rattle.newick_text.specs.Bytes.{run, step}

module _ (o : Open) (v : Head) where
  blank_digit : (b : ℕ) → 48 ≤ b → b ≤ 57 → step (costing o v blank) b ≡ costing o v (value (b - 48))
  unfolding step
  blank_digit b l h = rw (le-leb 48 b l, le-leb b 57 h) refl

  value-digit : (x b : ℕ) → 1 ≤ x → x < 10000000 → 48 ≤ b → b ≤ 57 → step (costing o v (value x)) b ≡ costing o v (value (10 * x + (b - 48)))
  unfolding step
  value-digit x b p q l h =
      rw (ne_eqb b 44 (λ e. omega arith), ne_eqb b 41 (λ e. omega arith), le-leb 48 b l, le-leb b 57 h, le-leb 1 x p, lt-ltb x 10000000 q) refl

  small_cost : (x : ℕ) (t : List ℕ) → x < 10 → run (costing o v blank) (decimal x ++ t) ≡ run (costing o v (value x)) t
  unfolding run
  small_cost x t h =
      rw (decimal_small x h)
      (ap (λ (s : State). run s t) (blank_digit (48 + x) (omega arith) (omega arith) ∙ ap (λ (y : ℕ). costing o v (value y)) (omega arith)))

  cost-digits : (k x : ℕ) (t : List ℕ) → x < 10 ^ suc k → CostFits x → run (costing o v blank) (decimal x ++ t) ≡ run (costing o v (value x)) t
  unfolding run
  cost-digits zero x t h f = small_cost x t (omega arith)
  cost-digits (suc k) x t h f =
      let ih = cost-digits k (x / 10) in
      cases (ltb x 10) (λ e. small_cost x t (ltb-true x 10 e))
      (λ e.
      let l = ltb-false x 10 e in
      let d = digit (x % 10) in
      rw (decimal-more x l (omega arith), append_assoc (decimal (x / 10)) (d ∷ []) t)
      (ih (d ∷ t) (omega arith) (omega arith)
      ∙ ap (λ (s : State). run s t)
      (value-digit (x / 10) d (omega arith) (omega arith) (omega arith) (omega arith) ∙ ap (λ (y : ℕ). costing o v (value y)) (omega arith))))

  pub cost_read : (x : ℕ) (t : List ℕ) → CostFits x → run (costing o v blank) (decimal x ++ t) ≡ run (costing o v (value x)) t
  cost_read x t f = cost-digits 7 x t f f

module _ (o : Open) where
  begin_digit : (i : ℕ) → 1 ≤ i → i < 10 → (at_one o ≡ true → i ≡ 1) → step (vertex o) (48 + i) ≡ head o (named i)
  unfolding step
  begin_digit i l h f =
      rw (ne_eqb (48 + i) 40 (λ e. omega arith), le-leb 49 (48 + i) (omega arith), le-leb (48 + i) 57 (omega arith))
      (cases (at_one o)
      (λ e. rw (e, f e) refl)
      (λ e. rw e (ap (λ (x : ℕ). head o (named x)) (omega arith))))

  second-digit : (i b : ℕ) → 1 ≤ i → i < 10 → 48 ≤ b → b ≤ 57 → at_one o ≡ false → step (head o (named i)) b ≡ head o (named (10 * i + (b - 48)))
  unfolding step
  second-digit i b p q l h e = rw (ne_eqb b 58 (λ x. omega arith), le-leb 48 b l, le-leb b 57 h, le-leb 1 i p, lt-ltb i 10 q, e) refl

  pub image_read : (i : ℕ) (t : List ℕ) → ImageFits i → (at_one o ≡ true → i ≡ 1) → run (vertex o) (decimal i ++ t) ≡ run (head o (named i)) t
  unfolding run
  image_read i t p f =
      cases (ltb i 10)
      (λ e. let h = ltb-true i 10 e in rw (decimal_small i h) (ap (λ (s : State). run s t) (begin_digit i p.0 h f)))
      (λ e.
      let l = ltb-false i 10 e in
      let d = digit (i % 10) in
      let z : at_one o ≡ false = cases (at_one o) (λ a. absurd (omega (arith, f a))) (λ a. a) in
      rw (decimal-more i l (omega arith), decimal_small (i / 10) (omega arith))
      (ap (λ (s : State). run (step s d) t) (begin_digit (i / 10) (omega arith) (omega arith) (λ a. absurd (false≢true (sym z ∙ a))))
      ∙ ap (λ (s : State). run s t)
      (second-digit (i / 10) d (omega arith) (omega arith) (omega arith) (omega arith) z ∙ ap (λ (x : ℕ). head o (named x)) (omega arith))))
