-- What was read is fine as far as it goes: numbers fit, closed brackets hold enough, not too many are open, image 1 stands first. Assumes nothing.
use Rattle.std.specs.Prelude.{Bool, false, not, true, ◌&&◌, ◌||◌, List, [], ◌∷◌, refl, ◌≡◌, suc, ℕ, ◌*◌, ◌+◌, ◌-◌, ◌<◌, ◌≤◌}
use Rattle.std.proofs.lemmas.Bool.{false≢true}
use Rattle.std.proofs.Common.{sym, ◌∙◌, arith}
use Rattle.std.proofs.Math.Dec.{eqb, leb, ltb}
use borrow.Author.Tests.{eqb-true, leb-true, ltb-true, not-true}
use borrow.Table.Steps.{cases}
use Rattle.ground.specs.Laws.Tests.{and_l, and_r}
use Rattle.newick_text.specs.Trees.{Head, Siblings, add, bracket, closed, image, named, none, size}
use Rattle.newick_text.specs.Profile.{CostFits, Formed, ImageFits, OneFirst, Tree}
use Rattle.newick_text.specs.States.{Digits, Open, State, add_to, at_one, blank, costing, dead, depth, done, ended, head, outermost, start, value, vertex}
use Rattle.newick_text.specs.States.{within}
use Rattle.newick_text.specs.Bytes.{begins, close, digit_of, grows, is_digit, opens, run, second, step}
use Rattle.newick_text.proofs.Laws.Live.{IsDigit, Live, begins-digit, dead_not, digit_is, grows_small, live_before, only}

-- a vertex that may stand where d brackets are open
abbrev pub HeadFormed : ℕ → Head → Type 0
HeadFormed d (named i) = ImageFits i
HeadFormed d (closed g) = (d < 62) × (2 ≤ size g) × Formed (suc d) g

-- image 1
abbrev pub IsOne : Head → Type 0
IsOne (named i) = i ≡ 1
IsOne (closed g) = ⊥

abbrev pub FineOpen : Open → Type 0
FineOpen (outermost f) = OneFirst f × Formed 1 f
FineOpen (within f o) = (depth o < 62) × (at_one o ≡ false) × Formed (suc (depth o)) f × FineOpen o

pub record FineHead (o : Open) (v : Head) : Type 0 where
  pub around : FineOpen o
  pub formed : HeadFormed (depth o) v
  pub one : at_one o ≡ true → IsOne v

abbrev pub FineDigits : Digits → Type 0
FineDigits blank = Unit {0}
FineDigits (value x) = CostFits x

abbrev pub Fine : State → Type 0
Fine start = Unit {0}
Fine (vertex o) = FineOpen o
Fine (head o v) = FineHead o v
Fine (costing o v x) = FineHead o v × FineDigits x
Fine (ended f) = Tree f
Fine (done f) = Tree f
Fine dead = Unit {0}

-- ## One vertex more

formed_add : (d : ℕ) (f : Siblings) (v : Head) (c : ℕ) → Formed d f → HeadFormed d v → CostFits c → Formed d (add f v c)
formed_add d none (named i) c p h q = (h, q, tt)
formed_add d none (closed g) c p h q = (h.0, h.1, h.2, q, tt)
formed_add d (image j e r) v c p h q = (p.0, p.1, formed_add d r v c p.2 h q)
formed_add d (bracket g e r) v c p h q = (p.0, p.1, p.2, p.3, formed_add d r v c p.4 h q)

one-add : (f : Siblings) (v : Head) (c : ℕ) → OneFirst f → (eqb (size f) 0 ≡ true → IsOne v) → OneFirst (add f v c)
one-add none (named i) c p h = h refl
one-add none (closed g) c p h = h refl
one-add (image j e r) v c p h = p
one-add (bracket g e r) v c p h = p

pub fine_add : (o : Open) (v : Head) (c : ℕ) → FineHead o v → CostFits c → FineOpen (add_to o v c)
fine_add (outermost f) v c h q = (one-add f v c h.around.0 h.one, formed_add 1 f v c h.around.1 h.formed q)
fine_add (within f o) v c h q = (h.around.0, h.around.1, formed_add (suc (depth o)) f v c h.around.2 h.formed q, h.around.3)

-- ## Each state

first_one : (t : Bool) (b : ℕ) → (not t || eqb b 49) ≡ true → t ≡ true → b ≡ 49
first_one true b p q = eqb-true b 49 p
first_one false b p q = absurd (false≢true q)

-- no first place where the test says so
never : (o : Open) (v : Head) → at_one o ≡ false → at_one o ≡ true → IsOne v
never o v p q = absurd (false≢true (sym p ∙ q))

module _ (b : ℕ) where
  vertex_fine : (o : Open) → FineOpen o → Live (step (vertex o) b) → Fine (step (vertex o) b)
  unfolding step
  vertex_fine o h e =
      cases (eqb b 40)
      (λ t. rw t (only Fine (opens o) (vertex (within none o)) (rw t at e) (λ p l.
      (ltb-true (depth o) 62 (and_r (not (at_one o)) (ltb (depth o) 62) p), not-true (at_one o) (and_l (not (at_one o)) (ltb (depth o) 62) p), tt, h))))
      (λ t. rw t (only Fine (begins o b) (head o (named (b - 48))) (rw t at e) (λ p l.
      let d = begins-digit o b p in
      record {
        around = h;
        formed = omega arith;
        one = λ q. let z = first_one (at_one o) b (and_r (leb 49 b && leb b 57) (not (at_one o) || eqb b 49) p) q in omega arith;
      })))

  second_fine : (o : Open) (v : Head) → FineHead o v → IsDigit b → Live (second o v b) → Fine (second o v b)
  second_fine o (named i) h d e =
      only Fine (grows o i) (head o (named (10 * i + (b - 48)))) e (λ p l.
      let g = grows_small o i p in
      record { around = h.around; formed = omega (arith, d.low, d.high); one = never o (named (10 * i + (b - 48))) g.2 })
  second_fine o (closed g) h d e = dead_not e

  head_fine : (o : Open) (v : Head) → FineHead o v → Live (step (head o v) b) → Fine (step (head o v) b)
  unfolding step
  head_fine o v h e =
      cases (eqb b 58) (λ t. rw t (h, tt))
      (λ t. rw t (only Fine (is_digit b) (second o v b) (rw t at e) (λ p l. second_fine o v h (digit_is b p) l)))

  close_fine : (o : Open) → FineOpen o → Live (close o) → Fine (close o)
  close_fine (outermost f) h e = only Fine (leb 3 (size f)) (ended f) e (λ p l. record { one = h.0; three = leb-true 3 (size f) p; formed = h.1 })
  close_fine (within f o) h e =
      only Fine (leb 2 (size f)) (head o (closed f)) e (λ p l.
      record { around = h.3; formed = (h.0, leb-true 2 (size f) p, h.2); one = never o (closed f) h.1 })

  value_fine : (o : Open) (v : Head) (x : ℕ) → FineHead o v → CostFits x → Live (step (costing o v (value x)) b) → Fine (step (costing o v (value x)) b)
  unfolding step
  value_fine o v x h q e =
      cases (eqb b 44) (λ t. rw t (fine_add o v x h q))
      (λ t. rw t (cases (eqb b 41) (λ u. rw u (close_fine (add_to o v x) (fine_add o v x h q) (rw (t, u) at e)))
      (λ u. rw u (only Fine (is_digit b) (digit_of o v x b) (rw (t, u) at e) (λ p l.
      let d = digit_is b p in
      only Fine (leb 1 x && ltb x 10000000) (costing o v (value (10 * x + (b - 48)))) l (λ r m.
      (h, omega (arith, d.low, d.high, ltb-true x 10000000 (and_r (leb 1 x) (ltb x 10000000) r)))))))))

  pub step_fine : (s : State) → Fine s → Live (step s b) → Fine (step s b)
  unfolding step
  step_fine start h e = only Fine (eqb b 40) (vertex (outermost none)) e (λ p l. (tt, tt))
  step_fine (vertex o) h e = vertex_fine o h e
  step_fine (head o v) h e = head_fine o v h e
  step_fine (costing o v blank) h e =
      only Fine (is_digit b) (costing o v (value (b - 48))) e (λ p l. let d = digit_is b p in (h.0, omega (arith, d.low, d.high)))
  step_fine (costing o v (value x)) h e = value_fine o v x h.0 h.1 e
  step_fine (ended f) h e = only Fine (eqb b 59) (done f) e (λ p l. h)
  step_fine (done f) h e = dead_not e
  step_fine dead h e = dead_not e

pub run_fine : (s : State) (t : List ℕ) → Fine s → Live (run s t) → Fine (run s t)
unfolding run
run_fine s [] h e = h
run_fine s (b ∷ t) h e = run_fine (step s b) t (step_fine b s h (live_before (step s b) t e)) e
