-- One byte more: while what was read is a beginning, it is spelled by the state. Assumes nothing.
use Rattle.std.specs.Prelude.{◌&&◌, refl, ◌≡◌, ℕ, ◌*◌, ◌+◌, ◌-◌, eqb, leb}
use mathlib.Core.List.{List, [], append_assoc, append-nil, ◌++◌, ◌∷◌}
use Rattle.std.proofs.Math.Path.{ap, sym}
use Rattle.std.proofs.Common.{◌∙◌, arith}
use Rattle.std.proofs.Math.Dec.{ltb}
use borrow.Author.Tests.{eqb-true, leb-true, ltb-true}
use borrow.Table.Steps.{cases}
use Rattle.ground.specs.Laws.Tests.{and_l, and_r}
use Rattle.text.specs.Decimal.{decimal}
use Rattle.newick_text.specs.Trees.{Head, Siblings, add, closed, listed, named, none, size}
use Rattle.newick_text.specs.States.{Open, State, add_to, blank, costing, dead, done, ended, head, outermost, start, value, vertex, within}
use Rattle.newick_text.specs.Bytes.{begins, close, digit_of, grows, is_digit, opens, run, second, step}
use Rattle.newick_text.specs.Spelled.{head_text, open_text, spelled}
use Rattle.newick_text.specs.Laws.Adding.{digit-more, digit-one, listed-add, open_add}
use Rattle.newick_text.proofs.Laws.Live.{IsDigit, Live, begins-digit, dead_not, digit_is, grows_small, live_before, only}

-- ## Each state

-- s spells what stood before, and the byte b behind it
Grown : List ℕ → ℕ → State → Type 0
Grown t b s = spelled s ≡ t ++ (b ∷ [])

module _ (b : ℕ) where
  start-grown : Live (step start b) → Grown [] b (step start b)
  unfolding step spelled Grown listed
  start-grown e = only (Grown [] b) (eqb b 40) (vertex (outermost none)) e (λ p l. ap (λ (x : ℕ). x ∷ []) (sym (eqb-true b 40 p)))

  vertex_grown : (o : Open) → Live (step (vertex o) b) → Grown (open_text o) b (step (vertex o) b)
  unfolding step spelled Grown listed
  vertex_grown o e =
      cases (eqb b 40)
      (λ t. rw t (only (Grown (open_text o) b) (opens o) (vertex (within none o)) (rw t at e) (λ p l.
      ap (λ (x : ℕ). open_text o ++ (x ∷ [])) (sym (eqb-true b 40 t)))))
      (λ t. rw t (only (Grown (open_text o) b) (begins o b) (head o (named (b - 48))) (rw t at e) (λ p l.
      let d = begins-digit o b p in
      ap (λ (x : List ℕ). open_text o ++ x) (digit-one b (omega arith) d.1))))

  second-grown : (o : Open) (v : Head) → IsDigit b → Live (second o v b) → Grown (open_text o ++ head_text v) b (second o v b)
  unfolding spelled Grown
  second-grown o (named i) d e =
      only (Grown (open_text o ++ decimal i) b) (grows o i) (head o (named (10 * i + (b - 48)))) e (λ p l.
      let g = grows_small o i p in
      ap (λ (x : List ℕ). open_text o ++ x) (digit-more i b g.0 (omega arith) d.low d.high) ∙ sym (append_assoc (open_text o) (decimal i) (b ∷ [])))
  second-grown o (closed g) d e = dead_not e

  head_grown : (o : Open) (v : Head) → Live (step (head o v) b) → Grown (open_text o ++ head_text v) b (step (head o v) b)
  unfolding step spelled Grown
  head_grown o v e =
      cases (eqb b 58)
      (λ t. rw t (ap (λ (x : ℕ). open_text o ++ (head_text v ++ (x ∷ []))) (sym (eqb-true b 58 t)) ∙ sym (append_assoc (open_text o) (head_text v) (b ∷ []))))
      (λ t. rw t (only (Grown (open_text o ++ head_text v) b) (is_digit b) (second o v b) (rw t at e) (λ p l. second-grown o v (digit_is b p) l)))

  -- the vertex with its cost, spelled
  abbrev whole : Open → Head → ℕ → List ℕ
  whole o v x = open_text o ++ (head_text v ++ (58 ∷ decimal x))

  whole-more : (o : Open) (v : Head) (x y : ℕ) → open_text o ++ (head_text v ++ (58 ∷ (decimal x ++ (y ∷ [])))) ≡ whole o v x ++ (y ∷ [])
  whole-more o v x y =
      sym (append_assoc (open_text o) (head_text v ++ (58 ∷ decimal x)) (y ∷ [])
      ∙ ap (λ (l : List ℕ). open_text o ++ l) (append_assoc (head_text v) (58 ∷ decimal x) (y ∷ [])))

  blank_grown : (o : Open) (v : Head) → Live (step (costing o v blank) b) → Grown (open_text o ++ (head_text v ++ (58 ∷ []))) b (step (costing o v blank) b)
  unfolding step spelled Grown
  blank_grown o v e =
      only (Grown (open_text o ++ (head_text v ++ (58 ∷ []))) b) (is_digit b) (costing o v (value (b - 48))) e (λ p l.
      let d = digit_is b p in
      ap (λ (m : List ℕ). open_text o ++ (head_text v ++ (58 ∷ m))) (digit-one b d.low d.high)
      ∙ sym (append_assoc (open_text o) (head_text v ++ (58 ∷ [])) (b ∷ [])
      ∙ ap (λ (m : List ℕ). open_text o ++ m) (append_assoc (head_text v) (58 ∷ []) (b ∷ []))))

  close-grown : (o : Open) (v : Head) (x : ℕ) → b ≡ 41 → Live (close (add_to o v x)) → Grown (whole o v x) b (close (add_to o v x))
  unfolding spelled Grown
  close-grown (outermost f) v x q e =
      only (Grown (whole (outermost f) v x) b) (leb 3 (size (add f v x))) (ended (add f v x)) e (λ p l.
      ap (λ (m : List ℕ). 40 ∷ m) (listed-add 41 f v x) ∙ rw q (whole-more (outermost f) v x 41))
  close-grown (within f o) v x q e =
      only (Grown (whole (within f o) v x) b) (leb 2 (size (add f v x))) (head o (closed (add f v x))) e (λ p l.
      ap (λ (m : List ℕ). open_text o ++ (40 ∷ m)) (listed-add 41 f v x)
      ∙ sym (append_assoc (open_text o) (40 ∷ listed 44 f) (head_text v ++ (58 ∷ (decimal x ++ (41 ∷ []))))) ∙ rw q (whole-more (within f o) v x 41))

  value-grown : (o : Open) (v : Head) (x : ℕ) → Live (step (costing o v (value x)) b) → Grown (whole o v x) b (step (costing o v (value x)) b)
  unfolding step spelled Grown
  value-grown o v x e =
      cases (eqb b 44)
      (λ t. rw t (open_add o v x ∙ rw (eqb-true b 44 t) (whole-more o v x 44)))
      (λ t. rw t (cases (eqb b 41)
      (λ u. rw u (close-grown o v x (eqb-true b 41 u) (rw (t, u) at e)))
      (λ u. rw u (only (Grown (whole o v x) b) (is_digit b) (digit_of o v x b) (rw (t, u) at e) (λ p l.
      let d = digit_is b p in
      only (Grown (whole o v x) b) (leb 1 x && ltb x 10000000) (costing o v (value (10 * x + (b - 48)))) l (λ q m.
      let low = leb-true 1 x (and_l (leb 1 x) (ltb x 10000000) q) in
      let high = ltb-true x 10000000 (and_r (leb 1 x) (ltb x 10000000) q) in
      ap (λ (y : List ℕ). open_text o ++ (head_text v ++ (58 ∷ y))) (digit-more x b low (omega arith) d.low d.high)
      ∙ whole-more o v x b))))))

  ended-grown : (f : Siblings) → Live (step (ended f) b) → Grown (40 ∷ listed 41 f) b (step (ended f) b)
  unfolding step spelled Grown
  ended-grown f e = only (Grown (40 ∷ listed 41 f) b) (eqb b 59) (done f) e (λ p l. rw (eqb-true b 59 p) refl)

  -- while it is alive, the state spells what was read, byte by byte
  pub step-spelled : (s : State) → Live (step s b) → spelled (step s b) ≡ spelled s ++ (b ∷ [])
  unfolding Grown spelled
  step-spelled start e = start-grown e
  step-spelled (vertex o) e = vertex_grown o e
  step-spelled (head o v) e = head_grown o v e
  step-spelled (costing o v blank) e = blank_grown o v e
  step-spelled (costing o v (value x)) e = value-grown o v x e
  step-spelled (ended f) e = ended-grown f e
  step-spelled (done f) e = dead_not (unfold step in e)
  step-spelled dead e = dead_not (unfold step in e)

-- ## The whole text

pub run-spelled : (s : State) (t : List ℕ) → Live (run s t) → spelled (run s t) ≡ spelled s ++ t
unfolding run
run-spelled s [] e = sym (append-nil (spelled s))
run-spelled s (b ∷ t) e =
    run-spelled (step s b) t e ∙ ap (λ (m : List ℕ). m ++ t) (step-spelled b s (live_before (step s b) t e)) ∙ append_assoc (spelled s) (b ∷ []) t
