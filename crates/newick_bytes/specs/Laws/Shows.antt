-- The numbers that are kept are those of what was read: each byte makes of both the same. Assumes nothing.
use Rattle.std.specs.Prelude.{Bool, false, true, ◌&&◌, List, ◌≡◌, suc, ℕ, ◌*◌, ◌+◌, ◌-◌, ◌≤◌, eqb, leb, get_or, length}
use Rattle.std.proofs.Math.Path.{ap, refl}
use Rattle.std.proofs.Common.{sym, ◌∙◌, arith, le-leb, le-ltb, lt-ltb, ltb-false, ltb-true, ne_eqb}
use Rattle.std.proofs.Math.Dec.{ltb}
use borrow.Table.Steps.{cases}
use Rattle.newick_text.specs.Trees.{Head, none, size}
use Rattle.newick_text.specs.Trees as trees
use Rattle.newick_text.specs.States.{Open, State, add_to, at_one, blank, costing, dead, depth, done, ended, head, outermost, start, value, vertex, within}
use Rattle.newick_text.specs.Bytes.{begins, close, digit_of, grows, is_digit, only_if, opens, second, step}
use Rattle.newick_text.specs.Laws.Adding.{size-add}
use Rattle.newick_allowed.specs.Tests.{first_place, more}
use Rattle.newick_bytes.specs.Tests.{pick}
use Rattle.newick_bytes.specs.Next.{closed, cost_next, next_seen, vertex_next}
use Rattle.newick_bytes.specs.Kept.{Stacked, capped, narrow, outers, stack, top}
use Rattle.newick_bytes.specs.declared.Seen.{Seen}
use Rattle.newick_bytes.specs.declared.Seen.TheVariants.{Closed, Dead, Ended, Vertex}

-- ## Numbers

capped-more : (k : ℕ) → more (capped k) ≡ capped (suc k)
capped-more k =
    cases (ltb k 2)
    (λ e. let l = ltb-true k 2 e in rw (lt-ltb k 3 (omega arith), lt-ltb k 3 (omega arith), lt-ltb (suc k) 3 (omega arith)) (omega arith))
    (λ e. let l = ltb-false k 2 e in
    cases (ltb k 3) (λ t. rw (t, t, le-ltb (suc k) 3 (omega arith)) (omega (arith, ltb-true k 3 t))) (λ t. rw (t, le-ltb (suc k) 3 (omega arith)) refl))

capped_least : (j k : ℕ) → j ≤ 3 → leb j (capped k) ≡ leb j k
capped_least j k h =
    cases (ltb k 3) (λ t. rw t refl)
    (λ t. let l = ltb-false k 3 t in rw (t, le-leb j 3 h, le-leb j k (omega arith)) refl)

capped_none : (k : ℕ) → eqb (capped k) 0 ≡ eqb k 0
capped_none k = cases (ltb k 3) (λ t. rw t refl) (λ t. let l = ltb-false k 3 t in rw (t, ne_eqb k 0 (λ e. omega arith)) refl)

-- ## Open brackets

pub depth-some : (o : Open) → 1 ≤ depth o
depth-some (outermost f) = omega arith
depth-some (within f o) = omega arith

pub outers-length : (o : Open) → suc (length (outers o)) ≡ depth o
outers-length (outermost f) = refl
outers-length (within f o) = ap suc (outers-length o)

pub first_is : (o : Open) → first_place (depth o) (top o) ≡ at_one o
first_is (outermost f) = capped_none (size f)
first_is (within f o) = rw (ne_eqb (suc (depth o)) 1 (λ e. omega (arith, depth-some o))) refl

top-add : (o : Open) (v : Head) (c : ℕ) → top (add_to o v c) ≡ more (top o)
top-add (outermost f) v c = ap capped (size-add f v c) ∙ sym (capped-more (size f))
top-add (within f o) v c = ap capped (size-add f v c) ∙ sym (capped-more (size f))

pub depth-add : (o : Open) (v : Head) (c : ℕ) → depth (add_to o v c) ≡ depth o
depth-add (outermost f) v c = refl
depth-add (within f o) v c = refl

pub outers-add : (o : Open) (v : Head) (c : ℕ) → outers (add_to o v c) ≡ outers o
outers-add (outermost f) v c = refl
outers-add (within f o) v c = refl

-- ## The next byte

only_narrow : (t : Bool) (s : State) → narrow (only_if t s) ≡ pick t (narrow s) Dead
only_narrow true s = refl
only_narrow false s = refl

module _ (b : ℕ) (a : List ℕ) where
  vertex_narrow : (o : Open) → narrow (step (vertex o) b) ≡ vertex_next (depth o) (top o) b
  unfolding step
  vertex_narrow o =
      rw (first_is o)
      (cases (eqb b 40)
      (λ e. rw e (only_narrow (opens o) (vertex (within none o)) ∙ ap (λ (d : ℕ). pick (opens o) (Vertex d 0) Dead) (omega arith)))
      (λ e. rw e (only_narrow (begins o b) (head o (trees.named (b - 48))))))

  head_narrow : (o : Open) (v : Head) → narrow (step (head o v) b) ≡ next_seen (narrow (head o v)) b a
  unfolding step
  head_narrow o (trees.named i) =
      rw (first_is o)
      (cases (eqb b 58) (λ e. rw e refl)
      (λ e. rw e (only_narrow (is_digit b) (second o (trees.named i) b)
      ∙ ap (λ (s : Seen). pick (is_digit b) s Dead) (only_narrow (grows o i) (head o (trees.named (10 * i + (b - 48))))))))
  head_narrow o (trees.closed g) = cases (eqb b 58) (λ e. rw e refl) (λ e. rw e (cases (is_digit b) (λ t. rw t refl) (λ t. rw t refl)))

  close-narrow : (o : Open) → Stacked a (outers o) → narrow (close o) ≡ closed (depth o) (top o) a
  close-narrow (outermost f) h = only_narrow (leb 3 (size f)) (ended f) ∙ ap (λ (t : Bool). pick t Ended Dead) (sym (capped_least 3 (size f) (omega arith)))
  close-narrow (within f o) h =
      let d : get_or a (suc (depth o) - 2) 0 ≡ top o = ap (λ (i : ℕ). get_or a i 0) (omega (arith, outers-length o)) ∙ h.0 in
      only_narrow (leb 2 (size f)) (head o (trees.closed f))
      ∙ rw (ne_eqb (suc (depth o)) 1 (λ e. omega (arith, depth-some o)), capped_least 2 (size f) (omega arith), d)
      (ap (λ (x : ℕ). pick (leb 2 (size f)) (Closed x (top o)) Dead) (omega arith))

  value-narrow : (o : Open) (v : Head) (x : ℕ) → Stacked a (outers o) → narrow (step (costing o v (value x)) b) ≡ cost_next x (depth o) (top o) b a
  unfolding step
  value-narrow o v x h =
      let o' = add_to o v x in
      cases (eqb b 44)
      (λ e. rw e (ap (λ (d : ℕ). Vertex d (top o')) (depth-add o v x) ∙ ap (Vertex (depth o)) (top-add o v x)))
      (λ e. rw e (cases (eqb b 41)
      (λ u. rw u (close-narrow o' (rw (outers-add o v x) h)
      ∙ ap (λ (d : ℕ). closed d (top o') a) (depth-add o v x) ∙ ap (λ (k : ℕ). closed (depth o) k a) (top-add o v x)))
      (λ u. rw u (only_narrow (is_digit b) (digit_of o v x b)
      ∙ ap (λ (s : Seen). pick (is_digit b) s Dead) (only_narrow (leb 1 x && ltb x 10000000) (costing o v (value (10 * x + (b - 48)))))))))

  -- the numbers after the next byte
  pub narrow_step : (s : State) → Stacked a (stack s) → narrow (step s b) ≡ next_seen (narrow s) b a
  unfolding step
  narrow_step start h = only_narrow (eqb b 40) (vertex (outermost none))
  narrow_step (vertex o) h = vertex_narrow o
  narrow_step (head o v) h = head_narrow o v
  narrow_step (costing o v blank) h = only_narrow (is_digit b) (costing o v (value (b - 48)))
  narrow_step (costing o v (value x)) h = value-narrow o v x h
  narrow_step (ended f) h = only_narrow (eqb b 59) (done f)
  narrow_step (done f) h = refl
  narrow_step dead h = refl
