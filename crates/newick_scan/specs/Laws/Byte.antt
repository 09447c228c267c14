-- What is noted after the next byte is what was read then. Assumes nothing.
use Rattle.std.specs.Prelude.{not, ◌&&◌, ◌≡◌, suc, ℕ, ◌*◌, ◌+◌, ◌-◌, eqb, leb, length}
use Rattle.std.proofs.Common.{ap, arith}
use Rattle.std.proofs.Math.Dec.{ltb}
use borrow.Author.Tests.{ltb-true}
use borrow.Table.Steps.{cases}
use Rattle.ground.specs.Laws.Tests.{and_r}
use Rattle.newick_text.specs.Trees.{Head, none}
use Rattle.newick_text.specs.Trees as trees
use Rattle.newick_text.specs.States.{Open, State, add_to, at_one, blank, costing, dead, depth, done, ended, head, outermost, start, value, vertex, within}
use Rattle.newick_text.specs.Bytes.{begins, close, digit_of, grows, is_digit, opens, second, step}
use Rattle.newick_text.specs.Spelled.{spelled}
use Rattle.newick_text.proofs.Laws.Live.{Live, dead_not, only}
use Rattle.newick_bytes.specs.Kept.{narrow}
use Rattle.newick_bytes.specs.Laws.Shows.{depth-add}
use Rattle.newick_notes.specs.Stacks.{Sized}
use Rattle.newick_scan.specs.Noting.{Closes, Completes, Kept, Noting, kept}
use Rattle.newick_scan.specs.Notes.{place_open}
use Rattle.newick_scan.specs.Reading.{Notes}
use Rattle.newick_scan.specs.Laws.Stepping.{begin_notes, close_notes, complete_notes, name_notes, open_notes}

-- the byte b at place p, with x before it and y after it
module _ (b p : ℕ) (x y : Kept) where
  -- where it changes nothing
  same_notes : (s : State) → y ≡ x → Notes s x → Notes s y
  same_notes s e h = rw e h

  vertex_byte : (o : Open) → Sized x.stacks → p ≡ place_open o → Live (step (vertex o) b) → Notes (vertex o) x
      → Noting (narrow (vertex o)) b p x y → Notes (step (vertex o) b) y
  unfolding step
  vertex_byte o z q l h n =
      cases (eqb b 40)
      (λ t. rw t (only (λ s. Notes s y) (opens o) (vertex (within none o)) (rw t at l) (λ k m.
      open_notes b p x y o q h n t (omega (arith, ltb-true (depth o) 62 (and_r (not (at_one o)) (ltb (depth o) 62) k))) z)))
      (λ t. rw t (only (λ s. Notes s y) (begins o b) (head o (trees.named (b - 48))) (rw t at l) (λ k m. begin_notes b p x y o q h n (b - 48) t)))

  head_byte : (o : Open) (u : Head) → Live (step (head o u) b) → Notes (head o u) x → Noting (narrow (head o u)) b p x y → Notes (step (head o u) b) y
  unfolding step
  head_byte o (trees.named i) l h n =
      cases (eqb b 58)
      (λ t. rw t (name_notes b x y o i t h n))
      (λ t. rw t (only (λ s. Notes s y) (is_digit b) (second o (trees.named i) b) (rw t at l) (λ k m.
      only (λ s. Notes s y) (grows o i) (head o (trees.named (10 * i + (b - 48)))) m (λ j r. same_notes (head o (trees.named i)) (rw t at n) h))))
  head_byte o (trees.closed g) l h n =
      cases (eqb b 58)
      (λ t. rw t (same_notes (head o (trees.closed g)) n h))
      (λ t. rw t (only (λ s. Notes s y) (is_digit b) dead (rw t at l) (λ k m. dead_not m)))

  comma_byte : (o : Open) (u : Head) (c : ℕ) → Notes (costing o u (value c)) x → Completes c x y → Notes (vertex (add_to o u c)) y
  comma_byte o u c h n =
      let e : y ≡ kept y.noted x.stacks y.fars y.costs = ap (λ a. kept y.noted a y.fars y.costs) n.stacks in
      rw e (complete_notes x y.noted y.fars y.costs o u (value c) c h n.complete)

  close_byte : (o : Open) (u : Head) (c : ℕ) → Live (close (add_to o u c)) → Notes (costing o u (value c)) x
      → Closes c (depth o) x y → Notes (close (add_to o u c)) y
  close_byte o u c l h n =
      let e : y ≡ kept y.noted x.stacks y.fars y.costs = ap (λ a. kept y.noted a y.fars y.costs) n.stacks in
      let i = kept n.inner x.stacks y.fars y.costs in
      let m = complete_notes x n.inner y.fars y.costs o u (value c) c h n.complete in
      rw e (close_notes i y.noted (add_to o u c) l m (rw (depth-add o u c) n.told))

  value_byte : (o : Open) (u : Head) (c : ℕ) → Live (step (costing o u (value c)) b) → Notes (costing o u (value c)) x
      → Noting (narrow (costing o u (value c))) b p x y → Notes (step (costing o u (value c)) b) y
  unfolding step
  value_byte o u c l h n =
      cases (eqb b 44)
      (λ t. rw t (comma_byte o u c h (rw t at n)))
      (λ t. rw t (cases (eqb b 41)
      (λ k. rw k (close_byte o u c (rw (t, k) at l) h (rw (t, k) at n)))
      (λ k. rw k (only (λ s. Notes s y) (is_digit b) (digit_of o u c b) (rw (t, k) at l) (λ i m.
      only (λ s. Notes s y) (leb 1 c && ltb c 10000000) (costing o u (value (10 * c + (b - 48)))) m (λ j r.
      same_notes (costing o u (value c)) (rw (t, k) at n) h))))))

  -- while what was read is a beginning, what is noted is what was read
  pub notes_byte : (s : State) → Sized x.stacks → p ≡ suc (length (spelled s)) → Live (step s b) → Notes s x
      → Noting (narrow s) b p x y → Notes (step s b) y
  unfolding step spelled
  notes_byte start z q l h n = only (λ s. Notes s y) (eqb b 40) (vertex (outermost none)) l (λ k m. same_notes start n h)
  notes_byte (vertex o) z q l h n = vertex_byte o z q l h n
  notes_byte (head o u) z q l h n = head_byte o u l h n
  notes_byte (costing o u blank) z q l h n = only (λ s. Notes s y) (is_digit b) (costing o u (value (b - 48))) l (λ k m. same_notes (costing o u blank) n h)
  notes_byte (costing o u (value c)) z q l h n = value_byte o u c l h n
  notes_byte (ended g) z q l h n = only (λ s. Notes s y) (eqb b 59) (done g) l (λ k m. same_notes (ended g) n h)
  notes_byte (done g) z q l h n = dead_not l
  notes_byte dead z q l h n = dead_not l
