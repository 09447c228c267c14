-- The counts of the outer brackets are kept from byte to byte. Assumes nothing.
use Rattle.std.specs.Prelude.{Bool, false, not, true, ◌&&◌, List, [], ◌∷◌, refl, ◌≡◌, ℕ, ◌*◌, ◌+◌, ◌-◌, ◌<◌, ◌≤◌, eqb, leb, set}
use Rattle.std.proofs.Common.{◌∙◌, arith, length-set, get_or-set_other, get_or-set_same}
use Rattle.std.proofs.Math.Dec.{ltb}
use Rattle.std.proofs.Math.ListN.{length}
use borrow.Author.Tests.{ltb-true}
use borrow.Table.Steps.{cases}
use Rattle.newick_text.specs.Trees.{Head, none, size}
use Rattle.newick_text.specs.Trees as trees
use Rattle.newick_text.specs.States.{Open, State, add_to, at_one, blank, costing, dead, depth, done, ended, head, outermost, start, value, vertex, within}
use Rattle.newick_text.specs.Bytes.{begins, close, digit_of, grows, is_digit, only_if, opens, second, step}
use Rattle.ground.specs.Laws.Tests.{and_r}
use Rattle.newick_allowed.specs.Tests.{opened}
use Rattle.newick_bytes.specs.Outer.{next_outer, vertex_outer}
use Rattle.newick_bytes.specs.Kept.{Stacked, narrow, outers, stack, top}
use Rattle.newick_bytes.specs.Laws.Shows.{first_is, outers-add, outers-length}
use Rattle.newick_bytes.specs.declared.Seen.{Seen}
use Rattle.newick_bytes.specs.declared.Seen.TheVariants.{Blank, Closed, Cost, Dead, Done, Ended, Image, Start, Vertex}

stacked_set : (l a : List ℕ) (i k : ℕ) → length l ≤ i → Stacked a l → Stacked (set a i k) l
stacked_set [] a i k h s = tt
stacked_set (x ∷ l) a i k h s = (get_or-set_other a i (length l) k 0 (λ e. omega arith) ∙ s.0, stacked_set l a i k (omega arith) s.1)

only_stacked : (a : List ℕ) (t : Bool) (s : State) → Stacked a (stack s) → Stacked a (stack (only_if t s))
only_stacked a true s h = h
only_stacked a false s h = tt

module _ (b : ℕ) (a : List ℕ) (full : length a ≡ 64) where
  vertex_stacked : (o : Open) → Stacked a (outers o) → Stacked (vertex_outer (depth o) (top o) b a) (stack (step (vertex o) b))
  unfolding step
  vertex_stacked o h =
      rw (first_is o)
      (cases (eqb b 40)
      (λ e. rw e (cases (opens o)
      (λ t.
      let l : depth o < 62 = ltb-true (depth o) 62 (and_r (not (at_one o)) (ltb (depth o) 62) t) in
      let d : length (outers o) ≡ depth o - 1 = omega (arith, outers-length o) in
      rw t (rw d (get_or-set_same a (depth o - 1) (top o) 0 (omega arith)), stacked_set (outers o) a (depth o - 1) (top o) (omega arith) h))
      (λ t. rw t tt)))
      (λ e. rw e (only_stacked a (begins o b) (head o (trees.named (b - 48))) h)))

  second_stacked : (o : Open) (v : Head) → Stacked a (outers o) → Stacked a (stack (second o v b))
  second_stacked o (trees.named i) h = only_stacked a (grows o i) (head o (trees.named (10 * i + (b - 48)))) h
  second_stacked o (trees.closed g) h = tt

  head_stacked : (o : Open) (v : Head) → Stacked a (outers o) → Stacked a (stack (step (head o v) b))
  unfolding step
  head_stacked o v h = cases (eqb b 58) (λ e. rw e h) (λ e. rw e (only_stacked a (is_digit b) (second o v b) (second_stacked o v h)))

  close_stacked : (o : Open) → Stacked a (outers o) → Stacked a (stack (close o))
  close_stacked (outermost f) h = only_stacked a (leb 3 (size f)) (ended f) tt
  close_stacked (within f o) h = only_stacked a (leb 2 (size f)) (head o (trees.closed f)) h.1

  value_stacked : (o : Open) (v : Head) (x : ℕ) → Stacked a (outers o) → Stacked a (stack (step (costing o v (value x)) b))
  unfolding step
  value_stacked o v x h =
      let h' : Stacked a (outers (add_to o v x)) = rw (outers-add o v x) h in
      cases (eqb b 44) (λ e. rw e h')
      (λ e. rw e (cases (eqb b 41) (λ u. rw u (close_stacked (add_to o v x) h'))
      (λ u. rw u (only_stacked a (is_digit b) (digit_of o v x b) (only_stacked a (leb 1 x && ltb x 10000000) (costing o v (value (10 * x + (b - 48)))) h)))))

  pub stacked_step : (s : State) → Stacked a (stack s) → Stacked (next_outer (narrow s) b a) (stack (step s b))
  unfolding step
  stacked_step start h = only_stacked a (eqb b 40) (vertex (outermost none)) tt
  stacked_step (vertex o) h = vertex_stacked o h
  stacked_step (head o (trees.named i)) h = head_stacked o (trees.named i) h
  stacked_step (head o (trees.closed g)) h = head_stacked o (trees.closed g) h
  stacked_step (costing o v blank) h = only_stacked a (is_digit b) (costing o v (value (b - 48))) h
  stacked_step (costing o v (value x)) h = value_stacked o v x h
  stacked_step (ended f) h = only_stacked a (eqb b 59) (done f) tt
  stacked_step (done f) h = tt
  stacked_step dead h = tt

pub length-next : (s : Seen) (b : ℕ) (a : List ℕ) → length (next_outer s b a) ≡ length a
length-next Start b a = refl
length-next (Vertex d k) b a = cases (eqb b 40 && opened d k) (λ e. rw e (length-set a (d - 1) k)) (λ e. rw e refl)
length-next (Image x d k) b a = refl
length-next (Closed d k) b a = refl
length-next (Blank d k) b a = refl
length-next (Cost x d k) b a = refl
length-next Ended b a = refl
length-next Done b a = refl
length-next Dead b a = refl
