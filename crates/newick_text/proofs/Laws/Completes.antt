-- Whatever was read and is alive is the beginning of some text of the profile: more vertices, and then every open bracket closes. Assumes nothing.
use Rattle.std.specs.Prelude.{false, true, List, [], ◌++◌, ◌∷◌, ◌≡◌, ℕ, ◌≤◌}
use Rattle.std.proofs.Math.Path.{ap, refl}
use Rattle.std.proofs.Common.{◌∙◌, arith, le-leb}
use borrow.Table.Steps.{cases}
use Rattle.newick_text.specs.Trees.{Head, Siblings, add, closed, named, none, size}
use Rattle.newick_text.specs.States.{Open, State, add_to, at_one, blank, costing, dead, done, ended, head, outermost, start, value, vertex, within}
use Rattle.newick_text.specs.Bytes.{close, run, step}
use Rattle.newick_text.specs.Laws.Adding.{at_one-add, size-add}
use Rattle.newick_text.proofs.Laws.Live.{Live, dead_not, run-append}

-- some text leads from s to the end
pub record Ends (s : State) : Type 0 where
  pub rest : List ℕ
  pub tree : Siblings
  pub ends : run s rest ≡ done tree

-- the bytes t first
ends_behind : (s : State) (t : List ℕ) → Ends (run s t) → Ends s
ends_behind s t e = record { rest = t ++ e.rest; tree = e.tree; ends = run-append s t e.rest ∙ e.ends }

-- 2:0, where the first place is taken
two : (o : Open) → at_one o ≡ false → run (vertex o) (50 ∷ 58 ∷ 48 ∷ []) ≡ costing o (named 2) (value 0)
unfolding run step
two o e = rw e refl

-- 1:0, in the first place
one : (o : Open) → at_one o ≡ true → run (vertex o) (49 ∷ 58 ∷ 48 ∷ []) ≡ costing o (named 1) (value 0)
unfolding run step
one o e = rw e refl

-- ",2:0,2:0)": two more vertices behind a vertex with its cost, and the bracket closes
abbrev two_text : List ℕ
two_text = 44 ∷ 50 ∷ 58 ∷ 48 ∷ 44 ∷ 50 ∷ 58 ∷ 48 ∷ 41 ∷ []

two_more : Siblings → Head → ℕ → Siblings
two_more f v c = add (add (add f v c) (named 2) 0) (named 2) 0

size-more : (f : Siblings) (v : Head) (c : ℕ) → 3 ≤ size (two_more f v c)
unfolding two_more
size-more f v c = omega (arith, size-add f v c, size-add (add f v c) (named 2) 0, size-add (add (add f v c) (named 2) 0) (named 2) 0)

two_more_lem : (o : Open) (v : Head) (c : ℕ) → run (costing o v (value c)) two_text ≡ close (add_to (add_to (add_to o v c) (named 2) 0) (named 2) 0)
unfolding run step
two_more_lem o v c = rw (at_one-add o v c, at_one-add (add_to o v c) (named 2) 0) refl

head_ends : (o : Open) (v : Head) → Ends (costing o v (value 0)) → Ends (head o v)
unfolding run step
head_ends o v e = ends_behind (head o v) (58 ∷ 48 ∷ []) e

costing_ends : (o : Open) (v : Head) (c : ℕ) → Ends (costing o v (value c))
unfolding two_more
costing_ends (outermost f) v c =
    let f' = two_more f v c in
    let h : 3 ≤ size f' = size-more f v c in
    let e : run (ended f') (59 ∷ []) ≡ done f' = unfold run step in refl in
    let q : close (outermost f') ≡ ended f' = rw (le-leb 3 (size f') h) refl in
    ends_behind (costing (outermost f) v (value c)) two_text
    (record { rest = 59 ∷ []; tree = f'; ends = ap (λ (s : State). run s (59 ∷ [])) (two_more_lem (outermost f) v c ∙ q) ∙ e })
costing_ends (within f o) v c =
    let f' = two_more f v c in
    let h : 2 ≤ size f' = omega (arith, size-more f v c) in
    let ih = costing_ends o (closed f') 0 in
    let q : run (costing (within f o) v (value c)) two_text ≡ head o (closed f') = two_more_lem (within f o) v c ∙ rw (le-leb 2 (size f') h) refl in
    ends_behind (costing (within f o) v (value c)) two_text (rw q (head_ends o (closed f') ih))

vertex_ends : (o : Open) → Ends (vertex o)
vertex_ends o =
    cases (at_one o)
    (λ e. ends_behind (vertex o) (49 ∷ 58 ∷ 48 ∷ []) (rw (one o e) (costing_ends o (named 1) 0)))
    (λ e. ends_behind (vertex o) (50 ∷ 58 ∷ 48 ∷ []) (rw (two o e) (costing_ends o (named 2) 0)))

-- every state that is alive leads to the end
pub live_ends : (s : State) → Live s → Ends s
live_ends start e = ends_behind start (40 ∷ []) (unfold run step in vertex_ends (outermost none))
live_ends (vertex o) e = vertex_ends o
live_ends (head o v) e = head_ends o v (costing_ends o v 0)
live_ends (costing o v blank) e = ends_behind (costing o v blank) (48 ∷ []) (unfold run step in costing_ends o v 0)
live_ends (costing o v (value x)) e = costing_ends o v x
live_ends (ended f) e = record { rest = 59 ∷ []; tree = f; ends = unfold run step in refl }
live_ends (done f) e = record { rest = []; tree = f; ends = unfold run in refl }
live_ends dead e = dead_not e
