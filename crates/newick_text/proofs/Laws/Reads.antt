-- Every text of the profile is read to its end, and gives its tree. Assumes nothing.
use Rattle.std.specs.Prelude.{false, true, List, [], ◌++◌, ◌∷◌, ◌≡◌, ℕ, ◌<◌, ◌≤◌}
use Rattle.std.proofs.lemmas.Bool.{false≢true}
use Rattle.std.proofs.Common.{append_assoc, ap, sym, ◌∙◌, arith, le-leb, lt-ltb}
use Rattle.std.proofs.Math.Path.{refl}
use borrow.Table.Steps.{cases}
use Rattle.text.specs.Decimal.{decimal}
use Rattle.newick_text.specs.Trees.{Head, Siblings, add, behind, bracket, closed, image, listed, named, none, put, size, text}
use Rattle.newick_text.specs.Profile.{CostFits, Formed, OneFirst, Tree}
use Rattle.newick_text.specs.States.{Open, State, add_to, at_one, costing, depth, done, head, outermost, start, value, vertex, within}
use Rattle.newick_text.specs.Bytes.{close, run, step}
use Rattle.newick_text.specs.Laws.Adding.{at_one-add}
use Rattle.newick_text.proofs.Laws.Digits.{cost_read, image_read}

-- ## Vertices in a bracket

-- g behind the vertices of the innermost bracket
abbrev pub add_all : Open → Siblings → Open
add_all o none = o
add_all o (image i c r) = add_all (add_to o (named i) c) r
add_all o (bracket g c r) = add_all (add_to o (closed g) c) r

abbrev join : Siblings → Siblings → Siblings
join none g = g
join (image i c r) g = image i c (join r g)
join (bracket h c r) g = bracket h c (join r g)

join-add : (f : Siblings) (v : Head) (c : ℕ) (r : Siblings) → join (add f v c) r ≡ join f (put v c r)
join-add none (named i) c r = refl
join-add none (closed g) c r = refl
join-add (image i d f) v c r = ap (image i d) (join-add f v c r)
join-add (bracket h d f) v c r = ap (bracket h d) (join-add f v c r)

join_none : (f : Siblings) → join f none ≡ f
join_none none = refl
join_none (image i d f) = ap (image i d) (join_none f)
join_none (bracket h d f) = ap (bracket h d) (join_none f)

add_within : (g f : Siblings) (o : Open) → add_all (within f o) g ≡ within (join f g) o
add_within none f o = ap (λ (x : Siblings). within x o) (sym (join_none f))
add_within (image i c r) f o = add_within r (add f (named i) c) o ∙ ap (λ (x : Siblings). within x o) (join-add f (named i) c r)
add_within (bracket g c r) f o = add_within r (add f (closed g) c) o ∙ ap (λ (x : Siblings). within x o) (join-add f (closed g) c r)

add_outermost : (g f : Siblings) → add_all (outermost f) g ≡ outermost (join f g)
add_outermost none f = ap outermost (sym (join_none f))
add_outermost (image i c r) f = add_outermost r (add f (named i) c) ∙ ap outermost (join-add f (named i) c r)
add_outermost (bracket g c r) f = add_outermost r (add f (closed g) c) ∙ ap outermost (join-add f (closed g) c r)

depth-add : (o : Open) (v : Head) (c : ℕ) → depth (add_to o v c) ≡ depth o
depth-add (outermost f) v c = refl
depth-add (within f o) v c = refl

-- ## Reading them

-- a vertex, its cost, and what is behind it
after : (o : Open) (v : Head) (c : ℕ) (r : Siblings) (t : List ℕ) → CostFits c
    → (1 ≤ size r → run (vertex (add_to o v c)) (listed 41 r ++ t) ≡ run (close (add_all (add_to o v c) r)) t)
    → run (head o v) ((58 ∷ (decimal c ++ (behind 41 r ∷ listed 41 r))) ++ t) ≡ run (close (add_all (add_to o v c) r)) t
unfolding run
after o v c r t f ih =
    rw (append_assoc (decimal c) (behind 41 r ∷ listed 41 r) t) (cost_step ∙ go r ih)
  where
    cost_step : run (step (head o v) 58) (decimal c ++ (behind 41 r ∷ (listed 41 r ++ t))) ≡ run (costing o v (value c)) (behind 41 r ∷ (listed 41 r ++ t))
    cost_step = unfold step in cost_read o v c (behind 41 r ∷ (listed 41 r ++ t)) f

    go : (r : Siblings) → (1 ≤ size r → run (vertex (add_to o v c)) (listed 41 r ++ t) ≡ run (close (add_all (add_to o v c) r)) t)
        → run (step (costing o v (value c)) (behind 41 r)) (listed 41 r ++ t) ≡ run (close (add_all (add_to o v c) r)) t
    go none ih = unfold step listed in refl
    go (image i d q) ih = unfold step in ih (omega arith)
    go (bracket g d q) ih = unfold step in ih (omega arith)

open_step : (o : Open) (t : List ℕ) → at_one o ≡ false → depth o < 62 → run (vertex o) (40 ∷ t) ≡ run (vertex (within none o)) t
unfolding run step
open_step o t e h = rw (e, lt-ltb (depth o) 62 h) refl

close_within : (o : Open) (g : Siblings) → 2 ≤ size g → close (add_all (within none o) g) ≡ head o (closed g)
close_within o g h = rw (add_within g none o, le-leb 2 (size g) h) refl

-- all vertices of a bracket, which then closes
pub siblings_read : (g : Siblings) (o : Open) (t : List ℕ) → 1 ≤ size g → Formed (depth o) g → (at_one o ≡ true → OneFirst g)
    → run (vertex o) (listed 41 g ++ t) ≡ run (close (add_all o g)) t
unfolding listed
siblings_read none o t h p f = absurd (omega arith)
siblings_read (image i c r) o t h p f =
    let ih = siblings_read r (add_to o (named i) c) t in
    rw (append_assoc (decimal i) (58 ∷ (decimal c ++ (behind 41 r ∷ listed 41 r))) t)
    (image_read o i _ p.0 f
    ∙ after o (named i) c r t p.1 (λ s. ih s (rw (depth-add o (named i) c) p.2) (λ e. absurd (false≢true (sym (at_one-add o (named i) c) ∙ e)))))
siblings_read (bracket g c r) o t h p f =
    let ih = siblings_read r (add_to o (closed g) c) t in
    let x : List ℕ = 58 ∷ (decimal c ++ (behind 41 r ∷ listed 41 r)) in
    let z : at_one o ≡ false = cases (at_one o) (λ a. absurd (f a)) (λ a. a) in
    let inner = siblings_read g (within none o) (x ++ t) (omega (arith, p.1)) p.2 (λ e. absurd (false≢true e)) in
    open_step o ((listed 41 g ++ x) ++ t) z p.0
    ∙ ap (λ (m : List ℕ). run (vertex (within none o)) m) (append_assoc (listed 41 g) x t)
    ∙ inner
    ∙ ap (λ (s : State). run s (x ++ t)) (close_within o g p.1)
    ∙ after o (closed g) c r t p.3 (λ s. ih s (rw (depth-add o (closed g) c) p.4) (λ e. absurd (false≢true (sym (at_one-add o (closed g) c) ∙ e))))

-- the text of a tree of the profile is read to its end, and gives the tree
pub tree_read : (f : Siblings) → Tree f → run start (text f) ≡ done f
unfolding run step
tree_read f w =
    siblings_read f (outermost none) (59 ∷ []) (omega (arith, w.three)) w.formed (λ e. w.one)
    ∙ ap (λ (o : Open). run (close o) (59 ∷ [])) (add_outermost f none)
    ∙ rw (le-leb 3 (size f) w.three) refl
