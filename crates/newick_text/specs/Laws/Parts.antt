-- Some of the vertices, and the others. Assumes nothing.
use Rattle.std.specs.Prelude.{Bool, cond, false, not, true, List, ◌++◌, ◌∷◌, refl, ◌≡◌, suc, ℕ, ◌+◌, ◌≤◌}
use mathlib.Core.List.Memᴰ
use Rattle.std.proofs.Common.{ap, sym, ◌∙◌, arith}
use borrow.Table.Steps.{cases}
use Rattle.ground.specs.Filters.{Each, filter}
use Rattle.theory.specs.LinkTables.{Row}
use Rattle.newick_text.specs.Trees.{Head, Siblings, add, bracket, closed, image, named, none}
use Rattle.newick_text.specs.Tables.{image_side, insert, rows, side}
use Rattle.newick_text.specs.Order.{Rising}
use Rattle.newick_text.specs.LinkTrees.{part}
use Rattle.newick_text.specs.Laws.Sorting.{all_append, all_comm, all_insert, insert_all}
use Rattle.newick_text.specs.Laws.Vertices.{Bushy, Named, Once, head_side, occ, tops}

pub part-occ : (p : ℕ → Bool) (f : Siblings) (m : ℕ) → occ (part p f) m + occ (part (λ S. not (p S)) f) m ≡ occ f m
unfolding part occ
part-occ p none m = refl
part-occ p (image i c r) m =
    let ih = part-occ p r m in
    cases (p (image_side i)) (λ e. rw e (omega arith)) (λ e. rw e (omega arith))
part-occ p (bracket g c r) m =
    let ih = part-occ p r m in
    cases (p (side g)) (λ e. rw e (omega arith)) (λ e. rw e (omega arith))

pub part_once : (p : ℕ → Bool) (f : Siblings) → Once f → Once (part p f)
part_once p f o m = omega (arith, part-occ p f m, o m)

pub part-named : (n : ℕ) (p : ℕ → Bool) (f : Siblings) → Named n f → Named n (part p f)
unfolding part
part-named n p none h = tt
part-named n p (image i c r) h =
    let ih = part-named n p r h.2 in
    cases (p (image_side i)) (λ e. rw e (h.0, h.1, ih)) (λ e. rw e ih)
part-named n p (bracket g c r) h =
    let ih = part-named n p r h.1 in
    cases (p (side g)) (λ e. rw e (h.0, ih)) (λ e. rw e ih)

pub part-tops : (p : ℕ → Bool) (f : Siblings) → tops (part p f) ≡ filter p (tops f)
unfolding part tops
part-tops p none = refl
part-tops p (image i c r) = let ih = part-tops p r in cases (p (image_side i)) (λ e. rw e (ap (λ (l : List ℕ). image_side i ∷ l) ih)) (λ e. rw e ih)
part-tops p (bracket g c r) = let ih = part-tops p r in cases (p (side g)) (λ e. rw e (ap (λ (l : List ℕ). side g ∷ l) ih)) (λ e. rw e ih)

pub bushy_part : (p : ℕ → Bool) (f : Siblings) → Bushy f → Bushy (part p f)
unfolding part
bushy_part p none h = tt
bushy_part p (image i c r) h = let ih = bushy_part p r h in cases (p (image_side i)) (λ e. rw e ih) (λ e. rw e ih)
bushy_part p (bracket g c r) h = let ih = bushy_part p r h.2 in cases (p (side g)) (λ e. rw e (h.0, h.1, ih)) (λ e. rw e ih)

pub rising_from : (a b : ℕ) (f : Siblings) → a ≤ b → Rising b f → Rising a f
rising_from a b none l h = tt
rising_from a b (image i c r) l h = (omega (arith, h.0), h.1)
rising_from a b (bracket g c r) l h = (omega (arith, h.0), h.1, h.2)

pub rising_part : (p : ℕ → Bool) (b : ℕ) (f : Siblings) → Rising b f → Rising b (part p f)
unfolding part
rising_part p b none h = tt
rising_part p b (image i c r) h =
    let ih = rising_part p (suc (image_side i)) r h.1 in
    cases (p (image_side i)) (λ e. rw e (h.0, ih)) (λ e. rw e (rising_from b (suc (image_side i)) (part p r) (omega (arith, h.0)) ih))
rising_part p b (bracket g c r) h =
    let ih = rising_part p (suc (side g)) r h.2 in
    cases (p (side g)) (λ e. rw e (h.0, h.1, ih)) (λ e. rw e (rising_from b (suc (side g)) (part p r) (omega (arith, h.0)) ih))

-- no vertex passes
pub part_none : (p : ℕ → Bool) (f : Siblings) → Each (tops f) (λ X. p X ≡ false) → part p f ≡ none
unfolding part tops
part_none p none h = refl
part_none p (image i c r) h = rw (h _ (Memᴰ.head refl)) (part_none p r (λ X d. h X (Memᴰ.tail d)))
part_none p (bracket g c r) h = rw (h _ (Memᴰ.head refl)) (part_none p r (λ X d. h X (Memᴰ.tail d)))

pub part-all : (p : ℕ → Bool) (f : Siblings) → Each (tops f) (λ X. p X ≡ true) → part p f ≡ f
unfolding part tops
part-all p none h = refl
part-all p (image i c r) h = rw (h _ (Memᴰ.head refl)) (ap (image i c) (part-all p r (λ X d. h X (Memᴰ.tail d))))
part-all p (bracket g c r) h = rw (h _ (Memᴰ.head refl)) (ap (bracket g c) (part-all p r (λ X d. h X (Memᴰ.tail d))))

pub part-add : (p : ℕ → Bool) (f : Siblings) (v : Head) (c : ℕ) → part p (add f v c) ≡ cond (p (head_side v)) (add (part p f) v c) (part p f)
unfolding part
part-add p none (named i) c = cases (p (image_side i)) (λ e. rw e refl) (λ e. rw e refl)
part-add p none (closed g) c = cases (p (side g)) (λ e. rw e refl) (λ e. rw e refl)
part-add p (image j d r) v c =
    let ih = part-add p r v c in
    cases (p (image_side j)) (λ e. rw (e, ih) (cases (p (head_side v)) (λ t. rw t refl) (λ t. rw t refl))) (λ e. rw (e, ih) refl)
part-add p (bracket g d r) v c =
    let ih = part-add p r v c in
    cases (p (side g)) (λ e. rw (e, ih) (cases (p (head_side v)) (λ t. rw t refl) (λ t. rw t refl))) (λ e. rw (e, ih) refl)

-- ## The rows of a part, and of the rest, are all rows

pub part-rows : (p : ℕ → Bool) (f : Siblings) (m : List Row)
    → insert_all (rows (part (λ S. not (p S)) f)) (insert_all (rows (part p f)) m) ≡ insert_all (rows f) m
unfolding part rows insert_all
part-rows p none m = refl
part-rows p (image i c r) m =
    let ih = part-rows p r m in
    let x : Row = (image_side i, c) in
    cases (p (image_side i))
    (λ e. rw e (all_insert x (rows (part (λ S. not (p S)) r)) (insert_all (rows (part p r)) m) ∙ ap (insert x) ih))
    (λ e. rw e (ap (insert x) ih))
part-rows p (bracket g c r) m =
    let ih = part-rows p r m in
    let x : Row = (side g, c) in
    let a = rows (part (λ S. not (p S)) r) in
    let b = rows (part p r) in
    let last : insert_all (rows g) (insert x (insert_all a (insert_all b m))) ≡ insert_all (rows g ++ (x ∷ rows r)) m =
    ap (λ (l : List Row). insert_all (rows g) (insert x l)) ih ∙ sym (all_append (rows g) (x ∷ rows r) m) in
    cases (p (side g))
    (λ e. rw e
    (ap (insert_all a) (all_append (rows g) (x ∷ b) m)
    ∙ all_comm a (rows g) (insert x (insert_all b m))
    ∙ ap (insert_all (rows g)) (all_insert x a (insert_all b m))
    ∙ last))
    (λ e. rw e (all_append (rows g) (x ∷ a) (insert_all b m) ∙ last))
