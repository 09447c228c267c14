-- One vertex more: what is noted of it. Assumes nothing.
use Rattle.std.specs.Prelude.{◌||◌, List, [], ◌++◌, ◌∷◌, refl, ◌≡◌, suc, ℕ, ◌+◌, ◌-◌, ◌≤◌, ltb, length}
use Rattle.std.proofs.Common.{append_assoc, ap, sym, ◌∙◌, arith, length-append}
use borrow.Table.Steps.{cases}
use Rattle.ground.specs.Sums.{when}
use Rattle.theory.specs.FarSides.{holds}
use Rattle.theory.specs.LinkTables.{Row}
use Rattle.text.specs.Decimal.{decimal}
use Rattle.newick_text.specs.Trees.{Head, Siblings, add, behind, bracket, closed, image, listed, named, none}
use Rattle.newick_text.specs.Tables.{names}
use Rattle.newick_text.specs.Noting.{fallen, image_bit, last_far, lower_place, mark, marked, noted, noted_far}
use Rattle.newick_scan.specs.Notes.{called, headed, inside}
use Rattle.newick_notes.specs.Laws.Lower.{lower_assoc, lower_none}

-- ## The images named

pub marked-add : (m : ℕ) (f : Siblings) (v : Head) (c : ℕ) → marked m (add f v c) ≡ headed (marked m f) v
unfolding marked
marked-add m none (named i) c = refl
marked-add m none (closed g) c = refl
marked-add m (image j d r) v c = marked-add (mark m j) r v c
marked-add m (bracket g d r) v c = marked-add (marked m g) r v c

mark-most : (m i : ℕ) → m ≤ mark m i
mark-most m i = cases (ltb 64 i || holds m (i - 1)) (λ e. rw e (omega arith)) (λ e. rw e (omega arith))

-- none is taken back
pub marked-most : (m : ℕ) (f : Siblings) → m ≤ marked m f
unfolding marked
marked-most m none = omega arith
marked-most m (image i c r) = omega (arith, mark-most m i, marked-most (mark m i) r)
marked-most m (bracket g c r) = omega (arith, marked-most m g, marked-most (marked m g) r)

pub headed-most : (m : ℕ) (v : Head) → m ≤ headed m v
headed-most m (named i) = mark-most m i
headed-most m (closed g) = marked-most m g

pub names-add : (f : Siblings) (v : Head) (c : ℕ) → length (names (add f v c)) ≡ length (names f) + called v
unfolding names
names-add none (named i) c = omega arith
names-add none (closed g) c = rw length-append (omega arith)
names-add (image j d r) v c = omega (arith, names-add r v c)
names-add (bracket g d r) v c = let ih = names-add r v c in rw (length-append (names g) (names (add r v c)), length-append (names g) (names r)) (omega arith)

-- ## The rows

pub noted-add : (m : ℕ) (f : Siblings) (v : Head) (c : ℕ)
    → noted m (add f v c) ≡ (noted m f ++ noted (marked m f) (inside v)) ++ ((noted_far (marked m f) v, c) ∷ [])
unfolding noted marked
noted-add m none (named i) c = refl
noted-add m none (closed g) c = refl
noted-add m (image j d r) v c = ap (λ (l : List Row). (image_bit j, d) ∷ l) (noted-add (mark m j) r v c)
noted-add m (bracket g d r) v c =
    let M = marked m g in
    let x : Row = (M - m, d) in
    ap (λ (l : List Row). noted m g ++ (x ∷ l)) (noted-add M r v c)
    ∙ sym (ap (λ (l : List Row). l ++ ((noted_far (marked M r) v, c) ∷ [])) (append_assoc (noted m g) (x ∷ noted M r) (noted (marked M r) (inside v)))
    ∙ append_assoc (noted m g) (x ∷ (noted M r ++ noted (marked M r) (inside v))) ((noted_far (marked M r) v, c) ∷ []))

pub last_add : (m b : ℕ) (f : Siblings) (v : Head) (c : ℕ) → last_far m b (add f v c) ≡ noted_far (marked m f) v
unfolding last_far marked
last_add m b none (named i) c = refl
last_add m b none (closed g) c = refl
last_add m b (image j d r) v c = last_add (mark m j) (image_bit j) r v c
last_add m b (bracket g d r) v c = last_add (marked m g) (marked m g - m) r v c

-- ## Falls

pub lower_regroup : (a b x w : ℕ) → lower_place a (lower_place (lower_place b x) w) ≡ lower_place (lower_place (lower_place a b) x) w
lower_regroup a b x w = sym (ap (λ (y : ℕ). lower_place y w) (lower_assoc a b x) ∙ lower_assoc a (lower_place b x) w)

none_ends : (p q : ℕ) → q ≡ p + length (listed 44 none) → q ≡ p
unfolding listed
none_ends p q e = omega arith

image_ends : (p j d : ℕ) (r : Siblings)
    → p + length (listed 44 (image j d r)) ≡ (p + (length (decimal j) + (length (decimal d) + 2))) + length (listed 44 r)
unfolding listed
image_ends p j d r =
    rw (length-append (decimal j) (58 ∷ (decimal d ++ (behind 44 r ∷ listed 44 r))), length-append (decimal d) (behind 44 r ∷ listed 44 r)) (omega arith)

bracket_ends : (p : ℕ) (g : Siblings) (d : ℕ) (r : Siblings)
    → p + length (listed 44 (bracket g d r)) ≡ (p + (length (listed 41 g) + (length (decimal d) + 3))) + length (listed 44 r)
unfolding listed
bracket_ends p g d r =
    rw (length-append (listed 41 g) (58 ∷ (decimal d ++ (behind 44 r ∷ listed 44 r))), length-append (decimal d) (behind 44 r ∷ listed 44 r)) (omega arith)

-- q is the place of the vertex that is added
pub fallen-add : (m p b : ℕ) (f : Siblings) (v : Head) (c q : ℕ) → q ≡ p + length (listed 44 f)
    → fallen m p b (add f v c)
    ≡ lower_place (lower_place (fallen m p b f) (fallen (marked m f) (suc q) 0 (inside v))) (when (ltb (noted_far (marked m f) v) (last_far m b f)) q)
unfolding fallen marked last_far
fallen-add m p b none (named i) c q e = rw (none_ends p q e) (lower_none (when (ltb (image_bit i) b) p))
fallen-add m p b none (closed g) c q e = rw (none_ends p q e, lower_none (when (ltb (marked m g - m) b) p)) refl
fallen-add m p b (image j d r) v c q e =
    let M = mark m j in
    let x = fallen (marked M r) (suc q) 0 (inside v) in
    let y = when (ltb (noted_far (marked M r) v) (last_far M (image_bit j) r)) q in
    let p' = p + (length (decimal j) + (length (decimal d) + 2)) in
    ap (lower_place (when (ltb (image_bit j) b) p)) (fallen-add M p' (image_bit j) r v c q (e ∙ image_ends p j d r))
    ∙ lower_regroup (when (ltb (image_bit j) b) p) (fallen M p' (image_bit j) r) x y
fallen-add m p b (bracket g d r) v c q e =
    let M = marked m g in
    let x = fallen (marked M r) (suc q) 0 (inside v) in
    let y = when (ltb (noted_far (marked M r) v) (last_far M (M - m) r)) q in
    let p' = p + (length (listed 41 g) + (length (decimal d) + 3)) in
    let z = when (ltb (M - m) b) p in
    ap (λ (k : ℕ). lower_place (fallen m (suc p) 0 g) (lower_place z k)) (fallen-add M p' (M - m) r v c q (e ∙ bracket_ends p g d r))
    ∙ ap (lower_place (fallen m (suc p) 0 g)) (lower_regroup z (fallen M p' (M - m) r) x y)
    ∙ lower_regroup (fallen m (suc p) 0 g) (lower_place z (fallen M p' (M - m) r)) x y
