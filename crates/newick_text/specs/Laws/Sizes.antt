-- How the far sides of vertices, of their rows and of all of them together compare. Assumes nothing.
use mathlib.Core.List.Memᴰ
use Rattle.std.specs.Prelude.{◌∷◌, refl, ◌≡◌, suc, ℕ, ◌+◌, ◌-◌, ◌<◌, ◌≤◌, length}
use Rattle.std.proofs.Common.{arith, length-append, pow_pos}
use Rattle.ground.specs.Filters.{Each}
use Rattle.ground.specs.Laws.Filters.{each_append, each_cons, each_nil}
use Rattle.newick_text.specs.Trees.{Head, Siblings, bracket, closed, image, named, none, size}
use Rattle.newick_text.specs.Tables.{image_side, rows, side}
use Rattle.newick_text.specs.Laws.Vertices.{Bushy, HeadBushy, head_side, tops}

-- no far side in the rows is above all
pub rows-side : (f : Siblings) → Each (rows f) (λ r. r.0 ≤ side f)
unfolding rows side
rows-side none = each_nil (λ r. r.0 ≤ 0)
rows-side (image i c q) = each_cons (λ r. r.0 ≤ side (image i c q)) (image_side i, c) (rows q) (omega arith) (λ r d. omega (arith, rows-side q r d))
rows-side (bracket g c q) =
    each_append (λ r. r.0 ≤ side (bracket g c q)) (rows g) ((side g, c) ∷ rows q) (λ r d. omega (arith, rows-side g r d))
    (each_cons (λ r. r.0 ≤ side (bracket g c q)) (side g, c) (rows q) (omega arith) (λ r d. omega (arith, rows-side q r d)))

pub rows-below : (K : ℕ) (f : Siblings) → Each (tops f) (λ X. X < K) → Each (rows f) (λ r. r.0 < K)
unfolding rows tops
rows-below K none h = each_nil (λ r. r.0 < K)
rows-below K (image i c q) h =
    each_cons (λ r. r.0 < K) (image_side i, c) (rows q) (h (image_side i) (Memᴰ.head refl)) (rows-below K q (λ X d. h X (Memᴰ.tail d)))
rows-below K (bracket g c q) h =
    let k = h (side g) (Memᴰ.head refl) in
    each_append (λ r. r.0 < K) (rows g) ((side g, c) ∷ rows q) (λ r d. omega (arith, rows-side g r d))
    (each_cons (λ r. r.0 < K) (side g, c) (rows q) k (rows-below K q (λ X d. h X (Memᴰ.tail d))))

pub size-side : (f : Siblings) → Bushy f → size f ≤ side f
unfolding side
size-side none b = omega arith
size-side (image i c r) b = omega (arith, size-side r b, pow_pos (i - 1))
size-side (bracket g c r) b = omega (arith, size-side g b.1, b.0, size-side r b.2)

pub tops-side : (f : Siblings) → Bushy f → Each (tops f) (λ X. X + size f ≤ suc (side f))
unfolding side tops
tops-side none b X m = elim m [ ]
tops-side (image i c r) b X (Memᴰ.head e) = omega (arith, size-side r b, pow_pos (i - 1))
tops-side (image i c r) b X (Memᴰ.tail d) = omega (arith, tops-side r b X d, pow_pos (i - 1))
tops-side (bracket g c r) b X (Memᴰ.head e) = omega (arith, size-side r b.2)
tops-side (bracket g c r) b X (Memᴰ.tail d) = omega (arith, tops-side r b.2 X d, size-side g b.1, b.0)

pub tops-some : (f : Siblings) → Bushy f → Each (tops f) (λ X. 0 < X)
unfolding tops
tops-some none b X m = elim m [ ]
tops-some (image i c r) b X (Memᴰ.head e) = omega (arith, pow_pos (i - 1))
tops-some (image i c r) b X (Memᴰ.tail d) = tops-some r b X d
tops-some (bracket g c r) b X (Memᴰ.head e) = omega (arith, size-side g b.1, b.0)
tops-some (bracket g c r) b X (Memᴰ.tail d) = tops-some r b.2 X d

pub head_some : (v : Head) → HeadBushy v → 1 ≤ head_side v
head_some (named i) b = pow_pos (i - 1)
head_some (closed g) b = omega (arith, size-side g b.1, b.0)

-- ## How many rows

some-rows : (f : Siblings) → 1 ≤ size f → 1 ≤ length (rows f)
unfolding rows
some-rows none h = absurd (omega arith)
some-rows (image i c r) h = omega arith
some-rows (bracket g c r) h = omega (arith, length-append (rows g) ((side g, c) ∷ rows r))

pub no_rows : (f : Siblings) → length (rows f) ≡ 0 → f ≡ none
no_rows none e = refl
no_rows (image i c r) e = absurd (omega (arith, some-rows (image i c r) (omega arith)))
no_rows (bracket g c r) e = absurd (omega (arith, some-rows (bracket g c r) (omega arith)))

pub size_none : (f : Siblings) → (1 ≤ length (rows f)) → 1 ≤ size f
unfolding rows
size_none none h = h
size_none (image i c r) h = omega arith
size_none (bracket g c r) h = omega arith
