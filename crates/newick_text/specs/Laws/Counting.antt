-- How many images vertices name, and how deep their brackets are. Assumes nothing.
use mathlib.Core.List.Memᴰ
use Rattle.std.specs.Prelude.{◌∷◌, refl, ◌≡◌, suc, ℕ, ◌+◌, ◌<◌, ◌≤◌, eqb, length}
use Rattle.std.proofs.Common.{sym, arith, length-append}
use Rattle.ground.specs.Counts.{one_if}
use Rattle.ground.specs.Filters.{Each}
use Rattle.ground.specs.Totals.{total}
use Rattle.ground.specs.Laws.Totals.{total-add, total_zero}
use Rattle.newick_text.specs.Trees.{Siblings, bracket, image, none, size}
use Rattle.newick_text.specs.Profile.{Formed}
use Rattle.newick_text.specs.Tables.{names, rows, side}
use Rattle.newick_text.specs.Laws.Numbers.{total_image}
use Rattle.newick_text.specs.Laws.Vertices.{Bushy, Named, occ}

pub names-total : (n : ℕ) (f : Siblings) → Named n f → length (names f) ≡ total n (occ f)
unfolding names occ
names-total n none h = sym (total_zero n)
names-total n (image i c r) h = omega (arith, names-total n r h.2, total_image n i h.0 h.1, total-add n (λ m. one_if (eqb i (suc m))) (occ r))
names-total n (bracket g c r) h = omega (arith, length-append (names g) (names r), names-total n g h.0, names-total n r h.1, total-add n (occ g) (occ r))

-- a vertex has an image at least
names-some : (f : Siblings) → Bushy f → size f ≤ length (names f)
unfolding names
names-some none b = omega arith
names-some (image i c r) b = omega (arith, names-some r b)
names-some (bracket g c r) b = omega (arith, names-some g b.1, names-some r b.2, b.0, length-append (names g) (names r))

-- all costs are below k
abbrev pub Costs : ℕ → Siblings → Type 0
Costs k none = Unit {0}
Costs k (image i c r) = (c < k) × Costs k r
Costs k (bracket g c r) = Costs k g × (c < k) × Costs k r

pub rows-costs : (k : ℕ) (f : Siblings) → Each (rows f) (λ r. r.1 < k) → Costs k f
unfolding rows
rows-costs k none h = tt
rows-costs k (image i c r) h = (h _ (Memᴰ.head refl), rows-costs k r (λ x d. h x (Memᴰ.tail d)))
rows-costs k (bracket g c r) h =
    let q : Each ((side g, c) ∷ rows r) (λ x. x.1 < k) = λ x d. h x (Memᴰ.append_right (rows g) d) in
    (rows-costs k g (λ x d. h x (Memᴰ.append_left ((side g, c) ∷ rows r) d)), q _ (Memᴰ.head refl), rows-costs k r (λ x d. q x (Memᴰ.tail d)))

-- each bracket more costs an image
pub formed_of : (n d : ℕ) (f : Siblings) → n ≤ 64 → Named n f → Costs 100000000 f → Bushy f → d + length (names f) ≤ 62 + size f → Formed d f
unfolding names
formed_of n d none l h k b e = tt
formed_of n d (image i c r) l h k b e = ((h.0, omega (arith, h.1)), k.0, formed_of n d r l h.2 k.1 b (omega arith))
formed_of n d (bracket g c r) l h k b e =
    let a = names-some g b.1 in
    let q = names-some r b.2 in
    let s = length-append (names g) (names r) in
    let inner = formed_of n (suc d) g l h.0 k.0 b.1 (omega (arith, b.0)) in
    (omega (arith, b.0), b.0, inner, k.1, formed_of n d r l h.1 k.2 b.2 (omega (arith, b.0)))
