-- The vertices below a vertex. Assumes nothing.
use mathlib.Core.List.Memᴰ
use Rattle.std.specs.Prelude.{[], ◌++◌, ◌∷◌, refl, ◌≡◌, ℕ, ◌-◌, ◌<◌, ◌≤◌}
use Rattle.std.proofs.Common.{ap, ◌∙◌, arith}
use Rattle.ground.specs.Filters.{Each}
use Rattle.newick_text.specs.Trees.{Head, Siblings, bracket, closed, image, named, none}
use Rattle.newick_text.specs.Tables.{rows}
use Rattle.newick_text.specs.Order.{Rising}
use Rattle.newick_text.specs.LinkTrees.{head_of}
use Rattle.newick_text.specs.Laws.Sides.{image_of_lem}
use Rattle.newick_text.specs.Laws.Sizes.{tops-side}
use Rattle.newick_text.specs.Laws.Vertices.{Bushy, HeadBushy, HeadNamed, HeadRising, Named, head_occ, head_rows, head_side, occ, tops}

abbrev pub below : Head → Siblings
below (named i) = none
below (closed g) = g

pub below_rows : (v : Head) (c : ℕ) → head_rows v c ≡ rows (below v) ++ ((head_side v, c) ∷ [])
unfolding rows
below_rows (named i) c = refl
below_rows (closed g) c = refl

pub below-occ : (v : Head) (m : ℕ) → occ (below v) m ≤ head_occ v m
unfolding occ
below-occ (named i) m = omega arith
below-occ (closed g) m = omega arith

pub below-named : (n : ℕ) (v : Head) → HeadNamed n v → Named n (below v)
below-named n (named i) h = tt
below-named n (closed g) h = h

pub below_bushy : (v : Head) → HeadBushy v → Bushy (below v)
below_bushy (named i) h = tt
below_bushy (closed g) h = h.1

pub below_rising : (v : Head) → HeadRising v → Rising 0 (below v)
below_rising (named i) h = tt
below_rising (closed g) h = h

-- what is below a vertex has lower far sides
pub below_less : (v : Head) → HeadBushy v → Each (tops (below v)) (λ X. X < head_side v)
unfolding tops
below_less (named i) h X m = absurd (Memᴰ.not-nil m)
below_less (closed g) h X m = omega (arith, tops-side g h.1 X m, h.0)

pub head_again : (n : ℕ) (v : Head) → n ≤ 64 → HeadNamed n v → HeadBushy v → head_of (head_side v) (below v) ≡ v
head_again n (named i) l h b = ap named (image_of_lem (i - 1) (omega (arith, h.0, h.1)) ∙ omega (arith, h.0))
head_again n (closed none) l h b = absurd (omega (arith, b.0))
head_again n (closed (image i c r)) l h b = refl
head_again n (closed (bracket g c r)) l h b = refl
