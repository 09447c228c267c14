-- What is said of vertices, and of one vertex without its cost: their images, far sides, brackets and rows. Assumes nothing.
use mathlib.Core.List.{List, Memᴰ, [], ◌++◌, ◌∷◌}
use Rattle.std.specs.Prelude.{refl, ◌≡◌, suc, ℕ, ◌+◌, ◌<◌, ◌^◌, ◌≤◌, eqb}
use Rattle.std.proofs.Common.{arith, eq-eqb, ne_eqb}
use borrow.Table.Steps.{cases}
use Rattle.ground.specs.Counts.{one_if}
use Rattle.ground.specs.Filters.{Each}
use Rattle.ground.specs.Members.{is_in}
use Rattle.theory.specs.LinkTables.{Row, fars}
use Rattle.newick_text.specs.Trees.{Head, Siblings, bracket, closed, image, named, none, size}
use Rattle.newick_text.specs.Tables.{image_side, rows, side, sorted}
use Rattle.newick_text.specs.Order.{Rising}
use Rattle.newick_text.specs.Laws.Lists.{is_in_append}

-- how often image m + 1 is named
unfoldable pub occ : Siblings → ℕ → ℕ
occ none m = 0
occ (image i c r) m = one_if (eqb i (suc m)) + occ r m
occ (bracket g c r) m = occ g m + occ r m

-- all images are 1 to n
abbrev pub Named : ℕ → Siblings → Type 0
Named n none = Unit {0}
Named n (image i c r) = (1 ≤ i) × (i ≤ n) × Named n r
Named n (bracket g c r) = Named n g × Named n r

-- none is named twice
abbrev pub Once : Siblings → Type 0
Once f = (m : ℕ) → occ f m < 2

pub once_inner : (g r : Siblings) (c : ℕ) → Once (bracket g c r) → Once g
unfolding occ
once_inner g r c o m = omega (arith, o m)

pub once_rest : (g r : Siblings) (c : ℕ) → Once (bracket g c r) → Once r
unfolding occ
once_rest g r c o m = omega (arith, o m)

pub behind_once : (i c : ℕ) (r : Siblings) → Once (image i c r) → Once r
unfolding occ
behind_once i c r o m = omega (arith, o m)

-- the far sides of the vertices
unfoldable pub tops : Siblings → List ℕ
tops none = []
tops (image i c r) = image_side i ∷ tops r
tops (bracket g c r) = side g ∷ tops r

-- every bracket holds two or more vertices
abbrev pub Bushy : Siblings → Type 0
Bushy none = Unit {0}
Bushy (image i c r) = Bushy r
Bushy (bracket g c r) = (2 ≤ size g) × Bushy g × Bushy r

-- images 1 to n, each once at most; brackets with two or more; ascending
pub record Proper (n : ℕ) (f : Siblings) : Type 0 where
  pub named : Named n f
  pub once : Once f
  pub bushy : Bushy f
  pub rising : Rising 0 f

-- ## One vertex

abbrev pub head_side : Head → ℕ
head_side (named i) = image_side i
head_side (closed g) = side g

abbrev pub head_occ : Head → ℕ → ℕ
head_occ (named i) m = one_if (eqb i (suc m))
head_occ (closed g) m = occ g m

abbrev pub HeadNamed : ℕ → Head → Type 0
HeadNamed n (named i) = (1 ≤ i) × (i ≤ n)
HeadNamed n (closed g) = Named n g

abbrev pub HeadBushy : Head → Type 0
HeadBushy (named i) = Unit {0}
HeadBushy (closed g) = (2 ≤ size g) × Bushy g

abbrev pub HeadRising : Head → Type 0
HeadRising (named i) = Unit {0}
HeadRising (closed g) = Rising 0 g

abbrev pub head_rows : Head → ℕ → List Row
head_rows (named i) c = (image_side i, c) ∷ []
head_rows (closed g) c = rows g ++ ((side g, c) ∷ [])

-- ## The vertices of rows

-- 1 where the own link of image m + 1 is among the far sides
abbrev pub seen : List ℕ → ℕ → ℕ
seen l m = one_if (is_in (2 ^ m) l)

-- one far side more: the own link that it is, and the others
pub seen_last : (l : List ℕ) (S m : ℕ) → 2 ^ m ≡ S → seen (l ++ (S ∷ [])) m ≡ 1
seen_last l S m e = rw (is_in_append (2 ^ m) l (S ∷ []), eq-eqb (2 ^ m) S e) (cases (is_in (2 ^ m) l) (λ y. rw y refl) (λ y. rw y refl))

pub seen_more : (l : List ℕ) (S m : ℕ) → (2 ^ m ≡ S → ⊥) → seen (l ++ (S ∷ [])) m ≡ seen l m
seen_more l S m d = rw (is_in_append (2 ^ m) l (S ∷ []), ne_eqb (2 ^ m) S d) (cases (is_in (2 ^ m) l) (λ y. rw y refl) (λ y. rw y refl))

-- the vertices f of the rows P over n images
pub record Stage (n : ℕ) (P : List Row) (f : Siblings) : Type 0 where
  pub named : Named n f
  pub once : (m : ℕ) → occ f m ≡ seen (fars P) m
  pub among : Each (tops f) (λ X. Memᴰ X (fars P))
  pub rowed : sorted (rows f) ≡ P
  pub bushy : Bushy f
  pub rising : Rising 0 f
