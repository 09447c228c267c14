-- One vertex more at the end; and the last vertex taken away. Assumes nothing.
use mathlib.Core.List.Memᴰ
use Rattle.std.specs.Prelude.{List, [], ◌++◌, ◌∷◌, refl, ◌≡◌, suc, ℕ, ◌+◌, ◌<◌, ◌≤◌}
use Rattle.std.proofs.Common.{append_assoc, ap, sym, ◌∙◌, arith}
use Rattle.ground.specs.Filters.{Each}
use Rattle.ground.specs.Laws.Filters.{each_cons}
use Rattle.theory.specs.LinkTables.{Row}
use Rattle.newick_text.specs.Trees.{Head, Siblings, add, bracket, closed, image, named, none, put, size}
use Rattle.newick_text.specs.Tables.{image_side, insert, rows, side, sorted}
use Rattle.newick_text.specs.Order.{Rising}
use Rattle.newick_text.specs.Laws.Sorting.{all_append, all_insert, insert_all, sorted_all}
use Rattle.newick_text.specs.Laws.Vertices.{Bushy, HeadBushy, HeadNamed, HeadRising, Named, head_occ, head_rows, head_side, occ, tops}

-- ## One vertex more

pub add-tops : (f : Siblings) (v : Head) (c : ℕ) → tops (add f v c) ≡ tops f ++ (head_side v ∷ [])
unfolding tops
add-tops none (named i) c = refl
add-tops none (closed g) c = refl
add-tops (image j d r) v c = ap (λ (l : List ℕ). image_side j ∷ l) (add-tops r v c)
add-tops (bracket h d r) v c = ap (λ (l : List ℕ). side h ∷ l) (add-tops r v c)

pub add-occ : (f : Siblings) (v : Head) (c m : ℕ) → occ (add f v c) m ≡ occ f m + head_occ v m
unfolding occ
add-occ none (named i) c m = omega arith
add-occ none (closed g) c m = omega arith
add-occ (image j d r) v c m = omega (arith, add-occ r v c m)
add-occ (bracket h d r) v c m = omega (arith, add-occ r v c m)

pub add-named : (n : ℕ) (f : Siblings) (v : Head) (c : ℕ) → Named n f → HeadNamed n v → Named n (add f v c)
add-named n none (named i) c h k = (k.0, k.1, tt)
add-named n none (closed g) c h k = (k, tt)
add-named n (image j d r) v c h k = (h.0, h.1, add-named n r v c h.2 k)
add-named n (bracket g d r) v c h k = (h.0, add-named n r v c h.1 k)

pub add-rows : (f : Siblings) (v : Head) (c : ℕ) → rows (add f v c) ≡ rows f ++ head_rows v c
unfolding rows
add-rows none (named i) c = refl
add-rows none (closed g) c = refl
add-rows (image j d r) v c = ap (λ (l : List Row). (image_side j, d) ∷ l) (add-rows r v c)
add-rows (bracket h d r) v c =
    ap (λ (l : List Row). rows h ++ ((side h, d) ∷ l)) (add-rows r v c) ∙ sym (append_assoc (rows h) ((side h, d) ∷ rows r) (head_rows v c))

-- its rows in order, its own row apart
pub add-sorted : (f : Siblings) (v : Head) (c : ℕ) (y : List Row) (R : Row) → head_rows v c ≡ y ++ (R ∷ [])
    → sorted (rows (add f v c)) ≡ insert R (insert_all (rows f) (insert_all y []))
unfolding insert_all
add-sorted f v c y R e =
    sorted_all (rows (add f v c))
    ∙ ap (λ (l : List Row). insert_all l []) (add-rows f v c ∙ ap (λ (l : List Row). rows f ++ l) e)
    ∙ all_append (rows f) (y ++ (R ∷ [])) []
    ∙ ap (insert_all (rows f)) (all_append y (R ∷ []) [] ∙ all_insert R y [])
    ∙ all_insert R (rows f) (insert_all y [])

pub bushy_add : (f : Siblings) (v : Head) (c : ℕ) → Bushy f → HeadBushy v → Bushy (add f v c)
bushy_add none (named i) c h k = tt
bushy_add none (closed g) c h k = (k.0, k.1, tt)
bushy_add (image j d r) v c h k = bushy_add r v c h k
bushy_add (bracket g d r) v c h k = (h.0, h.1, bushy_add r v c h.2 k)

pub rising_add : (b : ℕ) (f : Siblings) (v : Head) (c : ℕ) → Rising b f → HeadRising v → b ≤ head_side v → Each (tops f) (λ X. X < head_side v)
    → Rising b (add f v c)
unfolding tops
rising_add b none (named i) c h k l t = (l, tt)
rising_add b none (closed g) c h k l t = (l, k, tt)
rising_add b (image j d r) v c h k l t = (h.0, rising_add (suc (image_side j)) r v c h.1 k (t _ (Memᴰ.head refl)) (λ X m. t X (Memᴰ.tail m)))
rising_add b (bracket g d r) v c h k l t = (h.0, h.1, rising_add (suc (side g)) r v c h.2 k (t _ (Memᴰ.head refl)) (λ X m. t X (Memᴰ.tail m)))

-- ## The last vertex

pub record Snoc (f : Siblings) : Type 0 where
  pub init : Siblings
  pub last : Head
  pub cost : ℕ
  pub whole : f ≡ add init last cost

-- one vertex more at the front
snoc_front : (v : Head) (c : ℕ) (f : Siblings) → Snoc f → Snoc (put v c f)
snoc_front (named i) c f s = record { init = image i c s.init; last = s.last; cost = s.cost; whole = ap (image i c) s.whole }
snoc_front (closed g) c f s = record { init = bracket g c s.init; last = s.last; cost = s.cost; whole = ap (bracket g c) s.whole }

pub snoc : (f : Siblings) → 1 ≤ size f → Snoc f
snoc none h = absurd (omega arith)
snoc (image i c none) h = record { init = none; last = named i; cost = c; whole = refl }
snoc (image i c (image j d r)) h = snoc_front (named i) c (image j d r) (snoc (image j d r) (omega arith))
snoc (image i c (bracket j d r)) h = snoc_front (named i) c (bracket j d r) (snoc (bracket j d r) (omega arith))
snoc (bracket g c none) h = record { init = none; last = closed g; cost = c; whole = refl }
snoc (bracket g c (image j d r)) h = snoc_front (closed g) c (image j d r) (snoc (image j d r) (omega arith))
snoc (bracket g c (bracket j d r)) h = snoc_front (closed g) c (bracket j d r) (snoc (bracket j d r) (omega arith))

-- what holds of all holds of both
pub un_named : (n : ℕ) (f : Siblings) (v : Head) (c : ℕ) → Named n (add f v c) → Named n f × HeadNamed n v
un_named n none (named i) c h = (tt, (h.0, h.1))
un_named n none (closed g) c h = (tt, h.0)
un_named n (image j d r) v c h = let ih = un_named n r v c h.2 in ((h.0, h.1, ih.0), ih.1)
un_named n (bracket g d r) v c h = let ih = un_named n r v c h.1 in ((h.0, ih.0), ih.1)

pub un_bushy : (f : Siblings) (v : Head) (c : ℕ) → Bushy (add f v c) → Bushy f × HeadBushy v
un_bushy none (named i) c h = (tt, tt)
un_bushy none (closed g) c h = (tt, (h.0, h.1))
un_bushy (image j d r) v c h = un_bushy r v c h
un_bushy (bracket g d r) v c h = let ih = un_bushy r v c h.2 in ((h.0, h.1, ih.0), ih.1)

pub un_rising : (b : ℕ) (f : Siblings) (v : Head) (c : ℕ) → Rising b (add f v c)
    → Rising b f × HeadRising v × (b ≤ head_side v) × Each (tops f) (λ X. X < head_side v)
unfolding tops
un_rising b none (named i) c h = (tt, tt, h.0, λ X m. absurd (Memᴰ.not-nil m))
un_rising b none (closed g) c h = (tt, h.1, h.0, λ X m. absurd (Memᴰ.not-nil m))
un_rising b (image j d r) v c h =
    let ih = un_rising (suc (image_side j)) r v c h.1 in
    ((h.0, ih.0), ih.1, omega (arith, h.0, ih.2), each_cons (λ X. X < head_side v) (image_side j) (tops r) ih.2 ih.3)
un_rising b (bracket g d r) v c h =
    let ih = un_rising (suc (side g)) r v c h.2 in
    ((h.0, h.1, ih.0), ih.1, omega (arith, h.0, ih.2), each_cons (λ X. X < head_side v) (side g) (tops r) ih.2 ih.3)
