-- One vertex more at the front. Assumes nothing.
use Rattle.std.specs.Prelude.{Bool, false, true, List, [], ◌∷◌, refl, ◌≡◌, suc, ℕ, ◌+◌, ◌≤◌, length}
use Rattle.std.proofs.Common.{sym, ◌∙◌, arith, length-append}
use Rattle.theory.specs.LinkTables.{Row}
use Rattle.newick_text.specs.Trees.{Head, Siblings, closed, named, put}
use Rattle.newick_text.specs.Tables.{rows, side}
use Rattle.newick_text.specs.Order.{Rising}
use Rattle.newick_text.specs.LinkTrees.{part}
use Rattle.newick_text.specs.Laws.Sorting.{all_append, insert_all}
use Rattle.newick_text.specs.Laws.Vertices.{Bushy, HeadBushy, HeadNamed, HeadRising, Named, head_occ, head_rows, head_side, occ, tops}

pub put-occ : (v : Head) (c : ℕ) (f : Siblings) (m : ℕ) → occ (put v c f) m ≡ head_occ v m + occ f m
unfolding occ
put-occ (named i) c f m = refl
put-occ (closed g) c f m = refl

pub put-named : (n : ℕ) (v : Head) (c : ℕ) (f : Siblings) → HeadNamed n v → Named n f → Named n (put v c f)
put-named n (named i) c f h k = (h.0, h.1, k)
put-named n (closed g) c f h k = (h, k)

pub named_put : (n : ℕ) (v : Head) (c : ℕ) (f : Siblings) → Named n (put v c f) → HeadNamed n v × Named n f
named_put n (named i) c f h = ((h.0, h.1), h.2)
named_put n (closed g) c f h = (h.0, h.1)

pub put_bushy : (v : Head) (c : ℕ) (f : Siblings) → HeadBushy v → Bushy f → Bushy (put v c f)
put_bushy (named i) c f h k = k
put_bushy (closed g) c f h k = (h.0, h.1, k)

pub bushy_put : (v : Head) (c : ℕ) (f : Siblings) → Bushy (put v c f) → HeadBushy v × Bushy f
bushy_put (named i) c f h = (tt, h)
bushy_put (closed g) c f h = ((h.0, h.1), h.2)

pub put_rising : (b : ℕ) (v : Head) (c : ℕ) (f : Siblings) → b ≤ head_side v → HeadRising v → Rising (suc (head_side v)) f → Rising b (put v c f)
put_rising b (named i) c f l h k = (l, k)
put_rising b (closed g) c f l h k = (l, h, k)

pub rising_put : (b : ℕ) (v : Head) (c : ℕ) (f : Siblings) → Rising b (put v c f) → (b ≤ head_side v) × HeadRising v × Rising (suc (head_side v)) f
rising_put b (named i) c f h = (h.0, tt, h.1)
rising_put b (closed g) c f h = (h.0, h.1, h.2)

pub put-tops : (v : Head) (c : ℕ) (f : Siblings) → tops (put v c f) ≡ head_side v ∷ tops f
unfolding tops
put-tops (named i) c f = refl
put-tops (closed g) c f = refl

pub put-rows : (v : Head) (c : ℕ) (f : Siblings) (m : List Row) → insert_all (rows (put v c f)) m ≡ insert_all (head_rows v c) (insert_all (rows f) m)
unfolding rows insert_all
put-rows (named i) c f m = refl
put-rows (closed g) c f m = all_append (rows g) ((side g, c) ∷ rows f) m ∙ sym (all_append (rows g) ((side g, c) ∷ []) (insert_all (rows f) m))

pub put-length : (v : Head) (c : ℕ) (f : Siblings) → length (rows (put v c f)) ≡ length (head_rows v c) + length (rows f)
unfolding rows
put-length (named i) c f = omega arith
put-length (closed g) c f = omega (arith, length-append (rows g) ((side g, c) ∷ rows f), length-append (rows g) ((side g, c) ∷ []))

pub put_part_out : (p : ℕ → Bool) (v : Head) (c : ℕ) (f : Siblings) → p (head_side v) ≡ false → part p (put v c f) ≡ part p f
unfolding part
put_part_out p (named i) c f h = rw h refl
put_part_out p (closed g) c f h = rw h refl

pub put_part_in : (p : ℕ → Bool) (v : Head) (c : ℕ) (f : Siblings) → p (head_side v) ≡ true → part p (put v c f) ≡ put v c (part p f)
unfolding part
put_part_in p (named i) c f h = rw h refl
put_part_in p (closed g) c f h = rw h refl
