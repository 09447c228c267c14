-- One vertex more in its place, among vertices that ascend. Assumes nothing.
use Rattle.std.specs.Prelude.{Bool, cond, false, true, ◌⊎◌, refl, ◌≡◌, suc, ℕ, ◌+◌, ◌<◌, ◌≤◌, ltb, length}
use mathlib.Core.List.Memᴰ
use mathlib.Core.List.{List, Memᴰ, ◌∷◌}
use Rattle.std.proofs.Common.{inl, inr, ap, sym, ◌∙◌, arith, ltb-false, ltb-true}
use borrow.Table.Steps.{cases}
use Rattle.ground.specs.Filters.{Each}
use Rattle.theory.specs.LinkTables.{Row}
use Rattle.newick_text.specs.Trees.{Head, Siblings, bracket, closed, image, named, none, put}
use Rattle.newick_text.specs.Tables.{image_side, rows, side}
use Rattle.newick_text.specs.Order.{Rising}
use Rattle.newick_text.specs.LinkTrees.{part}
use Rattle.newick_text.specs.Laws.Putting.{bushy_put, named_put, put_bushy, put-length, put-named, put-occ, put_part_in, put_part_out, put_rising}
use Rattle.newick_text.specs.Laws.Putting.{put-rows, put-tops, rising_put}
use Rattle.newick_text.specs.Laws.Sorting.{all_comm, insert_all}
use Rattle.newick_text.specs.Laws.Vertices.{Bushy, HeadBushy, HeadNamed, HeadRising, Named, head_occ, head_rows, head_side, occ, tops}

-- a vertex put in its place
unfoldable pub put_in : Head → ℕ → Siblings → Siblings
put_in v c none = put v c none
put_in v c (image i d r) = cond (ltb (head_side v) (image_side i)) (put v c (image i d r)) (image i d (put_in v c r))
put_in v c (bracket g d r) = cond (ltb (head_side v) (side g)) (put v c (bracket g d r)) (bracket g d (put_in v c r))

-- what holds at the end, in front of a vertex with a higher far side, and behind one with a lower or the same
in_by : (v : Head) (c : ℕ) (P : Siblings → Siblings → Type 0) → P none (put v c none)
    → ((w : Head) (d : ℕ) (r : Siblings) → head_side v < head_side w → P (put w d r) (put v c (put w d r)))
    → ((w : Head) (d : ℕ) (r : Siblings) → head_side w ≤ head_side v → P r (put_in v c r) → P (put w d r) (put w d (put_in v c r)))
    → (f : Siblings) → P f (put_in v c f)
unfolding put_in
in_by v c P n s t none = n
in_by v c P n s t (image i d r) =
    let ih = in_by v c P n s t r in
    cases (ltb (head_side v) (image_side i)) (λ e. rw e (s (named i) d r (ltb-true (head_side v) (image_side i) e)))
    (λ e. rw e (t (named i) d r (ltb-false (head_side v) (image_side i) e) ih))
in_by v c P n s t (bracket g d r) =
    let ih = in_by v c P n s t r in
    cases (ltb (head_side v) (side g)) (λ e. rw e (s (closed g) d r (ltb-true (head_side v) (side g) e)))
    (λ e. rw e (t (closed g) d r (ltb-false (head_side v) (side g) e) ih))

tops-behind : (X y x : ℕ) {k l : List ℕ} → (Memᴰ X k → (X ≡ y) ⊎ Memᴰ X l) → Memᴰ X (x ∷ k) → (X ≡ y) ⊎ Memᴰ X (x ∷ l)
tops-behind X y x ih (Memᴰ.head e) = inr (Memᴰ.head e)
tops-behind X y x {l = l} ih (Memᴰ.tail m) = go (ih m)
  where
    go : (X ≡ y) ⊎ Memᴰ X l → (X ≡ y) ⊎ Memᴰ X (x ∷ l)
    go (inl e) = inl e
    go (inr d) = inr (Memᴰ.tail d)

module _ (v : Head) (c : ℕ) where
  pub in_occ : (f : Siblings) (m : ℕ) → occ (put_in v c f) m ≡ head_occ v m + occ f m
  in_occ f m =
      in_by v c (λ f g. occ g m ≡ head_occ v m + occ f m) (put-occ v c none m) (λ w d r l. put-occ v c (put w d r) m)
      (λ w d r l ih. omega (arith, ih, put-occ w d (put_in v c r) m, put-occ w d r m)) f

  pub in_named : (n : ℕ) (f : Siblings) → HeadNamed n v → Named n f → Named n (put_in v c f)
  in_named n f h =
      in_by v c (λ f g. Named n f → Named n g) (put-named n v c none h) (λ w d r l. put-named n v c (put w d r) h)
      (λ w d r l ih k. let u = named_put n w d r k in put-named n w d (put_in v c r) u.0 (ih u.1)) f

  pub in_bushy : (f : Siblings) → HeadBushy v → Bushy f → Bushy (put_in v c f)
  in_bushy f h =
      in_by v c (λ f g. Bushy f → Bushy g) (put_bushy v c none h) (λ w d r l. put_bushy v c (put w d r) h)
      (λ w d r l ih k. let u = bushy_put w d r k in put_bushy w d (put_in v c r) u.0 (ih u.1)) f

  -- where no vertex has its far side
  pub in_rising : (f : Siblings) (b : ℕ) → b ≤ head_side v → HeadRising v → Each (tops f) (λ X. X ≡ head_side v → ⊥) → Rising b f → Rising b (put_in v c f)
  in_rising f b₀ l₀ h =
      in_by v c (λ f g. (b : ℕ) → b ≤ head_side v → Each (tops f) (λ X. X ≡ head_side v → ⊥) → Rising b f → Rising b g)
      (λ b l n k. put_rising b v c none l h tt)
      (λ w d r q b l n k. let u = rising_put b w d r k in put_rising b v c (put w d r) l h (put_rising (suc (head_side v)) w d r q u.1 u.2))
      (λ w d r q ih b l n k.
      let u = rising_put b w d r k in
      let less : suc (head_side w) ≤ head_side v = omega (arith, q, n (head_side w) (rw (put-tops w d r) (Memᴰ.head refl))) in
      put_rising b w d (put_in v c r) u.0 u.1 (ih (suc (head_side w)) less (λ X m. n X (rw (put-tops w d r) (Memᴰ.tail m))) u.2)) f b₀ l₀

  pub in_rows : (f : Siblings) (m : List Row) → insert_all (rows (put_in v c f)) m ≡ insert_all (head_rows v c) (insert_all (rows f) m)
  in_rows f m =
      in_by v c (λ f g. insert_all (rows g) m ≡ insert_all (head_rows v c) (insert_all (rows f) m)) (put-rows v c none m) (λ w d r l. put-rows v c (put w d r) m)
      (λ w d r l ih.
      put-rows w d (put_in v c r) m
      ∙ ap (insert_all (head_rows w d)) ih
      ∙ all_comm (head_rows w d) (head_rows v c) (insert_all (rows r) m)
      ∙ ap (insert_all (head_rows v c)) (sym (put-rows w d r m))) f

  pub in_length : (f : Siblings) → length (rows (put_in v c f)) ≡ length (head_rows v c) + length (rows f)
  in_length f =
      in_by v c (λ f g. length (rows g) ≡ length (head_rows v c) + length (rows f)) (put-length v c none) (λ w d r l. put-length v c (put w d r))
      (λ w d r l ih. omega (arith, ih, put-length w d (put_in v c r), put-length w d r)) f

  -- each far side is the new one or an old one
  pub in_tops : (f : Siblings) → Each (tops (put_in v c f)) (λ X. (X ≡ head_side v) ⊎ Memᴰ X (tops f))
  in_tops f =
      in_by v c (λ f g. Each (tops g) (λ X. (X ≡ head_side v) ⊎ Memᴰ X (tops f)))
      (λ X m. Memᴰ.cases_cons (rw (put-tops v c none) at m))
      (λ w d r l X m. Memᴰ.cases_cons (rw (put-tops v c (put w d r)) at m))
      (λ w d r l ih X m. rw (put-tops w d r) (tops-behind X (head_side v) (head_side w) (ih X) (rw (put-tops w d (put_in v c r)) at m))) f

-- ## Parts of it

-- a vertex that does not pass is not seen
pub in_part_out : (p : ℕ → Bool) (v : Head) (c : ℕ) (f : Siblings) → p (head_side v) ≡ false → part p (put_in v c f) ≡ part p f
in_part_out p v c f h =
    in_by v c (λ f g. part p g ≡ part p f) (put_part_out p v c none h) (λ w d r l. put_part_out p v c (put w d r) h)
    (λ w d r l ih. cases (p (head_side w))
    (λ q. put_part_in p w d (put_in v c r) q ∙ ap (λ (x : Siblings). put w d x) ih ∙ sym (put_part_in p w d r q))
    (λ q. put_part_out p w d (put_in v c r) q ∙ ih ∙ sym (put_part_out p w d r q))) f

-- one that passes stands in front of those that come behind it
pub in_part_in : (p : ℕ → Bool) (v : Head) (c : ℕ) (f : Siblings) → p (head_side v) ≡ true → Rising (suc (head_side v)) (part p f)
    → part p (put_in v c f) ≡ put v c (part p f)
in_part_in p v c f h =
    in_by v c (λ f g. Rising (suc (head_side v)) (part p f) → part p g ≡ put v c (part p f))
    (λ k. put_part_in p v c none h) (λ w d r l k. put_part_in p v c (put w d r) h)
    (λ w d r l ih k. cases (p (head_side w))
    (λ q. absurd (omega (arith, l, (rising_put (suc (head_side v)) w d (part p r) (rw (put_part_in p w d r q) at k)).0)))
    (λ q.
    let e = put_part_out p w d r q in
    put_part_out p w d (put_in v c r) q ∙ ih (rw e at k) ∙ ap (λ (x : Siblings). put v c x) (sym e))) f
