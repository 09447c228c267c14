-- What is noted is what was read: how a vertex begins, how it is named, how it ends. Assumes nothing.
use Rattle.std.specs.Prelude.{false, true, List, [], ◌++◌, ◌∷◌, ◌≡◌, ℕ, ◌-◌, ◌≤◌, eqb, leb, ltb, get_or, take}
use Rattle.std.proofs.Math.Path.{ap, refl}
use Rattle.std.proofs.Common.{subst, sym, ◌∙◌, arith, le-ltb}
use Rattle.ground.specs.Sums.{when}
use Rattle.tree.specs.LocalRows.{rows_in}
use Rattle.newick_text.specs.Trees.{Head, none, size}
use Rattle.newick_text.specs.Trees as trees
use Rattle.newick_text.specs.Tables.{names}
use Rattle.newick_text.specs.Bytes.{close}
use Rattle.newick_text.specs.States.{Digits, Open, add_to, blank, costing, depth, ended, head, outermost, vertex, within}
use Rattle.newick_text.specs.Noting.{last_far, lower_place, mark, marked, noted_far}
use Rattle.newick_text.proofs.Laws.Live.{Live, only}
use Rattle.newick_bytes.specs.Kept.{narrow}
use Rattle.newick_bytes.specs.Laws.Shows.{depth-some}
use Rattle.newick_notes.specs.declared.Noted.{Noted}
use Rattle.newick_notes.specs.Stacks.{Sized}
use Rattle.newick_notes.specs.Turns as turns
use Rattle.newick_notes.specs.Turns.{Completed, closed, fallen_with, named_by}
use Rattle.newick_scan.specs.Noting.{Kept, Noting, kept}
use Rattle.newick_scan.specs.Notes.{fallen_open, inside, last_open, marked_open, noted_open, place_open}
use Rattle.newick_scan.specs.Reading.{Held, Notes}
use Rattle.newick_scan.specs.Laws.Opening.{fallen_open_lem, held_add, held_push, held_top, last_open_lem, marked_open_lem, names_open_lem, noted_open_lem}
use Rattle.newick_notes.specs.Laws.Storing.{take_more}
use Rattle.newick_scan.specs.Laws.Telling.{like_told, none_told}

-- ## A vertex begins

module _ (b p : ℕ) (x y : Kept) (o : Open) (q : p ≡ place_open o) (h : Notes (vertex o) x) (n : Noting (narrow (vertex o)) b p x y) where
  pub open_notes : eqb b 40 ≡ true → depth o ≤ 62 → Sized x.stacks → Notes (vertex (within none o)) y
  unfolding last_far
  open_notes t d z =
      let w = x.noted in
      let k : y.noted ≡ turns.noted w.names w.marked w.rows w.fallen w.far w.place 0 = rw t at n.0.told in (
        rw (k, n.1, n.2) (like_told _ _ _ _ w _ x.fars x.costs refl refl refl refl (none_told o x h.0)),
        record {
          last = ap (λ (r : Noted). r.last) k;
          masks = subst (λ (l : List ℕ). Held marked_open l (within none o)) (sym (rw (t, h.0.marked) at n.0.masks)) (held_push marked_open x.stacks.masks none o (omega (arith, z.masks)) h.1.masks);
          lasts = subst (λ (l : List ℕ). Held last_open l (within none o)) (sym (rw (t, h.1.last) at n.0.lasts)) (held_push last_open x.stacks.lasts none o (omega (arith, z.lasts)) h.1.lasts);
          places = subst (λ (l : List ℕ). Held place_open l (within none o)) (sym (rw (t, q) at n.0.places)) (held_push place_open x.stacks.places none o (omega (arith, z.places)) h.1.places);
        },
      )

  pub begin_notes : (i : ℕ) → eqb b 40 ≡ false → Notes (head o (trees.named i)) y
  begin_notes i t =
      let w = x.noted in
      let k : y.noted ≡ turns.noted w.names w.marked w.rows w.fallen w.far p w.last = rw t at n.0.told in (
        rw (k, n.1, n.2) (like_told _ _ _ _ w _ x.fars x.costs refl refl refl refl (none_told o x h.0)),
        record {
          last = ap (λ (r : Noted). r.last) k ∙ h.1.last;
          masks = rw (rw t at n.0.masks) h.1.masks;
          lasts = rw (rw t at n.0.lasts) h.1.lasts;
          places = rw (rw t at n.0.places) h.1.places;
        },
        ap (λ (r : Noted). r.place) k ∙ q,
        tt,
      )

-- an image is named
pub name_notes : (b : ℕ) (x y : Kept) (o : Open) (i : ℕ) → eqb b 58 ≡ true → Notes (head o (trees.named i)) x
    → y ≡ kept (named_by b i x.noted) x.stacks x.fars x.costs → Notes (costing o (trees.named i) blank) y
unfolding names marked
name_notes b x y o i t h n = rw (n, t) (
  record {
    names = omega (arith, h.0.names);
    marked = ap (λ (m : ℕ). mark m i) h.0.marked;
    fallen = h.0.fallen;
    rows = h.0.rows;
    far-size = h.0.far-size;
    cost-size = h.0.cost-size;
  },
  record { last = h.1.last; masks = h.1.masks; lasts = h.1.lasts; places = h.1.places },
  h.2,
  refl,
)

-- ## A vertex ends

pub complete_notes : (x : Kept) (r : Noted) (f v : List ℕ) (o : Open) (u : Head) (d : Digits) (c : ℕ) → Notes (costing o u d) x
    → Completed c x.noted x.fars x.costs r f v → Notes (vertex (add_to o u c)) (kept r x.stacks f v)
complete_notes x r f v o u d c h n =
    let w = x.noted in
    let a = x.stacks in
    let k = n.told in
    let S = noted_far (marked_open o) u in
    let T = noted_open (within (inside u) o) in
    let fell : fallen_with w ≡ lower_place (fallen_open (within (inside u) o)) (when (ltb S (last_open o)) (place_open o)) =
    rw (h.0.fallen, h.3, h.1.last, h.2) in
    let more : take 128 (rows_in x.fars x.costs w.rows ++ ((w.far, c) ∷ [])) ≡ take 128 (T ++ ((S, c) ∷ [])) =
    rw (h.0.rows, h.3) (take_more 128 T (S, c)) in (
      record {
        names = ap (λ (r : Noted). r.names) k ∙ h.0.names ∙ sym (names_open_lem u c o);
        marked = ap (λ (r : Noted). r.marked) k ∙ h.0.marked ∙ sym (marked_open_lem u c o);
        fallen = ap (λ (r : Noted). r.fallen) k ∙ fell ∙ sym (fallen_open_lem u c o);
        rows = n.stored.rows ∙ more ∙ ap (take 128) (sym (noted_open_lem u c o));
        far-size = n.stored.far-size;
        cost-size = n.stored.cost-size;
      },
      record {
        last = ap (λ (r : Noted). r.last) k ∙ h.3 ∙ sym (last_open_lem u c o);
        masks = held_add marked_open a.masks u c o h.1.masks;
        lasts = held_add last_open a.lasts u c o h.1.lasts;
        places = held_add place_open a.places u c o h.1.places;
      },
    )

-- a bracket closes
pub close_notes : (x : Kept) (r : Noted) (o : Open) → Live (close o) → Notes (vertex o) x → r ≡ closed (depth o) x.stacks x.noted
    → Notes (close o) (kept r x.stacks x.fars x.costs)
close_notes x r (outermost g) l h k = only (λ s. Notes s (kept r x.stacks x.fars x.costs)) (leb 3 (size g)) (ended g) l (λ p m. rw k h.0)
close_notes x r (within g o) l h k =
    only (λ s. Notes s (kept r x.stacks x.fars x.costs)) (leb 2 (size g)) (head o (trees.closed g)) l (λ p m.
    let w = x.noted in
    let a = x.stacks in
    let i = depth (within g o) - 2 in
    let e : r ≡ turns.noted w.names w.marked w.rows w.fallen (w.marked - get_or a.masks i 0) (get_or a.places i 0) (get_or a.lasts i 0) =
    rw (le-ltb (depth (within g o)) 2 (omega (arith, depth-some o))) at k in (
      rw e (like_told _ _ _ _ w _ x.fars x.costs refl refl refl refl h.0),
      record {
        last = ap (λ (r : Noted). r.last) e ∙ held_top last_open a.lasts g o h.1.lasts;
        masks = h.1.masks.1;
        lasts = h.1.lasts.1;
        places = h.1.places.1;
      },
      ap (λ (r : Noted). r.place) e ∙ held_top place_open a.places g o h.1.places,
      ap (λ (r : Noted). r.far) e ∙ rw (h.0.marked, held_top marked_open a.masks g o h.1.masks) refl,
    ))
