-- One vertex more in the innermost bracket: what is noted of it. Assumes nothing.
use Rattle.std.specs.Prelude.{List, [], ◌++◌, ◌∷◌, ◌≡◌, suc, ℕ, ◌+◌, ◌-◌, ◌≤◌, ltb, get_or, length, set}
use Rattle.std.proofs.Common.{append_assoc, ap, sym, ◌∙◌, arith, length-append, get_or-set_other, get_or-set_same}
use Rattle.ground.specs.Sums.{when}
use Rattle.theory.specs.LinkTables.{Row}
use Rattle.newick_text.specs.Trees.{Head, Siblings, listed}
use Rattle.newick_text.specs.States.{Open, add_to, depth, outermost, within}
use Rattle.newick_text.specs.Spelled.{open_text}
use Rattle.newick_text.specs.Noting.{fallen, last_far, lower_place, marked, noted, noted_far}
use Rattle.newick_bytes.specs.Laws.Shows.{depth-some}
use Rattle.newick_scan.specs.Notes.{called, fallen_open, headed, inside, last_open, marked_open, names_open, noted_open, place_open}
use Rattle.newick_scan.specs.Reading.{Held}
use Rattle.newick_scan.specs.Laws.Adding.{fallen-add, last_add, lower_regroup, marked-add, names-add, noted-add}

module _ (v : Head) (c : ℕ) where
  pub marked_open_lem : (o : Open) → marked_open (add_to o v c) ≡ headed (marked_open o) v
  marked_open_lem (outermost f) = marked-add 0 f v c
  marked_open_lem (within f o) = marked-add (marked_open o) f v c

  pub names_open_lem : (o : Open) → names_open (add_to o v c) ≡ names_open o + called v
  names_open_lem (outermost f) = names-add f v c
  names_open_lem (within f o) = omega (arith, names-add f v c)

  pub last_open_lem : (o : Open) → last_open (add_to o v c) ≡ noted_far (marked_open o) v
  last_open_lem (outermost f) = last_add 0 0 f v c
  last_open_lem (within f o) = last_add (marked_open o) 0 f v c

  pub noted_open_lem : (o : Open) → noted_open (add_to o v c) ≡ noted_open (within (inside v) o) ++ ((noted_far (marked_open o) v, c) ∷ [])
  noted_open_lem (outermost f) = noted-add 0 f v c
  noted_open_lem (within f o) =
      let M = marked_open o in
      let x : List Row = (noted_far (marked M f) v, c) ∷ [] in
      ap (λ (l : List Row). noted_open o ++ l) (noted-add M f v c)
      ∙ sym (ap (λ (l : List Row). l ++ x) (append_assoc (noted_open o) (noted M f) (noted (marked M f) (inside v)))
      ∙ append_assoc (noted_open o) (noted M f ++ noted (marked M f) (inside v)) x)

  pub fallen_open_lem : (o : Open)
      → fallen_open (add_to o v c) ≡ lower_place (fallen_open (within (inside v) o)) (when (ltb (noted_far (marked_open o) v) (last_open o)) (place_open o))
  fallen_open_lem (outermost f) = fallen-add 0 2 0 f v c (place_open (outermost f)) (omega arith)
  fallen_open_lem (within f o) =
      let M = marked_open o in
      let q = place_open (within f o) in
      let e : q ≡ suc (place_open o) + length (listed 44 f) = rw (length-append (open_text o) (40 ∷ listed 44 f)) (omega arith) in
      ap (lower_place (fallen_open o)) (fallen-add M (suc (place_open o)) 0 f v c q e)
      ∙ lower_regroup (fallen_open o) (fallen M (suc (place_open o)) 0 f) (fallen (marked M f) (suc q) 0 (inside v))
      (when (ltb (noted_far (marked M f) v) (last_far M 0 f)) q)

-- ## What is kept of the brackets around

held_set : (k : Open → ℕ) (a : List ℕ) (i x : ℕ) (o : Open) → depth o ≤ suc i → Held k a o → Held k (set a i x) o
held_set k a i x (outermost f) l h = tt
held_set k a i x (within f o) l h =
    let d = depth-some o in
    (get_or-set_other a i (depth o - 1) x 0 (λ e. omega arith) ∙ h.0, held_set k a i x o (omega arith) h.1)

-- a bracket opens
pub held_push : (k : Open → ℕ) (a : List ℕ) (f : Siblings) (o : Open) → depth o ≤ length a → Held k a o → Held k (set a (depth o - 1) (k o)) (within f o)
held_push k a f o l h =
    let d = depth-some o in
    (get_or-set_same a (depth o - 1) (k o) 0 (omega arith), held_set k a (depth o - 1) (k o) o (omega arith) h)

pub held_add : (k : Open → ℕ) (a : List ℕ) (v : Head) (c : ℕ) (o : Open) → Held k a o → Held k a (add_to o v c)
held_add k a v c (outermost f) h = h
held_add k a v c (within f o) h = h

-- a bracket closes
pub held_top : (k : Open → ℕ) (a : List ℕ) (f : Siblings) (o : Open) → Held k a (within f o) → get_or a (depth (within f o) - 2) 0 ≡ k o
held_top k a f o h = ap (λ (i : ℕ). get_or a i 0) (omega arith) ∙ h.0
