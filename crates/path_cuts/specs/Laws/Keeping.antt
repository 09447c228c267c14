-- What lies up to the height is kept row by row, and gets the new image. Assumes nothing.
use Rattle.std.specs.Prelude.{List, [], ◌++◌, ◌∷◌, refl, ◌≡◌, min, ℕ, ◌+◌, ◌-◌, ◌<◌, ◌^◌, ◌≤◌, leb, get_or, length, set}
use Rattle.std.proofs.Common.{append-nil, ap, ap₂, sym, ◌∙◌, arith, length-set, get_or-set_other, le-ltb, leb-false, leb-true, lt-ltb}
use borrow.Table.Steps.{cases}
use Rattle.theory.specs.LinkTables.{Row}
use Rattle.tree.specs.Laws.LocalRows.{rows_in-more, rows_in_none, stored_more}
use Rattle.tree.specs.LocalRows.{rows_in}
use Rattle.rows.proofs.Laws.Places.{in_split}
use Rattle.rows.proofs.Laws.PutAll.{costly-append}
use Rattle.rows.specs.Putting.{rows_from}
use Rattle.rows.specs.Rows.{costly}
use Rattle.path_cuts.specs.Cuts.{kept}
use Rattle.path_cuts.specs.Laws.Cutting.{kept_append, kept_none, left, left-append}
use Rattle.path_cuts.specs.Steps.{AddRow, KeepRoom, KeepRows}

-- the first i rows are, each with a cost, and of the height this is left; the rows to come are as they were
pub record Keeping (h add i m : ℕ) (s w : List ℕ) (togo : ℕ) (s' w' : List ℕ) : Type 0 where
  pub at : i ≤ m
  pub rows : rows_in s' w' i ≡ kept h add (rows_in s w i)
  pub drawn : costly (kept h add (rows_in s w i)) ≡ kept h add (rows_in s w i)
  pub to_go : togo ≡ left h (rows_in s w i)
  pub sides : {j : ℕ} → i ≤ j → get_or s' j 0 ≡ get_or s j 0
  pub lengths : {j : ℕ} → i ≤ j → get_or w' j 0 ≡ get_or w j 0
  pub side-size : length s' ≡ length s
  pub length-size : length w' ≡ length w

module _ (h add m : ℕ) (s w : List ℕ) (k : KeepRoom add m s w) where
  pub keeping_start : Keeping h add 0 m s w h s w
  keeping_start = record {
    at = omega arith;
    rows = rw (rows_in_none s w);
    drawn = rw (rows_in_none s w);
    to_go = rw (rows_in_none s w);
    sides = λ {j} l. refl;
    lengths = λ {j} l. refl;
    side-size = refl;
    length-size = refl;
  }

  module _ (i : ℕ) (s' w' : List ℕ) (togo : ℕ) (c : Keeping h add i m s w togo s' w') (l : i < m) where
    pub keeping_places : (i < length s') × (i < length w')
    keeping_places = (omega (arith, k.for_side, c.side-size), omega (arith, k.for_length, c.length-size))

    pub side_fits : add + get_or s' i 0 < 2 ^ 64
    side_fits = omega (arith, k.fits l, c.sides {j = i} (omega arith))

    pub keeping_more : (x : ℕ) → 0 < togo → x ≡ min togo (get_or w' i 0)
        → Keeping h add (i + 1) m s w (togo - x) (set s' i (add + get_or s' i 0)) (set w' i x)
    keeping_more x z e = record {
      at = omega arith;
      rows =
          stored_more s' w' i (add + get_or s' i 0) x keeping_places.0 keeping_places.1
          ∙ ap₂ (λ R (a : Row). R ++ (a ∷ [])) c.rows row ∙ sym more;
      drawn = ap costly more ∙ costly-append (kept h add (rows_in s w i)) (last ∷ []) ∙ ap₂ ◌++◌ c.drawn one ∙ sym more;
      to_go =
          let a : togo - x ≡ left h (rows_in s w i) - get_or w i 0 = omega (arith, c.to_go, c.lengths {j = i} (omega arith)) in
          a ∙ sym (ap (left h) (rows_in-more s w i) ∙ left-append h (rows_in s w i) ((get_or s i 0, get_or w i 0) ∷ []));
      sides = λ {j} u. get_or-set_other s' i j (add + get_or s' i 0) 0 (λ e. omega arith) ∙ c.sides (omega arith);
      lengths = λ {j} u. get_or-set_other w' i j x 0 (λ e. omega arith) ∙ c.lengths (omega arith);
      side-size = length-set s' i (add + get_or s' i 0) ∙ c.side-size;
      length-size = length-set w' i x ∙ c.length-size;
    }
      where
        last : Row
        last = (add + get_or s i 0, min (left h (rows_in s w i)) (get_or w i 0))

        more : kept h add (rows_in s w (i + 1)) ≡ kept h add (rows_in s w i) ++ (last ∷ [])
        more = ap (kept h add) (rows_in-more s w i) ∙ kept_append h add (rows_in s w i) ((get_or s i 0, get_or w i 0) ∷ [])

        row : ◌≡◌ {A = Row} (add + get_or s' i 0, x) last
        row =
            let a : x ≡ min (left h (rows_in s w i)) (get_or w i 0) = omega (arith, c.to_go, c.lengths {j = i} (omega arith)) in
            ap₂ (λ (a b : ℕ). (add + a, b)) (c.sides (omega arith)) a

        one : costly (last ∷ []) ≡ last ∷ []
        one = rw (lt-ltb 0 (min (left h (rows_in s w i)) (get_or w i 0)) (omega (arith, c.to_go, k.drawn l)))

  -- at the end of the path, or where nothing is left of the height
  pub keeping_end : (i : ℕ) (s' w' : List ℕ) (togo : ℕ) → Keeping h add i m s w togo s' w' → (i < m → togo ≡ 0) → KeepRows h add m s w i s' w'
  keeping_end i s' w' togo c e = record {
    few = c.at;
    rows = c.rows ∙ sym c.drawn ∙ sym whole;
    side-size = c.side-size;
    length-size = c.length-size;
  }
    where
      -- the rows behind the first i
      rest : List Row
      rest = rows_from s w i (m - i)

      whole : costly (kept h add (rows_in s w m)) ≡ costly (kept h add (rows_in s w i))
      whole =
          cases (leb m i)
          (λ z. let q : m ≡ i = omega (arith, c.at, leb-true m i z) in ap (λ (j : ℕ). costly (kept h add (rows_in s w j))) q)
          (λ z.
          let none = kept_none (left h (rows_in s w i)) add rest (omega (arith, c.to_go, e (leb-false m i z))) in
          ap (λ R. costly (kept h add R)) (in_split s w i m c.at)
          ∙ ap costly (kept_append h add (rows_in s w i) rest)
          ∙ costly-append (kept h add (rows_in s w i)) (kept (left h (rows_in s w i)) add rest)
          ∙ ap (λ R. costly (kept h add (rows_in s w i)) ++ R) none ∙ append-nil (costly (kept h add (rows_in s w i))))

  pub keeping_stops : (i : ℕ) (s' w' : List ℕ) (togo : ℕ) → Keeping h add i m s w togo s' w' → togo ≡ 0 → KeepRows h add m s w i s' w'
  keeping_stops i s' w' togo c e = keeping_end i s' w' togo c (λ l. e)

  pub keeping_ends : (i : ℕ) (s' w' : List ℕ) (togo : ℕ) → Keeping h add i m s w togo s' w' → m ≤ i → KeepRows h add m s w m s' w'
  keeping_ends i s' w' togo c l =
      let q : i ≡ m = omega (arith, c.at) in
      rw q at (keeping_end i s' w' togo c (λ h. absurd (omega arith)))

-- what the loop names
pub ruleset ends = (keeping_stops, keeping_ends)

-- ## One row more at the end

pub add_none : (s w : List ℕ) (m S c : ℕ) → c ≡ 0 → AddRow s w m S c m s w
add_none s w m S c e = record { rows = rw (le-ltb 0 c (omega arith)) (sym (append-nil (rows_in s w m))); side-size = refl; length-size = refl }

pub add-some : (s w : List ℕ) (m S c : ℕ) → m < length s → m < length w → 0 < c → AddRow s w m S c (m + 1) (set s m S) (set w m c)
add-some s w m S c h l z = record {
  rows = rw (lt-ltb 0 c z) (stored_more s w m S c h l);
  side-size = length-set s m S;
  length-size = length-set w m c;
}
