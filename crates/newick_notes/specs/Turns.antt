-- What the functions below one byte make of what was noted, with numbers alone. Assumes nothing.
use Rattle.std.specs.Prelude.{cond, List, [], ◌++◌, ◌∷◌, ◌≡◌, ℕ, ◌+◌, ◌-◌, eqb, ltb, get_or, length, take}
use Rattle.ground.specs.Sums.{when}
use Rattle.tree.specs.LocalRows.{rows_in}
use Rattle.newick_text.specs.Noting.{image_bit, lower_place, mark}
use Rattle.newick_notes.specs.declared.Noted.{Noted}
use Rattle.newick_notes.specs.Stacks.{Stacks, pushed}

-- the fields, in their order
abbrev pub noted : ℕ → ℕ → ℕ → ℕ → ℕ → ℕ → ℕ → Noted
noted n m r p S q l = record { names = n; marked = m; rows = r; fallen = p; far = S; place = q; last = l }

-- a vertex begins at place p with the byte b: with 40 it is a bracket in which no sibling stands yet
abbrev pub begun : ℕ → ℕ → Noted → Noted
begun b p w =
    cond (eqb b 40) (noted w.names w.marked w.rows w.fallen w.far w.place 0)
    (noted w.names w.marked w.rows w.fallen w.far p w.last)

-- d brackets are open before it
pub record Begun (d b p : ℕ) (w : Noted) (a : Stacks) (r : Noted) (e : Stacks) : Type 0 where
  pub told : r ≡ begun b p w
  pub masks : e.masks ≡ pushed b d w.marked a.masks
  pub lasts : e.lasts ≡ pushed b d w.last a.lasts
  pub places : e.places ≡ pushed b d p a.places

-- the byte b behind image i
abbrev pub named_by : ℕ → ℕ → Noted → Noted
named_by b i w = cond (eqb b 58) (noted (w.names + 1) (mark w.marked i) w.rows w.fallen (image_bit i) w.place w.last) w

-- one row more, where fewer than 128 stand
pub record Stored (f v : List ℕ) (k S c : ℕ) (f' v' : List ℕ) (k' : ℕ) : Type 0 where
  pub rows : rows_in f' v' k' ≡ take 128 (rows_in f v k ++ ((S, c) ∷ []))
  pub far-size : length f' ≡ 128
  pub cost-size : length v' ≡ 128

abbrev pub fallen_with : Noted → ℕ
fallen_with w = lower_place w.fallen (when (ltb w.far w.last) w.place)

-- the vertex is complete with its cost c
pub record Completed (c : ℕ) (w : Noted) (f v : List ℕ) (r : Noted) (f' v' : List ℕ) : Type 0 where
  pub told : r ≡ noted w.names w.marked r.rows (fallen_with w) w.far w.place w.far
  pub stored : Stored f v w.rows w.far c f' v' r.rows

-- the innermost of d brackets closes
abbrev pub closed : ℕ → Stacks → Noted → Noted
closed d a w =
    cond (ltb d 2) w
    (noted w.names w.marked w.rows w.fallen (w.marked - get_or a.masks (d - 2) 0) (get_or a.places (d - 2) 0) (get_or a.lasts (d - 2) 0))
