-- How long the lines of a listing of levels can be: room for every one of them is there. Assumes nothing.
use Rattle.std.specs.Prelude.{List, [], map, ◌∷◌, suc, zero, ℕ, ◌*◌, ◌+◌, ◌≤◌, length}
use Rattle.std.proofs.Common.{arith, length-append}
use borrow.Table.Steps.{cases}
use Rattle.ground.specs.Filters.{filter}
use Rattle.ground.specs.Ranges.{from}
use Rattle.ground.specs.declared.Refusal.{Refusal}
use Rattle.theory.specs.FarSides.{holds}
use Rattle.theory.specs.Tables.{CostTable, WellFormed, cost, limit}
use Rattle.leveling.specs.ThreePoint.{ThreePoint}
use Rattle.levels.specs.Groups.{groups, height, heights}
use Rattle.levels.proofs.Laws.Count.{groups-most}
use Rattle.levels.specs.Laws.Heights.{height_le}
use Rattle.text.specs.Fields.{fields}
use Rattle.text.proofs.Laws.Lengths.{field-most}
use Rattle.text.proofs.Laws.Numbers.{decimal-most}
use Rattle.text.specs.Putting.{Fits}
use Rattle.text.specs.Words.{bytes_of}
use Rattle.listing_lines.specs.Laws.Lengths.{refused-most}
use Rattle.listing_lines.specs.Lines.{refused_line}
use Rattle.levels_text.specs.Laws.Digits.{field_below}
use Rattle.levels_text.specs.Lines.{group_images, group_line, group_lines, groups_text, header, room}

-- the number of an image has two digits at most
images-most : (S m i : ℕ) → i + m ≤ 64 → length (fields (map suc (filter (holds S) (from i m)))) ≤ 3 * m
unfolding fields
images-most S zero i h = omega arith
images-most S (suc m) i h =
    let ih = images-most S m (suc i) (omega arith) in
    cases (holds S i) (λ e. rw e (simp length-append (omega (arith, field_below 1 (suc i) (omega arith))))) (λ e. rw e (omega arith))

-- a height has seven at most
group-most : (n S h : ℕ) → n ≤ 64 → h ≤ limit → length (group_line n S h) ≤ 221
unfolding group_line group_images
group-most n S h f l =
    simp length-append (omega (arith, decimal-most S, field_below 6 h (omega arith), images-most S n 0 (omega arith)))

groups_lines : (n : ℕ) (f : ℕ → ℕ) → n ≤ 64 → ((S : ℕ) → f S ≤ limit) → (l : List ℕ) → length (group_lines n l (map f l)) ≤ 221 * length l
unfolding group_lines
groups_lines n f a h [] = omega arith
groups_lines n f a h (S ∷ l) = simp length-append (omega (arith, group-most n S (f S) a (h S), groups_lines n f a h l))

header-most : (n m : ℕ) → length (header n m) ≤ 60
unfolding header bytes_of
header-most n m = simp length-append (omega (arith, field-most n, field-most m))

-- no height is above the limit
height_small : (L : ℕ) (d : ℕ → ℕ → ℕ) (n : ℕ) → WellFormed L d n → (S : ℕ) → height d n S ≤ L
height_small L d n c S = height_le d n S L (λ i j hi hj si sj. c.small hi hj)

-- at most 63 groups
pub levels_most : (n : ℕ) (t : List ℕ) → CostTable limit n t → ThreePoint (cost t n) n
    → length (groups_text n (groups (cost t n) n) (heights (cost t n) n)) ≤ room
unfolding groups_text
levels_most n t c p =
    let d = cost t n in
    simp length-append
    (omega (
      arith,
      c.few,
      groups-most limit d n c.formed p,
      header-most n (length (groups d n)),
      groups_lines n (height d n) c.few (height_small limit d n c.formed) (groups d n),
    ))

-- a refusal's line
pub refused_fits : (q : Refusal) (o : List ℕ) → room ≤ length o → Fits (refused_line q) 0 o
refused_fits q o h = omega (arith, refused-most q)
