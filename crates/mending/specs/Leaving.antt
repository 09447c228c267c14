-- Images that leave, in document 02's words. Of m + 1 images, counted from 0, image x leaves, and m are left. Assumes nothing.
use Rattle.std.specs.Prelude.{cond, List, [], map, suc, zero, ℕ, ◌%◌, ◌*◌, ◌+◌, ◌-◌, ◌/◌, ◌^◌, ltb}
use Rattle.ground.specs.Filters.{filter}
use Rattle.theory.specs.FarSides.{holds}
use Rattle.theory.specs.LinkTables.{Row}
use Rattle.rows.specs.Rows.{put_all}

-- ## The cost table

-- the number that image i had before x left: numbers above x dropped by one
abbrev pub had : ℕ → ℕ → ℕ
had x i = cond (ltb i x) i (suc i)

-- the smaller cost table
abbrev pub leave : ℕ → (ℕ → ℕ → ℕ) → ℕ → ℕ → ℕ
leave x d i j = d (had x i) (had x j)

-- ## The link table, mended from the old rows

-- the image's bit is taken out, and those above it move down
abbrev pub take_out : ℕ → ℕ → ℕ
take_out zero S = S / 2
take_out (suc x) S = S % 2 + 2 * take_out x (S / 2)

-- a side is named again from the new image 0: by the other group where it holds image 0
abbrev pub named : ℕ → ℕ → ℕ
named m S = cond (holds S 0) (2 ^ m - 1 - S) S

-- the far side S once x has left: 0 exactly where a group was left empty (`renamed_none`)
abbrev pub renamed : ℕ → ℕ → ℕ → ℕ
renamed m x S = named m (take_out x S)

abbrev pub rename_row : ℕ → ℕ → Row → Row
rename_row m x r = (renamed m x r.0, r.1)

-- a row left with an empty group is dropped
abbrev pub grouped : List Row → List Row
grouped R = filter (λ r. ltb 0 r.0) R

-- the others are put in their places, and those that became equal are joined with their costs added
unfoldable pub joined : List Row → List Row
joined R = put_all (grouped R) []

abbrev pub mend : ℕ → ℕ → List Row → List Row
mend m x T = joined (map (rename_row m x) T)
