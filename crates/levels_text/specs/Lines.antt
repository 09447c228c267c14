-- The lines of a listing of levels, as bytes: fields stand one blank apart, and every line ends in a newline. Assumes nothing.
use Rattle.std.specs.Prelude.{cond, List, [], map, ◌++◌, ◌∷◌, suc, ℕ, length}
use Rattle.ground.specs.Filters.{filter}
use Rattle.ground.specs.Ranges.{from}
use Rattle.theory.specs.FarSides.{holds}
use Rattle.text.specs.Decimal.{decimal}
use Rattle.text.specs.Fields.{field, fields}
use Rattle.text.specs.Words.{bytes_of}
use Rattle.listing_lines.specs.Lines.{newline}

-- images N groups M
unfoldable pub header : ℕ → ℕ → List ℕ
header n m = bytes_of "images" ++ (field n ++ (bytes_of " groups" ++ (field m ++ newline)))

-- the images whose bit in the member sum S is 1, of n images, ascending, counted from 1
unfoldable pub group_images : ℕ → ℕ → List ℕ
group_images S n = map suc (filter (holds S) (from 0 n))

-- what image i, counted from 0, adds to the line of the group S
unfoldable pub image_field : ℕ → ℕ → List ℕ
image_field S i = cond (holds S i) (field (suc i)) []

-- member sum, height, images
unfoldable pub group_line : ℕ → ℕ → ℕ → List ℕ
group_line n S h = decimal S ++ (field h ++ (fields (group_images S n) ++ newline))

-- one line for each group, where member sums and heights stand in two lists
unfoldable pub group_lines : ℕ → List ℕ → List ℕ → List ℕ
group_lines n [] v = []
group_lines n (S ∷ l) [] = []
group_lines n (S ∷ l) (h ∷ v) = group_line n S h ++ group_lines n l v

-- ## Several lines

-- room for every listing of levels: 63 groups of 64 images
abbrev pub room : ℕ
room = 14336

-- the header, and a line for each group
unfoldable pub groups_text : ℕ → List ℕ → List ℕ → List ℕ
groups_text n l v = header n (length l) ++ group_lines n l v
