-- The lines of a term report, as bytes: fields stand one blank apart, and every line ends in a newline. Assumes nothing.
use Rattle.ground.specs.Refusals.{Check}
use Rattle.std.specs.Prelude.{List, [], ◌++◌, ◌∷◌, ℕ, Ok, Err}
use Prim.Native.String.{String}
use Rattle.text.specs.Decimal.{decimal}
use Rattle.text.specs.Fields.{field}
use Rattle.text.specs.Words.{bytes_of}
use Rattle.listing_lines.specs.Lines.{newline, refused_line}
use Rattle.seen.specs.Seen.{Entry}
use Rattle.figures.specs.declared.Figures.{Figures}

-- a figure behind its word
abbrev pub named : String → ℕ → List ℕ
named word x = bytes_of word ++ field x

-- images N tables T accepted A apart P bytes B
unfoldable pub figures_line : Figures → List ℕ
figures_line f =
    named "images" f.images
    ++ (named " tables" f.tables ++ (named " accepted" f.accepted ++ (named " apart" f.apart ++ (named " bytes" f.used ++ newline))))

-- pairs K counts S largest M
unfoldable pub pairs_line : Figures → List ℕ
pairs_line f = named "pairs" f.pairs ++ (named " counts" f.count_sum ++ (named " largest" f.largest_count ++ newline))

-- sides C
unfoldable pub sides_line : ℕ → List ℕ
sides_line c = named "sides" c ++ newline

-- far side, trees, sum
unfoldable pub entry_line : Entry → List ℕ
entry_line e = decimal e.0 ++ (field e.1 ++ (field e.2 ++ newline))

-- one line for each far side seen
unfoldable pub entry_lines : List Entry → List ℕ
entry_lines [] = []
entry_lines (e ∷ E) = entry_line e ++ entry_lines E

-- table, its number, and the line of its refusal; nothing where none was refused
unfoldable pub end_line : ℕ → Check → List ℕ
end_line k (Ok tt) = []
end_line k (Err q) = named "table" k ++ ((32 ∷ []) ++ refused_line q)
