-- How many bytes the text of a link table has: a sum over its rows. Assumes nothing.
use Rattle.std.specs.Prelude.{cond, List, ℕ, ◌+◌, eqb, length}
use Rattle.ground.specs.Sums.{sum}
use Rattle.theory.specs.LinkTables.{Row}
use Rattle.text.specs.Decimal.{decimal}
use Rattle.newick_text.specs.Tables.{image_side}
use Rattle.newick_text.specs.LinkTrees.{image_of}

-- before the colon: the digits of the image, where the far side has one image; else a bracket opens, or, in the last row, image 1 stands
unfoldable pub head_bytes : ℕ → ℕ
head_bytes S = cond (eqb S (image_side (image_of S))) (length (decimal (image_of S))) 1

-- with the colon, the digits of the doubled cost, and the byte behind them
unfoldable pub row_bytes : Row → ℕ
row_bytes r = head_bytes r.0 + (length (decimal r.1) + 2)

-- with the first bracket and the semicolon
abbrev pub text_bytes : List Row → ℕ
text_bytes T = 2 + sum T row_bytes

-- no link table over at most 64 images has a longer text
abbrev pub longest_text : ℕ
longest_text = 1432
