-- The rows' lines of a listing, one by one, as a loop writes them. Assumes nothing.
use Rattle.std.specs.Prelude.{List, [], ◌++◌, refl, ◌≡◌, ℕ, ◌+◌, ◌<◌, ◌≤◌, drop, get_or, length}
use Rattle.std.proofs.Common.{add-one, arith, drop-cons}
use Rattle.text.specs.Laws.Pieces.{drop_none}
use Rattle.listing_lines.specs.Lines.{row_line, row_lines}

-- the next row's line, and those behind it
pub rows-turn : (l v u : List ℕ) (i : ℕ) → i < length l → length l ≤ length v → length l ≤ length u
    → row_lines (drop i l) (drop i v) (drop i u) ≡ row_line (get_or l i 0) (get_or v i 0) (get_or u i 0) ++ row_lines (drop (i + 1) l) (drop (i + 1) v) (drop (i + 1) u)
unfolding row_lines
rows-turn l v u i h a b = rw (add-one i, drop-cons l i 0 h, drop-cons v i 0 (omega arith), drop-cons u i 0 (omega arith)) refl

-- nothing is left behind the last
pub rows_end : (l v u : List ℕ) (i : ℕ) → length l ≤ i → row_lines (drop i l) (drop i v) (drop i u) ≡ []
unfolding row_lines
rows_end l v u i h = rw (drop_none l i h) refl
