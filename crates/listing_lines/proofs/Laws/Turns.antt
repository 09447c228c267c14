-- One turn of the loop that writes the rows' lines, and its end. Assumes nothing.
use Rattle.std.specs.Prelude.{List, ℕ, ◌+◌, ◌<◌, ◌≤◌, drop, get_or, length}
use Rattle.listing_lines.specs.Laws.Rows.{rows_end, rows-turn}
use Rattle.listing_lines.specs.Lines.{row_line, row_lines}
use Rattle.text.specs.Laws.Pieces.{rest_same}
use Rattle.text.specs.Laws.Putting.{rest_end, rest_fits, rest-step}
use Rattle.text.specs.Putting.{Fits, Put, Rest}

pub row_fits : (l v u : List ℕ) (i p : ℕ) (o text : List ℕ) (p₀ : ℕ) (o₀ : List ℕ)
    → Rest (row_lines (drop i l) (drop i v) (drop i u)) p o text p₀ o₀ → i < length l → length l ≤ length v → length l ≤ length u
    → Fits text p₀ o₀ → Fits (row_line (get_or l i 0) (get_or v i 0) (get_or u i 0)) p o
row_fits l v u i p o text p₀ o₀ r h a b f = rest_fits (row_line _ _ _) _ (rest_same (rows-turn l v u i h a b) r) f

pub row_step : (l v u : List ℕ) (i p : ℕ) (o text : List ℕ) (p₀ : ℕ) (o₀ : List ℕ) (p' : ℕ) (o' : List ℕ)
    → Rest (row_lines (drop i l) (drop i v) (drop i u)) p o text p₀ o₀ → i < length l → length l ≤ length v → length l ≤ length u
    → Fits text p₀ o₀ → Put (row_line (get_or l i 0) (get_or v i 0) (get_or u i 0)) p o p' o'
    → Rest (row_lines (drop (i + 1) l) (drop (i + 1) v) (drop (i + 1) u)) p' o' text p₀ o₀
row_step l v u i p o text p₀ o₀ p' o' r h a b f t = rest-step (row_line _ _ _) _ (rest_same (rows-turn l v u i h a b) r) f t

pub all_rows : (l v u : List ℕ) (i p : ℕ) (o text : List ℕ) (p₀ : ℕ) (o₀ : List ℕ)
    → Rest (row_lines (drop i l) (drop i v) (drop i u)) p o text p₀ o₀ → length l ≤ i → Put text p₀ o₀ p o
all_rows l v u i p o text p₀ o₀ r h = rest_end (rest_same (rows_end l v u i h) r)
