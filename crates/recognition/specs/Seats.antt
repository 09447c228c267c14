-- An order as it stands in a slice, images counted from 1. Assumes nothing.
use Rattle.std.specs.Prelude.{List, ℕ, ◌-◌, ◌<◌, ◌≤◌, get_or, length}
use Rattle.recognition.specs.Recognition.{Places, Yushmanov, placed}

-- the image at place i, counted from 0
abbrev pub seat : List ℕ → ℕ → ℕ
seat l i = get_or l i 0 - 1

-- the first n places of l hold an order of the n images
pub record Seated (n : ℕ) (l : List ℕ) : Type 0 where
  pub room : n ≤ length l
  pub named : {i : ℕ} → i < n → 0 < get_or l i 0
  pub places : Places (seat l) n

-- and one of document 001 for the costs d
pub record Ordered (d : ℕ → ℕ → ℕ) (n : ℕ) (l : List ℕ) : Type 0 where
  pub seated : Seated n l
  pub least : Yushmanov (placed d (seat l)) (n - 1)
