-- Settled examples of stored cost tables, computed. Assumes nothing.
use Rattle.std.specs.Prelude.{List, [], ◌∷◌, ℕ}

-- example A: three images, every cost 1
unfoldable pub table_a : List ℕ
table_a = 0 ∷ 1 ∷ 1 ∷ 1 ∷ 0 ∷ 1 ∷ 1 ∷ 1 ∷ 0 ∷ []

unfoldable pub stored_a : List ℕ
stored_a = 0x06 ∷ 0x00 ∷ 0x00 ∷ 0x20 ∷ 0x00 ∷ 0x02 ∷ 0x00 ∷ 0x00 ∷ 0x20 ∷ []

unfoldable pub new_stored_a : List ℕ
new_stored_a = 0xFE ∷ 0x0C ∷ 0x00 ∷ 0x00 ∷ 0x08 ∷ 0x00 ∷ 0x00 ∷ 0x10 ∷ 0x00 ∷ 0x00 ∷ 0x20 ∷ []
