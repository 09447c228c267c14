-- Batches that are accepted, said without checks: every table is a link table and has room, and nothing is left over. Assumes nothing.
use Rattle.std.specs.Prelude.{List, [], ◌∷◌, ◌≡◌, ℕ, ◌-◌, ◌≤◌, drop, length, take}
use Rattle.links.specs.Links.{Links}
use Rattle.link_forms.specs.Form.{link_used}
use Rattle.joined_tables.specs.Tables.{Table}
use Rattle.bits.specs.declared.Form.{Form}

-- the first N rows are a link table over n images, and there is room for its stored form
pub record NextFits (form : Form) (n N : ℕ) (l v : List ℕ) (room : ℕ) : Type 0 where
  pub links : Links form.limit n N (take N l) (take N v)
  pub fits : link_used form n N ≤ room

-- so it is for each table, with the rows and the room that the tables before left, and no row is left over
unfoldable pub BatchFits : Form → List Table → List ℕ → List ℕ → ℕ → Type 0
BatchFits form [] l v room = (length l ≡ 0) × (length v ≡ 0)
BatchFits form (t ∷ ts) l v room =
    NextFits form t.0 t.1 l v room
    × BatchFits form ts (drop t.1 l) (drop t.1 v) (room - link_used form t.0 t.1)
