-- What a batch writes, by recursion over its tables: each is stored in the form. Assumes nothing.
use Rattle.std.specs.Prelude.{List, [], ◌++◌, ◌∷◌, ℕ, drop, take}
use Rattle.link_forms.specs.Form.{link_bytes}
use Rattle.joined_tables.specs.Tables.{Table}
use Rattle.bits.specs.declared.Form.{Form}

-- the tables' stored forms, joined
unfoldable pub batch_bytes : Form → List Table → List ℕ → List ℕ → List ℕ
batch_bytes form [] l v = []
batch_bytes form (t ∷ ts) l v =
    link_bytes form t.0 (take t.1 l) (take t.1 v) ++ batch_bytes form ts (drop t.1 l) (drop t.1 v)
