-- What it means that bytes are read as the tables of a batch. Assumes nothing.
use Rattle.std.specs.Prelude.{List, [], ◌∷◌, ◌≡◌, ℕ, ◌*◌, ◌+◌, ◌-◌, ◌≤◌, drop, length, take}
use Rattle.link_forms.specs.Form.{link_used}
use Rattle.stored_links.specs.Outcomes.{read_either}
use Rattle.joined_tables.specs.Tables.{Table}
use Rattle.bits.specs.declared.Form.{Form}
use Rattle.stored_links.specs.Stored.{read_into}

-- from byte k on the tables, stored in the form, are read one after another, each from the byte where the one before ended, into any lent
-- slices that have room; the last ends at the byte `end`
unfoldable pub ReadsBack : Form → List ℕ → ℕ → ℕ → List Table → List ℕ → List ℕ → Type 0
ReadsBack form bytes end k [] l v = k ≡ end
ReadsBack form bytes end k (t ∷ ts) l v =
    ((f u : List ℕ) → 2 * t.0 - 3 ≤ length f → 2 * t.0 - 3 ≤ length u
    → read_either bytes (8 * k) f u ≡ read_into t.0 t.1 (link_used form t.0 t.1) (take t.1 l) (take t.1 v) f u)
    × ReadsBack form bytes end (k + link_used form t.0 t.1) ts (drop t.1 l) (drop t.1 v)
