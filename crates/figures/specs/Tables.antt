-- The tables that the report has read, in the order of the bytes. Assumes nothing.
use Rattle.ground.specs.Refusals.{Check}
use Rattle.std.specs.Prelude.{Bool, false, not, true, List, [], map, ◌∷◌, ℕ, Ok, Err}
use Rattle.ground.specs.Filters.{filter}
use Rattle.theory.specs.LinkTables.{Row}
use Rattle.theory.specs.Tables.{cost}
use Rattle.wiring.specs.Check.{wiring_check}
use Rattle.tree.specs.Exact.{exact_rows}
use Rattle.bits.specs.declared.Form.{Form}
use Rattle.cost_forms.specs.Form.{cost_form_at, cost_used}
use Rattle.cost_forms.specs.Said.{images_of, stored_table}

-- a table: n, the bytes that it used, and its costs row by row
pub record Table : Type 0 where
  pub images : ℕ
  pub used : ℕ
  pub costs : List ℕ

abbrev pub table_of : ℕ → ℕ → List ℕ → Table
table_of n used t = record { images = n; used = used; costs = t }

-- the one at the front of the bytes s, in the form that they tell
abbrev pub table_in : Form → List ℕ → Table
table_in form s = table_of (images_of form s) (cost_used form (images_of form s)) (stored_table form (images_of form s) s)

abbrev pub table_at : List ℕ → Table
table_at s = table_in (cost_form_at s 0) s

-- its tree: the exact reading, where it is accepted
abbrev pub tree_of : ℕ → Table → List Row
tree_of L t = exact_rows L t.images t.costs

-- a check passed
abbrev pub passes : Check → Bool
passes (Ok tt) = true
passes (Err r) = false

-- accepted: it does not get 7
unfoldable pub is_accepted : Table → Bool
is_accepted t = passes (wiring_check (cost t.costs t.images) t.images)

abbrev pub accepted : List Table → List Table
accepted ts = filter is_accepted ts

-- those that get 7
abbrev pub apart : List Table → List Table
apart ts = filter (λ t. not (is_accepted t)) ts

-- the trees of the accepted ones
unfoldable pub trees : ℕ → List Table → List (List Row)
trees L ts = map (tree_of L) (accepted ts)

-- n, that of the first table; 0 where there is none
abbrev pub images_in : List Table → ℕ
images_in [] = 0
images_in (t ∷ ts) = t.images
