-- A stored link table, said without checks: what it means that bytes begin with one, that one stands at a position, and that it was read into
-- the lent places. Assumes nothing.
use Rattle.stored_links.specs.Outcomes.{StoredLinks}
use Rattle.std.specs.Prelude.{List, ◌≡◌, ℕ, ◌%◌, ◌*◌, ◌+◌, ◌-◌, ◌/◌, ◌≤◌, drop, length, Ok}
use Rattle.theory.specs.LinkTables.{LinkTable, rows_of}
use Rattle.bits.specs.Forms.{bytes_for}
use Rattle.link_forms.specs.Form.{link_used}
use Rattle.link_forms.specs.Said.{costs_of, count_of, fars_of, fill_of, images_of}
use Rattle.bits.specs.declared.Form.{Form}
use Rattle.ground.specs.Buffers.{front}
use Rattle.theory.specs.Outcomes.{RowsOutcome}

-- the bytes s begin with a stored link table of N rows over n images
pub record Stored (form : Form) (n N : ℕ) (s : List ℕ) : Type 0 where
  pub begun : bytes_for (form.head + 14) ≤ length s
  pub images : images_of form s ≡ n
  pub counted : count_of form s ≡ N
  pub some : 3 ≤ n
  pub few : n ≤ 64
  pub least : n ≤ N
  pub most : N ≤ 2 * n - 3
  pub whole : link_used form n N ≤ length s
  pub clear : fill_of form n N s ≡ 0
  pub rows : LinkTable form.limit n (rows_of (fars_of form n N s) (costs_of form n N s))

-- the answer is this table: what it says of the bytes from the position on
pub record TableAt (form : Form) (bytes : List ℕ) (position n N used : ℕ) : Type 0 where
  pub inside : position / 8 ≤ length bytes
  pub aligned : position % 8 ≡ 0
  pub stored : Stored form n N (drop (position / 8) bytes)
  pub used_is : link_used form n N ≡ used

-- an accepted reading of the rows l and v into the lent slices f and u
abbrev pub read_into : ℕ → ℕ → ℕ → List ℕ → List ℕ → List ℕ → List ℕ → RowsOutcome StoredLinks
read_into n N used l v f u = record { answer = Ok (record { n = n; count = N; used = used }); far_list = front l f; cost_list = front v u }
