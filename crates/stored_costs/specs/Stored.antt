-- A stored cost table, said without checks: what it means that bytes begin with one, that one stands at a position, and that it was read into
-- the lent places. Assumes nothing.
use Rattle.stored_costs.specs.Outcomes.{StoredCosts}
use Rattle.std.specs.Prelude.{List, ◌≡◌, ℕ, ◌%◌, ◌*◌, ◌+◌, ◌/◌, ◌<◌, ◌≤◌, drop, length, Ok}
use Rattle.bits.specs.Forms.{bytes_for}
use Rattle.cost_forms.specs.Entries.{entry_number}
use Rattle.cost_forms.specs.Form.{cost_used}
use Rattle.cost_forms.specs.Said.{entry_of, fill_of, images_of}
use Rattle.stored_costs.specs.Reading.{read_at_checks}
use Rattle.bits.specs.declared.Form.{Form}
use Rattle.ground.specs.Buffers.{front}
use Rattle.ground.specs.Outcomes.{Outcome}

-- the bytes s begin with a stored table, and there is room for it
pub record Readable (form : Form) (s : List ℕ) (room : ℕ) : Type 0 where
  pub begun : bytes_for (form.head + 7) ≤ length s
  pub some : 3 ≤ images_of form s
  pub few : images_of form s ≤ 64
  pub roomy : images_of form s * images_of form s ≤ room
  pub whole : cost_used form (images_of form s) ≤ length s
  pub clear : fill_of form (images_of form s) s ≡ 0
  pub fine : (i j : ℕ) → i < j → j < images_of form s → entry_of form s (entry_number (images_of form s) i j) ≤ form.limit
  pub nonzero : (i j : ℕ) → i < j → j < images_of form s → 0 < entry_of form s (entry_number (images_of form s) i j)

-- the answer is this table: what it says of the bytes
pub record TableAt (form : Form) (bytes : List ℕ) (position room n used : ℕ) : Type 0 where
  pub passed : read_at_checks form bytes position room ≡ Ok tt
  pub inside : position / 8 ≤ length bytes
  pub aligned : position % 8 ≡ 0
  pub number : images_of form (drop (position / 8) bytes) ≡ n
  pub count : cost_used form n ≡ used
  pub readable : Readable form (drop (position / 8) bytes) room

-- an accepted reading into the lent places
abbrev pub read_into : ℕ → ℕ → List ℕ → List ℕ → Outcome StoredCosts
read_into n used t out = record { answer = Ok (record { n = n; used = used }); places = front t out }
