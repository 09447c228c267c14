-- What reading one stored link table gives the choice: the promise of the link reader, from the first byte on and with 128 places.
-- Assumes nothing.
use Rattle.std.specs.Prelude.{List, ◌≡◌, ℕ, ◌^◌, ◌≤◌, length, take, Ok}
use Rattle.ground.specs.Ascending.{Between}
use Rattle.choice.specs.Call.{sides_of}
use Rattle.stored_links.specs.Outcomes.{said_if, StoredLinks}
use Rattle.stored_links.specs.Reading.{table_checks}
use Rattle.link_forms.specs.Said.{count_of, images_of, used_of}
use Rattle.bits.specs.declared.Form.{Form}

-- the call answered r and left f: the refusal, or the table that s begins with, whose far sides stand in front
pub record TableRead (form : Form) (s : List ℕ) (r : StoredLinks) (f : List ℕ) : Type 0 where
  pub answered : r ≡ said_if (table_checks form s) form s
  pub stands : table_checks form s ≡ Ok tt → take (count_of form s) f ≡ sides_of form s

-- an accepted table over n images with the given used bytes: the first k places of f hold its far sides
pub record SidesListed (form : Form) (s : List ℕ) (n k used : ℕ) (f : List ℕ) : Type 0 where
  pub passed : table_checks form s ≡ Ok tt
  pub images : images_of form s ≡ n
  pub ended : used_of form s ≡ used
  pub front : take k f ≡ sides_of form s
  pub ascending : Between 1 (take k f) (2 ^ n)
  pub few : k ≤ 128
  pub short : length (take k f) ≤ 128
  pub least : 3 ≤ n
  pub most : n ≤ 64
