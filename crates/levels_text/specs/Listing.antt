-- The listing of levels of the stored cost table at the start of the bytes s, in either form, whatever follows it. Assumes nothing.
use Rattle.std.specs.Prelude.{List, ◌≡◌, ℕ, length, replicate}
use Rattle.ground.specs.Buffers.{front}
use Rattle.theory.specs.Tables.{cost}
use Rattle.leveling.specs.Check.{levels_check}
use Rattle.levels.specs.Groups.{groups, heights}
use Rattle.listing_text.specs.Listing.{stored_text}
use Rattle.table_text.specs.TableText.{text_if}
use Rattle.levels_text.specs.Lines.{groups_text, room}

-- the groups of the cost table t with their heights, ascending by member sum; or refusal 21
abbrev pub table_levels : ℕ → List ℕ → List ℕ
table_levels n t = text_if (levels_check (cost t n) n) (groups_text n (groups (cost t n) n) (heights (cost t n) n))

-- what the stored table's checks refuse, or the groups of the table that the bytes say
unfoldable pub levels_text : List ℕ → List ℕ
levels_text s = stored_text table_levels s

-- what the call answers: the listing's length, and the listing in front of an array that is otherwise 0
pub record Listed (s : List ℕ) (size : ℕ) (text : List ℕ) : Type 0 where
  pub sized : size ≡ length (levels_text s)
  pub listed : text ≡ front (levels_text s) (replicate room 0)
