-- Small reports of stored bytes, computed: document 01's tables A over three images, E, F and G over four. Assumes nothing.
use Rattle.std.specs.Prelude.{List, [], ◌++◌, ◌∷◌, refl, ◌≡◌, ℕ, Ok, Err}
use Rattle.std.specs.Int.Count.{ones, ones_in}
use Rattle.ground.specs.Least.{least_on}
use Rattle.ground.specs.Lowest.{check_all}
use Rattle.ground.specs.Refusals.{refusal}
use Rattle.theory.specs.Index.{shifted}
use Rattle.theory.specs.Tables.{limit}
use Rattle.tree.specs.Exact.{exact_rows}
use Rattle.bits.specs.Bits.{bits, bits_of, part, value_of}
use Rattle.bits.specs.Editions.{edition_of}
use Rattle.bits.specs.Forms.{field_value}
use Rattle.bits.specs.Listed.{listed}
use Rattle.cost_forms.specs.Entries.{entry_cost, row_start, table_of}
use Rattle.stored_costs.specs.Examples.{new_stored_a, stored_a}
use Rattle.cost_forms.specs.Said.{entry_of, fill_of, images_of}
use Rattle.seen.specs.Seen.{entries, seen}
use Rattle.figures.specs.Figures.{counts, entries_at, no_figures, sides_at}
use Rattle.report.specs.Outcome.{report_of, room_check}
use Rattle.figures.specs.Checks.{next_check}
use Rattle.figures.specs.Reading.{read_all, read_on}
use Rattle.figures.specs.Tables.{is_accepted, trees}

-- no bytes give zeros
pub no_bytes : report_of limit (read_all limit []) ≡ record { figures = no_figures; table = 0; stop = (Ok tt) }
unfolding read_on sides_at counts trees seen
no_bytes = refl

-- A in both forms, and one byte more: the third table ends early, and the two before it stand
pub ends_early : report_of limit (read_all limit (stored_a ++ new_stored_a ++ (0x06 ∷ [])))
    ≡ record {
      figures = record { images = 3; tables = 2; accepted = 2; apart = 0; sides = 0; pairs = 1; count_sum = 0; largest_count = 0; used = 20 };
      table = 3;
      stop = Err (refusal 9 0 0 0 0);
    }
unfolding stored_a new_stored_a read_on next_check sides_at counts trees is_accepted exact_rows seen ones ones_in shifted least_on bits
    bits_of value_of part field_value listed row_start entry_cost table_of images_of entry_of fill_of check_all edition_of
ends_early = refl

unfoldable pub stored_e : List ℕ
stored_e = 0x08 ∷ 0x00 ∷ 0x00 ∷ 0x40 ∷ 0x00 ∷ 0x08 ∷ 0x00 ∷ 0x00 ∷ 0x80 ∷ 0x00 ∷ 0x08 ∷ 0x00 ∷ 0x00 ∷ 0x80 ∷ 0x00 ∷ 0x04 ∷ []

unfoldable pub stored_f : List ℕ
stored_f = 0x08 ∷ 0x00 ∷ 0x00 ∷ 0x40 ∷ 0x00 ∷ 0x06 ∷ 0x00 ∷ 0x00 ∷ 0x80 ∷ 0x00 ∷ 0x08 ∷ 0x00 ∷ 0x00 ∷ 0x80 ∷ 0x00 ∷ 0x04 ∷ []

unfoldable pub stored_g : List ℕ
stored_g = 0x08 ∷ 0x00 ∷ 0x00 ∷ 0x40 ∷ 0x00 ∷ 0x04 ∷ 0x00 ∷ 0x00 ∷ 0x40 ∷ 0x00 ∷ 0x04 ∷ 0x00 ∷ 0x00 ∷ 0x40 ∷ 0x00 ∷ 0x04 ∷ []

-- E, F, G, E: F gets 7 and does not part E and G; far side 12 is in two of three trees, with 4 each time
pub four-tables : (report_of limit (read_all limit (stored_e ++ stored_f ++ stored_g ++ stored_e))
    ≡ record {
      figures = record { images = 4; tables = 4; accepted = 3; apart = 1; sides = 1; pairs = 2; count_sum = 2; largest_count = 1; used = 64 };
      table = 0;
      stop = Ok tt;
    })
    × (entries_at limit (read_all limit (stored_e ++ stored_f ++ stored_g ++ stored_e)).read ≡ (12, 2, 8) ∷ [])
unfolding stored_e stored_f stored_g entries_at entries read_on next_check sides_at counts trees is_accepted exact_rows seen ones ones_in shifted least_on bits
    bits_of value_of part field_value listed row_start entry_cost table_of images_of entry_of fill_of check_all edition_of
four-tables = (refl, refl)

-- the first table's n counts although it gets 7: A behind F is refused with 15, as table 2; but a short table of another n with 9
pub other-images : (report_of limit (read_all limit (stored_f ++ stored_a))
    ≡ record {
      figures = record { images = 4; tables = 1; accepted = 0; apart = 1; sides = 0; pairs = 0; count_sum = 0; largest_count = 0; used = 16 };
      table = 2;
      stop = Err (refusal 15 0 0 0 0);
    })
    × ((read_all limit (stored_f ++ (0x06 ∷ 0x00 ∷ []))).stop ≡ Err (refusal 9 0 0 0 0))
unfolding stored_a stored_f read_on next_check sides_at counts trees is_accepted exact_rows seen ones ones_in shifted least_on bits
    bits_of value_of part field_value listed row_start entry_cost table_of images_of entry_of fill_of check_all edition_of
other-images = (refl, refl)

-- what follows the last table that is read is not looked at
pub not_looked_at : (read_on limit 1 [] (stored_a ++ (0xff ∷ []))).stop ≡ Ok tt
unfolding stored_a read_on next_check sides_at counts trees is_accepted exact_rows seen ones ones_in shifted least_on bits
    bits_of value_of part field_value listed row_start entry_cost table_of images_of entry_of fill_of check_all edition_of
not_looked_at = refl

-- 1,024 places are enough, and one fewer in any slice is not
pub places : (room_check 1024 1024 1024 ≡ Ok tt) × (room_check 1023 1024 1024 ≡ Err (refusal 3 0 0 0 0))
    × (room_check 1024 1023 1024 ≡ Err (refusal 3 0 0 0 0)) × (room_check 1024 1024 1023 ≡ Err (refusal 3 0 0 0 0))
places = (refl, refl, refl, refl)
