-- Settled examples of document 01 as listings of levels, computed: E has three groups, A one, and C has no levels. Assumes nothing.
use Rattle.std.specs.Prelude.{[], ◌∷◌, refl, ◌≡◌}
use Rattle.std.specs.Int.Count.{ones, ones_in}
use Rattle.ground.specs.Lowest.{check_all}
use Rattle.levels.specs.Groups.{groups, height}
use Rattle.bits.specs.Bits.{bits, bits_of, part, value_of}
use Rattle.bits.specs.Editions.{edition_of}
use Rattle.bits.specs.Forms.{field_value}
use Rattle.bits.specs.Listed.{listed}
use Rattle.cost_forms.specs.Entries.{entry_cost, row_start, table_of}
use Rattle.cost_forms.specs.Said.{entry_of, fill_of, images_of}
use Rattle.text.specs.Decimal.{decimal, digits}
use Rattle.text.specs.Fields.{field, fields}
use Rattle.text.specs.Words.{bytes_of}
use Rattle.listing_lines.specs.Lines.{refused_line}
use Rattle.levels_text.specs.Lines.{group_images, group_line, group_lines, groups_text, header}
use Rattle.levels_text.specs.Listing.{levels_text}

-- two groups of two, and all four images above them
pub example_e_lem : levels_text
    (0x08 ∷ 0x00 ∷ 0x00 ∷ 0x40 ∷ 0x00 ∷ 0x08 ∷ 0x00 ∷ 0x00 ∷ 0x80 ∷ 0x00 ∷ 0x08 ∷ 0x00 ∷ 0x00 ∷ 0x80 ∷ 0x00 ∷ 0x04 ∷ [])
    ≡ bytes_of "images 4 groups 3\n3 2 1 2\n12 2 3 4\n15 4 1 2 3 4\n"
unfolding levels_text edition_of bits bits_of value_of part field_value listed row_start entry_cost table_of images_of entry_of fill_of check_all
    groups height ones ones_in groups_text header group_lines group_line group_images fields field decimal digits bytes_of
example_e_lem = refl

-- where all costs are the same all images are one group
pub example_a_lem : levels_text (0x06 ∷ 0x00 ∷ 0x00 ∷ 0x20 ∷ 0x00 ∷ 0x02 ∷ 0x00 ∷ 0x00 ∷ 0x20 ∷ []) ≡ bytes_of "images 3 groups 1\n7 1 1 2 3\n"
unfolding levels_text edition_of bits bits_of value_of part field_value listed row_start entry_cost table_of images_of entry_of fill_of check_all
    groups height ones ones_in groups_text header group_lines group_line group_images fields field decimal digits bytes_of
example_a_lem = refl

-- the largest of C's three costs occurs once
pub example_c_lem : levels_text (0x06 ∷ 0x00 ∷ 0x00 ∷ 0x20 ∷ 0x00 ∷ 0x02 ∷ 0x00 ∷ 0x00 ∷ 0x60 ∷ []) ≡ bytes_of "refused 21 1 2 3 0\n"
unfolding levels_text edition_of bits bits_of value_of part field_value listed row_start entry_cost table_of images_of entry_of fill_of check_all
    refused_line field decimal digits bytes_of
example_c_lem = refl
