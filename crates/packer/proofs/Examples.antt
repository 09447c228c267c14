-- What was put, and what is finished, computed. Assumes nothing.
use Rattle.std.specs.Prelude.{[], ◌∷◌, refl, ◌≡◌, ◌*◌, ◌^◌}
use Rattle.bits.specs.Bits.{bits, bits_of}
use Rattle.packer.specs.Gathering.{Finished, put_bits, put_count}
use Rattle.packer.specs.Laws.Putting.{gathered}

-- one byte is stored, 171, and the upper three bits 1 0 1 are gathered; the byte behind is not stored yet and plays no part
pub eleven_bits : (put_count (gathered 1 3 (5 * 2 ^ 61)) ≡ 11)
    × (put_bits (171 ∷ 255 ∷ []) (gathered 1 3 (5 * 2 ^ 61)) ≡ 1 ∷ 0 ∷ 1 ∷ 0 ∷ 1 ∷ 0 ∷ 1 ∷ 1 ∷ 1 ∷ 0 ∷ 1 ∷ [])
unfolding put_bits bits bits_of
eleven_bits = (refl, refl)

-- finished, they are 171 and 160, whose fill bits are 0 whatever stood there; a third byte is as it was
pub two_bytes : Finished (171 ∷ 255 ∷ 255 ∷ []) (171 ∷ 160 ∷ 255 ∷ []) (gathered 1 3 (5 * 2 ^ 61)) 2
unfolding put_bits bits bits_of
two_bytes = record { counted = refl; whole = refl; others = refl }
