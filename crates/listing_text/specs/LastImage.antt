-- The last image of a listing's order line. Images are 1 to n here, as in the listing. Assumes nothing.
use Rattle.std.specs.Prelude.{List, suc, ℕ}
use Rattle.theory.specs.Tables.{cost}
use Rattle.far_end.specs.FarEnd.{far_end}
use Rattle.listing_text.specs.declared.Last.{Last}
use Rattle.listing_text.specs.declared.Last.TheVariants.{FarEnd, ImageN}

-- the far end, which is the other image with the greatest cost from image 1, the lowest on a tie; or image n
abbrev pub last_image : Last → ℕ → List ℕ → ℕ
last_image FarEnd n t = suc (far_end (cost t n) n)
last_image ImageN n t = n
