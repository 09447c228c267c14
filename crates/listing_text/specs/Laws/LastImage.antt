-- The last image of a listing is another one than image 1, so that the order call takes it. Assumes nothing.
use Rattle.std.specs.Prelude.{List, ℕ}
use Rattle.std.proofs.Common.{arith}
use Rattle.theory.specs.Tables.{CostTable, cost, limit}
use Rattle.far_end.proofs.Laws.FarEnd.{far_end_is}
use Rattle.table_text.specs.LastImage.{Other}
use Rattle.listing_text.specs.LastImage.{last_image}
use Rattle.listing_text.specs.declared.Last.{Last}
use Rattle.listing_text.specs.declared.Last.TheVariants.{FarEnd, ImageN}

pub last_other : (which : Last) (n : ℕ) (t : List ℕ) → CostTable limit n t → Other n (last_image which n t)
last_other FarEnd n t c =
    let f = far_end_is (cost t n) n (omega (arith, c.some)) in
    record { low = omega (arith, f.other); high = omega (arith, f.image) }
last_other ImageN n t c = record { low = omega (arith, c.some); high = omega arith }
