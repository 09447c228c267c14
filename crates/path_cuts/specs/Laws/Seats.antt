-- Heights and costs of own links, by the places of the order. Assumes nothing.
use Rattle.std.specs.Prelude.{List, ◌≡◌, suc, ℕ, ◌+◌, ◌-◌}
use Rattle.std.proofs.Math.Numerals.{add-one}
use Rattle.recognition.specs.Recognition.{placed}
use Rattle.recognition.specs.Seats.{seat}
use Rattle.path_cuts.specs.Cuts.{height, own_cost}

module _ (d : ℕ → ℕ → ℕ) (l : List ℕ) (p x z : ℕ) (b : x ≡ seat l p) (c : z ≡ seat l (p + 1)) (f : seat l 0 ≡ 0) where
  pub seats_height : d 0 x + d 0 z - d x z ≡ height (placed d (seat l)) p (suc p)
  unfolding height
  seats_height = rw (b, c, add-one p, f)

  pub height_by : height (placed d (seat l)) p (suc p) ≡ d 0 x + d 0 z - d x z
  unfolding height
  height_by = rw (b, c, add-one p, f)

  pub seats_own : d 0 z + d x z - d 0 x ≡ own_cost (placed d (seat l)) p
  seats_own = rw (b, c, add-one p, f)
