-- `routes::route` meets its contract: behind the checks stand a link table with the own link of the image, and room for its rows. Assumes nothing.
use Rattle.std.proofs.Common.{List, arith, length, sym, ◌-◌, ◌+◌, ◌<◌, ◌∙◌, ◌≡◌, ◌≤◌, ℕ}
use Rattle.std.specs.Prelude.{Ok}
use Rattle.std.proofs.lemmas.List.Edits.{sets}
use Rattle.ground.specs.Buffers.{front}
use Rattle.ground.specs.Members.{place_of}
use Rattle.ground.specs.Laws.Buffers.{sets_front}
use Rattle.ground.specs.Laws.Outcomes.{written_goes}
use Rattle.ground.specs.Refusals.{Check}
use Rattle.theory.specs.FarSides.{own}
use Rattle.routes.specs.Laws.Accepted.{few_rows, own-place, route-passed}
use Rattle.routes.specs.Orders.{route_checks}
use Rattle.climbing.specs.Climbs.{climb_from}
use Rattle.climbing.specs.Laws.Climbs.{climb-most}
use Rattle.routes.proofs.route.Goals as goal

-- the row of the own link is one of the rows, and there is room for those from it on
climbs : (L n N : ℕ) (l v o : List ℕ) (i : ℕ) {r : ℕ} {x : Check} → x ≡ Ok tt → x ≡ route_checks L n N l v i (length o) → r ≡ place_of 1 (own n (i - 1)) l
    → ((0 < r) × (r ≤ length l) × (length l ≤ 125) × (0 + (length l + 1 - r) ≤ length o)) × (sets o 0 (climb_from l r) ≡ front (climb_from l r) o)
climbs L n N l v o i {r = r} e f g =
    let t = route-passed L n N l v i (length o) (sym f ∙ e) in
    let k = t.uppers.table in
    let a = few_rows L n N l v k in
    let p = own-place L n N l v k (i - 1) (omega (arith, t.low, t.high)) in
    let m = climb-most l (length l) r in (
      (omega arith, omega (arith, k.counted), omega (arith, k.counted), omega (arith, k.counted, t.uppers.spare)),
      sets_front (climb_from l r) o (omega (arith, k.counted, t.uppers.spare)),
    )

pub climb-requires : goal.climb-requires
climb-requires c = (climbs _ _ _ _ _ _ _ c.in_ok-check_route.was c.check_route.ensures (rw c.own_link.ensures at c.place_of-row.ensures)).0

pub returns : goal.returns
returns c =
    let row = rw c.own_link.ensures at c.place_of-row.ensures in
    let p = climbs _ _ _ _ _ c.args.out.now _ c.in_ok-check_route.was c.check_route.ensures row in
    let q = rw row at c.climb.ensures.0 in
    let r = rw row at (c.climb.ensures.1 ∙ p.1) in
    written_goes _ _ _ c.in_ok-check_route.was c.check_route.ensures (omega arith) r
