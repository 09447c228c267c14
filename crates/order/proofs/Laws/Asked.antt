-- The checks of the order call pass exactly for what may be asked. Assumes nothing.
use Rattle.std.specs.Prelude.{◌||◌, List, ◌↔◌, ◌≡◌, ℕ, ◌-◌, ◌<◌, ltb, Ok}
use Rattle.std.proofs.Common.{arith}
use Rattle.std.proofs.Math.Dec.{eqb}
use borrow.Author.Tests.{eqb-false, le-ltb, ltb-false, ne_eqb}
use Rattle.ground.specs.Refusals.{outside, room_check, ◌then◌}
use Rattle.ground.specs.Laws.Refusals.{outside_false, refuse_if-passed, then_passed}
use Rattle.ground.specs.Laws.Tests.{or_false}
use Rattle.theory.specs.Tables.{cost}
use Rattle.tables.specs.Checks.{costs_check, size_check}
use Rattle.tables.proofs.Laws.Formed.{cost-table}
use Rattle.order.specs.Outcome.{OrderAsked, bad_ends, ends_check, order_checks}

module _ (L n : ℕ) (t : List ℕ) (first last room : ℕ) where
  pub passed_asked : order_checks L n t first last room ≡ Ok tt → OrderAsked L n t first last room
  unfolding order_checks
  passed_asked e =
      let p = then_passed (size_check n t) (room_check n room then costs_check L (cost t n) n then ends_check n first last) e in
      let q = then_passed (room_check n room) (costs_check L (cost t n) n then ends_check n first last) p.1 in
      let r = then_passed (costs_check L (cost t n) n) (ends_check n first last) q.1 in
      let a = or_false (outside 1 n first) (outside 1 n last || eqb first last) (refuse_if-passed (bad_ends n first last) _ r.1) in
      let b = or_false (outside 1 n last) (eqb first last) a.1 in
      let f = outside_false 1 n first a.0 in
      let l = outside_false 1 n last b.0 in
      record {
        table = (cost-table L n t).0 (rw p.0 r.0);
        space = ltb-false room n (refuse_if-passed (ltb room n) _ q.0);
        first_low = f.0;
        first_high = f.1;
        last_low = l.0;
        last_high = l.1;
        differ = eqb-false first last b.1;
      }

  pub asked_passed : OrderAsked L n t first last room → order_checks L n t first last room ≡ Ok tt
  unfolding order_checks
  asked_passed a =
      let p = then_passed (size_check n t) (costs_check L (cost t n) n) ((cost-table L n t).1 a.table) in
      rw (
        p.0,
        le-ltb room n a.space,
        p.1,
        le-ltb first 1 a.first_low,
        le-ltb n first a.first_high,
        le-ltb last 1 a.last_low,
        le-ltb n last a.last_high,
        ne_eqb first last a.differ,
      )

  pub asked : (order_checks L n t first last room ≡ Ok tt) ↔ OrderAsked L n t first last room
  asked = (passed_asked, asked_passed)

  -- first and last, counted from 0, are two different images
  pub asked_ends : OrderAsked L n t first last room → (first - 1 < n) × (last - 1 < n) × (first - 1 ≡ last - 1 → ⊥)
  asked_ends a =
      (omega (arith, a.first_low, a.first_high), omega (arith, a.last_low, a.last_high), λ e. a.differ (omega (arith, a.first_low, a.last_low)))
