-- What the checks of the index call let through. Assumes nothing.
use Rattle.std.specs.Prelude.{false, ◌||◌, List, ◌↔◌, ◌≡◌, ℕ, ◌^◌, eqb, leb, Ok}
use Rattle.std.proofs.Common.{arith, leb-false, ne_eqb}
use Rattle.std.proofs.lemmas.Bool.{eqb-false, lt-leb}
use Rattle.ground.specs.Bits.{bit}
use Rattle.ground.specs.Laws.Bits.{bit_lt}
use Rattle.ground.specs.Refusals.{◌then◌}
use Rattle.ground.specs.Laws.Refusals.{refuse_if-passed, then_passed}
use Rattle.ground.specs.Laws.Tests.{or_false}
use Rattle.theory.specs.FarSides.{FarSide}
use Rattle.theory.specs.Tables.{cost}
use Rattle.tables.specs.Checks.{costs_check, size_check}
use Rattle.tables.proofs.Laws.Formed.{cost-table}
use Rattle.index.specs.Call.{IndexAsked, bad_far_side, far_side_check, index_check}

pub far-side : (n S : ℕ) → (bad_far_side n S ≡ false) ↔ FarSide n S
far-side n S = (
  λ e.
      let p = or_false (eqb S 0) (eqb (bit S 0) 1 || leb (2 ^ n) S) e in
      let q = or_false (eqb (bit S 0) 1) (leb (2 ^ n) S) p.1 in
      record {
        some = omega (arith, eqb-false S 0 p.0);
        fits = leb-false (2 ^ n) S q.1;
        near = omega (arith, eqb-false (bit S 0) 1 q.0, bit_lt S 0);
      },
  λ f. rw (ne_eqb S 0 (λ e. omega (arith, f.some)), ne_eqb (bit S 0) 1 (λ e. omega (arith, f.near)), lt-leb (2 ^ n) S f.fits),
)

pub index-passed : (L n : ℕ) (t : List ℕ) (S : ℕ) → (index_check L n t S ≡ Ok tt) ↔ IndexAsked L n t S
index-passed L n t S = (
  λ e.
      let p = then_passed (size_check n t) (costs_check L (cost t n) n then far_side_check n S) e in
      let q = then_passed (costs_check L (cost t n) n) (far_side_check n S) p.1 in
      record {
        table = (cost-table L n t).0 (rw p.0 q.0);
        side = (far-side n S).0 (refuse_if-passed (bad_far_side n S) _ q.1);
      },
  λ a.
      let p = then_passed (size_check n t) (costs_check L (cost t n) n) ((cost-table L n t).1 a.table) in
      rw (p.0, p.1, (far-side n S).1 a.side),
)
