-- The checks of the call pass exactly for a table with levels and room; and the two ways out of the call. Assumes nothing.
use Rattle.std.specs.Prelude.{List, refl, ◌≡◌, min, ℕ, ◌-◌, ltb, length, Ok, Err}
use Rattle.std.proofs.Common.{ap, ◌∙◌}
use native.Mathlib.Omega.{arith}
use borrow.Author.Tests.{le-ltb, ltb-false}
use Rattle.ground.specs.Laws.Refusals.{refuse_if-passed, then_passed}
use Rattle.ground.specs.Refusals.{room_check, ◌then◌, Check}
use Rattle.ground.specs.declared.Refusal.{Refusal}
use Rattle.theory.specs.Tables.{CostTable, cost}
use Rattle.tables.specs.Checks.{costs_check, size_check}
use Rattle.tables.proofs.Laws.Formed.{cost-table}
use Rattle.leveling.specs.Check.{levels_check}
use Rattle.leveling.proofs.Promises.{levels_passed}
use Rattle.leveling.specs.ThreePoint.{ThreePoint}
use Rattle.levels.specs.Outcome.{LeftLevels, LevelsAsked, levels_checks, levels_outcome}
use Rattle.levels.specs.Putting.{WroteLevels}

pub table_of : (L n : ℕ) (t : List ℕ) → size_check n t ≡ Ok tt → costs_check L (cost t n) n ≡ Ok tt → CostTable L n t
table_of L n t e f = (cost-table L n t).0 (rw e f)

module _ (L n : ℕ) (t : List ℕ) (g v : ℕ) where
  -- past 1 to 6 and 20 the three-point condition decides
  pub asked_checks : LevelsAsked L n t g v → levels_checks L n t g v ≡ levels_check (cost t n) n
  unfolding levels_checks
  asked_checks a =
      let p = then_passed (size_check n t) (costs_check L (cost t n) n) ((cost-table L n t).1 a.table) in
      rw (p.0, le-ltb (min g v) (n - 1) (omega (arith, a.group-room, a.height-room)), p.1)

  pub asked_passed : LevelsAsked L n t g v → ThreePoint (cost t n) n → levels_checks L n t g v ≡ Ok tt
  asked_passed a p = asked_checks a ∙ (levels_passed L (cost t n) n a.table.formed).1 p

  pub passed_asked : levels_checks L n t g v ≡ Ok tt → LevelsAsked L n t g v × ThreePoint (cost t n) n
  unfolding levels_checks
  passed_asked e =
      let p = then_passed (size_check n t) (room_check (n - 1) (min g v) then costs_check L (cost t n) n then levels_check (cost t n) n) e in
      let q = then_passed (room_check (n - 1) (min g v)) (costs_check L (cost t n) n then levels_check (cost t n) n) p.1 in
      let r = then_passed (costs_check L (cost t n) n) (levels_check (cost t n) n) q.1 in
      let room = ltb-false (min g v) (n - 1) (refuse_if-passed (ltb (min g v) (n - 1)) _ q.0) in
      let c = table_of L n t p.0 r.0 in
      (record { table = c; group-room = omega arith; height-room = omega arith }, (levels_passed L (cost t n) n c.formed).0 r.1)

-- ## The two ways out of the call

module _ (L n : ℕ) (t g v : List ℕ) where
  pub left-refused : {c : Check} {r : Refusal} → c ≡ Err r → c ≡ levels_checks L n t (length g) (length v)
      → LeftLevels (levels_outcome L n t g v) (Err r) g v
  left-refused e f = rw (← f, e) (record { answered = refl; group-left = refl; height-left = refl })

  pub left_written : {c : Check} (r : ℕ) (g' v' : List ℕ) → c ≡ Ok tt → c ≡ levels_checks L n t (length g) (length v)
      → WroteLevels (cost t n) n r g v g' v' → LeftLevels (levels_outcome L n t g v) (Ok r) g' v'
  left_written r g' v' e f w =
      rw (← f, e) (record { answered = ap Ok w.counted; group-left = w.groups-front; height-left = w.heights-front })

-- what the author of the call names
pub ruleset ways_out = (left-refused, left_written)
