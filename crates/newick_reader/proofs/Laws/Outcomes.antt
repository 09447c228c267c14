-- How code that stops at the first refusal meets the outcome, and what the names have shown once they passed. Assumes nothing.
use Rattle.std.specs.Prelude.{true, List, refl, ◌≡◌, ℕ, ◌*◌, ◌-◌, ◌<◌, ◌≤◌, ltb, Ok, Err}
use Rattle.std.proofs.Common.{ap, arith, eqb-true, ltb-false}
use Rattle.std.proofs.lemmas.Bool.{not-false}
use Rattle.ground.specs.Bits.{bit}
use Rattle.ground.specs.Laws.Refusals.{outside_false, refuse_if-passed, then_passed}
use Rattle.ground.specs.Refusals.{outside, room_check, ◌then◌, Check}
use Rattle.ground.specs.declared.Refusal.{Refusal}
use Rattle.theory.specs.Checks.{images_check}
use Rattle.theory.specs.FarSides.{holds}
use Rattle.theory.specs.LinkTables.{Row}
use Rattle.theory.specs.Outcomes.{LeftRows}
use Rattle.tree.specs.Writing.{RowsWritten}
use Rattle.links.specs.Laws.FirstChecks.{first-passed}
use Rattle.newick_table.specs.Notes.{name_checks, unnamed}
use Rattle.newick_reader.specs.Outcomes.{rows_if, NewickTree}

module _ (n : ℕ) (T : List Row) (f v : List ℕ) where
  -- refused, nothing is altered
  pub rows_stop : {x : Check} {r : Refusal} (y : Check) → x ≡ Err r → x ≡ y → LeftRows (rows_if y n T f v) (Err r) f v
  rows_stop y e q = rw (← q, e) (record { answered = refl; far-sides = refl; doubled = refl })

  -- accepted, the rows stand in front
  pub rows_go : {x : Check} (y : Check) (N : ℕ) (f' v' : List ℕ) → x ≡ Ok tt → x ≡ y → RowsWritten T N f v f' v'
      → LeftRows (rows_if y n T f v) (Ok (record { n = n; count = N })) f' v'
  rows_go y N f' v' e q w = rw (← q, e) (record { answered = ap (λ (N : ℕ). Ok (record { n = n; count = N })) w.counted; far-sides = w.far-front; doubled = w.cost-front })

  -- the first check of two
  pub first_stops : {x : Check} {r : Refusal} (y z : Check) → x ≡ Err r → x ≡ y → LeftRows (rows_if (y then z) n T f v) (Err r) f v
  first_stops y z e q = rw (← q, e) (record { answered = refl; far-sides = refl; doubled = refl })

  pub first_goes : {x : Check} (y z : Check) (b : NewickTree) (f' v' : List ℕ) → x ≡ Ok tt → x ≡ y → LeftRows (rows_if z n T f v) b f' v'
      → LeftRows (rows_if (y then z) n T f v) b f' v'
  first_goes y z b f' v' e q l = rw (← q, e) l

-- ## 1, 3, 13

pub record NamesPassed (n marked room : ℕ) : Type 0 where
  pub some : 3 ≤ n
  pub few : n ≤ 64
  pub roomy : 2 * n - 3 ≤ room
  pub all : (i : ℕ) → i < n → holds marked i ≡ true

pub names-passed : (n marked room : ℕ) → name_checks n marked room ≡ Ok tt → NamesPassed n marked room
unfolding unnamed
names-passed n marked room e =
    let a = then_passed (images_check n) _ e in
    let b = then_passed (room_check (2 * n - 3) room) _ a.1 in
    let k = outside_false 3 64 n (refuse_if-passed (outside 3 64 n) _ a.0) in
    record {
      some = k.0;
      few = k.1;
      roomy = ltb-false room (2 * n - 3) (refuse_if-passed (ltb room (2 * n - 3)) _ b.0);
      all = λ i l. not-false (holds marked i) (first-passed 13 (unnamed marked) n b.1 i l);
    }

-- image 1 is named
pub marked-some : (n marked room : ℕ) → NamesPassed n marked room → 1 ≤ marked
marked-some n marked room p = omega (arith, eqb-true (bit marked 0) 1 (p.all 0 (omega (arith, p.some))))
