-- What 20 says: it names the first two images that cost nothing, a link that nobody timed. Assumes nothing.
use Rattle.std.specs.Prelude.{Bool, false, true, List, refl, ◌≡◌, ℕ, ◌+◌, ◌<◌, ltb, Ok, Err}
use Rattle.std.proofs.Common.{sym, ◌∙◌, arith, ltb-false, ltb-true}
use Rattle.ground.specs.Filters.{Each}
use Rattle.ground.specs.InOrder.{InOrder}
use Rattle.ground.specs.Laws.InOrder.{refused_by}
use Rattle.ground.specs.Refusals.{refusal, refuse_if, Check}
use Rattle.ground.specs.Laws.Refusals.{refuse_if-passed}
use Rattle.ground.specs.Steps.{Step}
use Rattle.ground.specs.declared.Refusal.{Refusal}
use Rattle.tables.specs.Checks.{least_check, off_diagonal_check}
use Rattle.tables.proofs.Laws.Pairs.{pairs_refused}
pub use Rattle.tables.specs.Zeros.{FirstZero}

refused_if : (b : Bool) (q r : Refusal) → refuse_if b q ≡ Err r → (b ≡ true) × (r ≡ q)
refused_if true q r e = (refl, let s : q ≡ r = cc in sym s)
refused_if false q r e = absurd (let z : ◌≡◌ {A = ℕ} 0 1 = cc in omega arith)

pub zero_named : (d : ℕ → ℕ → ℕ) (n : ℕ) (r : Refusal) → off_diagonal_check d n ≡ Err r → FirstZero d n r
zero_named d n r e =
    let p = pairs_refused (least_check 1 d) n r e in
    let q = refused_if (ltb (d p.row p.column) 1) (refusal 20 (p.row + 1) (p.column + 1) 0 0) r p.refused in
    record {
      row = p.row;
      column = p.column;
      above = p.above;
      within = p.within;
      zero = omega (arith, ltb-true (d p.row p.column) 1 q.0);
      named = q.1;
      rows_before = λ i j h l k. something i j (p.rows_before i j h l k);
      columns_before = λ j l k. something p.row j (p.columns_before j l k);
    }
  where
    something : (i j : ℕ) → least_check 1 d i j ≡ Ok tt → 0 < d i j
    something i j e = ltb-false (d i j) 1 (refuse_if-passed (ltb (d i j) 1) _ e)

-- so does each call that has the step `20 by off_diagonal_check ..` in its order and no other of that number
pub zero_named_by : (d : ℕ → ℕ → ℕ) (n : ℕ) {l : List Step} {c : Check} {r : Refusal} → InOrder l c
    → Each l (λ s. s.number ≡ 20 → s.check ≡ off_diagonal_check d n) → c ≡ Err r → r.number ≡ 20 → FirstZero d n r
zero_named_by d n {r = r} o each e k =
    let s = refused_by o e in
    zero_named d n r (sym (each s.0 s.1 (s.2 ∙ k)) ∙ s.3)
