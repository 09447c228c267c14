-- What an answer says of the checks, and of the rows left. Assumes nothing.
use Rattle.ground.specs.Refusals.{Check}
use Rattle.std.specs.Prelude.{List, refl, ◌≡◌, ℕ, Ok, Err}
use Rattle.std.proofs.Common.{ap, arith, sym}
use Rattle.ground.specs.declared.Refusal.{Refusal}
use Rattle.newick_reader.specs.declared.TreeRead.{TreeRead}
use Rattle.theory.specs.LinkTables.{Row}
use Rattle.theory.specs.Outcomes.{LeftRows}
use Rattle.tree.specs.Writing.{RowsWritten}
use Rattle.newick_reader.specs.Outcomes.{NewickTree, rows_if}

read_same : (p q : TreeRead) → ◌≡◌ {A = NewickTree} (Ok p) (Ok q) → p ≡ q
read_same p q e = cc

refusal_same : (p q : Refusal) → ◌≡◌ {A = NewickTree} (Err p) (Err q) → p ≡ q
refusal_same p q e = cc

pub table-left : (c : Check) (m : ℕ) (T : List Row) (f v : List ℕ) (n N : ℕ) (f' v' : List ℕ) → LeftRows (rows_if c m T f v) (Ok (record { n = n; count = N })) f' v'
    → (c ≡ Ok tt) × (n ≡ m) × RowsWritten T N f v f' v'
table-left (Ok _) m T f v n N f' v' l =
    let e = read_same _ _ l.answered in
    (refl, ap (λ (r : TreeRead). r.n) e, record { counted = ap (λ (r : TreeRead). r.count) e; far-front = l.far-sides; cost-front = l.doubled })
table-left (Err q) m T f v n N f' v' l = absurd (let e = l.answered in let z : ◌≡◌ {A = ℕ} 0 1 = cc in omega arith)

pub refused-left : (c : Check) (m : ℕ) (T : List Row) (f v : List ℕ) (q : Refusal) (f' v' : List ℕ) → LeftRows (rows_if c m T f v) (Err q) f' v'
    → (c ≡ Err q) × (f' ≡ f) × (v' ≡ v)
refused-left (Ok _) m T f v q f' v' l = absurd (let e = l.answered in let z : ◌≡◌ {A = ℕ} 0 1 = cc in omega arith)
refused-left (Err p) m T f v q f' v' l = (sym (ap Err (refusal_same q p l.answered)), l.far-sides, l.doubled)
