-- What is written at the end, and what the call leaves. Assumes nothing.
use Rattle.ground.specs.Refusals.{Check, Written}
use Rattle.std.specs.Prelude.{List, refl, ◌≡◌, ℕ, ◌*◌, ◌-◌, ◌≤◌, length, Ok, Err}
use Rattle.std.proofs.Common.{ap, sym, ◌∙◌, arith}
use Rattle.ground.specs.Buffers.{over}
use Rattle.ground.specs.declared.Refusal.{Refusal}
use Rattle.theory.proofs.Demands.{one_tree}
use Rattle.theory.specs.LinkTables.{Row}
use Rattle.theory.specs.Outcomes.{LeftRows}
use Rattle.theory.specs.Tables.{limit}
use Rattle.tree.specs.Laws.LocalRows.{rows_in-length}
use Rattle.tree.proofs.Laws.Writing.{rows-over}
use Rattle.tree.specs.LocalRows.{rows_in}
use Rattle.tree.specs.Readings.{exact_check, exact_outcome}
use Rattle.leaving.specs.declared.Replayed.{Replayed}
use Rattle.leaving.specs.Laws.Replay.{replay-taken}
use Rattle.leaving.specs.Laws.Start.{Began, began_refused, start, start-refused}
use Rattle.leaving.specs.Outcome.{outcome, replay_outcome}
use Rattle.leaving.specs.Replay.{Standing, replay}
use Rattle.leaving.specs.Standing.{Sound, Stands}

-- ## The end

-- no more rows than there is room for
pub stands_few : (n : ℕ) (T : List Row) (es : List ℕ) (r : Replayed) (f v : List ℕ) → Sound limit n T → Stands (replay 1 n T es) r f v → r.rows ≤ 2 * n - 3
stands_few n T es r f v s p =
    let k = replay-taken limit 1 n s.table T es s.some s.formed s.exact in
    let o = one_tree limit (replay 1 n T es).images (replay 1 n T es).rows k.enough k.exact.tree in
    omega (arith, sym (rows_in-length f v r.rows) ∙ ap length p.kept.is, o.most, k.fewer)

pub stands_left : (p : Standing) (r : Replayed) (g w f v f' v' : List ℕ) → Stands p r g w → f' ≡ over r.rows g f → v' ≡ over r.rows w v
    → LeftRows (outcome (Ok tt) p f v) r f' v'
stands_left p r g w f v f' v' s a b =
    let k = s.kept in
    let q = rows-over p.rows r.rows g w f v f' v' k.is (omega (arith, k.few, k.far-room)) (omega (arith, k.few, k.cost-room)) a b in
    record { answered = rw (← s.left, ← s.number, ← s.refusal, ← q.counted) refl; far-sides = q.far-front; doubled = q.cost-front }

-- ## What the call leaves

module _ (n : ℕ) (t es f v : List ℕ) where
  refused_so : (r : Refusal) → exact_check limit n t (length f) (length v) ≡ Err r
      → LeftRows (replay_outcome limit n t es f v) (record { images = 0; rows = 0; event = 0; stop = Err r }) f v
  refused_so r e = rw e (record { answered = refl; far-sides = refl; doubled = refl })

  pub left-start : (y : Check) (r : Refusal) → y ≡ Err r → y ≡ start n t (length f) (length v)
      → LeftRows (replay_outcome limit n t es f v) (record { images = 0; rows = 0; event = 0; stop = y }) f v
  left-start y r e q = rw e (refused_so r (start-refused limit n t (length f) (length v) r (sym q ∙ e)))

  pub left_exact : (f₀ v₀ : List ℕ) → length f₀ ≡ 128 → length v₀ ≡ 128 → (y : Check) (x : Written) (r : Refusal) (f' v' : List ℕ) → y ≡ Ok tt
      → y ≡ start n t (length f) (length v) → x ≡ Err r → LeftRows (exact_outcome limit n t f₀ v₀) x f' v'
      → LeftRows (replay_outcome limit n t es f v) (record { images = 0; rows = 0; event = 0; stop = Err r }) f v
  left_exact f₀ v₀ a b y x r f' v' e q g l = refused_so r (began_refused n t f₀ v₀ (length f) (length v) a b y x r f' v' e q g l)

  pub left_replayed : (count : ℕ) (g w : List ℕ) → Began n t (length f) (length v) count g w → (r : Replayed) (f' v' : List ℕ)
      → LeftRows (outcome (Ok tt) (replay 1 n (rows_in g w count) es) f v) r f' v' → LeftRows (replay_outcome limit n t es f v) r f' v'
  left_replayed count g w b r f' v' l = rw (b.passed, ← b.is) l
