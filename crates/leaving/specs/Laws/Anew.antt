-- The rows where a replay stands are what the exact reading of the smaller cost table leaves. Assumes nothing.
use Rattle.std.specs.Prelude.{List, refl, ◌≡◌, ℕ, ◌*◌, ◌-◌, ◌≤◌, length, Ok}
use Rattle.std.proofs.Common.{sym, ◌∙◌}
use Rattle.ground.specs.Buffers.{front}
use Rattle.theory.proofs.Laws.OnlyOne.{unique}
use Rattle.theory.specs.LinkTables.{Row, costs, fars}
use Rattle.theory.specs.Outcomes.{LeftRows}
use Rattle.theory.specs.Readings.{Exact}
use Rattle.theory.specs.Tables.{WellFormed}
use Rattle.tree.specs.Exact.{Wired, exact_rows}
use Rattle.tree.proofs.Laws.Exact.{exact_check_lem, exact_rows_lem, table-passed, wired_exactly}
use Rattle.tree.proofs.Laws.Writing.{exact_ready}
use Rattle.tree.specs.Readings.{exact_check, exact_outcome}
use Rattle.leaving.specs.Laws.Table.{table_exact, table_formed}
use Rattle.leaving.specs.Replay.{table_of}

module _ (L m : ℕ) (d : ℕ → ℕ → ℕ) (T : List Row) (h : 3 ≤ m) (g : m ≤ 64) (c : WellFormed L d m) (e : Exact L d m T) where
  -- the table as numbers is one that the exact reading accepts, and T are its rows
  wired : Wired L m (table_of m d)
  wired = (wired_exactly L m (table_of m d) (table_formed m d L h g c)).0 (T, table_exact m d L T e)

  rows : T ≡ exact_rows L m (table_of m d)
  rows = (exact_rows_lem L m (table_of m d) wired T).0 (table_exact m d L T e)

  pub read_anew : (f v : List ℕ) → 2 * m - 3 ≤ length f → 2 * m - 3 ≤ length v
      → LeftRows (exact_outcome L m (table_of m d) f v) (Ok (length T)) (front (fars T) f) (front (costs T) v)
  read_anew f v a b =
      let p : exact_check L m (table_of m d) (length f) (length v) ≡ (Ok tt) =
      exact_check_lem L m (table_of m d) h g (length f) (length v) a b ∙ (table-passed L m (table_of m d) h g).1 wired in
      rw (p, ← rows) (record { answered = refl; far-sides = refl; doubled = refl })

-- ## What is asked of the start, and of the rows

-- only one link table is the exact reading
pub only_one : {L : ℕ} (d : ℕ → ℕ → ℕ) (m : ℕ) → WellFormed L d m → (T U : List Row) → Exact L d m T → Exact L d m U → T ≡ U
only_one {L} d m c T U a b = unique L d m c T a.tree a.meets ∙ sym (unique L d m c U b.tree b.meets)

-- a start that passes its checks is wired
pub passed-wired : (L n : ℕ) (t : List ℕ) (f v : ℕ) → exact_check L n t f v ≡ Ok tt → Wired L n t
passed-wired L n t f v e =
    let y = exact_ready L n t f v e in
    let c = y.table in
    (table-passed L n t c.some c.few).0 (sym (exact_check_lem L n t c.some c.few f v y.far-room y.cost-room) ∙ e)
