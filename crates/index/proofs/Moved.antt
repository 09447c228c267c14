-- Timings that are a little off: where no entry of a second table differs by more than D, the index of no division moves by more than 4 D,
-- below 0 too. Assumes nothing.
use Rattle.std.specs.Prelude.{List, ◌≡◌, ℕ, ℤ, Ok}
use Rattle.theory.proofs.Laws.Stable.{near_sym}
use Rattle.theory.specs.Readings.{Near}
use Rattle.theory.specs.Tables.{cost}
use Rattle.index.specs.Call.{index_answer}
use Rattle.index.proofs.Laws.Moved.{index_moves}
use Rattle.index.proofs.Laws.Value.{index_is}
use Rattle.index.proofs.Promises.{index_answered, value_only}
pub use Rattle.index.specs.Moved.{Moved}

pub moved : (L D n : ℕ) (t u : List ℕ) (S : ℕ) (v w : ℤ) → index_answer L n t S ≡ Ok v → index_answer L n u S ≡ Ok w
    → Near D (cost t n) (cost u n) n → Moved D v w
moved L D n t u S v w e g p =
    let a = index_answered L n t S v e in
    let b = index_answered L n u S w g in
    let c = a.accepted.table.formed in
    let h = b.accepted.table.formed in
    let f = a.accepted.side in
    rw (value_only _ n S _ _ a.value (index_is L (cost t n) n c S f), value_only _ n S _ _ b.value (index_is L (cost u n) n h S f)) record {
      up = index_moves L D (cost t n) (cost u n) n c h p S f;
      down = index_moves L D (cost u n) (cost t n) n h c (near_sym D (cost t n) (cost u n) n p) S f;
    }
