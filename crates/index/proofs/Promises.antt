-- What the promise of the index call is worth: what an accepted answer says, and that there is no second answer. Assumes nothing.
use Rattle.std.specs.Prelude.{List, ◌≡◌, ℕ, ℤ, ◌≤ℤ◌, Ok, Err}
use Rattle.std.proofs.Common.{subst, arith}
use Rattle.ground.specs.Bits.{bit}
use Rattle.ground.specs.Laws.Refusals.{if_accepted}
use Rattle.ground.proofs.Laws.Signed.{signed_antisym}
use Rattle.theory.specs.Index.{index}
use Rattle.theory.specs.Tables.{cost}
use Rattle.index.specs.Call.{IndexAsked, index_answer, index_check}
use Rattle.index.specs.IndexIs.{IndexIs}
use Rattle.index.proofs.Laws.AtZero.{at_zero}
use Rattle.index.proofs.Laws.Ends.{ends}
use Rattle.index.proofs.Laws.Nearest.{nearest}
use Rattle.index.proofs.Laws.Passed.{index-passed}
use Rattle.index.proofs.Laws.Value.{index_is}
pub use Rattle.index.specs.Promises.{Answered}

pub index_answered : (L n : ℕ) (t : List ℕ) (S : ℕ) (v : ℤ) → index_answer L n t S ≡ Ok v → Answered L n t S v
index_answered L n t S v e =
    let p = if_accepted Err (index_check L n t S) (Ok (index (cost t n) n (bit S)))
    (λ r q. absurd (let z : ◌≡◌ {A = ℕ} 0 1 = cc in omega arith)) e in
    let same : index (cost t n) n (bit S) ≡ v = let q = p.1 in cc in
    let a = (index-passed L n t S).0 p.0 in
    subst (Answered L n t S) same (record {
      accepted = a;
      value = index_is L (cost t n) n a.table.formed S a.side;
      zero = at_zero L (cost t n) n a.table.formed S a.side;
      ends = ends L (cost t n) n a.table.formed S a.side;
      nearest = nearest L (cost t n) n a.table.some a.table.formed S a.side;
    })

-- every cost table and every far side is answered
pub index-answers : (L n : ℕ) (t : List ℕ) (S : ℕ) → IndexAsked L n t S → index_answer L n t S ≡ Ok (index (cost t n) n (bit S))
index-answers L n t S a = rw ((index-passed L n t S).1 a)

-- no second number is the index
pub value_only : (d : ℕ → ℕ → ℕ) (n S : ℕ) (v w : ℤ) → IndexIs d n S v → IndexIs d n S w → v ≡ w
value_only d n S v w p q = signed_antisym (under p q) (under q p)
  where
    under : {x y : ℤ} → IndexIs d n S x → IndexIs d n S y → x ≤ℤ y
    under i j = rw (← j.chosen.1) (i.least j.chosen.0)
