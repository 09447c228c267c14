-- Every kind of answer crosses and nothing is lost: it can be read back from its numbers. Those of stored tables are in KeptStored.antt.
-- Assumes nothing.
use Rattle.compare.specs.Call.{Comparison}
use Rattle.consensus.specs.Call.{Shared}
use Rattle.ground.specs.Refusals.{Answer, SignedAnswer, Written, refused_in}
use Rattle.std.specs.Prelude.{refl, Ok, Err}
use Rattle.std.proofs.Common.{inl, inr}
use Rattle.numbers.specs.Kept.{Kept}
use Rattle.numbers.specs.Levels.{of_levels}
use Rattle.numbers.specs.Numbers.{of_comparison, of_index, of_order, of_path, of_rows, of_shared}
use Rattle.numbers.specs.declared.KemotuikiComparison.{KemotuikiComparison}
use Rattle.numbers.specs.declared.KemotuikiIndex.{KemotuikiIndex}
use Rattle.numbers.specs.declared.KemotuikiLevels.{KemotuikiLevels}
use Rattle.numbers.specs.declared.KemotuikiOrder.{KemotuikiOrder}
use Rattle.numbers.specs.declared.KemotuikiPath.{KemotuikiPath}
use Rattle.numbers.specs.declared.KemotuikiRows.{KemotuikiRows}
pub use Rattle.numbers.specs.Laws.Kept.{refusal_of, ReadBack, back, kept}

-- ## Each kind of answer

pub index_kept : Kept (λ (k : KemotuikiIndex). k.head) of_index (λ m. Err)
index_kept = kept _ of_index (λ m. Err) (λ k. Ok k.signed_index) (λ m q. refl) each
  where
    each : (x : SignedAnswer) → ReadBack (λ (k : KemotuikiIndex). k.head) of_index (λ m. Err) (λ k. Ok k.signed_index) x
    each (Ok v) = inr (refl, refl)
    each (Err q) = inl (0, q, refl, refl)

pub order-kept : Kept (λ (k : KemotuikiOrder). k.head) of_order (λ m. Err)
order-kept = kept _ of_order (λ m. Err) (λ k. Ok k.images) (λ m q. refl) each
  where
    each : (x : Written) → ReadBack (λ (k : KemotuikiOrder). k.head) of_order (λ m. Err) (λ k. Ok k.images) x
    each (Ok m) = inr (refl, refl)
    each (Err q) = inl (0, q, refl, refl)

pub levels_kept : Kept (λ (k : KemotuikiLevels). k.head) of_levels (λ m. Err)
levels_kept = kept _ of_levels (λ m. Err) (λ k. Ok k.groups) (λ m q. refl) each
  where
    each : (x : Written) → ReadBack (λ (k : KemotuikiLevels). k.head) of_levels (λ m. Err) (λ k. Ok k.groups) x
    each (Ok m) = inr (refl, refl)
    each (Err q) = inl (0, q, refl, refl)

pub rows-kept : Kept (λ (k : KemotuikiRows). k.head) of_rows (λ m. Err)
rows-kept = kept _ of_rows (λ m. Err) (λ k. Ok k.rows) (λ m q. refl) each
  where
    each : (x : Written) → ReadBack (λ (k : KemotuikiRows). k.head) of_rows (λ m. Err) (λ k. Ok k.rows) x
    each (Ok m) = inr (refl, refl)
    each (Err q) = inl (0, q, refl, refl)

pub path-kept : Kept (λ (k : KemotuikiPath). k.head) of_path (λ m. Err)
path-kept = kept _ of_path (λ m. Err) (λ k. Ok k.cost) (λ m q. refl) each
  where
    each : (x : Answer) → ReadBack (λ (k : KemotuikiPath). k.head) of_path (λ m. Err) (λ k. Ok k.cost) x
    each (Ok v) = inr (refl, refl)
    each (Err q) = inl (0, q, refl, refl)

-- the five values of a comparison
abbrev differs : KemotuikiComparison → Comparison
differs k =
    Ok (record { first = k.inner_first; second = k.inner_second; common = k.common; count = k.count; over = k.over })

pub comparison-kept : Kept (λ (k : KemotuikiComparison). k.head) of_comparison refused_in
comparison-kept = kept _ of_comparison refused_in differs (λ m q. refl) each
  where
    each : (x : Comparison) → ReadBack (λ (k : KemotuikiComparison). k.head) of_comparison refused_in differs x
    each (Ok w) = inr (refl, refl)
    each (Err e) = inl (e.table, e.refusal, refl, refl)

pub shared_kept : Kept (λ (k : KemotuikiRows). k.head) of_shared refused_in
shared_kept = kept _ of_shared refused_in (λ k. Ok k.rows) (λ m q. refl) each
  where
    each : (x : Shared) → ReadBack (λ (k : KemotuikiRows). k.head) of_shared refused_in (λ k. Ok k.rows) x
    each (Ok m) = inr (refl, refl)
    each (Err e) = inl (e.table, e.refusal, refl, refl)
