-- Every kind of answer about bytes, stored tables and Newick text crosses and nothing is lost. Assumes nothing.
use Rattle.batch.specs.Batch.{Batched}
use Rattle.choice.specs.Call.{Chosen}
use Rattle.stored_costs.specs.Outcomes.{StoredCosts}
use Rattle.stored_links.specs.Outcomes.{StoredLinks}
use Rattle.newick_reader.specs.Outcomes.{NewickTree}
use Rattle.ground.specs.Refusals.{Written, refused_in}
use Rattle.std.proofs.Common.{inl, inr}
use Rattle.std.specs.Prelude.{refl, Ok, Err}
use Rattle.numbers.specs.Kept.{Kept}
use Rattle.numbers.specs.Laws.Kept.{ReadBack, kept}
use Rattle.numbers.specs.Stored.{of_batched, of_bytes, of_chosen, of_costs, of_links, of_tree}
use Rattle.numbers.specs.declared.KemotuikiBytes.{KemotuikiBytes}
use Rattle.numbers.specs.declared.KemotuikiChoice.{KemotuikiChoice}
use Rattle.numbers.specs.declared.KemotuikiCosts.{KemotuikiCosts}
use Rattle.numbers.specs.declared.KemotuikiLinks.{KemotuikiLinks}
use Rattle.numbers.specs.declared.KemotuikiTree.{KemotuikiTree}

pub bytes-kept : Kept (λ (k : KemotuikiBytes). k.head) of_bytes (λ m. Err)
bytes-kept = kept _ of_bytes (λ m. Err) (λ k. Ok k.used) (λ m q. refl) each
  where
    each : (x : Written) → ReadBack (λ (k : KemotuikiBytes). k.head) of_bytes (λ m. Err) (λ k. Ok k.used) x
    each (Ok m) = inr (refl, refl)
    each (Err q) = inl (0, q, refl, refl)

pub batch_kept : Kept (λ (k : KemotuikiBytes). k.head) of_batched refused_in
batch_kept = kept _ of_batched refused_in (λ k. Ok k.used) (λ m q. refl) each
  where
    each : (x : Batched) → ReadBack (λ (k : KemotuikiBytes). k.head) of_batched refused_in (λ k. Ok k.used) x
    each (Ok used) = inr (refl, refl)
    each (Err e) = inl (e.table, e.refusal, refl, refl)

pub costs-kept : Kept (λ (k : KemotuikiCosts). k.head) of_costs (λ m. Err)
costs-kept = kept _ of_costs (λ m. Err) (λ k. Ok (record { n = k.n; used = k.used })) (λ m q. refl) each
  where
    each : (x : StoredCosts) → ReadBack (λ (k : KemotuikiCosts). k.head) of_costs (λ m. Err) (λ k. Ok (record { n = k.n; used = k.used })) x
    each (Ok e) = inr (refl, refl)
    each (Err q) = inl (0, q, refl, refl)

pub links_kept : Kept (λ (k : KemotuikiLinks). k.head) of_links (λ m. Err)
links_kept = kept _ of_links (λ m. Err) (λ k. Ok (record { n = k.n; count = k.rows; used = k.used })) (λ m q. refl) each
  where
    each : (x : StoredLinks) → ReadBack (λ (k : KemotuikiLinks). k.head) of_links (λ m. Err) (λ k. Ok (record { n = k.n; count = k.rows; used = k.used })) x
    each (Ok e) = inr (refl, refl)
    each (Err q) = inl (0, q, refl, refl)

pub choice_kept : Kept (λ (k : KemotuikiChoice). k.head) of_chosen refused_in
choice_kept = kept _ of_chosen refused_in (λ k. Ok (record { table = k.chosen; used = k.used })) (λ m q. refl) each
  where
    each : (x : Chosen) → ReadBack (λ (k : KemotuikiChoice). k.head) of_chosen refused_in (λ k. Ok (record { table = k.chosen; used = k.used })) x
    each (Ok e) = inr (refl, refl)
    each (Err e) = inl (e.table, e.refusal, refl, refl)

pub tree_kept : Kept (λ (k : KemotuikiTree). k.head) of_tree (λ m. Err)
tree_kept = kept _ of_tree (λ m. Err) (λ k. Ok (record { n = k.n; count = k.rows })) (λ m q. refl) each
  where
    each : (x : NewickTree) → ReadBack (λ (k : KemotuikiTree). k.head) of_tree (λ m. Err) (λ k. Ok (record { n = k.n; count = k.rows })) x
    each (Ok e) = inr (refl, refl)
    each (Err q) = inl (0, q, refl, refl)
