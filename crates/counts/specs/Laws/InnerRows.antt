-- How many rows of a tree are inner: at most n - 3, as n of its 2 n - 3 rows at most are own links. Assumes nothing.
use Rattle.std.specs.Prelude.{not, List, suc, zero, ℕ, ◌+◌, ◌≤◌, length}
use Rattle.std.proofs.Common.{arith}
use Rattle.std.proofs.lemmas.List.{length-map}
use Rattle.ground.specs.Filters.{filter}
use Rattle.ground.specs.Laws.Filters.{mem-filter}
use Rattle.ground.specs.Laws.Tests.{false_not}
use Rattle.theory.specs.Comparison.{inners}
use Rattle.theory.proofs.Demands.{one_tree}
use Rattle.theory.specs.FarSides.{inner, own}
use Rattle.theory.specs.Laws.Comparison.{split_length}
use Rattle.theory.proofs.Laws.OwnLinks.{own_not_inner}
use Rattle.theory.proofs.Laws.RowCount.{length_least, own-differ}
use Rattle.theory.specs.LinkTables.{LinkTable, Row, far, fars}

pub inner-most : (L n : ℕ) (T : List Row) → 3 ≤ n → LinkTable L n T → length (inners n (fars T)) + 3 ≤ n
inner-most L zero T h t = absurd (omega arith)
inner-most L (suc zero) T h t = absurd (omega arith)
inner-most L (suc (suc zero)) T h t = absurd (omega arith)
inner-most L (suc (suc (suc k))) T h t =
    omega (arith, split_length (inner n) (fars T), own-rows, length-map T far, (one_tree L n T h t).most)
  where
    n : ℕ
    n = suc (suc (suc k))

    own-rows : n ≤ length (filter (λ x. not (inner n x)) (fars T))
    own-rows =
        length_least (own n) n (filter (λ x. not (inner n x)) (fars T))
        (λ i l. mem-filter (λ x. not (inner n x)) (own n i) (false_not (inner n (own n i)) (own_not_inner (suc k) i l)) (fars T) (t.owns i l))
        (own-differ k)
