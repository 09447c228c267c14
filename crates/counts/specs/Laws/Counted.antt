-- How the code counts the inner far sides: by the standard library's count of those that pass a test. Assumes nothing.
use mathlib.Core.List.{List}
use Rattle.std.specs.Prelude.{count_by, refl, ◌≡◌, ℕ, length}
use Rattle.std.proofs.Common.{arith}
use Rattle.std.proofs.lemmas.List.Recursion.{is_count_by}
use borrow.Table.Steps.{cases}
use Rattle.theory.specs.Comparison.{inners}
use Rattle.theory.specs.FarSides.{inner}

pub counted : (n : ℕ) (l : List ℕ) → length (inners n l) ≡ count_by (inner n) l
counted n l =
    is_count_by (λ (r : List ℕ). length (inners n r)) (inner n) refl (λ S r. cases (inner n S) (λ e. rw e (omega arith)) (λ e. rw e refl)) l
