-- How a loop over far sides, one more at a time, meets the count of the inner ones. The code counts them by a filter (Counted). Assumes nothing.
use Rattle.std.specs.Prelude.{List, [], ◌∷◌, refl, ◌≡◌, ℕ, ◌+◌, ◌<◌, ◌≤◌, get_or, length, take}
use Rattle.std.proofs.Common.{ap, ◌∙◌, add-one, length-append, take_all, take-suc}
use borrow.Table.Steps.{cases}
use Rattle.ground.specs.Laws.Counts.{one_if_le}
use Rattle.ground.specs.Laws.Filters.{filter-append}
use Rattle.theory.specs.Comparison.{inners}
use Rattle.theory.specs.FarSides.{inner}
use Rattle.counts.specs.Tally.{one_inner, tally}

pub one_inner_le : (n S : ℕ) → one_inner n S ≤ 1
unfolding one_inner
one_inner_le n S = one_if_le (inner n S)

-- ## The loop: before it, one far side more, after it

pub tally_none : (n : ℕ) (l : List ℕ) → 0 ≡ tally n l 0
unfolding tally
tally_none n l = refl

pub tally-more : (n : ℕ) (l : List ℕ) (i : ℕ) {c s : ℕ} → i < length l → c ≡ tally n l i → s ≡ one_inner n (get_or l i 0) → c + s ≡ tally n l (i + 1)
unfolding tally one_inner
tally-more n l i h e f =
    let x = get_or l i 0 in
    rw (add-one, take-suc l i 0 h, filter-append (inner n) (take i l) (x ∷ []), length-append (inners n (take i l)) (inners n (x ∷ [])), e, f)
    (cases (inner n x) (λ t. rw t) (λ t. rw t))

pub tally_end : (n : ℕ) (l : List ℕ) (i : ℕ) {c : ℕ} → length l ≤ i → c ≡ tally n l i → c ≡ length (inners n l)
unfolding tally
tally_end n l i h e = e ∙ ap (λ (t : List ℕ). length (inners n t)) (take_all i l h)
