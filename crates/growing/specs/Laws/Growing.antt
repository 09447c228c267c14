-- Laws of one image more: what the old rows become. Assumes nothing.
use Rattle.std.specs.Prelude.{List, [], map, ◌++◌, ◌∷◌, refl, ◌≡◌, min, suc, zero, ℕ, ◌*◌, ◌+◌, ◌^◌, ◌≤◌, get_or}
use Rattle.std.proofs.Common.{ap, ap₂, sym, ◌∙◌, arith}
use Rattle.ground.specs.Filters.{filter}
use Rattle.ground.specs.Laws.Maps.{map-append, map_same}
use Rattle.theory.specs.OneMore.{more, stays, step}
use Rattle.theory.specs.LinkTables.{Row}
use Rattle.brought.specs.Answers.{Valued}
use Rattle.lowered_rows.specs.LocalRows.{rows_in}
use Rattle.lowered_rows.specs.Putting.{lowered_in}
use Rattle.growing.specs.Growing.{changed, stayed}

-- where the values are what image k brings, the lowered rows are the changed ones
lowered-changed : (L : ℕ) (d : ℕ → ℕ → ℕ) (k add : ℕ) (f v slots best : List ℕ) (count n : ℕ) → n ≤ count → Valued L d k add f count slots best
    → lowered_in L add f v slots best n ≡ map (changed L d k add) (rows_in f v n)
unfolding lowered_in rows_in
lowered-changed L d k add f v slots best count zero h w = refl
lowered-changed L d k add f v slots best count (suc n) h w =
    ap₂ (λ T c. T ++ ((add + get_or f n 0, min (get_or v n 0) c) ∷ [])) (lowered-changed L d k add f v slots best count n (omega arith) w) (w.value n h)
    ∙ sym (map-append (changed L d k add) (rows_in f v n) ((get_or f n 0, get_or v n 0) ∷ []))

pub lowered-stayed : (L : ℕ) (d : ℕ → ℕ → ℕ) (k add : ℕ) (f v slots best : List ℕ) (count : ℕ) (T : List Row) → rows_in f v count ≡ T
    → Valued L d k add f count slots best
    → filter (stays (suc k)) (lowered_in L add f v slots best count) ≡ stayed L d k add T
unfolding stayed
lowered-stayed L d k add f v slots best count T e w =
    ap (filter (stays (suc k))) (lowered-changed L d k add f v slots best count count (omega arith) w ∙ ap (map (changed L d k add)) e)

-- the two halves of the step, and the own link between them
pub step-stayed : (L : ℕ) (d : ℕ → ℕ → ℕ) (k : ℕ) (T : List Row) → step L d k T ≡ stayed L d k 0 T ++ (more L d k (2 ^ k) (2 * L) ∷ stayed L d k (2 ^ k) T)
unfolding stayed
step-stayed L d k T =
    ap (λ l. filter (stays (suc k)) l ++ (more L d k (2 ^ k) (2 * L) ∷ filter (stays (suc k)) (map (changed L d k (2 ^ k)) T)))
    (map_same (λ r. more L d k r.0 r.1) (changed L d k 0) T (λ r m. ap (λ S. more L d k S r.1) (omega arith)))
