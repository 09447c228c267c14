-- The tables read stand one behind the other, and are cost tables over one n. Assumes nothing.
use mathlib.Core.List.Memᴰ
use Rattle.std.specs.Prelude.{List, [], ◌++◌, ◌∷◌, refl, ◌≡◌, suc, zero, ℕ, ◌+◌, ◌<◌, ◌≤◌, ltb, drop, length, Ok, Err}
use Rattle.std.proofs.Common.{ap, sym, ◌∙◌, arith, drop_of_length-le, length-append, length-drop, drop-drop, ltb-false, ltb-true}
use borrow.Table.Steps.{cases}
use Rattle.ground.specs.Laws.Filters.{each_end}
use Rattle.ground.specs.Laws.Refusals.{refuse_if-passed, then_passed}
use Rattle.ground.specs.Refusals.{◌then◌, Check}
use Rattle.theory.specs.Tables.{CostTable, limit}
use Rattle.seen.specs.Seen.{seen}
use Rattle.figures.specs.Figures.{sides_at}
use Rattle.figures.proofs.Laws.Grown.{sum_end}
use Rattle.figures.specs.Laws.Tables.{images-more}
use Rattle.figures.specs.Checks.{many_check, next_check, same_check, stored_checks, most_sides, most_tables}
use Rattle.figures.specs.Reading.{go_on, read_all, read_on}
use Rattle.counting.specs.Standing.{Sound}
use Rattle.figures.specs.Tables.{Table, table_at, trees}
use Rattle.stored_costs.proofs.Laws.Enough.{table_said_lem}
use Rattle.report.specs.Follows.{Follows, ReadSo, bytes_end, more, none, refused, tables_end, used_by}
use Rattle.report.specs.Laws.Onward.{next_within, on_some}
use Rattle.report.specs.Laws.Next.{same_passed}

-- a table that passed its checks: a cost table, over the n of those before
next_sound : (ts : List Table) (b : List ℕ) → Sound limit ts → next_check limit ts b ≡ Ok tt → Sound limit (ts ++ (table_at b ∷ []))
unfolding next_check
next_sound ts b s e =
    let tb = table_at b in
    let n = tb.images in
    let p = then_passed (stored_checks b) (same_check ts n then many_check limit (ts ++ (tb ∷ []))) e in
    let q = then_passed (same_check ts n) (many_check limit (ts ++ (tb ∷ []))) p.1 in
    let one = same_passed limit ts n s q.0 in
    record {
      one = rw (images-more n ts tb one refl) (each_end (λ (t : Table). t.images ≡ n) ts tb one refl);
      formed = each_end (λ (t : Table). CostTable limit t.images t.costs) ts tb s.formed (table_said_lem b p.0);
      kept = ltb-false most_sides (sides_at limit (ts ++ (tb ∷ []))) (refuse_if-passed (ltb most_sides (sides_at limit (ts ++ (tb ∷ [])))) _ q.1);
    }

read_so : (bytes : List ℕ) (k : ℕ) (ts : List Table) → Follows bytes ts → length ts + k ≡ most_tables → used_by ts ≤ length bytes
    → ReadSo bytes (read_on limit k ts (drop (used_by ts) bytes)).read (read_on limit k ts (drop (used_by ts) bytes)).stop
unfolding read_on
read_so bytes zero ts f e w = record { follows = f; few = omega arith; within = w; ends = tables_end (omega arith) refl }
read_so bytes (suc k) ts f e w =
    cases (ltb (used_by ts) (length bytes))
    (λ h. some (ltb-true (used_by ts) (length bytes) h) (read_so bytes k (ts ++ (table_at (drop (used_by ts) bytes) ∷ []))))
    (λ h. none_left (ltb-false (used_by ts) (length bytes) h))
  where
    b : List ℕ
    b = drop (used_by ts) bytes

    none_left : length bytes ≤ used_by ts → ReadSo bytes (read_on limit (suc k) ts b).read (read_on limit (suc k) ts b).stop
    none_left h =
        let q : b ≡ [] = drop_of_length-le bytes {i = used_by ts} h in
        rw q (record { follows = f; few = omega arith; within = w; ends = bytes_end (omega arith) refl })

    Next : Type 0
    Next =
        Follows bytes (ts ++ (table_at b ∷ [])) → length (ts ++ (table_at b ∷ [])) + k ≡ most_tables → used_by (ts ++ (table_at b ∷ [])) ≤ length bytes
        → ReadSo bytes (read_on limit k (ts ++ (table_at b ∷ [])) (drop (used_by (ts ++ (table_at b ∷ []))) bytes)).read
        (read_on limit k (ts ++ (table_at b ∷ [])) (drop (used_by (ts ++ (table_at b ∷ []))) bytes)).stop

    on : (c : Check) → next_check limit ts b ≡ c → used_by ts < length bytes → Next
        → ReadSo bytes (go_on c ts (read_on limit k (ts ++ (table_at b ∷ [])) (drop (table_at b).used b))).read
        (go_on c ts (read_on limit k (ts ++ (table_at b ∷ [])) (drop (table_at b).used b))).stop
    on (Err r) q h ih = record { follows = f; few = omega arith; within = w; ends = refused r (omega arith) h q refl }
    on (Ok tt) q h ih =
        let tb = table_at b in
        let d : drop tb.used b ≡ drop (used_by (ts ++ (tb ∷ []))) bytes =
        drop-drop tb.used (used_by ts) bytes ∙ ap (λ (j : ℕ). drop j bytes) (sym (sum_end ts tb)) in
        rw d (ih (more f h q) (omega (arith, length-append ts (tb ∷ [])))
        (omega (arith, sum_end ts tb, next_within ts b q, length-drop (used_by ts) bytes)))

    some : used_by ts < length bytes → Next → ReadSo bytes (read_on limit (suc k) ts b).read (read_on limit (suc k) ts b).stop
    some h ih = rw (on_some k ts b (omega (arith, length-drop (used_by ts) bytes))) (on (next_check limit ts b) refl h ih)

pub reading : (bytes : List ℕ) → ReadSo bytes (read_all limit bytes).read (read_all limit bytes).stop
reading bytes = read_so bytes most_tables [] none refl (omega arith)

-- they are cost tables over one n, and no more than 1,024 far sides are seen in their trees
pub follows_sound : (bytes : List ℕ) (ts : List Table) → Follows bytes ts → Sound limit ts
unfolding sides_at trees seen
follows_sound bytes [] none = record { one = λ t m. absurd (Memᴰ.not-nil m); formed = λ t m. absurd (Memᴰ.not-nil m); kept = omega arith }
follows_sound bytes _ (more {ts} f h e) = next_sound ts (drop (used_by ts) bytes) (follows_sound bytes ts f) e
