-- The checks of a link table pass for exactly the link tables. Assumes nothing.
use Rattle.std.specs.Prelude.{false, List, ◌↔◌, ◌≡◌, ℕ, ◌*◌, ◌-◌, ◌<◌, ◌^◌, ◌≤◌, eqb, ltb, get_or, Ok}
use Rattle.std.proofs.Math.Bool.{not}
use Rattle.std.proofs.Common.{inl, arith, pow_pos}
use Rattle.std.proofs.Math.Path.{ap}
use Rattle.std.proofs.Math.ListN.{length}
use Rattle.std.proofs.lemmas.List.{length-map}
use borrow.Author.Tests.{eq-eqb, eqb-true, le-ltb, ltb-false, ltb-true, not-false}
use borrow.Table.Steps.{cases}
use Rattle.ground.specs.Members.{is_in}
use Rattle.ground.specs.Laws.Members.{is_in-mem, mem-is_in}
use Rattle.ground.specs.Refusals.{outside, refusal, refuse_if, ◌then◌}
use Rattle.ground.specs.Laws.Refusals.{outside_false, refuse_if-passed, then_passed}
use Rattle.theory.specs.Checks.{images_check}
use Rattle.theory.specs.Laws.Checks.{images-passed}
use Rattle.theory.specs.FarSides.{Nested, own}
use Rattle.theory.specs.Laws.JoinedRows.{rows_of-fars}
use Rattle.theory.proofs.Laws.RowCount.{row_count}
use Rattle.theory.specs.LinkTables.{LinkTable, fars, rows_of}
use Rattle.bad_rows.specs.BadRows.{bad_row, missing}
use Rattle.links.specs.Checks.{count_checks, length_checks, row_checks, size_checks}
use Rattle.links.specs.FirstChecks.{first_check}
use Rattle.links.specs.Laws.FirstChecks.{first-passed, passed_first}
use Rattle.links.specs.Laws.RowTests.{GoodRow, between_steps, clear_nested, good_row, mem-rows}
use Rattle.links.specs.Laws.RowTests.{nested_clear, nested_sym, row_good, rows-mem, steps_between}
use Rattle.links.specs.Links.{Links}

module _ (L n : ℕ) (l v : List ℕ) (e : length l ≡ length v) where
  -- every row is good, and no own link is missing: a link table
  checked : ((k : ℕ) → k < length l → GoodRow L n l v k) → ((i : ℕ) → i < n → missing n l i ≡ false) → LinkTable L n (rows_of l v)
  unfolding missing
  checked g m = record {
    ascending = rw (rows_of-fars l v e) (steps_between 0 (2 ^ n) l (pow_pos n) (λ k h. ((g k h).above, (g k h).fits)));
    near = λ r t. let q = rows-mem l v r t in rw q.2 (g q.0 q.1).near;
    owns = λ i h. rw (rows_of-fars l v e) (is_in-mem (own n i) l (not-false (is_in (own n i) l) (m i h)));
    nested = λ r t s u. let q = rows-mem l v r t in let p = rows-mem l v s u in rw (q.2, p.2) (two q.0 p.0 q.1 p.1);
    drawn = λ r t. let q = rows-mem l v r t in rw q.2 (g q.0 q.1).drawn;
    small = λ r t. let q = rows-mem l v r t in rw q.2 (g q.0 q.1).small;
  }
    where
      two : (j k : ℕ) → j < length l → k < length l → Nested n (get_or l j 0) (get_or l k 0)
      two j k a b =
          cases (ltb j k) (λ t. clear_nested n (get_or l j 0) (get_or l k 0) ((g k b).clear j (ltb-true j k t)))
          (λ t. cases (ltb k j)
          (λ u. nested_sym n (get_or l k 0) (get_or l j 0) (clear_nested n (get_or l k 0) (get_or l j 0) ((g j a).clear k (ltb-true k j u))))
          (λ u. let q : j ≡ k = omega (arith, ltb-false j k t, ltb-false k j u) in rw q (inl (λ i h x. x))))

  -- and the other way round
  pub link_rows : LinkTable L n (rows_of l v) → (k : ℕ) → k < length l → GoodRow L n l v k
  link_rows t k h =
      let s = between_steps 0 (2 ^ n) l (rw (rows_of-fars l v e) at t.ascending) in
      let m = mem-rows l v k e h in
      record {
        above = (s k h).0;
        near = t.near _ m;
        fits = (s k h).1;
        clear = λ j a. nested_clear n (get_or l j 0) (get_or l k 0) (s j (omega arith)).1 (s k h).1 (t.nested _ (mem-rows l v j e (omega arith)) _ m);
        small = t.small _ m;
        drawn = t.drawn _ m;
      }

  found : LinkTable L n (rows_of l v) → (i : ℕ) → i < n → missing n l i ≡ false
  unfolding missing
  found t i h = ap not (mem-is_in (own n i) l (rw (rows_of-fars l v e) at (t.owns i h)))

  pub row_checks_lem : (row_checks L n l v ≡ Ok tt) ↔ LinkTable L n (rows_of l v)
  row_checks_lem = (
    λ p. let q = then_passed (first_check 12 (bad_row L n l v) (length l)) (first_check 13 (missing n l) n) p in
        checked (λ k h. good_row L n l v k (first-passed 12 (bad_row L n l v) (length l) q.0 k h)) (first-passed 13 (missing n l) n q.1),
    λ t. rw (passed_first 12 (bad_row L n l v) (length l) (λ k h. row_good L n l v k (link_rows t k h))) (passed_first 13 (missing n l) n (found t)),
  )

pub rows-length : (l v : List ℕ) → length l ≡ length v → length (rows_of l v) ≡ length l
rows-length l v e = let q : length (fars (rows_of l v)) ≡ length l = ap length (rows_of-fars l v e) in rw length-map at q

-- what passes the sizes
pub record LinksSized (n N : ℕ) (l v : List ℕ) : Type 0 where
  pub some : 3 ≤ n
  pub few : n ≤ 64
  pub least : n ≤ N
  pub most : N ≤ 2 * n - 3
  pub counted : length l ≡ N
  pub costed : length v ≡ N

pub count-passed : (n N : ℕ) → count_checks n N ≡ Ok tt → (3 ≤ n) × (n ≤ 64) × (n ≤ N) × (N ≤ 2 * n - 3)
count-passed n N e =
    let p = then_passed (images_check n) _ e in
    let a = images-passed n p.0 in
    let b = outside_false n (2 * n - 3) N (refuse_if-passed (outside n (2 * n - 3) N) _ p.1) in
    (a.0, a.1, b.0, b.1)

pub length-passed : (N : ℕ) (l v : List ℕ) → length_checks N l v ≡ Ok tt → (length l ≡ N) × (length v ≡ N)
length-passed N l v e =
    let p = then_passed (refuse_if (not (eqb (length l) N)) (refusal 2 0 0 0 0)) _ e in (
      eqb-true (length l) N (not-false _ (refuse_if-passed (not (eqb (length l) N)) _ p.0)),
      eqb-true (length v) N
          (not-false _ (refuse_if-passed (not (eqb (length v) N)) _ p.1)),
    )

pub sizes_passed : (n N : ℕ) (l v : List ℕ) → size_checks n N l v ≡ Ok tt → LinksSized n N l v
sizes_passed n N l v e =
    let p = then_passed (count_checks n N) (length_checks N l v) e in
    let a = count-passed n N p.0 in
    let b = length-passed N l v p.1 in
    record { some = a.0; few = a.1; least = a.2; most = a.3; counted = b.0; costed = b.1 }

pub passed_sizes : (n N : ℕ) (l v : List ℕ) → LinksSized n N l v → size_checks n N l v ≡ Ok tt
passed_sizes n N l v s =
    rw (
      le-ltb n 3 s.some,
      le-ltb 64 n s.few,
      le-ltb N n s.least,
      le-ltb (2 * n - 3) N s.most,
      eq-eqb (length l) N s.counted,
      eq-eqb
          (length v) N s.costed,
    )

-- the checks pass exactly when n is 3 to 64, the lengths fit, and the rows are a link table
pub link_checks_lem : (L n N : ℕ) (l v : List ℕ) → ((size_checks n N l v then row_checks L n l v) ≡ Ok tt) ↔ Links L n N l v
link_checks_lem L n N l v = (into, out)
  where
    into : (size_checks n N l v then row_checks L n l v) ≡ Ok tt → Links L n N l v
    into e =
        let p = then_passed (size_checks n N l v) (row_checks L n l v) e in
        let s = sizes_passed n N l v p.0 in
        record { some = s.some; few = s.few; counted = s.counted; costed = s.costed; table = (row_checks_lem L n l v (omega arith)).0 p.1 }

    out : Links L n N l v → (size_checks n N l v then row_checks L n l v) ≡ Ok tt
    out t =
        let e : length l ≡ length v = omega arith in
        let c = row_count L n (rows_of l v) t.some t.table in
        let q = rows-length l v e in
        rw (passed_sizes n N l v (record { some = t.some; few = t.few; least = omega arith; most = omega arith; counted = t.counted; costed = t.costed }))
        ((row_checks_lem L n l v e).1 t.table)
