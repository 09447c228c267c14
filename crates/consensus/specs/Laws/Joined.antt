-- Where each table of a team stands in the joined slice, and how tables are taken one after another. Assumes nothing.
use Rattle.ground.specs.Refusals.{refused_in}
use mathlib.Core.List.{List, Memᴰ, ◌++◌}
use Rattle.std.proofs.Math.Path.{refl}
use Rattle.std.proofs.Common.{subst, sym, ◌∙◌, mul-le-mul, mul-le-mul_right, suc-mul, arith, length-drop, length-take}
use Rattle.std.specs.Prelude.{◌≡◌, eqb, drop, length, take, Ok, Err}
use Prim.Native.Nat.{suc, zero, ℕ, ◌*◌, ◌+◌, ◌-◌, ◌<◌, ◌≤◌}
use Rattle.std.proofs.lemmas.List.{drop-append-le, take-append-le}
use borrow.Author.Tests.{eqb-false, eqb-true}
use borrow.Table.Steps.{cases}
use Rattle.ground.specs.Filters.{Each}
use Rattle.ground.specs.Laws.Maps.{map-mem, mem-map}
use Rattle.ground.specs.Laws.Ranges.{from-mem, mem-from}
use Rattle.ground.specs.Ranges.{from}
use Rattle.ground.specs.declared.Refusal.{Refusal}
use Rattle.tree.specs.Exact.{Wired, tree_check}
use Rattle.tree.proofs.Laws.Exact.{table-passed, table_sized}
use Rattle.consensus.specs.Call.{table_by_table, Shared}
use Rattle.consensus.specs.Team.{Joined, table_at, tables_in}

-- ## Sizes

pub square_small : (n : ℕ) → n ≤ 64 → n * n ≤ 4096
square_small n h = mul-le-mul {n₂ = 64} {m₂ = 64} h h

pub size_small : (n m : ℕ) → n ≤ 64 → m ≤ 16 → m * (n * n) ≤ 65536
size_small n m h l = mul-le-mul {n₂ = 16} {m₂ = 4096} l (square_small n h)

module _ (n m : ℕ) (t : List ℕ) (j : Joined n m t) (k : ℕ) (l : k < m) where
  -- table k ends within the slice
  pub part_ends : k * (n * n) + n * n ≤ length t
  part_ends = let s : suc k * (n * n) ≤ m * (n * n) = mul-le-mul_right (n * n) l in omega (arith, suc-mul k (n * n), j.sized)

  pub part_small : k * (n * n) + n * n ≤ 65536
  part_small = omega (arith, part_ends, j.sized, size_small n m j.few j.sixteen)

  pub part_sized : length (table_at n t k) ≡ n * n
  unfolding table_at
  part_sized = simp (length-take, length-drop) (omega (arith, part_ends))

-- the part from its start to its end
pub part_is : (n k : ℕ) (t : List ℕ) → take (k * (n * n) + n * n - k * (n * n)) (drop (k * (n * n)) t) ≡ table_at n t k
unfolding table_at
part_is n k t = let s : k * (n * n) + n * n - k * (n * n) ≡ n * n = omega arith in rw s

-- tables behind it do not move it
pub part-front : (n m : ℕ) (t u : List ℕ) → Joined n m t → (k : ℕ) → k < m → table_at n (t ++ u) k ≡ table_at n t k
unfolding table_at
part-front n m t u j k l =
    let e = part_ends n m t j k l in
    rw (drop-append-le (k * (n * n)) t u (omega arith)) (take-append-le (n * n) (drop (k * (n * n)) t) u (omega (arith, length-drop (k * (n * n)) t)))

-- ## One table of the team, and the first so many

pub each_table : (n m : ℕ) (t : List ℕ) (P : List ℕ → Type 0) → ((i : ℕ) → i < m → P (table_at n t i)) → Each (tables_in n m t) P
each_table n m t P h u q =
    let r = map-mem (table_at n t) (from 0 m) u q in
    let d = from-mem 0 m r.0 r.2 in
    subst P (sym r.1) (h r.0 (omega arith))

pub no_table : (n : ℕ) (t : List ℕ) (P : List ℕ → Type 0) → Each (tables_in n 0 t) P
no_table n t P = each_table n 0 t P (λ i l. absurd (omega arith))

pub in_tables : (n m : ℕ) (t : List ℕ) (i : ℕ) → i < m → Memᴰ (table_at n t i) (tables_in n m t)
in_tables n m t i l = mem-map (table_at n t) (mem-from 0 m i (omega arith) (omega arith))

pub table_in_lem : (n m : ℕ) (t : List ℕ) (P : List ℕ → Type 0) → Each (tables_in n m t) P → (i : ℕ) → i < m → P (table_at n t i)
table_in_lem n m t P h i l = h (table_at n t i) (in_tables n m t i l)

-- ## Table by table

module _ (L n m : ℕ) (t : List ℕ) (j : Joined n m t) where
  -- a table of a team is accepted exactly when 4, 5, 6, 20, 7 pass
  pub wired-passed : (i : ℕ) → i < m → Wired L n (table_at n t i) → tree_check L n (table_at n t i) ≡ Ok tt
  wired-passed i l w =
      sym (table_sized L n (table_at n t i) (part_sized n m t j i l)) ∙ (table-passed L n (table_at n t i) j.some j.few).1 w

  pub passed-wired : (i : ℕ) → i < m → tree_check L n (table_at n t i) ≡ Ok tt → Wired L n (table_at n t i)
  passed-wired i l e =
      (table-passed L n (table_at n t i) j.some j.few).0 (table_sized L n (table_at n t i) (part_sized n m t j i l) ∙ e)

module _ (L n : ℕ) (t : List ℕ) (y : Shared) where
  -- all tables passed
  pub tables-passed : (i m : ℕ) → ((h : ℕ) → i ≤ h → h < i + m → tree_check L n (table_at n t h) ≡ Ok tt) → table_by_table L n t i m y ≡ y
  unfolding table_by_table
  tables-passed i zero p = refl
  tables-passed i (suc m) p = rw (p i (omega arith) (omega arith)) (tables-passed (suc i) m (λ h a b. p h (omega arith) (omega arith)))

  -- table k is refused, those before it having passed
  pub tables_stop : (i m k : ℕ) (q : Refusal) → i ≤ k → k < i + m → ((h : ℕ) → i ≤ h → h < k → tree_check L n (table_at n t h) ≡ Ok tt)
      → tree_check L n (table_at n t k) ≡ Err q → table_by_table L n t i m y ≡ refused_in (k + 1) q
  unfolding table_by_table
  tables_stop i zero k q a b p e = absurd (omega arith)
  tables_stop i (suc m) k q a b p e =
      cases (eqb i k)
      (λ s. let z = eqb-true i k s in rw (z, e))
      (λ s. let z = eqb-false i k s in
      rw (p i (omega arith) (omega arith)) (tables_stop (suc i) m k q (omega arith) (omega arith) (λ h c d. p h (omega arith) d) e))
