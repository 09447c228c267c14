-- A turn of a loop over the tables of a batch: i tables passed, used so many bytes, and left the rows from `rows` on. Assumes nothing.
use mathlib.Core.List.{List, [], ◌++◌, ◌∷◌}
use Rattle.std.proofs.Math.Path.{ap, ap₂, subst}
use Rattle.std.specs.Prelude.{refl, ◌≡◌, suc, zero, ℕ, ◌+◌, ◌-◌, ◌<◌, ◌≤◌, drop, get_or, length, take}
use Rattle.std.proofs.Common.{sym, ◌∙◌, add-one, drop_of_length-le, drop-drop}
use native.Mathlib.Omega.{arith}
use Rattle.link_forms.specs.Form.{link_bytes, link_used}
use Rattle.joined_tables.specs.Bytes.{batch_bytes}
use Rattle.joined_tables.specs.Fitting.{BatchFits, NextFits}
use Rattle.joined_tables.specs.Tables.{Table, tables}
use Rattle.bits.specs.declared.Form.{Form}

pub length-tables : (ns counts : List ℕ) → length ns ≡ length counts → length (tables ns counts) ≡ length ns
unfolding tables
length-tables [] counts e = refl
length-tables (n ∷ ns) [] e = absurd (omega arith)
length-tables (n ∷ ns) (N ∷ counts) e = ap suc (length-tables ns counts (omega arith))

table-suc : (ns counts : List ℕ) (i : ℕ) → length ns ≡ length counts → i < length ns
    → drop i (tables ns counts) ≡ (get_or ns i 0, get_or counts i 0) ∷ drop (suc i) (tables ns counts)
unfolding tables
table-suc [] counts i e h = absurd (omega arith)
table-suc (n ∷ ns) [] i e h = absurd (omega arith)
table-suc (n ∷ ns) (N ∷ counts) zero e h = refl
table-suc (n ∷ ns) (N ∷ counts) (suc i) e h = table-suc ns counts i (omega arith) (omega arith)

-- the next table
pub table-at : (ns counts : List ℕ) (i : ℕ) → length ns ≡ length counts → i < length ns
    → drop i (tables ns counts) ≡ (get_or ns i 0, get_or counts i 0) ∷ drop (i + 1) (tables ns counts)
table-at ns counts i e h = table-suc ns counts i e h ∙ ap (λ (x : ℕ). (get_or ns i 0, get_or counts i 0) ∷ drop x (tables ns counts)) (sym (add-one i))

-- and with its n and its row count told
pub table_is : (ns counts : List ℕ) (i n N : ℕ) → length ns ≡ length counts → i < length ns → get_or ns i 0 ≡ n → get_or counts i 0 ≡ N
    → drop i (tables ns counts) ≡ (n, N) ∷ drop (i + 1) (tables ns counts)
table_is ns counts i n N e h en eN = table-at ns counts i e h ∙ ap₂ (λ (x y : ℕ). (x, y) ∷ drop (i + 1) (tables ns counts)) en eN

-- after the last
pub tables_end : (ns counts : List ℕ) (i : ℕ) → length ns ≡ length counts → length ns ≤ i → drop i (tables ns counts) ≡ []
tables_end ns counts i e h = drop_of_length-le (tables ns counts) {i = i} (omega (arith, length-tables ns counts e))

pub fits_start : (form : Form) (ns counts l v : List ℕ) (room : ℕ) → BatchFits form (tables ns counts) l v room
    → BatchFits form (drop 0 (tables ns counts)) (drop 0 l) (drop 0 v) (room - 0)
fits_start form ns counts l v room f = subst (λ (x : ℕ). BatchFits form (tables ns counts) l v x) (omega arith) f

module _ (form : Form) (ns counts l v : List ℕ) (room used rows i n N : ℕ) (e : length ns ≡ length counts) (h : i < length ns) (en : get_or ns i 0 ≡ n)
    (eN : get_or counts i 0 ≡ N) where
  table : drop i (tables ns counts) ≡ (n, N) ∷ drop (i + 1) (tables ns counts)
  table = table_is ns counts i n N e h en eN

  pub fits_step : BatchFits form (drop i (tables ns counts)) (drop rows l) (drop rows v) (room - used)
      → NextFits form n N (drop rows l) (drop rows v) (room - used)
      × BatchFits form (drop (i + 1) (tables ns counts)) (drop (rows + N) l) (drop (rows + N) v) (room - (used + link_used form n N))
  unfolding BatchFits
  fits_step f =
      let x = link_used form n N in
      let q : room - used - x ≡ room - (used + x) = omega arith in
      let g = subst (λ (ts : List Table). BatchFits form ts (drop rows l) (drop rows v) (room - used)) table f in
      (g.0, rw (← (drop-drop N rows l), ← (drop-drop N rows v), ← q) g.1)

  pub bytes-step : batch_bytes form (drop i (tables ns counts)) (drop rows l) (drop rows v)
      ≡ link_bytes form n (take N (drop rows l)) (take N (drop rows v)) ++ batch_bytes form (drop (i + 1) (tables ns counts)) (drop (rows + N) l)
      (drop (rows + N) v)
  unfolding batch_bytes
  bytes-step =
      ap (λ (ts : List Table). batch_bytes form ts (drop rows l) (drop rows v)) table
      ∙ ap₂ (λ (a b : List ℕ). link_bytes form n (take N (drop rows l)) (take N (drop rows v)) ++ batch_bytes form (drop (i + 1) (tables ns counts)) a b)
      (drop-drop N rows l) (drop-drop N rows v)
