-- Reading what was written gives the link table back, whatever bytes follow. Assumes nothing.
use mathlib.Core.List.{List, append_assoc, ◌++◌}
use Rattle.std.proofs.Math.Path.{ap, sym}
use Rattle.std.proofs.Common.{◌∙◌, lt_of_le_of_lt, arith, pow_pos}
use Rattle.std.specs.Prelude.{◌≡◌, suc, ℕ, ◌*◌, ◌+◌, ◌-◌, ◌/◌, ◌<◌, ◌^◌, ◌≤◌}
use Rattle.std.proofs.Math.ListN.{get_or, length, length-append}
use Rattle.theory.proofs.Laws.RowCount.{row_count}
use Rattle.theory.specs.LinkTables.{rows_of}
use Rattle.bits.specs.Bits.{bits, bits_of, part, value_of}
use Rattle.bits.specs.Forms.{fill_width}
use Rattle.bits.specs.Laws.Numbers.{length-bits_of, value-bits}
use Rattle.bits.specs.Laws.Parts.{part_cut}
use Rattle.bits.specs.Laws.Listed.{listed_is}
use Rattle.links.specs.Links.{Links}
use Rattle.links.specs.Laws.LinkChecks.{link_rows, rows-length}
use Rattle.links.specs.Laws.RowTests.{GoodRow}
use Rattle.link_forms.specs.Form.{link_bytes, link_used, row_at}
use Rattle.link_forms.specs.Laws.Form.{all_rows, bits_links_then, front_bits, length_all_rows, length_front, length_links}
use Rattle.link_forms.specs.Laws.Rows.{cost-found, far-found}
use Rattle.link_forms.specs.Said.{cost_at, costs_of, count_of, far_at, fars_of, fill_of, images_of}
use Rattle.bits.specs.declared.Form.{Form}
use Rattle.stored_links.specs.Stored.{Stored}

-- a far side without image 0 is twice its half, and its half fits one bit less
pub half_fits : (n S : ℕ) → 3 ≤ n → S < 2 ^ n → S / 2 < 2 ^ (n - 1)
half_fits n S h k = let e : n ≡ suc (n - 1) = omega arith in omega (arith, ap (λ (x : ℕ). 2 ^ x) e)

module _ (form : Form) (n N : ℕ) (l v behind : List ℕ) (t : Links form.limit n N l v) (fits : 2 * form.limit < 2 ^ form.width) where
  s : List ℕ
  s = link_bytes form n l v ++ behind

  end : ℕ
  end = row_at form n (length l)

  good : (k : ℕ) → k < length l → GoodRow form.limit n l v k
  good k h = link_rows form.limit n l v (t.counted ∙ sym t.costed) t.table k h

  -- n to 2 n - 3 rows
  pub count_fits : (n ≤ N) × (N ≤ 2 * n - 3)
  count_fits =
      let c = row_count form.limit n (rows_of l v) t.some t.table in
      let q = rows-length l v (t.counted ∙ sym t.costed) in
      (omega (arith, t.counted), omega (arith, t.counted))

  images_is : images_of form s ≡ n
  unfolding images_of front_bits s end
  images_is =
      let h = bits_of form.head form.mark in
      let m = bits_of 7 n in
      let r = all_rows form n l v ++ (bits_of (fill_width end) 0 ++ bits behind) in
      let c = bits_of 7 (length l) in
      ap (λ (x : List ℕ). value_of (part x form.head 7)) (bits_links_then form n l v behind ∙ append_assoc (h ++ m) c r ∙ append_assoc h m (c ++ r))
      ∙ ap value_of (part_cut h m (c ++ r) form.head 7 (length-bits_of form.head form.mark) (length-bits_of 7 n))
      ∙ value-bits 7 n (omega (arith, t.few))

  count_is : count_of form s ≡ N
  unfolding count_of front_bits s end
  count_is =
      let h = bits_of form.head form.mark in
      let m = bits_of 7 n in
      let r = all_rows form n l v ++ (bits_of (fill_width end) 0 ++ bits behind) in
      let c = bits_of 7 (length l) in
      let f = count_fits in
      ap (λ (x : List ℕ). value_of (part x (form.head + 7) 7)) (bits_links_then form n l v behind ∙ append_assoc (h ++ m) c r)
      ∙ ap value_of (part_cut (h ++ m) c r (form.head + 7) 7 (omega (arith, length-append h m, length-bits_of form.head form.mark, length-bits_of 7 n))
      (length-bits_of 7 (length l)))
      ∙ value-bits 7 (length l) (omega (arith, f.1, t.counted, t.few))
      ∙ t.counted

  fill_is : fill_of form n N s ≡ 0
  unfolding fill_of s end
  fill_is =
      let a = front_bits form n l v in
      let b = all_rows form n l v in
      let z = bits_of (fill_width end) 0 in
      ap (λ (x : ℕ). value_of (part (bits s) (row_at form n x) (fill_width (row_at form n x)))) (sym t.counted)
      ∙ ap (λ (x : List ℕ). value_of (part x end (fill_width end))) (bits_links_then form n l v behind ∙ sym (append_assoc a b (z ++ bits behind)))
      ∙ ap value_of (part_cut (a ++ b) z (bits behind) end (fill_width end)
      (omega (arith, length-append a b, length_front form n l v, length_all_rows form n l v)) (length-bits_of (fill_width end) 0))
      ∙ value-bits (fill_width end) 0 (pow_pos (fill_width end))

  far_is : (k : ℕ) → k < N → get_or l k 0 ≡ far_at form n s k
  unfolding far_at all_rows s end
  far_is k h =
      let q : k < length l = omega (arith, t.counted) in
      let r = bits_of (fill_width end) 0 ++ bits behind in
      let a = front_bits form n l v in
      let g = good k q in
      let e : value_of (part (bits s) (row_at form n k) (n - 1)) ≡ get_or l k 0 / 2 =
      ap (λ (x : List ℕ). value_of (part x (row_at form n k) (n - 1))) (bits_links_then form n l v behind)
      ∙ ap value_of (far-found form.width n (λ j. get_or l j 0) (λ j. get_or v j 0) a r (form.head + 14) k (length l) (length_front form n l v) q)
      ∙ value-bits (n - 1) (get_or l k 0 / 2) (half_fits n (get_or l k 0) t.some g.fits) in
      omega (arith, e, g.near)

  cost_is : (k : ℕ) → k < N → get_or v k 0 ≡ cost_at form n s k
  unfolding cost_at all_rows s end
  cost_is k h =
      let q : k < length l = omega (arith, t.counted) in
      let r = bits_of (fill_width end) 0 ++ bits behind in
      let a = front_bits form n l v in
      let g = good k q in
      sym (ap (λ (x : List ℕ). value_of (part x (row_at form n k + (n - 1)) form.width)) (bits_links_then form n l v behind)
      ∙ ap value_of (cost-found form.width n (λ j. get_or l j 0) (λ j. get_or v j 0) a r (form.head + 14) k (length l) (length_front form n l v) q)
      ∙ value-bits form.width (get_or v k 0) (lt_of_le_of_lt g.small fits))

  -- the rows are those that were written
  pub written_fars : fars_of form n N (link_bytes form n l v ++ behind) ≡ l
  unfolding s
  written_fars = listed_is (far_at form n s) N l t.counted far_is

  pub written_costs : costs_of form n N (link_bytes form n l v ++ behind) ≡ v
  unfolding s
  written_costs = listed_is (cost_at form n s) N v t.costed cost_is

  -- and the bytes begin with a stored link table
  pub written_stored : Stored form n N (link_bytes form n l v ++ behind)
  unfolding s
  written_stored =
      let lc = length_links form n l v in
      let la = length-append (link_bytes form n l v) behind in
      let u : link_used form n N ≤ length (link_bytes form n l v ++ behind) = rw (← t.counted) (omega (arith, lc, la)) in
      record {
        begun = omega (arith, u);
        images = images_is;
        counted = count_is;
        some = t.some;
        few = t.few;
        least = count_fits.0;
        most = count_fits.1;
        whole = u;
        clear = fill_is;
        rows = rw (written_fars, written_costs) t.table;
      }
