-- The measured reading of the first k images, held in local arrays: what is known of each row, and that it can be copied.
-- Assumes nothing.
use mathlib.Core.List.Memᴰ
use mathlib.Core.List.{List, Memᴰ, [], ◌++◌, ◌∷◌}
use Rattle.std.proofs.Common.{ap, ap₂, ◌∙◌, arith, eqb-true}
use Rattle.std.specs.Prelude.{refl, ◌≡◌, suc, zero, ℕ, ◌+◌, ◌<◌, ◌^◌, ◌≤◌, eqb, get_or, length}
use Rattle.std.proofs.Math.Pow.{pow-lt}
use Rattle.std.proofs.lemmas.Bool.{eqb-false}
use borrow.Table.Steps.{cases}
use Rattle.ground.specs.Buffers.{over}
use Rattle.ground.specs.Laws.Buffers.{over-at}
use Rattle.lowered_rows.specs.LocalRows.{rows_in}
use Rattle.growing.specs.Held.{RowsHeld}

pub rows_in-mem : (f v : List ℕ) (i n : ℕ) → i < n → Memᴰ (get_or f i 0, get_or v i 0) (rows_in f v n)
unfolding rows_in
rows_in-mem f v i zero h = absurd (omega arith)
rows_in-mem f v i (suc n) h =
    cases (eqb i n)
    (λ e. Memᴰ.append_right (rows_in f v n) (Memᴰ.head (ap (λ j. (get_or f j 0, get_or v j 0)) (eqb-true i n e))))
    (λ e. Memᴰ.append_left ((get_or f n 0, get_or v n 0) ∷ []) (rows_in-mem f v i n (omega (arith, eqb-false i n e))))

-- with image k, which is below 64, it is still a number of 64 bits
pub with_image : (k x add : ℕ) → k < 64 → x < 2 ^ k → add ≤ 2 ^ k → add + x < 2 ^ 64
with_image k x add h l a =
    cases (eqb k 63) (λ e. let q = eqb-true k 63 e in let z = rw q at l in let y = rw q at a in omega arith)
    (λ e. omega (arith, pow-lt {i = suc k} {j = 64} (omega (arith, eqb-false k 63 e))))

-- written over the first places of two other arrays
rows_in-over : (m n : ℕ) (g w f v : List ℕ) → m ≤ n → n ≤ length g → n ≤ length w → rows_in (over n g f) (over n w v) m ≡ rows_in g w m
unfolding rows_in
rows_in-over zero n g w f v h a b = refl
rows_in-over (suc m) n g w f v h a b =
    ap₂ ◌++◌ (rows_in-over m n g w f v (omega arith) a b) (ap₂ (λ x y. (x, y) ∷ []) (over-at n m g f h a) (over-at n m w v h b))

pub held_written : (L : ℕ) (d : ℕ → ℕ → ℕ) (k count : ℕ) (g w f v f' v' : List ℕ) → RowsHeld L d k g w count → f' ≡ over count g f → v' ≡ over count w v
    → length f' ≡ 128 → length v' ≡ 128 → RowsHeld L d k f' v' count
held_written L d k count g w f v f' v' h e q a b = record {
  is = rw (e, q) (rows_in-over count count g w f v (omega arith) (omega (arith, h.few, h.far-room)) (omega (arith, h.few, h.cost-room)) ∙ h.is);
  far-room = a;
  cost-room = b;
  few = h.few;
}
