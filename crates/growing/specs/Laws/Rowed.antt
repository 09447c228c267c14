-- The rows held in local arrays are rows as `brought` asks for them, and what it answers can be put. Assumes nothing.
use Rattle.std.specs.Prelude.{true, ◌≡◌, suc, zero, ℕ, ◌<◌, ◌^◌, ◌≤◌, get_or, length, take}
use mathlib.Core.List.{List, Memᴰ, [], ◌∷◌}
use Rattle.std.proofs.Common.{ap, subst, sym, ◌∙◌, arith, get_or-take}
use Rattle.std.proofs.lemmas.List.{length-map}
use Rattle.ground.specs.Ascending.{Between}
use Rattle.ground.specs.Laws.Maps.{map-mem}
use Rattle.theory.specs.FarSides.{FarSide}
use Rattle.theory.specs.Laws.Nested.{uncrossed_nested}
use Rattle.theory.proofs.Laws.OneTree.{drawn_uncrossed, fars-measured, rows_between, rows-far}
use Rattle.theory.proofs.Laws.RowsGrow.{rows-most}
use Rattle.theory.specs.LinkTables.{Row, fars}
use Rattle.theory.specs.Readings.{drawn, row, rows}
use Rattle.theory.specs.Tables.{WellFormed}
use Rattle.brought.specs.Answers.{Valued}
use Rattle.brought.specs.Chosen.{Rowed}
use Rattle.growing.specs.Held.{RowsHeld}
use Rattle.growing.specs.Laws.Held.{rows_in-mem, with_image}
use Rattle.lowered_rows.specs.Laws.LocalRows.{rows_in-fars, rows_in-length}
use Rattle.lowered_rows.specs.Putting.{Given}

-- what ascends, place by place
between_first : (m k : ℕ) (l : List ℕ) (j : ℕ) → Between m l k → j < length l → m ≤ get_or l j 0
between_first m k [] j b h = absurd (omega arith)
between_first m k (x ∷ l) zero b h = b.0
between_first m k (x ∷ l) (suc j) b h = omega (arith, b.0, between_first (suc x) k l j b.1 (omega arith))

between_up : (m k : ℕ) (l : List ℕ) (i j : ℕ) → Between m l k → i < j → j < length l → get_or l i 0 < get_or l j 0
between_up m k [] i j b g h = absurd (omega arith)
between_up m k (x ∷ l) i zero b g h = absurd (omega arith)
between_up m k (x ∷ l) zero (suc j) b g h = between_first (suc x) k l j b.1 (omega arith)
between_up m k (x ∷ l) (suc i) (suc j) b g h = between_up (suc x) k l i j b.1 (omega arith) (omega arith)

module _ (L : ℕ) (d : ℕ → ℕ → ℕ) (k : ℕ) (c : WellFormed L d k) (f v : List ℕ) (count : ℕ) (h : RowsHeld L d k f v count) where
  same : take count f ≡ rows L d k
  same = rows_in-fars f v count (omega (arith, h.few, h.far-room)) ∙ ap fars h.is ∙ fars-measured L d k

  counted : count ≡ length (rows L d k)
  counted = sym (rows_in-length f v count) ∙ ap length h.is ∙ length-map (rows L d k) (row L d k)

  here : (i : ℕ) → i < count → get_or f i 0 ≡ get_or (rows L d k) i 0
  here i l = sym (get_or-take count f i 0 l) ∙ ap (λ z. get_or z i 0) same

  known : (i : ℕ) → i < count → (S : ℕ) × (get_or f i 0 ≡ S) × (drawn L d k S ≡ true) × FarSide k S
  known i l =
      let m = map-mem (row L d k) (rows L d k) (get_or f i 0, get_or v i 0) (subst (Memᴰ (get_or f i 0, get_or v i 0)) h.is (rows_in-mem f v i count l)) in
      let t = rows-far L d k c m.0 m.2 in
      (m.0, ap (λ (r : Row). r.0) m.1, t.0, t.1)

  pub held_rowed : count ≤ 123 → Rowed k f count
  held_rowed few = record {
    rising = record {
      some = λ i l. let t = known i l in rw t.1 t.3.some;
      up = λ i j g l. rw (here i (omega arith), here j l) (between_up 1 (2 ^ k) (rows L d k) i j (rows_between L d k c) g (omega (arith, counted)));
      few = few;
      room = omega (arith, h.few, h.far-room);
    };
    far = λ i l. let t = known i l in rw t.1 t.3;
    nested = λ i j a b. let s = known i a in let t = known j b in
        rw (s.1, t.1) (uncrossed_nested k s.0 t.0 (drawn_uncrossed L d k c s.0 t.0 s.3 t.3 s.2 t.2));
  }

-- there are few of them
pub held_few : (L : ℕ) (d : ℕ → ℕ → ℕ) (k : ℕ) → 1 ≤ k → k < 64 → WellFormed L d k → (f v : List ℕ) (count : ℕ) → RowsHeld L d k f v count → count ≤ 123
held_few L d zero g l c f v count h = absurd (omega arith)
held_few L d (suc zero) g l c f v count h = omega (arith, sym (rows_in-length f v count) ∙ ap length h.is)
held_few L d (suc (suc k)) g l c f v count h = omega (arith, counted L d (suc (suc k)) c f v count h, rows-most L d k c)

pub held_given : (L : ℕ) (d : ℕ → ℕ → ℕ) (k add : ℕ) (f v slots best : List ℕ) (count : ℕ) → k < 64 → add ≤ 2 ^ k → RowsHeld L d k f v count → Rowed k f count
    → length slots ≡ 128 → length best ≡ 192 → Valued L d k add f count slots best → Given add f v slots best count
held_given L d k add f v slots best count g a h r s b w = record {
  far-room = r.rising.room;
  cost-room = omega (arith, h.few, h.cost-room);
  slot_room = omega (arith, h.few);
  few = h.few;
  values = b;
  fits = λ i l. with_image k (get_or f i 0) add g (r.far i l).fits a;
  place = w.place;
}
