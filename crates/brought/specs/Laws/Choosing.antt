-- The two loops over the rows: before any row, one row more, and what a turn asks. Assumes nothing.
use Rattle.std.specs.Prelude.{Bool, List, ◌≡◌, get_or}
use Rattle.std.proofs.Common.{ap₂, sym, ◌∙◌}
use Rattle.std.proofs.Math.Path.{refl}
use Prim.Native.Nat.{suc, zero, ℕ, ◌+◌, ◌<◌, ◌≤◌}
use Rattle.std.proofs.Math.Numerals.{add-one}
use native.Mathlib.Omega.{arith}
use Rattle.ground.specs.Counts.{one_if}
use Rattle.brought.specs.Chosen.{Rising, Rowed, SidesStored, stored_of, is_stored}
use Rattle.brought.specs.Choosing.{Ins, Outs, SidePut, Room, Same, in_live, in_side, out_live, out_side}
use Rattle.brought.specs.Laws.Stores.{Took, left, put, put-room, put_same, stored_more, took}
use Rattle.brought.specs.Laws.Turned.{rest_some}

module _ (a : ℕ → ℕ) (live : ℕ → Bool) where
  pub of_none : stored_of a live 0 ≡ 0
  unfolding stored_of
  of_none = refl

  of_more : (n : ℕ) → stored_of a live (n + 1) ≡ stored_of a live n + one_if (is_stored (live n) (a n))
  unfolding stored_of
  of_more n = rw add-one

  pub one-most : (n : ℕ) → one_if (is_stored (live n) (a n)) ≤ 1
  one-most n = go (one_if (is_stored (live n) (a n))) (took (live n) (a n))
    where
      go : (x : ℕ) → Took x (live n) (a n) → x ≤ 1
      go x (put e l w) = omega arith
      go x (left e) = omega arith

  -- each row stores one side at most
  of_most : (n : ℕ) → stored_of a live n ≤ n
  unfolding stored_of
  of_most zero = omega arith
  of_most (suc n) = omega (arith, of_most n, one-most n)

-- no row has gone by
stored_none : (L : ℕ) (a : ℕ → ℕ) (live : ℕ → Bool) (p low : ℕ) (B slots best : List ℕ) → SidesStored L a live p p low low B slots best
stored_none L a live p low B slots best = record {
  order = omega arith;
  from = λ j g h. absurd (omega arith);
  up = λ j l g h k. absurd (omega arith);
  slot = λ r g h. absurd (omega arith);
  caps = λ j g h. absurd (omega arith);
}

same_none : (m : ℕ) (B best : List ℕ) → Same m B best B best
same_none m B best = record { sides = λ j h. refl; values = λ j h. refl }

-- ## Image k outside

module _ (L b N : ℕ) (f : List ℕ) where
  pub outs_none : (B outs best : List ℕ) → Room B outs best → Outs L b N f 0 0 B outs best
  outs_none B outs best r = record {
    room = r;
    counted = sym (of_none (out_side f) (out_live b N f));
    made = stored_none L (out_side f) (out_live b N f) 0 0 B outs best;
  }

  module _ (count i m : ℕ) (B outs best : List ℕ) (c : Rising f count) (h : i < count) (o : Outs L b N f i m B outs best) where
    pub outs_few : m < 128
    outs_few = omega (arith, o.counted, of_most (out_side f) (out_live b N f) i, c.few)

    pub outs_more : {r : ℕ} {B' outs' best' : List ℕ} → SidePut L (out_live b N f i) (get_or f i 0) m i B outs best r B' outs' best'
        → Outs L b N f (i + 1) r B' outs' best'
    outs_more {r} {B'} {outs'} {best'} u = record {
      room = put-room L (out_live b N f i) (get_or f i 0) m i B outs best r B' outs' best' o.room outs_few few u;
      counted = u.counted ∙ omega (arith, o.counted, of_more (out_side f) (out_live b N f) i);
      made =
          stored_more L (out_live b N f i) (get_or f i 0) m i B outs best r B' outs' best' o.room outs_few few u (out_side f) (out_live b N f) 0 i 0
          (i + 1) 0 refl refl
          (omega arith) (omega arith) (omega arith, omega arith) (λ j x y e. (omega arith, omega arith)) (λ j x y. (c.up j i y h, λ e. omega arith)) o.made;
    }
      where
        few : i < 128
        few = omega (arith, c.few)

-- ## Image k inside

module _ (L k N : ℕ) (f : List ℕ) (count low : ℕ) (B₀ best₀ : List ℕ) where
  pub ins_none : (ins : List ℕ) → Room B₀ ins best₀ → Ins L k N f count count low low B₀ best₀ B₀ ins best₀
  ins_none ins r = record { room = r; counted = refl; made = stored_none L (in_side k f) (in_live N f) count low B₀ ins best₀; same = same_none low B₀ best₀ }

  module _ (i m : ℕ) (B ins best : List ℕ) (g : 1 ≤ k) (c : Rowed k f count) (h : i < count) (fits : low + stored_of (in_side k f) (in_live N f) count < 128)
      (o : Ins L k N f (i + 1) count low m B₀ best₀ B ins best) where
    pub ins_few : m < 128
    ins_few = omega (arith, o.counted)

    pub ins_some : 0 < in_side k f i
    ins_some = rest_some k (get_or f i 0) (c.far i h) g

    pub ins_more : {r s : ℕ} {live : Bool} {B' ins' best' : List ℕ} → s ≡ in_side k f i → live ≡ in_live N f i → SidePut L live s m i B ins best r B' ins' best'
        → Ins L k N f i count low r B₀ best₀ B' ins' best'
    ins_more {r} {s} {live} {B'} {ins'} {best'} es el u = record {
      room = put-room L live s m i B ins best r B' ins' best' o.room ins_few few u;
      counted = omega (arith, u.counted ∙ ap₂ (λ l x. m + one_if (is_stored l x)) el es, o.counted, of_more (in_side k f) (in_live N f) i);
      made = stored_more L live s m i B ins best r B' ins' best' o.room ins_few few u (in_side k f) (in_live N f) (i + 1) count i count low (sym es) (sym el)
          (omega arith) (omega arith) (omega arith, h) (λ j x y e. (omega arith, y)) (λ j x y. (rw es (less j x y), λ e. omega arith)) o.made;
      same = record {
        sides = λ j l. (put_same L live s m i B ins best r B' ins' best' o.room ins_few few u).sides j (omega (arith, o.made.order)) ∙ o.same.sides j l;
        values =
            λ j l. (put_same L live s m i B ins best r B' ins' best' o.room ins_few few u).values j (omega (arith, o.made.order)) ∙ o.same.values j l;
      };
    }
      where
        few : i < 128
        few = omega (arith, c.rising.few)

        less : (j : ℕ) → i + 1 ≤ j → j < count → in_side k f j < in_side k f i
        less j x y = omega (arith, c.rising.up i j (omega arith) y, (c.far j y).fits, (c.far i h).fits)
