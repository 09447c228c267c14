-- Table after table, as the loop reads them: where it begins, and where the bytes end or 500 were read. Assumes nothing.
use mathlib.Core.List.Memᴰ
use mathlib.Core.List.{List, [], ◌∷◌}
use Rattle.std.proofs.Common.{inl, inr, ◌∙◌, arith, drop_of_length-le}
use Rattle.std.specs.Prelude.{◌⊎◌, ◌≡◌, drop, Ok}
use Rattle.std.proofs.Math.Path.{ap, refl}
use Prim.Native.Nat.{suc, zero, ℕ, ◌-◌, ◌<◌, ◌≤◌}
use Rattle.std.proofs.Math.ListN.{length}
use Rattle.theory.specs.Tables.{limit}
use Rattle.seen.specs.Columns.{Room, Stored}
use Rattle.seen.specs.Laws.Columns.{stored_again_lem}
use Rattle.seen.specs.Seen.{entries, seen}
use Rattle.figures.specs.Figures.{counts, entries_at, figures_of, no_figures, sides_at}
use Rattle.report.specs.Outcome.{LeftReport, outcome}
use Rattle.report.specs.Turning.{Paused}
use Rattle.figures.specs.Checks.{most_sides, most_tables}
use Rattle.figures.specs.Reading.{ended, read_all, read_on}
use Rattle.counting.specs.Standing.{Stands}
use Rattle.figures.specs.Tables.{Table, trees}
use Rattle.counting.specs.declared.Standing.{Standing}

-- k tables were read; what is left of the reading is the same, and their entries stand in the slices, which were f, t, s
pub record Running (bytes f t s : List ℕ) (k : ℕ) (here : Standing) (f' t' s' : List ℕ) : Type 0 where
  pub read : List Table
  pub stands : Stands limit read here
  pub stored : Stored (entries_at limit read) here.figures.sides f t s f' t' s'
  pub counted : length read ≡ k
  pub within : here.figures.used ≤ length bytes
  pub far_same : length f' ≡ length f
  pub tree_same : length t' ≡ length t
  pub sum_same : length s' ≡ length s
  pub same : read_all limit bytes ≡ read_on limit (most_tables - k) read (drop here.figures.used bytes)

-- no table was read: all figures are 0
pub no_figures_lem : no_figures ≡ figures_of limit []
unfolding sides_at counts trees seen
no_figures_lem = refl

pub running_none : (bytes f t s last : List ℕ) → length last ≡ 128
    → Running bytes f t s 0 (record { figures = no_figures; rows = 0; last = last }) f t s
unfolding sides_at entries_at trees seen entries
running_none bytes f t s last e = record {
  read = [];
  stands = record {
    sound = record { one = λ t m. absurd (Memᴰ.not-nil m); formed = λ t m. absurd (Memᴰ.not-nil m); kept = omega arith };
    figures = no_figures_lem;
    last_room = e;
    few = omega arith;
    last_sides = refl;
  };
  stored = record { counted = refl; sides = refl; trees = refl; sums = refl };
  counted = refl;
  within = omega arith;
  far_same = refl;
  tree_same = refl;
  sum_same = refl;
  same = refl;
}

module _ (bytes f t s : List ℕ) (room : Room most_sides f t s) (k : ℕ) (here : Standing) (f' t' s' : List ℕ) (r : Running bytes f t s k here f' t' s') where
  few : here.figures.sides ≤ most_sides
  few = rw r.stands.figures r.stands.sound.kept

  -- there is room for what is kept
  pub held : Room (length (entries_at limit r.read)) f t s
  held =
      let c = r.stored.counted in
      record { sides = omega (arith, few, room.sides); trees = omega (arith, few, room.trees); sums = omega (arith, few, room.sums) }

  pub running_paused : k < most_tables → Paused r.read bytes here f' t' s'
  running_paused h = record {
    stands = r.stands;
    holds = record {
      room = record {
        sides = omega (arith, room.sides, r.far_same);
        trees = omega (arith, room.trees, r.tree_same);
        sums = omega (arith, room.sums, r.sum_same);
      };
      stored = stored_again_lem _ _ f t s f' t' s' held r.stored;
    };
    below = omega (arith, r.counted);
    within = r.within;
  }

  -- it ends: no bytes are left, or 500 tables were read
  ends : (m : ℕ) (b : List ℕ) → (m ≡ 0) ⊎ (b ≡ []) → read_on limit m r.read b ≡ ended r.read (Ok tt)
  unfolding read_on
  ends zero b h = refl
  ends (suc m) [] h = refl
  ends (suc m) (x ∷ b) (inl e) = absurd (omega arith)
  ends (suc m) (x ∷ b) (inr e) = absurd (let z : suc (length b) ≡ 0 = ap length e in omega arith)

  passed : read_all limit bytes ≡ ended r.read (Ok tt)
      → LeftReport (outcome limit (Ok tt) (read_all limit bytes) f t s) (record { figures = here.figures; table = 0; stop = (Ok tt) }) f' t' s'
  passed e = rw e (record {
    answered = rw r.stands.figures refl;
    far-sides = r.stored.sides;
    tree_numbers = r.stored.trees;
    cost_sums = r.stored.sums;
  })

  pub running_bytes : length bytes ≤ here.figures.used
      → LeftReport (outcome limit (Ok tt) (read_all limit bytes) f t s) (record { figures = here.figures; table = 0; stop = (Ok tt) }) f' t' s'
  running_bytes h = passed (r.same ∙ ends (most_tables - k) (drop here.figures.used bytes) (inr (drop_of_length-le bytes {i = here.figures.used} h)))

  pub running_full : most_tables ≤ k
      → LeftReport (outcome limit (Ok tt) (read_all limit bytes) f t s) (record { figures = here.figures; table = 0; stop = (Ok tt) }) f' t' s'
  running_full h = passed (r.same ∙ ends (most_tables - k) (drop here.figures.used bytes) (inl (omega arith)))
