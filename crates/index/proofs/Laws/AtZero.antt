-- What the sign of the index says, by the index with two limits added. Assumes nothing.
use Rattle.std.specs.Prelude.{false, true, ◌⊎◌, ◌≡◌, ℕ, ◌*◌, ◌+◌, ◌-◌, ◌<◌, ◌≤◌, neg_ℤ, pos, ◌-ℤ◌, ◌<ℤ◌, ◌≤ℤ◌}
use Rattle.std.proofs.lemmas.Bool.{false≢true}
use mathlib.Core.List.{Memᴰ}
use Rattle.std.proofs.Common.{inl, inr, ap, sym, ◌∙◌, arith}
use Rattle.ground.specs.Bits.{bit}
use Rattle.ground.specs.Laws.Maps.{mem-map}
use Rattle.ground.proofs.Laws.Signed.{below_zero, le_signed, lt_signed, same_signed}
use Rattle.ground.specs.Signed.{clip}
use Rattle.theory.specs.Choices.{Against, Choice, Supports, across, inside}
use Rattle.theory.specs.FarSides.{FarSide, inner}
use Rattle.theory.specs.Index.{clipped, index, shifted}
use Rattle.theory.proofs.Laws.OneTree.{drawn_cases, fars-drawn, index-drawn, own-drawn, rows-mem}
use Rattle.theory.proofs.Laws.SignedIndex.{clipped-index, far-shifted}
use Rattle.theory.proofs.Laws.Stable.{measured-cost}
use Rattle.theory.specs.LinkTables.{fars}
use Rattle.theory.specs.Readings.{drawn, measured, row}
use Rattle.theory.specs.Tables.{WellFormed}
use Rattle.index.specs.AtZero.{AtZero, MostAgainst}
use Rattle.index.proofs.Laws.Value.{balance, least_gain}
use Rattle.index.proofs.Laws.Value.{some-gain}

module _ (L : ℕ) (d : ℕ → ℕ → ℕ) (n : ℕ) (c : WellFormed L d n) (S : ℕ) (f : FarSide n S) where
  -- the index with two limits added
  abbrev raised : ℕ
  raised = shifted L d n (bit S)

  signed : index d n (bit S) ≡ pos raised -ℤ pos (2 * L)
  signed = far-shifted L d n c S f

  minus : (m : ℕ) → index d n (bit S) ≡ neg_ℤ (pos m) → raised + m ≡ 2 * L
  minus m e = omega (arith, (same_signed raised (2 * L) 0 m).0 (sym signed ∙ e ∙ below_zero m))

  all_support : pos 0 <ℤ index d n (bit S) → (q : Choice n (bit S)) → Supports d q
  all_support h q = omega (arith, (lt_signed 0 0 raised (2 * L)).0 (rw signed at h), least_gain L d q, balance L d q c)

  supported : ((q : Choice n (bit S)) → Supports d q) → pos 0 <ℤ index d n (bit S)
  supported h =
      let s = some-gain L d n c S f in rw signed ((lt_signed 0 0 raised (2 * L)).1 (omega (arith, s.1, balance L d s.0 c, h s.0)))

  some_against : index d n (bit S) <ℤ pos 0 → (m : ℕ) × (0 < m) × (q : Choice n (bit S)) × Against d q m
  some_against h =
      let s = some-gain L d n c S f in
      let l = (lt_signed raised (2 * L) 0 0).0 (rw signed at h) in
      let less : across d s.0 < inside d s.0 = omega (arith, s.1, balance L d s.0 c) in
      (inside d s.0 - across d s.0, omega arith, s.0, omega arith)

  spoken : (m : ℕ) → 0 < m → (q : Choice n (bit S)) → Against d q m → index d n (bit S) <ℤ pos 0
  spoken m h q e = rw signed ((lt_signed raised (2 * L) 0 0).1 (omega (arith, least_gain L d q, balance L d q c)))

  by_so_much : (m : ℕ) → index d n (bit S) ≡ neg_ℤ (pos m) → MostAgainst d n S m
  by_so_much m e =
      let s = some-gain L d n c S f in
      let r = minus m e in
      record {
        choice = (s.0, omega (arith, s.1, balance L d s.0 c));
        most = λ q k g. omega (arith, least_gain L d q, balance L d q c);
      }

  just_so_much : (m : ℕ) → MostAgainst d n S m → index d n (bit S) ≡ neg_ℤ (pos m)
  just_so_much m g =
      let s = some-gain L d n c S f in
      let q = g.choice.0 in
      let low : raised + m ≤ 2 * L = omega (arith, g.choice.1, least_gain L d q, balance L d q c) in
      let up = g.most s.0 (2 * L - raised) (omega (arith, s.1, balance L d s.0 c)) in
      signed ∙ (same_signed raised (2 * L) 0 m).1 (omega arith) ∙ sym (below_zero m)

  none : index d n (bit S) ≤ℤ pos 0 → clipped L d n (bit S) ≡ 0
  none h = omega (arith, (le_signed raised (2 * L) 0 0).0 (rw signed at h))

  -- the row of a link that is drawn, with this cost
  stands : (m : ℕ) → clipped L d n (bit S) ≡ m → drawn L d n S ≡ true → Memᴰ (S, m) (measured L d n)
  stands m e t = rw e at (mem-map (row L d n) (rows-mem L d n c S f t))

  drawn-above : (m : ℕ) → 0 < m → index d n (bit S) ≡ pos m → Memᴰ (S, m) (measured L d n)
  drawn-above m h e =
      let k : clipped L d n (bit S) ≡ m = clipped-index L d n c S f ∙ ap clip e in stands m k (index-drawn L d n S (omega arith))

  not_drawn : index d n (bit S) ≤ℤ pos 0 → inner n S ≡ true → Memᴰ S (fars (measured L d n)) → ⊥
  not_drawn h i m = go (drawn_cases L d n S (fars-drawn L d n c S m))
    where
      go : (inner n S ≡ false) ⊎ (0 < clipped L d n (bit S)) → ⊥
      go (inl o) = false≢true (sym o ∙ i)
      go (inr k) = omega (arith, none h)

  pub at_zero : AtZero L d n S (index d n (bit S))
  at_zero = record {
    above = (all_support, supported);
    below = (some_against, λ s. spoken s.0 s.1 s.2 s.3);
    against = λ m. (by_so_much m, just_so_much m);
    drawn = drawn-above;
    inner_none = not_drawn;
    own_zero = λ h o. stands 0 (none h) (own-drawn L d n S o);
    clipped = measured-cost L d n S f ∙ clipped-index L d n c S f;
  }
