-- One image more, k, by what it brings to the old rows f and v: each part has room, and together they are the reading. Assumes nothing.
use Rattle.std.proofs.Common.{List, ap, arith, get_or, length, min, suc, ℕ, ◌*◌, ◌+◌, ◌-◌, ◌<◌, ◌^◌, ◌≡◌, ◌≤◌}
use Rattle.ground.specs.Filters.{filter}
use Rattle.theory.proofs.Laws.FourPoint.{well_formed_less}
use Rattle.theory.specs.LinkTables.{Row}
use Rattle.theory.specs.OneMore.{more, stays}
use Rattle.theory.specs.Readings.{measured}
use Rattle.theory.specs.Tables.{WellFormed, limit}
use Rattle.tables.specs.Entries.{costs_in}
use Rattle.tables.specs.declared.costs.Costs.{Costs}
use Rattle.brought.specs.Answers.{AllBrought}
use Rattle.brought.specs.Chosen.{Rowed}
use Rattle.lowered_rows.specs.Putting.{Given, PutAll, PutRoom, lowered_in}
use Rattle.lowered_rows.specs.Turning.{Turned}
use Rattle.growing.specs.Growing.{stayed}
use Rattle.growing.specs.Held.{RowsHeld}
use Rattle.growing.specs.Laws.Growing.{lowered-stayed}
use Rattle.growing.specs.Laws.Grown.{held_more, room-inside, room-outside, room-own}
use Rattle.growing.specs.Laws.Rowed.{held_few, held_given, held_rowed}

pub few : (t : Costs) (k : ℕ) → k < t.n → k < 64
few t k h = omega (arith, t.formed.few)

module _ (t : Costs) (k : ℕ) (g : 1 ≤ k) (l : k < t.n) (f v : List ℕ) (count : ℕ) (h : RowsHeld limit (costs_in t) k f v count) where
  formed : (m : ℕ) → m ≤ t.n → WellFormed limit (costs_in t) m
  formed m o = well_formed_less _ _ _ _ o t.formed.formed

  pub rowed : Rowed k f count
  rowed = let w = formed k (omega arith) in held_rowed _ _ _ w _ _ _ h (held_few _ _ _ g (few t k l) w _ _ _ h)

  module _ (outs ins best : List ℕ) (own : ℕ) (b : AllBrought limit (costs_in t) k f count own outs ins best) where
    -- the two lists of lowered rows
    abbrev pub low-out : List Row
    low-out = lowered_in limit 0 f v outs best count

    abbrev pub low-in : List Row
    low-in = lowered_in limit (2 ^ k) f v ins best count

    pub given-outside : length outs ≡ 128 → Given 0 f v outs best count
    given-outside o = held_given limit _ _ _ _ _ _ _ _ (few t k l) (omega arith) h rowed o b.room b.outside

    pub given-inside : length ins ≡ 128 → Given (2 ^ k) f v ins best count
    given-inside o = held_given limit _ _ _ _ _ _ _ _ (few t k l) (omega arith) h rowed o b.room b.inside

    outside : filter (stays (suc k)) low-out ≡ stayed limit (costs_in t) k 0 (measured limit (costs_in t) k)
    outside = lowered-stayed _ _ _ _ _ _ _ _ _ _ h.is b.outside

    inside : filter (stays (suc k)) low-in ≡ stayed limit (costs_in t) k (2 ^ k) (measured limit (costs_in t) k)
    inside = lowered-stayed _ _ _ _ _ _ _ _ _ _ h.is b.inside

    module _ (f₀ v₀ : List ℕ) (e : length f₀ ≡ 128) (q : length v₀ ≡ 128) where
      pub outside-fits : PutRoom k low-out 0 f₀ v₀
      outside-fits = room-outside limit _ _ g (few t k l) (formed (suc k) l) _ outside _ _ e q

      module _ (i : ℕ) (f₁ v₁ : List ℕ) (p : PutAll k low-out 0 f₀ v₀ i f₁ v₁) where
        pub own-fits : (i < length f₁) × (i < length v₁)
        own-fits = room-own limit _ _ g (few t k l) (formed (suc k) l) _ outside _ _ e q _ _ _ p

        module _ (j : ℕ) (f₂ v₂ : List ℕ) (o : Turned k (2 ^ k) (min (2 * limit) (get_or best own 0 - 2 * limit)) i f₁ v₁ j f₂ v₂) where
          cost : min (2 * limit) (get_or best own 0 - 2 * limit) ≡ (more limit (costs_in t) k (2 ^ k) (2 * limit)).1
          cost = ap (λ m. min (2 * limit) (m - 2 * limit)) b.own

          pub inside-fits : PutRoom k low-in j f₂ v₂
          inside-fits = room-inside limit _ _ g (few t k l) (formed (suc k) l) _ outside _ _ e q _ _ _ p _ _ _ _ cost o _ inside

          pub all-held : (r : ℕ) (f₃ v₃ : List ℕ) → PutAll k low-in j f₂ v₂ r f₃ v₃ → RowsHeld limit (costs_in t) (k + 1) f₃ v₃ r
          all-held r f₃ v₃ s = held_more limit _ _ g (few t k l) (formed (suc k) l) _ outside _ _ e q _ _ _ p _ _ _ _ cost o _ inside _ _ _ s
