-- The events one after another, as the loop takes them: what is left of the replay from here is the whole replay. Assumes nothing.
use Rattle.ground.specs.Refusals.{Check}
use Rattle.std.specs.Prelude.{List, ◌∷◌, refl, ◌≡◌, suc, ℕ, ◌+◌, ◌-◌, ◌<◌, ◌≤◌, drop, get_or, length, Ok, Err}
use Rattle.std.proofs.Common.{ap, sym, ◌∙◌, arith, drop_of_length-le, drop-cons}
use Rattle.ground.specs.declared.Refusal.{Refusal}
use Rattle.theory.specs.LinkTables.{Row}
use Rattle.theory.specs.Tables.{limit}
use Rattle.tree.specs.LocalRows.{rows_in}
use Rattle.mending.specs.Leaving.{mend}
use Rattle.mending.specs.Mending.{Kept}
use Rattle.events.proofs.Laws.{event_passed}
use Rattle.leaving.specs.Laws.Replay.{replay_goes, replay_none, replay_stops}
use Rattle.leaving.specs.Laws.Sound.{sound_kept}
use Rattle.events.specs.Checks.{event_check}
use Rattle.leaving.specs.Replay.{replay}
use Rattle.leaving.specs.Standing.{SoundRows, Stands}

-- i events taken
pub record Running (n : ℕ) (T : List Row) (es : List ℕ) (images : ℕ) (f v : List ℕ) (count i : ℕ) : Type 0 where
  pub within : i ≤ length es
  pub held : SoundRows limit images f v count
  pub same : replay 1 n T es ≡ replay (i + 1) images (rows_in f v count) (drop i es)

-- the rows at the next event, and the number of images as one more than will be left
pub next-rows : (images e : ℕ) (f v : List ℕ) (count : ℕ) → SoundRows limit images f v count → event_check images e ≡ Ok tt
    → (1 ≤ e) × (3 ≤ images - 1) × (e - 1 ≤ images - 1) × (images - 1 < 64) × SoundRows limit (suc (images - 1)) f v count
next-rows images e f v count s p =
    let z = event_passed images e p in
    let b : suc (images - 1) ≡ images = omega (arith, s.sound.some) in
    (z.0, z.2, omega (arith, z.1), omega (arith, s.sound.few), rw b s)

module _ (n : ℕ) (T : List Row) (es : List ℕ) where
  pub running_none : (f v : List ℕ) (count : ℕ) → T ≡ rows_in f v count → SoundRows limit n f v count → Running n T es n f v count 0
  running_none f v count e s = record { within = omega arith; held = s; same = rw e refl }

  module _ (images : ℕ) (f v : List ℕ) (count i : ℕ) (r : Running n T es images f v count i) where
    pub running_more : (e : ℕ) (f' v' : List ℕ) (count' : ℕ) → i < length es → e ≡ get_or es i 0 → event_check images e ≡ Ok tt
        → Kept (mend (images - 1) (e - 1) (rows_in f v count)) f' v' count' → Running n T es (images - 1) f' v' count' (i + 1)
    running_more e f' v' count' h q p k =
        let z = next-rows images e f v count r.held p in
        record {
          within = omega arith;
          held = sound_kept limit (images - 1) (e - 1) f v count f' v' count' z.1 z.2 z.4 k;
          same = r.same ∙ ap (replay (i + 1) images (rows_in f v count)) (drop-cons es i 0 h) ∙ step;
        }
      where
        step : replay (i + 1) images (rows_in f v count) (get_or es i 0 ∷ drop (suc i) es)
            ≡ replay (i + 1 + 1) (images - 1) (rows_in f' v' count') (drop (i + 1) es)
        step =
            let a : i + 1 ≡ suc i = omega arith in
            let c : i + 1 + 1 ≡ suc (suc i) = omega arith in
            rw (← q, k.is, c, a) (replay_goes (suc i) images (rows_in f v count) e (drop (suc i) es) p)

    pub running_stops : (e : ℕ) (y : Check) (u : Refusal) → i < length es → e ≡ get_or es i 0 → y ≡ Err u → y ≡ event_check images e
        → Stands (replay 1 n T es) (record { images = images; rows = count; event = i + 1; stop = y }) f v
    running_stops e y u h q p c =
        rw (r.same ∙ ap (replay (i + 1) images (rows_in f v count)) (drop-cons es i 0 h)
        ∙ ap (λ (z : ℕ). replay (i + 1) images (rows_in f v count) (z ∷ drop (suc i) es)) (sym q)
        ∙ replay_stops (i + 1) images (rows_in f v count) e (drop (suc i) es) u (sym c ∙ p))
        (record { left = refl; number = refl; refusal = p; kept = r.held.kept })

    pub running_end : length es ≤ i → Stands (replay 1 n T es) (record { images = images; rows = count; event = 0; stop = (Ok tt) }) f v
    running_end h =
        rw (r.same ∙ ap (replay (i + 1) images (rows_in f v count)) (drop_of_length-le es {i = i} h) ∙ replay_none (i + 1) images (rows_in f v count))
        (record { left = refl; number = refl; refusal = refl; kept = r.held.kept })
