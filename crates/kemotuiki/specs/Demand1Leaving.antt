-- Demand 1 for the replay, said as in Demand1.antt, and its exception: document 02 lets a replay whose event is refused write the table before
-- that event. The number of the event stands where other calls have a table's, 0 for the start. Assumes nothing.
use Rattle.ground.specs.Refusals.{Check}
use Rattle.std.specs.Prelude.{List, [], ◌++◌, ◌∷◌, refl, ◌≡◌, ℕ, length, Ok, Err}
use Rattle.std.proofs.Common.{ap, sym, ◌∙◌}
use Rattle.ground.specs.Ranges.{from, gather}
use Rattle.ground.specs.Steps.{of_table}
use Rattle.theory.specs.Outcomes.{LeftRows}
use Rattle.theory.specs.Tables.{limit}
use Rattle.leaving.specs.InOrder.{Stop, event_numbers, replay_decides, replay-numbers, replay_steps, stop_at}
use Rattle.leaving.specs.Outcome.{replay_outcome}
use Rattle.numbers.specs.Replays.{of_check, of_replayed}
use Rattle.numbers.specs.declared.KemotuikiHead.{KemotuikiHead}
use Rattle.numbers.specs.declared.KemotuikiReplay.{KemotuikiReplay}
use Rattle.kemotuiki.specs.Crossing.{crossed_rows}
use Rattle.kemotuiki.specs.Laws.Refusals.{refusals}
use Rattle.kemotuiki.specs.Refusals.{Refusals}
use Rattle.leaving.specs.InOrder as leaving

-- a head with the event's number where a table's would stand
abbrev pub at_event : ℕ → KemotuikiHead → KemotuikiHead
at_event k h = record { number = h.number; table = k; a = h.a; b = h.b; c = h.c; d = h.d }

module _ (n : ℕ) (t es f v f' v' : List ℕ) (r : KemotuikiReplay) (p : LeftRows (crossed_rows of_replayed (replay_outcome limit n t es f v)) r f' v') where
  -- the exact reading's for the start, then 8 and 1 for each event in turn; the buffers are left out, since a refused event lets them be written
  pub replay : Refusals (of_table 0 (1 ∷ 2 ∷ 3 ∷ 4 ∷ 5 ∷ 6 ∷ 20 ∷ 7 ∷ []) ++ gather (from 1 (length es)) event_numbers)
      (replay_steps limit n t es (length f) (length v)) (at_event r.event r.head) [] []
  replay =
      refusals (λ h. h) head_of stop_at (λ k q. refl) (replay-numbers limit n t es (length f) (length v)) refl (replay_decides limit n t es f v)
      (ap (λ (x : KemotuikiReplay). at_event x.event x.head) p.answered) (λ s q e. refl)
    where
      head_of : Stop → KemotuikiHead
      head_of s = at_event s.0 (of_check s.1)

  -- but a refused start alters nothing
  pub start_unaltered : (r.head.number ≡ 0 → ⊥) → r.event ≡ 0 → (f' ≡ f) × (v' ≡ v)
  start_unaltered h z = go (replay_outcome limit n t es f v).answer.stop refl
    where
      go : (c : Check) → (replay_outcome limit n t es f v).answer.stop ≡ c → (f' ≡ f) × (v' ≡ v)
      go (Ok tt) e = absurd (h (ap (λ (x : KemotuikiReplay). x.head.number) p.answered ∙ ap (λ c. (of_check c).number) e))
      go (Err q) e =
          let u = leaving.start_unaltered limit n t es f v q e (sym (ap (λ (x : KemotuikiReplay). x.event) p.answered) ∙ z) in
          (p.far-sides ∙ u.0, p.doubled ∙ u.1)
