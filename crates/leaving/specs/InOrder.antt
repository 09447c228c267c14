-- The checks of the replay by their numbers, each with the number of the event that it is about: 0 for the start. Assumes nothing.
use Rattle.std.specs.Prelude.{List, [], ◌++◌, ◌∷◌, refl, ◌≡◌, suc, ℕ, ◌-◌, length, Ok, Err}
use Rattle.std.proofs.Common.{ap, ◌∙◌, arith}
use Rattle.ground.specs.InOrder.{Decides, InOrder, Own}
use Rattle.ground.specs.Laws.Filters.{each_nil}
use Rattle.ground.specs.Laws.InOrder.{decides_next, join-order, refuse_order}
use Rattle.ground.specs.Ranges.{from, gather}
use Rattle.ground.specs.Refusals.{if_passed, outside, refusal, Check}
use Rattle.ground.specs.Steps.{Step, about, numbers_of, of_table, ◌by◌}
use Rattle.ground.specs.declared.Refusal.{Refusal}
use Rattle.theory.specs.Checks.{image_check, images_check}
use Rattle.theory.specs.Laws.InOrder.{images-order}
use Rattle.theory.specs.LinkTables.{Row}
use Rattle.tree.specs.Exact.{exact_rows}
use Rattle.tree.specs.InOrder.{exact_steps}
use Rattle.tree.proofs.InOrder.{exact_order}
use Rattle.tree.specs.Readings.{exact_check}
use Rattle.mending.specs.Leaving.{mend}
use Rattle.leaving.specs.Laws.Replay.{numbered_on, replay_goes, replay_none, replay_stops}
use Rattle.leaving.specs.Outcome.{outcome, replay_outcome}
use Rattle.events.specs.Checks.{event_check}
use Rattle.leaving.specs.Replay.{Standing, replay}

-- 8, 1 of one event
abbrev pub event_steps : ℕ → ℕ → List Step
event_steps n e = 8 by image_check n e ∷ 1 by images_check (n - 1) ∷ []

event_order : (n e : ℕ) → InOrder (event_steps n e) (event_check n e)
event_order n e = join-order (refuse_order (outside 1 n e) (refusal 8 0 0 0 0) (omega arith)) (images-order (n - 1))

-- event by event, numbered on from k, and an image fewer with each
unfoldable pub steps_from : ℕ → ℕ → List ℕ → List Step
steps_from k n [] = []
steps_from k n (e ∷ es) = about k (event_steps n e) ++ steps_from (suc k) (n - 1) es

-- the exact reading's for the start, then event by event
abbrev pub replay_steps : ℕ → ℕ → List ℕ → List ℕ → ℕ → ℕ → List Step
replay_steps L n t es f v = about 0 (exact_steps L n t f v) ++ steps_from 1 n es

-- ## They decide how the replay ends

-- the event at which it was refused, and the refusal
abbrev pub Stop : Type 0
Stop = ℕ × Check

abbrev pub stop_at : ℕ → Refusal → Stop
stop_at k r = (k, Err r)

from_decides : (k n : ℕ) (T : List Row) (es : List ℕ) → Decides stop_at (steps_from k n es) (0, (Ok tt)) ((replay k n T es).event, (replay k n T es).stop)
unfolding steps_from
from_decides k n T [] = rw (replay_none k n T) (record { same = refl; own = each_nil Own })
from_decides k n T (e ∷ es) =
    let d = decides_next stop_at k (event_order n e) (from_decides (suc k) (n - 1) (mend (n - 1) (e - 1) T) es) in
    record { same = go (event_check n e) refl ∙ d.same; own = d.own }
  where
    next : Standing
    next = replay (suc k) (n - 1) (mend (n - 1) (e - 1) T) es

    go : (c : Check) → event_check n e ≡ c
        → ((replay k n T (e ∷ es)).event, (replay k n T (e ∷ es)).stop) ≡ if_passed (stop_at k) (event_check n e) (next.event, next.stop)
    go (Ok tt) q = rw (replay_goes k n T e es q, q) refl
    go (Err r) q = rw (replay_stops k n T e es r q, q) refl

pub replay_decides : (L n : ℕ) (t es f v : List ℕ)
    → let a = (replay_outcome L n t es f v).answer in Decides stop_at (replay_steps L n t es (length f) (length v)) (0, (Ok tt)) (a.event, a.stop)
replay_decides L n t es f v =
    let d = decides_next stop_at 0 (exact_order L n t (length f) (length v)) (from_decides 1 n (exact_rows L n t) es) in
    record { same = go (exact_check L n t (length f) (length v)) ∙ d.same; own = d.own }
  where
    p : Standing
    p = replay 1 n (exact_rows L n t) es

    go : (c : Check) → ((outcome c p f v).answer.event, (outcome c p f v).answer.stop) ≡ if_passed (stop_at 0) c (p.event, p.stop)
    go (Ok tt) = refl
    go (Err r) = refl

-- ## A refused start, which alone has event 0, leaves the lent slices as they were

pub start_unaltered : (L n : ℕ) (t es f v : List ℕ) (q : Refusal) → let o = replay_outcome L n t es f v in
    o.answer.stop ≡ Err q → o.answer.event ≡ 0 → (o.far_list ≡ f) × (o.cost_list ≡ v)
start_unaltered L n t es f v q = go (exact_check L n t (length f) (length v))
  where
    p : Standing
    p = replay 1 n (exact_rows L n t) es

    go : (c : Check) → (outcome c p f v).answer.stop ≡ Err q → (outcome c p f v).answer.event ≡ 0
        → ((outcome c p f v).far_list ≡ f) × ((outcome c p f v).cost_list ≡ v)
    go (Err r) a b = (refl, refl)
    go (Ok tt) a b = absurd (omega (arith, numbered_on 1 n (exact_rows L n t) es q a))

-- ## The numbers

abbrev pub event_numbers : ℕ → List (ℕ × ℕ)
event_numbers k = of_table k (8 ∷ 1 ∷ [])

from-numbers : (k n : ℕ) (es : List ℕ) → numbers_of (steps_from k n es) ≡ gather (from k (length es)) event_numbers
unfolding steps_from
from-numbers k n [] = refl
from-numbers k n (e ∷ es) = ap (λ (z : List (ℕ × ℕ)). event_numbers k ++ z) (from-numbers (suc k) (n - 1) es)

-- 1, 2, 3, 4, 5, 6, 20, 7 with number 0, then 8, 1 event by event
pub replay-numbers : (L n : ℕ) (t es : List ℕ) (f v : ℕ)
    → numbers_of (replay_steps L n t es f v) ≡ of_table 0 (1 ∷ 2 ∷ 3 ∷ 4 ∷ 5 ∷ 6 ∷ 20 ∷ 7 ∷ []) ++ gather (from 1 (length es)) event_numbers
replay-numbers L n t es f v = ap (λ (z : List (ℕ × ℕ)). of_table 0 (1 ∷ 2 ∷ 3 ∷ 4 ∷ 5 ∷ 6 ∷ 20 ∷ 7 ∷ []) ++ z) (from-numbers 1 n es)
