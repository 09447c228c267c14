-- Every prefix of the events: two calls with the same start and the same lent slices. The call with the events `begun` answered a and left g
-- and w; the call with those and `more` answered b and left f' and v'. Assumes nothing.
use Rattle.ground.specs.Refusals.{Check}
use Rattle.std.specs.Prelude.{List, ◌++◌, refl, ◌≡◌, ℕ, ◌+◌, length, Ok, Err}
use Rattle.std.proofs.Common.{ap, sym, ◌∙◌, arith}
use Rattle.ground.specs.declared.Refusal.{Refusal}
use Rattle.theory.specs.LinkTables.{Row}
use Rattle.theory.specs.Outcomes.{LeftRows}
use Rattle.theory.specs.Tables.{limit}
use Rattle.tree.specs.Exact.{exact_rows}
use Rattle.tree.proofs.Laws.Writing.{written_stand}
use Rattle.tree.specs.Readings.{exact_check}
use Rattle.tree.specs.Writing.{rows_left}
use Rattle.leaving.specs.declared.Replayed.{Replayed}
use Rattle.leaving.specs.Laws.Replay.{replay-ended, replay_on}
use Rattle.leaving.specs.Outcome.{outcome, replay_outcome}
use Rattle.leaving.specs.Promises.{standing}
use Rattle.leaving.specs.Replay.{Standing, replay}

module _ (n : ℕ) (t begun more f v : List ℕ) (a b : Replayed) (g w f' v' : List ℕ)
    (l : LeftRows (replay_outcome limit n t begun f v) a g w) (m : LeftRows (replay_outcome limit n t (begun ++ more) f v) b f' v') where
  -- it was refused: the events behind are not looked at
  pub ended_there : (q : Refusal) → a.stop ≡ Err q → (b ≡ a) × (f' ≡ g) × (v' ≡ w)
  ended_there q s = go (exact_check limit n t (length f) (length v)) refl
    where
      go : (c : Check) → exact_check limit n t (length f) (length v) ≡ c → (b ≡ a) × (f' ≡ g) × (v' ≡ w)
      go (Err u) e =
          let x = rw e at l in
          let y = rw e at m in
          (y.answered ∙ sym x.answered, y.far-sides ∙ sym x.far-sides, y.doubled ∙ sym x.doubled)
      go (Ok tt) e =
          let x = rw e at l in
          let y = rw e at m in
          let z = replay-ended 1 n (exact_rows limit n t) begun more q (sym (ap (λ (i : Replayed). i.stop) x.answered) ∙ s) in
          let u = rw z at y in
          (u.answered ∙ sym x.answered, u.far-sides ∙ sym x.far-sides, u.doubled ∙ sym x.doubled)

  -- it was not: the replay goes on from the rows that it left
  pub goes_on : a.stop ≡ Ok tt → standing b f' v' ≡ replay (1 + length begun) a.images (rows_left a.rows g w) more
  goes_on s = go (exact_check limit n t (length f) (length v)) refl
    where
      stands : (p : Standing) → rows_left (length p.rows) (outcome (Ok tt) p f v).far_list (outcome (Ok tt) p f v).cost_list ≡ p.rows
      stands p = (written_stand p.rows (length p.rows) f v _ _ (record { counted = refl; far-front = refl; cost-front = refl })).rows

      go : (c : Check) → exact_check limit n t (length f) (length v) ≡ c → standing b f' v' ≡ replay (1 + length begun) a.images (rows_left a.rows g w) more
      go (Err u) e =
          let x = rw e at l.answered in
          let z : Err u ≡ (Ok tt) = sym (ap (λ (i : Replayed). i.stop) x) ∙ s in
          absurd (let y : ◌≡◌ {A = ℕ} 0 1 = cc in omega arith)
      go (Ok tt) e =
          let x = rw e at l in
          let y = rw e at m in
          let p = replay 1 n (exact_rows limit n t) begun in
          let o = replay 1 n (exact_rows limit n t) (begun ++ more) in
          let z = replay_on 1 n (exact_rows limit n t) begun more (sym (ap (λ (i : Replayed). i.stop) x.answered) ∙ s) in
          rw (x.answered, x.far-sides, x.doubled, y.answered, y.far-sides, y.doubled)
          (ap (λ (T : List Row). record { images = o.images; rows = T; event = o.event; stop = o.stop }) (stands o) ∙ z
          ∙ ap (λ (T : List Row). replay (1 + length begun) p.images T more) (sym (stands p)))
