-- What the promise of the replay is worth. A call is seen from outside: its answer r, and the two lent slices before, f and v, and after,
-- f' and v'. A start that is refused alters nothing; of any other the rows that stand in front are the exact reading of the cost table after
-- the events that were taken, whether the events ended or one was refused. Assumes nothing.
use Rattle.ground.specs.Refusals.{Check}
use Rattle.std.specs.Prelude.{List, ◌++◌, ◌⊎◌, refl, ◌≡◌, ℕ, ◌*◌, ◌+◌, ◌-◌, ◌≤◌, length, Ok, Err}
use Rattle.std.proofs.Common.{inl, inr, le_trans, arith}
use Rattle.ground.specs.declared.Refusal.{Refusal}
use Rattle.theory.specs.LinkTables.{Row}
use Rattle.theory.specs.Outcomes.{LeftRows}
use Rattle.theory.specs.Readings.{Exact}
use Rattle.theory.specs.Tables.{cost, limit}
use Rattle.tree.specs.Exact.{Wired, exact_rows}
use Rattle.tree.proofs.Laws.Exact.{exact_rows_lem}
use Rattle.tree.proofs.Laws.Writing.{written_stand}
use Rattle.tree.proofs.Laws.Writing.{exact_ready}
use Rattle.tree.specs.Readings.{exact_check, exact_outcome}
use Rattle.tree.specs.Writing.{Ready, rows_left}
use Rattle.leaving.specs.declared.Replayed.{Replayed}
use Rattle.leaving.specs.Laws.Anew.{only_one, passed-wired, read_anew}
use Rattle.leaving.specs.Laws.Replay.{replay-taken}
use Rattle.leaving.specs.Outcome.{outcome, replay_outcome}
use Rattle.leaving.specs.Replay.{Standing, after, replay, table_of}
use Rattle.leaving.specs.Taken.{Ended, Taken}

-- where the answer says that the replay stands
abbrev pub standing : Replayed → List ℕ → List ℕ → Standing
standing r f' v' = record { images = r.images; rows = rows_left r.rows f' v'; event = r.event; stop = r.stop }

module _ (n : ℕ) (t es f v : List ℕ) where
  -- the start was refused as the exact reading refuses it: event 0, and nothing altered
  pub record StartRefused (r : Replayed) (f' v' : List ℕ) : Type 0 where
    pub refusal : Refusal
    pub refused : exact_check limit n t (length f) (length v) ≡ Err refusal
    pub answer : r ≡ record { images = 0; rows = 0; event = 0; stop = Err refusal }
    pub far_same : f' ≡ f
    pub cost_same : v' ≡ v

  -- the start was accepted
  pub record Replays (r : Replayed) (f' v' : List ℕ) : Type 0 where
    pub ready : Ready limit n t (length f) (length v)
    pub wired : Wired limit n t
    -- these events were taken, and an image left with each of them
    pub taken : List ℕ
    pub left : List ℕ
    pub is : es ≡ taken ++ left
    pub fewer : r.images + length taken ≡ n
    pub enough : 3 ≤ r.images
    -- the rows in front are the exact reading of the cost table after them, the only one
    pub exact : Exact limit (after (cost t n) taken) r.images (rows_left r.rows f' v')
    pub only : (T : List Row) → Exact limit (after (cost t n) taken) r.images T → T ≡ rows_left r.rows f' v'
    -- so the exact reading, given that table and the same slices, would have left the same in them, the places behind the rows included
    pub anew : LeftRows (exact_outcome limit r.images (table_of r.images (after (cost t n) taken)) f v) (Ok r.rows) f' v'
    -- no event is left; or the first one that is was refused, with its number
    pub ended : Ended 1 taken left (standing r f' v')

  replays : (p : Standing) → Taken limit (cost t n) 1 n es p → Ready limit n t (length f) (length v) → Wired limit n t
      → Replays (outcome (Ok tt) p f v).answer (outcome (Ok tt) p f v).far_list (outcome (Ok tt) p f v).cost_list
  replays p k y w =
      let few : 2 * p.images - 3 ≤ 2 * n - 3 = omega (arith, k.fewer) in
      let same = (written_stand p.rows (length p.rows) f v _ _ (record { counted = refl; far-front = refl; cost-front = refl })).rows in
      let a = read_anew limit p.images (after (cost t n) k.taken) p.rows k.enough (omega (arith, k.fewer, y.table.few)) k.formed k.exact in
      record {
        ready = y;
        wired = w;
        taken = k.taken;
        left = k.left;
        is = k.is;
        fewer = k.fewer;
        enough = k.enough;
        exact = rw same k.exact;
        only = λ T e. rw same (only_one (after (cost t n) k.taken) p.images k.formed T p.rows e k.exact);
        anew = a f v (le_trans few y.far-room) (le_trans few y.cost-room);
        ended = rw same k.ended;
      }

  pub replay-left : (r : Replayed) (f' v' : List ℕ) → LeftRows (replay_outcome limit n t es f v) r f' v' → StartRefused r f' v' ⊎ Replays r f' v'
  replay-left r f' v' l = go (exact_check limit n t (length f) (length v)) refl
    where
      go : (c : Check) → exact_check limit n t (length f) (length v) ≡ c → StartRefused r f' v' ⊎ Replays r f' v'
      go (Err q) e =
          let m = rw e at l in
          inl (record { refusal = q; refused = e; answer = m.answered; far_same = m.far-sides; cost_same = m.doubled })
      go (Ok tt) e =
          let m = rw e at l in
          let y = exact_ready limit n t (length f) (length v) e in
          let w = passed-wired limit n t (length f) (length v) e in
          let x = (exact_rows_lem limit n t w (exact_rows limit n t)).1 refl in
          let k = replay-taken limit 1 n (cost t n) (exact_rows limit n t) es y.table.some y.table.formed x in
          inr (rw (m.answered, m.far-sides, m.doubled) (replays (replay 1 n (exact_rows limit n t) es) k y w))
