-- After every event of a replay the rows are the exact reading of the cost table that is left. Assumes nothing.
use Rattle.ground.specs.Refusals.{Check}
use Rattle.std.specs.Prelude.{List, [], ◌++◌, ◌∷◌, refl, ◌≡◌, suc, zero, ℕ, ◌+◌, ◌-◌, ◌<◌, ◌≤◌, length, Ok, Err}
use Rattle.std.proofs.Math.Path.{ap}
use Rattle.std.proofs.Common.{sym, ◌∙◌, arith}
use Rattle.ground.specs.declared.Refusal.{Refusal}
use Rattle.mending.proofs.Laws.Mended.{leave_formed, mended_exact}
use Rattle.mending.specs.Leaving.{leave, mend}
use Rattle.theory.specs.LinkTables.{Row}
use Rattle.theory.specs.Readings.{Exact}
use Rattle.events.specs.Checks.{event_check}
use Rattle.events.proofs.Laws.{event_passed}
use Rattle.leaving.specs.Replay.{Standing, after, replay}
use Rattle.leaving.specs.Taken.{Ended, Taken, all, at}
use Rattle.theory.specs.Tables.{WellFormed}

-- ## One event

mend_any : (L n x : ℕ) (d : ℕ → ℕ → ℕ) (T : List Row) → 3 ≤ n - 1 → x < n → WellFormed L d n → Exact L d n T
    → WellFormed L (leave x d) (n - 1) × Exact L (leave x d) (n - 1) (mend (n - 1) x T)
mend_any L zero x d T h l c t = absurd (omega arith)
mend_any L (suc zero) x d T h l c t = absurd (omega arith)
mend_any L (suc (suc zero)) x d T h l c t = absurd (omega arith)
mend_any L (suc (suc (suc k))) x d T h l c t =
    let e : suc (suc (suc k)) - 1 ≡ suc (suc k) = omega arith in
    rw e (leave_formed L d (suc (suc k)) x c, mended_exact L k x l T t.tree d c t.meets)

-- ## All events

module _ (L k n : ℕ) (d : ℕ → ℕ → ℕ) (T : List Row) where
  taken_none : (es : List ℕ) (p : Standing) → p.images ≡ n → p.rows ≡ T → 3 ≤ n → WellFormed L d n → Exact L d n T → Ended k [] es p → Taken L d k n es p
  unfolding after
  taken_none es p a b h c t q = record {
    taken = [];
    left = es;
    is = refl;
    fewer = omega arith;
    enough = omega arith;
    formed = rw a c;
    exact = rw (a, b) t;
    ended = q;
  }

  taken_more : (e : ℕ) (es : List ℕ) (p : Standing) → 3 ≤ n - 1 → Taken L (leave (e - 1) d) (suc k) (n - 1) es p → Taken L d k n (e ∷ es) p
  unfolding after
  taken_more e es p h q = record {
    taken = e ∷ q.taken;
    left = q.left;
    is = ap (λ z. e ∷ z) q.is;
    fewer = omega (arith, q.fewer);
    enough = q.enough;
    formed = q.formed;
    exact = q.exact;
    ended = go q.ended;
  }
    where
      go : Ended (suc k) q.taken q.left p → Ended k (e ∷ q.taken) q.left p
      go (all a b c) = all a b c
      go (at f fs r a b c z) = at f fs r a b c (omega (arith, z))

-- the replay behind an event that passed
abbrev onward : ℕ → ℕ → List Row → ℕ → List ℕ → Standing
onward k n T e es = replay (suc k) (n - 1) (mend (n - 1) (e - 1) T) es

pub replay_none : (k n : ℕ) (T : List Row) → replay k n T [] ≡ record { images = n; rows = T; event = 0; stop = (Ok tt) }
unfolding replay
replay_none k n T = refl

pub replay_stops : (k n : ℕ) (T : List Row) (e : ℕ) (es : List ℕ) (r : Refusal) → event_check n e ≡ Err r
    → replay k n T (e ∷ es) ≡ record { images = n; rows = T; event = k; stop = Err r }
unfolding replay
replay_stops k n T e es r q = rw q

pub replay_goes : (k n : ℕ) (T : List Row) (e : ℕ) (es : List ℕ) → event_check n e ≡ Ok tt → replay k n T (e ∷ es) ≡ onward k n T e es
unfolding replay
replay_goes k n T e es q = rw q

pub replay-taken : (L k n : ℕ) (d : ℕ → ℕ → ℕ) (T : List Row) (es : List ℕ) → 3 ≤ n → WellFormed L d n → Exact L d n T → Taken L d k n es (replay k n T es)
replay-taken L k n d T [] h c t = rw (replay_none k n T) (taken_none L k n d T [] _ refl refl h c t (all refl refl refl))
replay-taken L k n d T (e ∷ es) h c t =
    go (event_check n e) refl (λ q.
    let p = event_passed n e q in
    let m = mend_any L n (e - 1) d T p.2 (omega (arith, p.0, p.1)) c t in
    replay-taken L (suc k) (n - 1) (leave (e - 1) d) (mend (n - 1) (e - 1) T) es p.2 m.0 m.1)
  where
    go : (y : Check) → event_check n e ≡ y → (event_check n e ≡ Ok tt → Taken L (leave (e - 1) d) (suc k) (n - 1) es (onward k n T e es))
        → Taken L d k n (e ∷ es) (replay k n T (e ∷ es))
    go (Ok tt) q ih = rw (replay_goes k n T e es q) (taken_more L k n d T e es _ (event_passed n e q).2 (ih q))
    go (Err r) q ih = rw (replay_stops k n T e es r q) (taken_none L k n d T (e ∷ es) _ refl refl h c t (at e es r refl q refl (omega arith)))

-- a refusal has the number of an event, from k on
pub numbered_on : (k n : ℕ) (T : List Row) (es : List ℕ) (q : Refusal) → (replay k n T es).stop ≡ Err q → k ≤ (replay k n T es).event
numbered_on k n T [] q e = absurd (let w = rw (replay_none k n T) at e in let y : ◌≡◌ {A = ℕ} 0 1 = cc in omega arith)
numbered_on k n T (i ∷ es) q e = go (event_check n i) refl (numbered_on (suc k) (n - 1) (mend (n - 1) (i - 1) T) es q)
  where
    go : (c : Check) → event_check n i ≡ c → ((onward k n T i es).stop ≡ Err q → suc k ≤ (onward k n T i es).event) → k ≤ (replay k n T (i ∷ es)).event
    go (Ok tt) s ih = rw (replay_goes k n T i es s) (omega (arith, ih (rw (replay_goes k n T i es s) at e)))
    go (Err r) s ih = rw (replay_stops k n T i es r s) (omega arith)

-- ## Every prefix

-- a replay goes through where each prefix of its events ends: it goes on from there, or has ended there
pub replay_on : (k n : ℕ) (T : List Row) (es fs : List ℕ) → (replay k n T es).stop ≡ Ok tt
    → replay k n T (es ++ fs) ≡ replay (k + length es) (replay k n T es).images (replay k n T es).rows fs
replay_on k n T [] fs q = rw (replay_none k n T) (let z : k + 0 ≡ k = omega arith in rw z refl)
replay_on k n T (e ∷ es) fs q = go (event_check n e) refl (replay_on (suc k) (n - 1) (mend (n - 1) (e - 1) T) es fs)
  where
    go : (y : Check) → event_check n e ≡ y
        → ((onward k n T e es).stop ≡ Ok tt → onward k n T e (es ++ fs)
        ≡ replay (suc k + length es) (onward k n T e es).images (onward k n T e es).rows fs)
        → replay k n T (e ∷ (es ++ fs)) ≡ replay (k + suc (length es)) (replay k n T (e ∷ es)).images (replay k n T (e ∷ es)).rows fs
    go (Ok tt) s ih =
        let z : k + suc (length es) ≡ suc k + length es = omega arith in
        rw (z, replay_goes k n T e (es ++ fs) s, replay_goes k n T e es s) (ih (rw (replay_goes k n T e es s) at q))
    go (Err r) s ih = absurd (let w = rw (replay_stops k n T e es r s) at q in let y : ◌≡◌ {A = ℕ} 0 1 = cc in omega arith)

pub replay-ended : (k n : ℕ) (T : List Row) (es fs : List ℕ) (r : Refusal) → (replay k n T es).stop ≡ Err r → replay k n T (es ++ fs) ≡ replay k n T es
replay-ended k n T [] fs r q = absurd (let w = rw (replay_none k n T) at q in let y : ◌≡◌ {A = ℕ} 0 1 = cc in omega arith)
replay-ended k n T (e ∷ es) fs r q = go (event_check n e) refl (replay-ended (suc k) (n - 1) (mend (n - 1) (e - 1) T) es fs r)
  where
    go : (y : Check) → event_check n e ≡ y
        → ((onward k n T e es).stop ≡ Err r → onward k n T e (es ++ fs) ≡ onward k n T e es)
        → replay k n T (e ∷ (es ++ fs)) ≡ replay k n T (e ∷ es)
    go (Ok tt) s ih = rw (replay_goes k n T e (es ++ fs) s, replay_goes k n T e es s) (ih (rw (replay_goes k n T e es s) at q))
    go (Err u) s ih = replay_stops k n T e (es ++ fs) u s ∙ sym (replay_stops k n T e es u s)
