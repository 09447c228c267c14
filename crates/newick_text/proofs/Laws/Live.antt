-- What was read and is alive, and what the tests of its next byte say. Assumes nothing.
use Rattle.std.specs.Prelude.{Bool, false, not, true, ◌&&◌, ◌||◌, List, [], ◌++◌, ◌∷◌, refl, ◌≡◌, ℕ, ◌<◌, ◌≤◌, eqb, leb, ltb}
use Rattle.std.proofs.lemmas.Bool.{false≢true, not-true}
use Rattle.std.proofs.Common.{sym, leb-true, ltb-true}
use borrow.Table.Steps.{cases}
use Rattle.ground.specs.Laws.Tests.{and_l, and_r}
use Rattle.newick_text.specs.States.{Open, State, at_one, costing, dead, done, ended, head, start, vertex}
use Rattle.newick_text.specs.Bytes.{begins, grows, is_digit, only_if, run, step}
use Rattle.newick_text.specs.Ends.{is_dead}

-- alive
abbrev pub Live : State → Type 0
Live s = is_dead s ≡ false

pub dead_not : {A : Type 0} → Live dead → A
dead_not e = absurd (false≢true (sym e))

-- what holds of the state behind a test that it passed
pub only : (P : State → Type 0) (t : Bool) (s : State) → Live (only_if t s) → (t ≡ true → Live s → P s) → P (only_if t s)
only P true s e h = h refl e
only P false s e h = dead_not e

pub record IsDigit (b : ℕ) : Type 0 where
  pub low : 48 ≤ b
  pub high : b ≤ 57

pub digit_is : (b : ℕ) → is_digit b ≡ true → IsDigit b
digit_is b e = record { low = leb-true _ _ (and_l (leb 48 b) (leb b 57) e); high = leb-true _ _ (and_r (leb 48 b) (leb b 57) e) }

pub begins-digit : (o : Open) (b : ℕ) → begins o b ≡ true → (49 ≤ b) × (b ≤ 57)
begins-digit o b p =
    let d = and_l (leb 49 b && leb b 57) (not (at_one o) || eqb b 49) p in
    (leb-true 49 b (and_l (leb 49 b) (leb b 57) d), leb-true b 57 (and_r (leb 49 b) (leb b 57) d))

pub grows_small : (o : Open) (i : ℕ) → grows o i ≡ true → (1 ≤ i) × (i < 10) × (at_one o ≡ false)
grows_small o i p =
    let d = and_l (leb 1 i && ltb i 10) (not (at_one o)) p in
    let e = not-true (at_one o) (and_r (leb 1 i && ltb i 10) (not (at_one o)) p) in
    (leb-true 1 i (and_l (leb 1 i) (ltb i 10) d), ltb-true i 10 (and_r (leb 1 i) (ltb i 10) d), e)

-- ## The whole text

run_dead : (t : List ℕ) → run dead t ≡ dead
unfolding run step
run_dead [] = refl
run_dead (b ∷ t) = run_dead t

-- one that is dead stays so
pub live_before : (s : State) (t : List ℕ) → Live (run s t) → Live s
live_before s t e = cases (is_dead s) (λ d. go s d e) (λ d. d)
  where
    go : (s : State) → is_dead s ≡ true → Live (run s t) → Live s
    go start d e = refl
    go (vertex o) d e = refl
    go (head o v) d e = refl
    go (costing o v x) d e = refl
    go (ended f) d e = refl
    go (done f) d e = refl
    go dead d e = dead_not (rw (run_dead t) at e)

pub run-append : (s : State) (t u : List ℕ) → run s (t ++ u) ≡ run (run s t) u
unfolding run
run-append s [] u = refl
run-append s (b ∷ t) u = run-append (step s b) t u
