-- The ring of a table that is a little off: what is left of the demands of the order where no entry differs by more than D from one of
-- an accepted table. Assumes nothing.
use Rattle.std.specs.Prelude.{List, ◌≡◌, max, suc, zero, ℕ, ◌*◌, ◌+◌, ◌-◌, ◌<◌, ◌≤◌}
use Rattle.std.proofs.Common.{mul_assoc, arith}
use Rattle.ground.specs.Filters.{Each}
use Rattle.theory.proofs.Demands.{ordered}
use Rattle.theory.specs.FourPoint.{FourPoint}
use Rattle.theory.proofs.Laws.Line.{line-accepted}
use Rattle.theory.specs.Laws.Limits.{formed_wide}
use Rattle.theory.proofs.Laws.NoShorter.{closed-near, near_within, shortest_accepted, shortest_within}
use Rattle.theory.proofs.Laws.Paths.{meets_four_point}
use Rattle.theory.proofs.Laws.Reached.{exchanged, exchanged-all, exchanged-timed, exchanged-wired, order-timed, order-wired}
use Rattle.theory.proofs.Laws.RingRuns.{kept_runs}
use Rattle.theory.proofs.Laws.Scaled.{formed_scaled, four-scaled, longer_scaled, near-scaled, scaled}
use Rattle.theory.proofs.Laws.Stable.{near_sym}
use Rattle.theory.proofs.Laws.TimedLine.{at, near-one, timed, timed_formed, wired, wired_formed}
use Rattle.theory.proofs.Laws.TimedSum.{told_sum}
use Rattle.theory.specs.Laws.Walk.{order-all}
use Rattle.theory.specs.LinkTables.{Row, all_costs}
use Rattle.theory.specs.Order.{AnOrder, closed, order}
use Rattle.theory.specs.OrderRules.{OneRun}
use Rattle.theory.specs.Readings.{Exact, Near}
use Rattle.theory.specs.Tables.{WellFormed}
pub use Rattle.theory.specs.MeasuredRing.{MeasuredRing, Reached}

pub measured_ring : (L D : ℕ) (d e : ℕ → ℕ → ℕ) (n f last : ℕ) (T : List Row) → WellFormed L d n → WellFormed L e n → Exact L d n T → Near D d e n
    → f < n → last < n → (f ≡ last → ⊥) → MeasuredRing D d e n f (order e n f last) T
measured_ring L D d e n f last T c c' x p hf hl ne =
    let four = meets_four_point L n T x.tree d x.meets in
    let o = ordered L d n f last c hf hl ne in
    let ring = (order-all e n f hf last hl ne).all in
    record {
      measured = shortest_within L (4 * D) e n f last hf hl ne c' (near_within L D d e n four p);
      accepted = shortest_accepted L D d e n four p f last hf hl ne c;
      far_runs = kept_runs L D d e n f last c' p hf hl ne T x;
      told = (
        omega (arith, o.sums T x, o.least T x (order e n f last) ring, closed-near D d e n (order e n f last) p ring),
        omega (arith, o.sums T x, told_sum L D d e n f hf c c' four p (order d n f last) o.images.all last hl ne),
      );
      sums = λ l a. (closed-near D d e n l p a, closed-near D e d n l (near_sym D d e n p) a);
    }

-- The ring of the accepted table itself, by the other: no ring is shorter by more than 2 n D.
pub accepted_ring : (L D : ℕ) (d e : ℕ → ℕ → ℕ) (n f last : ℕ) (T : List Row) → WellFormed L d n → Exact L d n T → Near D d e n
    → f < n → last < n → (f ≡ last → ⊥) → (l : List ℕ) → AnOrder n l → closed e (order d n f last) ≤ closed e l + 2 * (n * D)
accepted_ring L D d e n f last T c x p hf hl ne l a =
    let o = ordered L d n f last c hf hl ne in
    omega (arith, o.least T x l a, closed-near D d e n l p a, closed-near D e d n (order d n f last) (near_sym D d e n p) o.images.all)

-- For every n of document 01 and every D, under every limit that leaves room for 2 n D: the images stand on a line, two of them at its
-- ends, and the shorter ring is the order's with its first two images exchanged.
pub reached : (L D n : ℕ) → 1 ≤ D → 3 ≤ n → D * (2 * n) ≤ L → Reached L D n
reached L D zero some h l = absurd (omega arith)
reached L D (suc zero) some h l = absurd (omega arith)
reached L D (suc (suc zero)) some h l = absurd (omega arith)
reached L D (suc (suc (suc k))) some h l =
    let n : ℕ = suc (suc (suc k)) in
    let c = wired_formed k (2 * n) (omega arith) in
    let times = mul_assoc (n - 3) 4 D in
    let longer = longer_scaled D some in
    record {
      d = scaled D some (wired k);
      e = scaled D some (timed k);
      formed = (
        formed_wide (D * (2 * n)) L _ n l (formed_scaled D some (wired k) (2 * n) n c),
        formed_wide (D * (2 * n)) L _ n l (formed_scaled D some (timed k) (2 * n) n (timed_formed k (2 * n) (omega arith))),
      );
      accepted = four-scaled D some (wired k) n (line-accepted (at k) n) (λ i j hi hj. c.same hi hj);
      near = near-scaled D some (wired k) (timed k) n (near-one k);
      first = suc (suc k);
      last = 0;
      images = (omega arith, omega arith, λ t. omega arith);
      ring = exchanged k;
      all = exchanged-all k;
      by_measured = omega (arith, times, longer (timed k) (timed k) (timed k) n (suc (suc k)) 0 (exchanged k) ((n - 3) * 4) (omega (arith, order-timed k, exchanged-timed k)));
      by_accepted = omega (arith, times, longer (wired k) (wired k) (timed k) n (suc (suc k)) 0 (exchanged k) ((n - 3) * 4) (omega (arith, order-wired k, exchanged-wired k)));
      told = longer (timed k) (wired k) (timed k) n (suc (suc k)) 0 (exchanged k) (3 * n - 8) (omega (arith, order-timed k, exchanged-wired k));
    }
