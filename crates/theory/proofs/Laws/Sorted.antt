-- Law Q: the four-point condition over sorted fours. It holds exactly when none of them fails.
-- Assumes nothing.
use mathlib.Core.List.{Memᴰ, []}
use Rattle.std.specs.Prelude.{◌↔◌, ◌≡◌, ℕ, ◌+◌, ◌-◌, ◌<◌, ◌≤◌, leb}
use Rattle.std.proofs.Common.{subst, sym, arith, le-ltb, leb-false, leb-true, ltb-false}
use borrow.Table.Steps.{cases}
use Rattle.ground.specs.Filters.{Each}
use Rattle.ground.specs.Laws.Filters.{filter_none, none_in}
use Rattle.ground.specs.Laws.Maps.{map-mem, mem-map}
use Rattle.ground.specs.Ranges.{from}
use Rattle.ground.specs.Laws.Ranges.{from-mem, gather-mem, mem-from, mem-gather}
use Rattle.theory.specs.FourPoint.{Four, FourPoint, failing, fails, four, fours, fours₁, fours₂, fours₃, times_largest}
use Rattle.theory.proofs.Laws.FourPoint.{largest-left, largest_right, largest_same}
use Rattle.theory.specs.Tables.{WellFormed}

-- ## Which fours are listed

pub mem-fours₁ : (n i j k l : ℕ) → i ≤ j → j ≤ k → k ≤ l → l < n → Memᴰ (four i j k l) (fours₁ n i)
mem-fours₁ n i j k l p q r h =
    mem-gather (fours₂ n i) (mem-from i (n - i) j p (omega arith))
    (mem-gather (fours₃ n i j) (mem-from j (n - j) k q (omega arith)) (mem-map (four i j k) (mem-from k (n - k) l r (omega arith))))

pub mem-fours : (n i j k l : ℕ) → i ≤ j → j ≤ k → k ≤ l → l < n → Memᴰ (four i j k l) (fours n)
mem-fours n i j k l p q r h = mem-gather (fours₁ n) (mem-from 0 n i (omega arith) (omega arith)) (mem-fours₁ n i j k l p q r h)

pub record Sorted (n : ℕ) (q : Four) : Type 0 where
  pub one : q.first ≤ q.second
  pub two : q.second ≤ q.third
  pub three : q.third ≤ q.fourth
  pub fits : q.fourth < n

pub fours-sorted : (n : ℕ) → Each (fours n) (Sorted n)
fours-sorted n q m =
    let a = gather-mem (fours₁ n) (from 0 n) q m in
    let b = gather-mem (fours₂ n a.0) (from a.0 (n - a.0)) q a.2 in
    let c = gather-mem (fours₃ n a.0 b.0) (from b.0 (n - b.0)) q b.2 in
    let e = map-mem (four a.0 b.0 c.0) (from c.0 (n - c.0)) q c.2 in
    let ra = from-mem 0 n a.0 a.1 in
    let rb = from-mem a.0 (n - a.0) b.0 b.1 in
    let rc = from-mem b.0 (n - b.0) c.0 c.1 in
    let re = from-mem c.0 (n - c.0) e.0 e.2 in
    subst (Sorted n) (sym e.1) (record { one = rb.0; two = rc.0; three = re.0; fits = omega arith })

-- ## Q: what is unchanged by exchanging neighbours holds of all four once it holds of the sorted ones

pub record Symmetric (P : ℕ → ℕ → ℕ → ℕ → Type 0) : Type 0 where
  pub first : {i j k l : ℕ} → P i j k l → P j i k l
  pub middle : {i j k l : ℕ} → P i j k l → P i k j l
  pub last : {i j k l : ℕ} → P i j k l → P i j l k

module _ (P : ℕ → ℕ → ℕ → ℕ → Type 0) (s : Symmetric P) (h : (i j k l : ℕ) → i ≤ j → j ≤ k → k ≤ l → P i j k l) where
  three : (i j k l : ℕ) → i ≤ j → j ≤ k → P i j k l
  three i j k l p q =
      cases (leb k l) (λ a. h i j k l p q (leb-true k l a))
      (λ a. s.last (cases (leb j l) (λ b. h i j l k p (leb-true j l b) (omega (arith, leb-false k l a)))
      (λ b. s.middle (cases (leb i l) (λ c. h i l j k (leb-true i l c) (omega (arith, leb-false j l b)) q)
      (λ c. s.first (h l i j k (omega (arith, leb-false i l c)) p q))))))

  two : (i j k l : ℕ) → i ≤ j → P i j k l
  two i j k l p =
      cases (leb j k) (λ a. three i j k l p (leb-true j k a))
      (λ a. s.middle (cases (leb i k) (λ b. three i k j l (leb-true i k b) (omega (arith, leb-false j k a)))
      (λ b. s.first (three k i j l (omega (arith, leb-false i k b)) p))))

  pub sorted_enough : (i j k l : ℕ) → P i j k l
  sorted_enough i j k l = cases (leb i j) (λ a. two i j k l (leb-true i j a)) (λ a. s.first (two j i k l (omega (arith, leb-false i j a))))

-- the condition at four images
abbrev pub Holds : (ℕ → ℕ → ℕ) → ℕ → ℕ → ℕ → ℕ → ℕ → Type 0
Holds d n i j k l = i < n → j < n → k < n → l < n → 2 ≤ times_largest (d i j + d k l) (d i k + d j l) (d i l + d j k)

pub condition_symmetric : (L : ℕ) (d : ℕ → ℕ → ℕ) (n : ℕ) → WellFormed L d n → Symmetric (Holds d n)
condition_symmetric L d n c = record {
  first = λ {i} {j} {k} {l} p hj hi hk hl.
      largest_same (d i j + d k l) (d i l + d j k) (d i k + d j l) (d j i + d k l) (d j k + d i l) (d j l + d i k)
      (omega (arith, c.same hi hj)) (omega arith) (omega arith) (largest_right (d i j + d k l) (d i k + d j l) (d i l + d j k) (p hi hj hk hl));
  middle = λ {i} {j} {k} {l} p hi hk hj hl.
      largest_same (d i k + d j l) (d i j + d k l) (d i l + d j k) (d i k + d j l) (d i j + d k l) (d i l + d k j)
      (omega arith) (omega arith) (omega (arith, c.same hj hk)) (largest-left (d i j + d k l) (d i k + d j l) (d i l + d j k) (p hi hj hk hl));
  last = λ {i} {j} {k} {l} p hi hj hl hk.
      largest_same (d i j + d k l) (d i l + d j k) (d i k + d j l) (d i j + d l k) (d i l + d j k) (d i k + d j l)
      (omega (arith, c.same hk hl)) (omega arith) (omega arith) (largest_right (d i j + d k l) (d i k + d j l) (d i l + d j k) (p hi hj hk hl));
}

-- Q. The four-point condition holds exactly when no sorted four fails.
pub none_failing : (L : ℕ) (d : ℕ → ℕ → ℕ) (n : ℕ) → WellFormed L d n → (failing d n ≡ []) ↔ FourPoint d n
none_failing L d n c = (
  λ e. record { twice = λ {i} {j} {k} {l} hi hj hk hl. sorted_enough (Holds d n) (condition_symmetric L d n c) (sorted e) i j k l hi hj hk hl },
  λ fp. filter_none (fails d) (fours n) (λ q m.
      let s = fours-sorted n q m in
      le-ltb _ 2 (fp.twice {i = q.first} {j = q.second} {k = q.third} {l = q.fourth} (omega (arith, s)) (omega (arith, s)) (omega (arith, s)) s.fits)),
)
  where
    sorted : failing d n ≡ [] → (i j k l : ℕ) → i ≤ j → j ≤ k → k ≤ l → Holds d n i j k l
    sorted e i j k l p q r hi hj hk hl = ltb-false _ 2 (none_in (fails d) (fours n) e (four i j k l) (mem-fours n i j k l p q r hl))
