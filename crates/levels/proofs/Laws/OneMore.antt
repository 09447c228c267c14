-- One image more of a loop, as one comparison decides it; and the room, by the shorter of the two outputs. Assumes nothing.
use Rattle.std.specs.Prelude.{◌≡◌, min, ℕ, ◌+◌, ◌-◌, ◌<◌, ◌^◌, ◌≤◌, eqb, leb}
use Rattle.std.proofs.Common.{ap, ◌∙◌, arith, le-leb}
use Rattle.std.proofs.lemmas.Bool.{lt-leb}
use Rattle.ground.specs.Counts.{one_if}
use Rattle.ground.specs.Least.{lower_if}
use Rattle.ground.specs.Sums.{when}
use Rattle.ground.specs.Refusals.{room_check, Check}

-- ## The next height, with an entry of h or more, x being f's value there; and with a lower one

module _ (f : ℕ → ℕ) (j m : ℕ) where
  pub from-taken : (h : ℕ) {x r : ℕ} → x ≡ f j → h ≤ x → r ≡ min x m → r ≡ lower_if (eqb (one_if (leb h (f j))) 1) f j m
  from-taken h e l q = rw (← e, le-leb h _ l) (q ∙ ap (λ y. min y m) e)

  pub from-left : (h : ℕ) {x : ℕ} → x ≡ f j → x < h → m ≡ lower_if (eqb (one_if (leb h (f j))) 1) f j m
  from-left h e l = rw (← e, lt-leb h _ l)

-- ## The member sum: x is the entry of images k and j, b its bit

module _ (f : ℕ → ℕ) (h j : ℕ) where
  pub member_taken : (s : ℕ) {x b : ℕ} → x ≡ f j → x ≤ h → b ≡ 2 ^ j → s + b ≡ s + when (leb (f j) h) (2 ^ j)
  member_taken s e l q = rw (← e, le-leb _ h l) (ap (λ y. s + y) q)

  pub member_left : (s : ℕ) {x : ℕ} → x ≡ f j → h < x → s ≡ s + when (leb (f j) h) (2 ^ j)
  member_left s e l = rw (← e, lt-leb _ h l) (omega arith)

-- ## 3

pub room_checked : (n g v : ℕ) {x : ℕ} {c : Check} → x ≡ min g v → c ≡ room_check (n - 1) x → c ≡ room_check (n - 1) (min g v)
room_checked n g v e f = rw (← e) f
