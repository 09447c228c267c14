-- An answer, and a lent slice as a call leaves it. Assumes nothing.
use Rattle.std.specs.Prelude.{List, ◌≡◌, ℕ, length, Ok, Err}
use Rattle.ground.specs.Buffers.{front}
use Rattle.ground.specs.Refusals.{places_if, Check, Written}

pub record Outcome (A : Type 0) : Type 0 where
  pub answer : A
  pub places : List ℕ

-- a call answered r and left the places e, as w says
pub record Left {A : Type 0} (w : Outcome A) (r : A) (e : List ℕ) : Type 0 where
  pub answered : r ≡ w.answer
  pub left : e ≡ w.places

-- m at the front of the lent places d where the check passed; where it refused they are as they were
abbrev pub front_if : Check → List ℕ → List ℕ → List ℕ
front_if (Ok tt) m d = front m d
front_if (Err r) m d = d

-- m at the front and its length the answer where the check passed; else the refusal, and nothing altered
abbrev pub written_if : Check → List ℕ → List ℕ → Outcome Written
written_if y m d = record { answer = places_if y (length m); places = front_if y m d }

-- an accepted writing of m into the lent places d, of which so many are used
abbrev pub wrote_into : ℕ → List ℕ → List ℕ → Outcome Written
wrote_into used m d = record { answer = Ok used; places = front m d }
