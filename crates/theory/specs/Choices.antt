-- What one choice of images says of a division: whether it supports it, and by how much it speaks against it. Assumes nothing.
use Rattle.std.specs.Prelude.{◌≡◌, min, ℕ, ◌+◌, ◌<◌, ℤ}
use Rattle.ground.specs.Least.{On}
use Rattle.theory.specs.Index.{value}

-- a, a' in A and b, b' in B, repeats allowed
pub record Choice (n : ℕ) (s : ℕ → ℕ) : Type 0 where
  pub a : ℕ
  pub a' : ℕ
  pub b : ℕ
  pub b' : ℕ
  pub on_a : On n s 0 a
  pub on_a' : On n s 0 a'
  pub on_b : On n s 1 b
  pub on_b' : On n s 1 b'

module _ (d : ℕ → ℕ → ℕ) {n : ℕ} {s : ℕ → ℕ} (c : Choice n s) where
  -- what it costs to go across twice, the cheaper way, and to stay inside both groups
  abbrev pub across : ℕ
  across = min (d c.a c.b + d c.a' c.b') (d c.a c.b' + d c.a' c.b)

  abbrev pub inside : ℕ
  inside = d c.a c.a' + d c.b c.b'

  -- the value of the choice: the first less the second
  abbrev pub value_of : ℤ
  value_of = value d c.a c.a' c.b c.b'

  -- it supports the division: to go across costs more than to stay inside
  abbrev pub Supports : Type 0
  Supports = inside < across

  -- it speaks against the division by m: to stay inside costs m more
  abbrev pub Against : ℕ → Type 0
  Against m = across + m ≡ inside
