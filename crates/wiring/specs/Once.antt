-- A number above two others. Assumes nothing.
use Rattle.std.specs.Prelude.{Bool, ◌&&◌, ℕ, ltb}

-- x is above both others
abbrev pub above : ℕ → ℕ → ℕ → Bool
above x y z = ltb y x && ltb z x
