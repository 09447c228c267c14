-- A lent buffer: its front written over, and the rest as it was. Assumes nothing.
use Rattle.std.specs.Prelude.{List, ◌++◌, ℕ, drop, length, take}

-- m written at the front of d
abbrev pub front : List ℕ → List ℕ → List ℕ
front m d = m ++ drop (length m) d

-- the first n places of d written over with those of s
unfoldable pub over : ℕ → List ℕ → List ℕ → List ℕ
over n s d = take n s ++ drop n d
