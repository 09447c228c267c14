-- The head that all answers begin with, as it crosses to C and Fortran: document 01's number, the table's number and the places. Assumes nothing.
use Rattle.std.specs.Prelude.{ℕ}
use Rattle.ground.specs.declared.Refusal.{Refusal}
use Rattle.numbers.specs.declared.KemotuikiHead.{KemotuikiHead}

-- accepted is number 0
abbrev pub accepted : KemotuikiHead
accepted = record { number = 0; table = 0; a = 0; b = 0; c = 0; d = 0 }

-- a refusal's number and places, with the table's number beside them
abbrev pub refused : ℕ → Refusal → KemotuikiHead
refused m r = record { number = r.number; table = m; a = r.a; b = r.b; c = r.c; d = r.d }
