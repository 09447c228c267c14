-- What the calls accept, said without checks. Images are 1 to n here, as in the calls. Assumes nothing.
use Rattle.std.specs.Prelude.{List, ℕ, ◌*◌, ◌-◌, ◌≤◌}
use Rattle.links.specs.Links.{Links}

pub record PathAsked (L n N : ℕ) (l v : List ℕ) (i j : ℕ) : Type 0 where
  pub table : Links L n N l v
  pub low : 1 ≤ i
  pub high : i ≤ n
  pub low' : 1 ≤ j
  pub high' : j ≤ n

pub record UppersAsked (L n N : ℕ) (l v : List ℕ) (room : ℕ) : Type 0 where
  pub table : Links L n N l v
  pub spare : 2 * n - 3 ≤ room

pub record RouteAsked (L n N : ℕ) (l v : List ℕ) (i room : ℕ) : Type 0 where
  pub uppers : UppersAsked L n N l v room
  pub low : 1 ≤ i
  pub high : i ≤ n
