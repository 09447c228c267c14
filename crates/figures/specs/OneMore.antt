-- The figures once a table more was read, from those before, as the code counts them. Assumes nothing.
use Rattle.std.specs.Prelude.{max, ℕ, ◌+◌, ◌<◌, ◌^◌, ◌≤◌}
use Rattle.figures.specs.declared.Figures.{Figures}

-- an accepted table over n images, of so many bytes: so many far sides are seen then, and d is the count of its pair
abbrev pub with_tree : Figures → ℕ → ℕ → ℕ → ℕ → Figures
with_tree x n more sides d = record {
  images = n;
  tables = x.tables + 1;
  accepted = x.accepted + 1;
  apart = x.apart;
  sides = sides;
  pairs = x.accepted;
  count_sum = x.count_sum + d;
  largest_count = max x.largest_count d;
  used = x.used + more;
}

-- one that gets 7
abbrev pub with_apart : Figures → ℕ → ℕ → Figures
with_apart x n more = record {
  images = n;
  tables = x.tables + 1;
  accepted = x.accepted;
  apart = x.apart + 1;
  sides = x.sides;
  pairs = x.pairs;
  count_sum = x.count_sum;
  largest_count = x.largest_count;
  used = x.used + more;
}

-- numbers so small that the next ones fit
pub record Fits (x : Figures) (more d : ℕ) : Type 0 where
  pub tables : x.tables < 500
  pub accepted : x.accepted < 500
  pub apart : x.apart < 500
  pub sum : x.count_sum ≤ 128000
  pub pair : d ≤ 256
  pub bytes : x.used + more < 2 ^ 64
