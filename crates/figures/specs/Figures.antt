-- Each figure of the report, in document 02's words, over the tables read. Assumes nothing.
use Rattle.std.specs.Prelude.{List, [], map, ◌∷◌, max, ℕ, length}
use Rattle.ground.specs.Sums.{sum}
use Rattle.theory.specs.Comparison.{differing, inners}
use Rattle.theory.specs.LinkTables.{Row, fars}
use Rattle.seen.specs.Seen.{Entry, entries, seen}
use Rattle.figures.specs.Tables.{Table, accepted, apart, images_in, trees}
use Rattle.figures.specs.declared.Figures.{Figures}

-- x and the first of l, that and the next, and so on
abbrev pub pairs_from : {A : Type 0} → A → List A → List (A × A)
pairs_from x [] = []
pairs_from x (y ∷ l) = (x, y) ∷ pairs_from y l

-- each element and the next
abbrev pub neighbours : {A : Type 0} → List A → List (A × A)
neighbours [] = []
neighbours (x ∷ l) = pairs_from x l

-- the Robinson-Foulds count of two trees over n images
abbrev pub count_of : ℕ → List Row × List Row → ℕ
count_of n p = differing (inners n (fars p.0)) (inners n (fars p.1))

-- the counts over each accepted table and the next accepted one
unfoldable pub counts : ℕ → List Table → List ℕ
counts L ts = map (count_of (images_in ts)) (neighbours (trees L ts))

-- the largest of a list, 0 where it is empty
abbrev pub largest : List ℕ → ℕ
largest [] = 0
largest (x ∷ l) = max x (largest l)

-- the inner far sides seen, ascending, each with its number of trees and the sum of its doubled costs
unfoldable pub entries_at : ℕ → List Table → List Entry
entries_at L ts = entries (images_in ts) (trees L ts)

-- how many they are
unfoldable pub sides_at : ℕ → List Table → ℕ
sides_at L ts = length (seen (images_in ts) (trees L ts))

-- all figures
abbrev pub figures_of : ℕ → List Table → Figures
figures_of L ts = record {
  images = images_in ts;
  tables = length ts;
  accepted = length (accepted ts);
  apart = length (apart ts);
  sides = sides_at L ts;
  pairs = length (counts L ts);
  count_sum = sum (counts L ts) (λ c. c);
  largest_count = largest (counts L ts);
  used = sum ts (λ t. t.used);
}

-- nothing but zeros, as no bytes give
abbrev pub no_figures : Figures
no_figures = record { images = 0; tables = 0; accepted = 0; apart = 0; sides = 0; pairs = 0; count_sum = 0; largest_count = 0; used = 0 }
