-- What is said of a refusal is said of no other number: their words are parted, which antt computes. Assumes nothing.
use Rattle.std.specs.Prelude.{Bool, cond, true, ◌&&◌, List, [], ◌++◌, ◌≡◌, ℕ, eqb}
use Rattle.std.proofs.Math.Path.{refl, sym}
use Rattle.std.proofs.Common.{◌∙◌}
use borrow.Table.Steps.{cases}
use Rattle.ground.specs.Laws.Tests.{and_l, and_r, or_r}
use Rattle.text.specs.Words.{bytes_of}
use Rattle.sayings.specs.Laws.Parted.{apart, apart_same, parted}
use Rattle.sayings.specs.Laws.Said.{all_pass, known, known-passes, known_in, said_number, said_passes}
use Rattle.phrases.specs.Saying.{Saying, saying_in, unknown}
use Rattle.phrases.specs.ByPlace.{above_old, bad_row}
use Rattle.sayings.specs.Sayings.{sayings, sayings_from12, sayings_from16, sayings_from20, sayings_from4, sayings_from8}
use Rattle.sayings.specs.Said.{said_of}

-- the two shapes of a saying begin alike, so that no comparison has to know the shape
bad_row_words : (a : ℕ) → bytes_of (bad_row a).words ≡ bytes_of "bad far side or bad row" ++ cond (eqb a 0) [] (bytes_of ": row")
unfolding bytes_of
bad_row_words a = cases (eqb a 0) (λ e. rw e refl) (λ e. rw e refl)

above_old_words : (a b : ℕ) → bytes_of (above_old a b).words ≡ bytes_of "number above the old limits: row" ++ cond (eqb b 0) [] (bytes_of " and column")
unfolding bytes_of
above_old_words a b = cases (eqb b 0) (λ e. rw e refl) (λ e. rw e refl)

module _ (k j a b c d a' b' c' d' : ℕ) (h : known k ≡ true) where
  abbrev one : List Saying
  one = sayings a b c d

  abbrev other : List Saying
  other = sayings a' b' c' d'

  -- its words are parted from those of a number that no refusal has
  abbrev parted_from_unknown : Saying → Bool
  parted_from_unknown s = parted (bytes_of s.words) (bytes_of (unknown j).words)

  -- each saying is apart from each, and from that of any other number
  all_apart : all_pass (λ s. all_pass (apart s) other && parted_from_unknown s) one ≡ true
  unfolding sayings sayings_from4 sayings_from8 sayings_from12 sayings_from16 sayings_from20 bytes_of
  all_apart = rw (bad_row_words a, bad_row_words a', above_old_words a b, above_old_words a' b') refl

  known_here : known_in k one ≡ true
  unfolding sayings sayings_from4 sayings_from8 sayings_from12 sayings_from16 sayings_from20
  known_here = h

  -- what is said of a refusal is said of no other number
  pub phrases_differ : said_of k a b c d ≡ said_of j a' b' c' d' → k ≡ j
  unfolding said_of
  phrases_differ e =
      let s = saying_in k one in
      let t = saying_in j other in
      let p = known-passes (λ x. all_pass (apart x) other && parted_from_unknown x) k one known_here all_apart in
      let l = and_l (all_pass (apart s) other) (parted_from_unknown s) p in
      let u = or_r (eqb s.number j) (parted_from_unknown s) (and_r (all_pass (apart s) other) (parted_from_unknown s) p) in
      let q = said_passes (apart s) j other l u in
      sym (said_number k one) ∙ apart_same s t q e ∙ said_number j other
