-- One turn of the loops that write the images of a group and the lines of all groups, and their ends. Assumes nothing.
use Rattle.std.specs.Prelude.{List, ◌≡◌, ℕ, ◌+◌, ◌<◌, ◌≤◌, drop, get_or, length}
use Rattle.std.proofs.Common.{ap, sym}
use Rattle.bits.specs.Laws.Parts.{over_at_none}
use Rattle.text.specs.Fields.{fields}
use Rattle.text.specs.Laws.Pieces.{rest_same}
use Rattle.text.specs.Laws.Putting.{rest_begin, rest_end, rest_fits, rest-step}
use Rattle.text.specs.Putting.{Fits, Put, Rest}
use Rattle.levels_text.specs.Laws.Groups.{groups_end, groups-turn, image_in, image_out, images_begin, images_end, images_from, images-turn}
use Rattle.levels_text.specs.Lines.{group_images, group_line, group_lines, image_field}

-- what one image adds, by its bit
pub ruleset one_image = (image_in, image_out, over_at_none)

-- the images from image i on are left to write
unfoldable pub ImagesLeft : ℕ → ℕ → ℕ → ℕ → List ℕ → ℕ → List ℕ → Type 0
ImagesLeft S n i p o p₀ o₀ = Rest (fields (images_from S n i)) p o (fields (group_images S n)) p₀ o₀

module _ (S n : ℕ) where
  pub images_first : (p : ℕ) (o : List ℕ) → ImagesLeft S n 0 p o p o
  unfolding ImagesLeft
  images_first p o = rest_same (ap fields (sym (images_begin S n))) (rest_begin (fields (group_images S n)) p o)

  module _ (i p : ℕ) (o : List ℕ) (p₀ : ℕ) (o₀ : List ℕ) where
    pub image_fits : ImagesLeft S n i p o p₀ o₀ → i < n → Fits (fields (group_images S n)) p₀ o₀ → Fits (image_field S i) p o
    unfolding ImagesLeft
    image_fits r h f = rest_fits (image_field S i) _ (rest_same (images-turn S n i h) r) f

    pub image_step : (p' : ℕ) (o' : List ℕ) → ImagesLeft S n i p o p₀ o₀ → i < n → Fits (fields (group_images S n)) p₀ o₀
        → Put (image_field S i) p o p' o' → ImagesLeft S n (i + 1) p' o' p₀ o₀
    unfolding ImagesLeft
    image_step p' o' r h f t = rest-step (image_field S i) _ (rest_same (images-turn S n i h) r) f t

    pub images_done : ImagesLeft S n i p o p₀ o₀ → n ≤ i → Put (fields (group_images S n)) p₀ o₀ p o
    unfolding ImagesLeft
    images_done r h = rest_end (rest_same (images_end S n i h) r)

    pub images_size : ImagesLeft S n i p o p₀ o₀ → length o ≡ length o₀
    unfolding ImagesLeft
    images_size r = r.size

pub ruleset image_turns = (images_first, image_fits, image_step, images_done, images_size)

-- the lines of the groups from place i on are left to write
unfoldable pub GroupsLeft : ℕ → List ℕ → List ℕ → ℕ → ℕ → List ℕ → ℕ → List ℕ → Type 0
GroupsLeft n l v i p o p₀ o₀ = Rest (group_lines n (drop i l) (drop i v)) p o (group_lines n l v) p₀ o₀

module _ (n : ℕ) (l v : List ℕ) where
  pub groups_first : (p : ℕ) (o : List ℕ) → GroupsLeft n l v 0 p o p o
  unfolding GroupsLeft
  groups_first p o = rest_begin (group_lines n l v) p o

  module _ (i p : ℕ) (o : List ℕ) (p₀ : ℕ) (o₀ : List ℕ) where
    pub group_fits : GroupsLeft n l v i p o p₀ o₀ → i < length l → length l ≤ length v → Fits (group_lines n l v) p₀ o₀
        → Fits (group_line n (get_or l i 0) (get_or v i 0)) p o
    unfolding GroupsLeft
    group_fits r h a f = rest_fits (group_line n (get_or l i 0) (get_or v i 0)) _ (rest_same (groups-turn n l v i h a) r) f

    pub group_step : (p' : ℕ) (o' : List ℕ) → GroupsLeft n l v i p o p₀ o₀ → i < length l → length l ≤ length v
        → Fits (group_lines n l v) p₀ o₀ → Put (group_line n (get_or l i 0) (get_or v i 0)) p o p' o' → GroupsLeft n l v (i + 1) p' o' p₀ o₀
    unfolding GroupsLeft
    group_step p' o' r h a f t = rest-step (group_line n (get_or l i 0) (get_or v i 0)) _ (rest_same (groups-turn n l v i h a) r) f t

    pub groups_done : GroupsLeft n l v i p o p₀ o₀ → length l ≤ i → Put (group_lines n l v) p₀ o₀ p o
    unfolding GroupsLeft
    groups_done r h = rest_end (rest_same (groups_end n l v i h) r)

    pub groups_size : GroupsLeft n l v i p o p₀ o₀ → length o ≡ length o₀
    unfolding GroupsLeft
    groups_size r = r.size

pub ruleset group_turns = (groups_first, group_fits, group_step, groups_done, groups_size)
