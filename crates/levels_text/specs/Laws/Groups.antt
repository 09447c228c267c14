-- The groups' lines of a listing, one by one, and the images of a group, image by image, as loops write them. Assumes nothing.
use Rattle.std.specs.Prelude.{List, [], map, ◌++◌, refl, ◌≡◌, suc, ℕ, ◌+◌, ◌-◌, ◌<◌, ◌≤◌, drop, get_or, length}
use Rattle.std.proofs.Common.{add-one, arith, drop-cons, eq-eqb, ne_eqb}
use borrow.Table.Steps.{cases}
use Rattle.ground.specs.Bits.{bit}
use Rattle.ground.specs.Filters.{filter}
use Rattle.ground.specs.Ranges.{from}
use Rattle.theory.specs.FarSides.{holds}
use Rattle.text.specs.Fields.{field, fields}
use Rattle.text.specs.Laws.Pieces.{drop_none}
use Rattle.levels_text.specs.Lines.{group_images, group_line, group_lines, image_field}

-- ## Images

-- those of n images that the group S has, from image i on
unfoldable pub images_from : ℕ → ℕ → ℕ → List ℕ
images_from S n i = map suc (filter (holds S) (from i (n - i)))

pub images_begin : (S n : ℕ) → images_from S n 0 ≡ group_images S n
unfolding images_from group_images
images_begin S n = let e : n - 0 ≡ n = omega arith in rw e refl

-- one image's field, by its bit
pub image_in : (S i : ℕ) → bit S i ≡ 1 → image_field S i ≡ field (i + 1)
unfolding image_field
image_in S i e = rw (add-one i, eq-eqb (bit S i) 1 e) refl

pub image_out : (S i : ℕ) → (bit S i ≡ 1 → ⊥) → image_field S i ≡ []
unfolding image_field
image_out S i ne = rw (ne_eqb (bit S i) 1 ne) refl

-- the next image's field, and those behind it
pub images-turn : (S n i : ℕ) → i < n → fields (images_from S n i) ≡ image_field S i ++ fields (images_from S n (i + 1))
unfolding images_from image_field fields
images-turn S n i h =
    let e : n - i ≡ suc (n - suc i) = omega arith in
    cases (holds S i) (λ t. rw (add-one i, e, t) refl) (λ t. rw (add-one i, e, t) refl)

-- nothing is left behind the last
pub images_end : (S n i : ℕ) → n ≤ i → fields (images_from S n i) ≡ []
unfolding images_from fields
images_end S n i h = let e : n - i ≡ 0 = omega arith in rw e refl

-- ## Groups

-- the next group's line, and those behind it
pub groups-turn : (n : ℕ) (l v : List ℕ) (i : ℕ) → i < length l → length l ≤ length v
    → group_lines n (drop i l) (drop i v) ≡ group_line n (get_or l i 0) (get_or v i 0) ++ group_lines n (drop (i + 1) l) (drop (i + 1) v)
unfolding group_lines
groups-turn n l v i h a = rw (add-one i, drop-cons l i 0 h, drop-cons v i 0 (omega arith)) refl

-- nothing is left behind the last
pub groups_end : (n : ℕ) (l v : List ℕ) (i : ℕ) → length l ≤ i → group_lines n (drop i l) (drop i v) ≡ []
unfolding group_lines
groups_end n l v i h = rw (drop_none l i h) refl
