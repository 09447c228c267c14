-- Document 01's trees E and H when an image leaves, the team of nine when images 4 and 1 fail, and refused events, computed. Assumes nothing.
use Rattle.std.specs.Prelude.{List, [], ◌∷◌, refl, ◌≡◌, Ok, Err}
use Rattle.ground.specs.Refusals.{refusal}
use Rattle.theory.specs.LinkTables.{Row}
use Rattle.rows.specs.Rows.{put, put_all}
use Rattle.mending.specs.Leaving.{joined, mend}
use Rattle.leaving.specs.Replay.{replay}

abbrev tree_e : List Row
tree_e = (2, 2) ∷ (4, 2) ∷ (8, 2) ∷ (12, 4) ∷ (14, 2) ∷ []

abbrev tree_h : List Row
tree_h = (2, 36) ∷ (4, 2) ∷ (8, 2) ∷ (16, 14) ∷ (24, 42) ∷ (32, 48) ∷ (64, 12) ∷ (96, 18) ∷ (120, 32) ∷ (122, 12) ∷ (126, 8) ∷ []

-- image 1 leaves: its link goes, and the link between the switches joins image 2's
pub first_leaves : mend 3 0 tree_e ≡ (2, 2) ∷ (4, 2) ∷ (6, 6) ∷ []
unfolding joined put_all put
first_leaves = refl

-- image 4 leaves
pub last_leaves : mend 3 3 tree_e ≡ (2, 2) ∷ (4, 6) ∷ (6, 2) ∷ []
unfolding joined put_all put
last_leaves = refl

-- of seven images 1 leaves, and sides that hold the new image 1 are named by the other group
pub seven_first : mend 6 0 tree_h ≡ (2, 14) ∷ (4, 2) ∷ (8, 14) ∷ (12, 42) ∷ (16, 48) ∷ (32, 12) ∷ (48, 18) ∷ (60, 32) ∷ (62, 36) ∷ []
unfolding joined put_all put
seven_first = refl

-- of five images 4 leaves: the row of images 2 and 4 stood behind image 3's own link, and is now joined with image 2's before it
pub out_of_order : mend 4 3 ((2, 1) ∷ (4, 1) ∷ (8, 1) ∷ (10, 1) ∷ (16, 1) ∷ (30, 1) ∷ []) ≡ (2, 2) ∷ (4, 1) ∷ (8, 1) ∷ (14, 1) ∷ []
unfolding joined put_all put
out_of_order = refl

-- ## Replays

-- the team of nine, whose images 4 and then 1 fail
abbrev nine : List Row
nine =
    (2, 4) ∷ (4, 2) ∷ (8, 6) ∷ (12, 10) ∷ (16, 4) ∷ (32, 4) ∷ (64, 2) ∷ (112, 14) ∷ (128, 2) ∷ (256, 8) ∷ (384, 40) ∷ (496, 20) ∷ (510, 2) ∷ []

abbrev nine_left : List Row
nine_left = (2, 12) ∷ (4, 4) ∷ (8, 4) ∷ (16, 2) ∷ (28, 14) ∷ (32, 2) ∷ (64, 8) ∷ (96, 40) ∷ (124, 20) ∷ (126, 4) ∷ []

pub four_and_one : replay 1 9 nine (4 ∷ 1 ∷ []) ≡ record { images = 7; rows = nine_left; event = 0; stop = (Ok tt) }
unfolding replay joined put_all put
four_and_one = refl

-- the seven that are left have no image 9: the third event is refused, the rows before it stay, and the fourth is not looked at
pub no_image_nine : replay 1 9 nine (4 ∷ 1 ∷ 9 ∷ 2 ∷ []) ≡ record { images = 7; rows = nine_left; event = 3; stop = Err (refusal 8 0 0 0 0) }
unfolding replay joined put_all put
no_image_nine = refl

-- images 1 and 1 leave E: the first event is taken, and the second would leave two
pub two_left : replay 1 4 tree_e (1 ∷ 1 ∷ []) ≡ record { images = 3; rows = mend 3 0 tree_e; event = 2; stop = Err (refusal 1 2 0 0 0) }
unfolding replay
two_left = refl

-- an image that is not there: 8 comes before 1, as for image 0
pub unknown : replay 1 3 (mend 3 0 tree_e) (4 ∷ []) ≡ record { images = 3; rows = mend 3 0 tree_e; event = 1; stop = Err (refusal 8 0 0 0 0) }
unfolding replay
unknown = refl

pub image_none : replay 1 3 (mend 3 0 tree_e) (0 ∷ []) ≡ record { images = 3; rows = mend 3 0 tree_e; event = 1; stop = Err (refusal 8 0 0 0 0) }
unfolding replay
image_none = refl
