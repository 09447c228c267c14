-- The greatest and the least indices that are reached, and settled examples; all are computed. Assumes nothing.
use Rattle.std.specs.Prelude.{[], ◌∷◌, refl, ◌≡◌, ◌*◌, ◌-◌, neg_ℤ, pos, Ok}
use Rattle.ground.specs.Lowest.{check_all}
use Rattle.theory.specs.Index.{index}
use Rattle.theory.specs.Tables.{limit}
pub use Rattle.index.specs.Examples.{answers}

-- the greatest: images 2 and 3 cost 1 to each other and the limit to image 1
pub top_reached : answers 3 (0 ∷ limit ∷ limit ∷ limit ∷ 0 ∷ 1 ∷ limit ∷ 1 ∷ 0 ∷ []) (6 ∷ []) ≡ Ok (pos (2 * limit - 1)) ∷ []
unfolding index check_all
top_reached = refl

-- the greatest of an inner division: images 1 and 2 cost 1 to each other, 3 and 4 too, and all else costs the limit
pub inner_top_reached :
    answers 4 (0 ∷ 1 ∷ limit ∷ limit ∷ 1 ∷ 0 ∷ limit ∷ limit ∷ limit ∷ limit ∷ 0 ∷ 1 ∷ limit ∷ limit ∷ 1 ∷ 0 ∷ []) (12 ∷ [])
    ≡ Ok (pos (2 * limit - 2)) ∷ []
unfolding index check_all
inner_top_reached = refl

-- the least: images 1 and 2 cost the limit to each other, 3 and 4 too, and all else costs 1
pub bottom_reached :
    answers 4 (0 ∷ limit ∷ 1 ∷ 1 ∷ limit ∷ 0 ∷ 1 ∷ 1 ∷ 1 ∷ 1 ∷ 0 ∷ limit ∷ 1 ∷ 1 ∷ limit ∷ 0 ∷ []) (12 ∷ [])
    ≡ Ok (neg_ℤ (pos (2 * limit - 2))) ∷ []
unfolding index check_all
bottom_reached = refl

-- the least of an own link: images 2 and 3 cost the limit to each other and 1 to image 1
pub own_bottom_reached : answers 3 (0 ∷ 1 ∷ 1 ∷ 1 ∷ 0 ∷ limit ∷ 1 ∷ limit ∷ 0 ∷ []) (6 ∷ []) ≡ Ok (neg_ℤ (pos (limit - 2))) ∷ []
unfolding index check_all
own_bottom_reached = refl

-- C: the own link of image 2, which would get 3 without repeats, and that of image 1, which is drawn with cost 0
pub index-c : answers 3 (0 ∷ 1 ∷ 1 ∷ 1 ∷ 0 ∷ 3 ∷ 1 ∷ 3 ∷ 0 ∷ []) (2 ∷ 6 ∷ []) ≡ Ok (pos 2) ∷ Ok (neg_ℤ (pos 1)) ∷ []
unfolding index check_all
index-c = refl

-- E: one inner link, and two divisions that miss being one by 4
pub index-e : answers 4 (0 ∷ 2 ∷ 4 ∷ 4 ∷ 2 ∷ 0 ∷ 4 ∷ 4 ∷ 4 ∷ 4 ∷ 0 ∷ 2 ∷ 4 ∷ 4 ∷ 2 ∷ 0 ∷ []) (12 ∷ 6 ∷ 10 ∷ [])
    ≡ Ok (pos 4) ∷ Ok (neg_ℤ (pos 4)) ∷ Ok (neg_ℤ (pos 4)) ∷ []
unfolding index check_all
index-e = refl

-- G, a star: no inner division is drawn, and none misses
pub index_g : answers 4 (0 ∷ 2 ∷ 2 ∷ 2 ∷ 2 ∷ 0 ∷ 2 ∷ 2 ∷ 2 ∷ 2 ∷ 0 ∷ 2 ∷ 2 ∷ 2 ∷ 2 ∷ 0 ∷ []) (12 ∷ 6 ∷ 10 ∷ [])
    ≡ Ok (pos 0) ∷ Ok (pos 0) ∷ Ok (pos 0) ∷ []
unfolding index check_all
index_g = refl
