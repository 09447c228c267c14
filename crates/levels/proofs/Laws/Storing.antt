-- The groups whose last image is k, stored one after another: before the loop, one group more, after it. Assumes nothing.
use Rattle.std.specs.Prelude.{false, true, List, [], map, ◌++◌, ◌∷◌, ◌≡◌, suc, zero, ℕ, ◌+◌, ◌-◌, ◌<◌, ◌≤◌, length, set}
use Rattle.std.proofs.Common.{ap, sym, ◌∙◌, arith, length-append, length-set}
use Rattle.std.proofs.lemmas.List.{length-map}
use Rattle.ground.specs.Laws.Maps.{map-append}
use Rattle.theory.specs.Tables.{WellFormed, limit}
use Rattle.tables.specs.Entries.{costs_in}
use Rattle.tables.specs.declared.costs.Costs.{Costs}
use Rattle.levels.specs.Balls.{ball, found_at, is_level, levels_at}
use Rattle.levels.specs.Laws.Putting.{put-more, put_none}
use Rattle.levels.specs.Laws.LevelList.{levels_fewer, levels_more, levels_none, levels_skip}
use Rattle.levels.proofs.Laws.Levels.{ball_last}
use Rattle.levels.proofs.Laws.Next.{after-most, after_none, next_fits, next_here, next_least, next_none, zero_none}
use Rattle.levels.specs.Next.{after_height, next_height}
use Rattle.levels.specs.Putting.{PutLevels, put_at}

-- the groups of a height below h are stored, up to the place p
pub record Stored (d : ℕ → ℕ → ℕ) (n k at : ℕ) (g₀ v₀ g v : List ℕ) (p h : ℕ) : Type 0 where
  pub counted : p ≡ at + length (levels_at d n k h)
  pub groups_are : g ≡ put_at at (found_at d n h k) g₀
  pub heights_are : v ≡ put_at at (levels_at d n k h) v₀

-- the same as the loop has it: h is the next level, or is not below cap, the entries with images after k; a level has room
pub record Storing (L : ℕ) (d : ℕ → ℕ → ℕ) (n k at : ℕ) (g₀ v₀ g v : List ℕ) (p h cap : ℕ) : Type 0 where
  pub most : h ≤ suc L
  pub last : cap ≡ after_height L d n k
  pub level : h < cap → is_level d n k h ≡ true
  pub stored : Stored d n k at g₀ v₀ g v p h
  pub group-space : at + length (levels_at d n k (suc L)) ≤ length g
  pub height-space : at + length (levels_at d n k (suc L)) ≤ length v
  pub group-room : h < cap → p < length g
  pub height-room : h < cap → p < length v

module _ (L : ℕ) (d : ℕ → ℕ → ℕ) (n k at : ℕ) (g₀ v₀ : List ℕ) where
  pub stored_none : WellFormed L d n → k < n → (h : ℕ) → h ≡ next_height L d k 1 → Stored d n k at g₀ v₀ g₀ v₀ at h
  stored_none c l h e =
      let none = levels_skip d n k 0 h (omega arith) (λ x a b. below x b) ∙ levels_none d n k in
      record {
        counted = rw none (omega arith);
        groups_are = rw none (put_none at g₀);
        heights_are = rw none (put_none at v₀);
      }
    where
      below : (x : ℕ) → x < h → is_level d n k x ≡ false
      below zero b = zero_none L d n k c l
      below (suc x) b = next_none L d n k 1 (suc x) (omega arith) (rw e at b)

  pub stored_room : (h : ℕ) → is_level d n k h ≡ true → h < suc L → length (levels_at d n k h) < length (levels_at d n k (suc L))
  stored_room h e l =
      omega (
        arith,
        levels_fewer d n k (suc h) (suc L) (omega arith),
        ap length (levels_more d n k h e),
        length-append (levels_at d n k h) (h ∷ []),
      )

  -- there is room for one group more
  pub stored_fits : (p h : ℕ) (g v x : List ℕ) {cap : ℕ} → Stored d n k at g₀ v₀ g v p h → cap ≡ after_height L d n k
      → (h < cap → is_level d n k h ≡ true) → h < cap
      → at + length (levels_at d n k (suc L)) ≤ length x → p < length x
  stored_fits p h g v x s e f l r = omega (arith, s.counted, stored_room h (f l) (omega (arith, after-most L d n k)))

  pub stored_more : (p h : ℕ) (g v : List ℕ) {x h' : ℕ} {cap : ℕ} → k < n → Stored d n k at g₀ v₀ g v p h → cap ≡ after_height L d n k
      → (h < cap → is_level d n k h ≡ true) → h < cap
      → at + length (levels_at d n k (suc L)) ≤ length g₀ → at + length (levels_at d n k (suc L)) ≤ length v₀
      → x ≡ ball d (suc k) k h → h' ≡ next_height L d k (suc h) → Stored d n k at g₀ v₀ (set g p x) (set v p h) (p + 1) h'
  stored_more p h g v {x} {h'} kn s ec f lc ra rb q r =
      let e = f lc in
      let l : h < suc L = omega (arith, after-most L d n k) in
      let a = stored_fits p h g v g₀ s ec f lc ra in
      let b = stored_fits p h g v v₀ s ec f lc rb in
      let up : suc h ≤ h' = rw r (next_least L d n k (suc h) l) in
      let all : levels_at d n k h' ≡ levels_at d n k h ++ (h ∷ []) =
      levels_skip d n k (suc h) h' up (λ y m o. next_none L d n k (suc h) y m (rw r at o)) ∙ levels_more d n k h e in
      record {
        counted = rw all (omega (arith, s.counted, length-append (levels_at d n k h) (h ∷ [])));
        groups_are =
            ap (set g p) (q ∙ ball_last d n k h kn e)
            ∙ put-more at (found_at d n h k) g₀ (ball d n k h) p (s.counted ∙ ap (λ m. at + m) (sym (length-map (levels_at d n k h) (ball d n k)))) a
            s.groups_are
            ∙ ap (λ m. put_at at m g₀) (sym (ap (map (ball d n k)) all ∙ map-append (ball d n k) (levels_at d n k h) (h ∷ [])));
        heights_are = put-more at (levels_at d n k h) v₀ h p s.counted b s.heights_are ∙ ap (λ m. put_at at m v₀) (sym all);
      }

  pub stored_end : (p h : ℕ) (g v : List ℕ) → Stored d n k at g₀ v₀ g v p h → after_height L d n k ≤ h → h ≤ suc L → PutLevels L d n k at g₀ v₀ p g v
  stored_end p h g v s a l =
      let all = levels_skip d n k h (suc L) l (λ x b m. after_none L d n k x (omega arith) m) in
      record {
        counted = s.counted ∙ ap (λ m. at + length m) (sym all);
        groups-put = s.groups_are ∙ ap (λ m. put_at at (map (ball d n k) m) g₀) (sym all);
        heights-put = s.heights_are ∙ ap (λ m. put_at at m v₀) (sym all);
      }

  -- as the loop has it
  storing_of : (x : ℕ) {p h cap : ℕ} {g v : List ℕ} → h ≡ next_height L d k x → cap ≡ after_height L d n k → Stored d n k at g₀ v₀ g v p h
      → at + length (levels_at d n k (suc L)) ≤ length g → at + length (levels_at d n k (suc L)) ≤ length v → Storing L d n k at g₀ v₀ g v p h cap
  storing_of x {p} {h} {cap} {g} {v} e f s a b =
      let l : h < cap → is_level d n k h ≡ true = next_here L d n k x e f in
      record {
        most = next_fits L d n k x e;
        last = f;
        level = l;
        stored = s;
        group-space = a;
        height-space = b;
        group-room = λ m. stored_fits p h g v g s f l m a;
        height-room = λ m. stored_fits p h g v v s f l m b;
      }

-- ## The same of a cost table, as the loop over the heights names it

unfoldable pub Putting : Costs → ℕ → ℕ → List ℕ → List ℕ → List ℕ → List ℕ → ℕ → ℕ → ℕ → Type 0
Putting t k at g₀ v₀ g v p h cap = Storing limit (costs_in t) t.n k at g₀ v₀ g v p h cap

-- there is room for all groups whose last image is k
abbrev pub Room : Costs → ℕ → ℕ → List ℕ → Type 0
Room t k at l = at + length (levels_at (costs_in t) t.n k (suc limit)) ≤ length l

module _ (t : Costs) where
  pub put_begin : (k at : ℕ) (g v : List ℕ) {h cap : ℕ} → k < t.n → Room t k at g → Room t k at v → h ≡ next_height limit (costs_in t) k 1
      → cap ≡ after_height limit (costs_in t) t.n k → Putting t k at g v g v at h cap
  unfolding Putting
  put_begin k at g v {h} l a b e f =
      storing_of limit (costs_in t) t.n k at g v 1 e f (stored_none limit (costs_in t) t.n k at g v t.formed.formed l h e) a b

  pub put_go : (k at p h cap : ℕ) (g₀ v₀ g v : List ℕ) {x h' : ℕ} → Putting t k at g₀ v₀ g v p h cap → h < cap → k < t.n → Room t k at g₀
      → Room t k at v₀ → x ≡ ball (costs_in t) (suc k) k h → h' ≡ next_height limit (costs_in t) k (suc h)
      → Putting t k at g₀ v₀ (set g p x) (set v p h) (p + 1) h' cap
  unfolding Putting
  put_go k at p h cap g₀ v₀ g v s m l a b q r =
      storing_of limit (costs_in t) t.n k at g₀ v₀ (suc h) r s.last
      (stored_more limit (costs_in t) t.n k at g₀ v₀ p h g v l s.stored s.last s.level m a b q r) (simp length-set s.group-space)
      (simp length-set s.height-space)

  module _ (k at p h cap : ℕ) (g₀ v₀ g v : List ℕ) where
    pub put_group-room : Putting t k at g₀ v₀ g v p h cap → h < cap → p < length g
    unfolding Putting
    put_group-room s l = s.group-room l

    pub put_height-room : Putting t k at g₀ v₀ g v p h cap → h < cap → p < length v
    unfolding Putting
    put_height-room s l = s.height-room l

    pub put_end : Putting t k at g₀ v₀ g v p h cap → cap ≤ h → PutLevels limit (costs_in t) t.n k at g₀ v₀ p g v
    unfolding Putting
    put_end s l = stored_end limit (costs_in t) t.n k at g₀ v₀ p h g v s.stored (omega (arith, s.last)) s.most

    -- the next height is above the last one, and that is below the limit and one
    pub put_smaller : {h' : ℕ} → Putting t k at g₀ v₀ g v p h cap → h < cap → h' ≡ next_height limit (costs_in t) k (suc h)
        → suc limit - h' < suc limit - h
    unfolding Putting
    put_smaller s l r =
        let m : h < suc limit = omega (arith, s.last, after-most limit (costs_in t) t.n k) in
        omega (arith, r, next_least limit (costs_in t) t.n k (suc h) m)

pub ruleset put_turns = (put_begin, put_go, put_group-room, put_height-room, put_end, put_smaller)
