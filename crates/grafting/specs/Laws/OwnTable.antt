-- The own links, stored one after another. Assumes nothing.
use Rattle.std.specs.Prelude.{List, [], map, ◌++◌, ◌∷◌, refl, ◌≡◌, suc, zero, ℕ, ◌+◌, ◌-◌, ◌<◌, ◌^◌, ◌≤◌, eqb, get_or, length, set}
use Rattle.std.proofs.Common.{ap, sym, ◌∙◌, add-one, arith, length-set, eqb-true}
use Rattle.std.proofs.lemmas.Bool.{eqb-false}
use borrow.Table.Steps.{cases}
use Rattle.ground.specs.Ascending.{Between}
use Rattle.ground.specs.Laws.Ascending.{between_init, between_mem}
use Rattle.ground.specs.Laws.Maps.{map-append, mem-map}
use Rattle.ground.specs.Laws.Ranges.{from_last}
use Rattle.ground.specs.Ranges.{from}
use Rattle.theory.specs.FarSides.{own}
use Rattle.theory.specs.LinkTables.{far, fars}
use Rattle.tree.specs.Laws.Held.{rows_in-mem}
use Rattle.tree.specs.Laws.LocalRows.{rows_in-more, rows_in_none, stored_more}
use Rattle.tree.specs.LocalRows.{rows_in}
use Rattle.rows.specs.Putting.{Ascends}
use Rattle.grafting.specs.Grafting.{own_rows}
use Rattle.grafting.specs.Held.{OwnTable}
use Rattle.grafting.specs.Laws.OwnRows.{own_between}

-- ## A list that ascends, place by place

pub between_ascends : (f v : List ℕ) (count m k : ℕ) → Between m (fars (rows_in f v count)) k → Ascends f count
between_ascends f v count m k b = record { up = λ {i} {j} h l. go count k b i j h l }
  where
    go : (count k : ℕ) → Between m (fars (rows_in f v count)) k → (i j : ℕ) → i < j → j < count → get_or f i 0 < get_or f j 0
    go zero k b i j h l = absurd (omega arith)
    go (suc c) k b i j h l =
        let q : suc c ≡ c + 1 = omega arith in
        let b = rw q at b in
        let b = rw (rows_in-more f v c) at b in
        let b = rw (map-append far (rows_in f v c) ((get_or f c 0, get_or v c 0) ∷ [])) at b in
        let a = between_init m k (get_or f c 0) (fars (rows_in f v c)) b in
        cases (eqb j c)
        (λ s.
        let s = eqb-true j c s in
        rw s (between_mem m (get_or f c 0) (fars (rows_in f v c)) a (get_or f i 0) (mem-map far (rows_in-mem f v i c (omega arith)))).1)
        (λ s. go c (get_or f c 0) a i j h (omega (arith, eqb-false j c s)))

-- ## The images from 1 on, and image 0 behind them

-- the own links of the images 1 to i are there
pub record OwnTo (n i : ℕ) (f₀ v₀ f v : List ℕ) : Type 0 where
  pub at : i < n
  pub rows : rows_in f v i ≡ map (λ j. (own n j, 0)) (from 1 i)
  pub far-size : length f ≡ length f₀
  pub cost-size : length v ≡ length v₀

pub own_none : (n : ℕ) (f v : List ℕ) → 0 < n → OwnTo n 0 f v f v
own_none n f v h = record { at = h; rows = rows_in_none f v; far-size = refl; cost-size = refl }

module _ (n i : ℕ) (f₀ v₀ f v : List ℕ) (t : OwnTo n i f₀ v₀ f v) (hf : n ≤ length f₀) (hv : n ≤ length v₀) where
  pub own_places : (i < length f) × (i < length v)
  own_places = (omega (arith, t.at, t.far-size), omega (arith, t.at, t.cost-size))

  stored : (S : ℕ) → rows_in (set f i S) (set v i 0) (i + 1) ≡ map (λ j. (own n j, 0)) (from 1 i) ++ ((S, 0) ∷ [])
  stored S = stored_more f v i S 0 own_places.0 own_places.1 ∙ ap (λ R. R ++ ((S, 0) ∷ [])) t.rows

  pub own-more : (S : ℕ) → S ≡ own n (i + 1) → i + 1 < n → OwnTo n (i + 1) f₀ v₀ (set f i S) (set v i 0)
  own-more S e h = record {
    at = h;
    rows =
        let q : i + 1 ≡ 1 + i = omega arith in
        stored S ∙ ap (λ (x : ℕ). map (λ j. (own n j, 0)) (from 1 i) ++ ((x, 0) ∷ [])) (e ∙ ap (own n) q)
        ∙ sym (ap (map (λ j. (own n j, 0))) (ap (from 1) (add-one i) ∙ from_last 1 i) ∙ map-append (λ j. (own n j, 0)) (from 1 i) ((1 + i) ∷ []));
    far-size = length-set f i S ∙ t.far-size;
    cost-size = length-set v i 0 ∙ t.cost-size;
  }

  pub own_end : (S : ℕ) → S ≡ own n 0 → 3 ≤ n → n ≤ i + 1 → OwnTable n f₀ v₀ (set f i S) (set v i 0)
  own_end S e h l = record {
    rows = rows;
    ascends = between_ascends (set f i S) (set v i 0) n 1 (2 ^ n) (rw rows (between n h));
    far-size = length-set f i S ∙ t.far-size;
    cost-size = length-set v i 0 ∙ t.cost-size;
  }
    where
      rows : rows_in (set f i S) (set v i 0) n ≡ own_rows n
      rows =
          let q : n ≡ i + 1 = omega (arith, t.at) in
          let z : n - 1 ≡ i = omega arith in
          ap (rows_in (set f i S) (set v i 0)) q ∙ stored S ∙ ap (λ (x : ℕ). map (λ j. (own n j, 0)) (from 1 i) ++ ((x, 0) ∷ [])) e
          ∙ sym (ap (λ (x : ℕ). map (λ j. (own n j, 0)) (from 1 x ++ (0 ∷ []))) z ∙ map-append (λ j. (own n j, 0)) (from 1 i) (0 ∷ []))

      between : (n : ℕ) → 3 ≤ n → Between 1 (fars (own_rows n)) (2 ^ n)
      between zero h = absurd (omega arith)
      between (suc zero) h = absurd (omega arith)
      between (suc (suc k)) h = own_between k (omega arith)
