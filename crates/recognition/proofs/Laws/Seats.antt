-- The order that stands in a slice: what the order call wrote is one of document 001, and the formula by its places. Assumes nothing.
use Rattle.std.specs.Prelude.{false, true, List, [], map, ◌∷◌, ◌↔◌, refl, ◌≡◌, suc, zero, ℕ, ◌+◌, ◌-◌, ◌<◌, ◌≤◌, drop, get_or, length, take}
use Rattle.std.proofs.Common.{ap, ap₂, subst, sym, ◌∙◌, add-one, arith, length-append, get_or-take, take_at, le-leb}
use Rattle.std.proofs.lemmas.List.{length-map}
use Rattle.std.proofs.lemmas.Bool.{lt-leb}
use Rattle.ground.specs.Buffers.{front}
use Rattle.theory.specs.FourPoint.{FourPoint}
use Rattle.theory.specs.Order.{order}
use Rattle.theory.specs.Tables.{WellFormed}
use Rattle.recognition.proofs.Laws.Condition.{graft_condition}
use Rattle.recognition.specs.Laws.Order.{around, order_once, order_places, order_yushmanov}
use Rattle.recognition.proofs.Laws.Facts.{grafts_not}
use Rattle.recognition.specs.Recognition.{Places, Yushmanov, all_graft, formula, grafts, placed, reached, reaches, recognised}
use Rattle.recognition.specs.Seats.{Ordered, seat}

-- ## The formula by places

module _ (d : ℕ → ℕ → ℕ) (l : List ℕ) (p x z : ℕ) (b : x ≡ seat l p) (c : z ≡ seat l (p + 1)) (f : seat l 0 ≡ 0) where
  pub seats_formula : (j q : ℕ) → q ≡ seat l j → formula d 0 x z q ≡ recognised (placed d (seat l)) p j
  seats_formula j q e = rw (b, c, e, add-one p, f)

  seats_reached : reached d 0 x z ≡ reaches (placed d (seat l)) p
  seats_reached = rw (b, c, add-one p, f)

  module _ (fx fz xz : ℕ) (u : fx ≡ d 0 x) (v : fz ≡ d 0 z) (w : xz ≡ d x z) where
    pub own_below : fz + xz < fx → false ≡ grafts (placed d (seat l)) p
    own_below h = grafts_not (placed d (seat l)) p (sym seats_reached ∙ lt-leb (d 0 x) (d 0 z + d x z) (omega arith))

    pub own-reached : fx ≤ fz + xz → reaches (placed d (seat l)) p ≡ true
    own-reached h = sym seats_reached ∙ le-leb (d 0 x) (d 0 z + d x z) (omega arith)

-- ## The order call's order

get_d_suc : (l : List ℕ) (i : ℕ) → i < length l → get_or (map suc l) i 0 ≡ suc (get_or l i 0)
get_d_suc [] i h = absurd (omega arith)
get_d_suc (x ∷ l) zero h = refl
get_d_suc (x ∷ l) (suc i) h = get_d_suc l i (omega arith)

places_same : (o q : ℕ → ℕ) (n : ℕ) → 0 < n → ((i : ℕ) → i < n → q i ≡ o i) → Places o n → Places q n
places_same o q n h e w = record {
  first = e 0 h ∙ w.first;
  range = λ {i} l. omega (arith, e i l, w.range l);
  once = λ {i} {j} l m s. w.once l m (sym (e i l) ∙ s ∙ e j m);
  all = λ x l. let r = w.all x l in (r.0, r.1, e r.0 r.1 ∙ r.2);
}

yushmanov_same : (d : ℕ → ℕ → ℕ) (o q : ℕ → ℕ) (m : ℕ) → ((i : ℕ) → i ≤ m → q i ≡ o i) → Yushmanov (placed d o) m → Yushmanov (placed d q) m
yushmanov_same d o q m e y = record {
  least = λ {p} {j} h l u.
      omega (
        arith,
        y.least {p = p} {j = j} h l u,
        ap₂ d (e (suc p) (omega arith)) (e p (omega arith)),
        ap₂ d (e 0 (omega arith)) (e j (omega arith)),
        ap₂ d (e (suc p) (omega arith)) (e j (omega arith)),
        ap₂ d (e 0 (omega arith)) (e p (omega arith)),
      );
}

from-order : (d : ℕ → ℕ → ℕ) (k : ℕ) (l : List ℕ) → suc (suc k) ≤ length l → take (suc (suc k)) l ≡ map suc (order d (suc (suc k)) 0 (suc k))
    → Ordered d (suc (suc k)) l
from-order d k l h e = record {
  seated = record {
    room = h;
    named = λ {i} u. omega (arith, at i u);
    places = places_same (around d k) (seat l) (suc (suc k)) (omega arith) same (order_places d k);
  };
  least =
      let q : suc (suc k) - 1 ≡ suc k = omega arith in
      rw q (yushmanov_same d (around d k) (seat l) (suc k) (λ i u. same i (omega arith)) (order_yushmanov d k));
}
  where
    n : ℕ
    n = suc (suc k)

    size : length (order d n 0 (suc k)) ≡ n
    size = (order_once d k).size

    at : (i : ℕ) → i < n → get_or l i 0 ≡ suc (around d k i)
    at i u =
        sym (get_or-take n l i 0 u) ∙ ap (λ (z : List ℕ). get_or z i 0) e ∙ get_d_suc (order d n 0 (suc k)) i (omega (arith, size))

    same : (i : ℕ) → i < n → seat l i ≡ around d k i
    same i u = omega (arith, at i u)

-- written in front of a slice with room for it
pub order_ordered : (d : ℕ → ℕ → ℕ) (n : ℕ) (o l : List ℕ) → 2 ≤ n → n ≤ length o → l ≡ front (map suc (order d n 0 (n - 1))) o → Ordered d n l
order_ordered d zero o l h r e = absurd (omega arith)
order_ordered d (suc zero) o l h r e = absurd (omega arith)
order_ordered d (suc (suc k)) o l h r e =
    let n = suc (suc k) in
    let q : suc (suc k) - 1 ≡ suc k = omega arith in
    let e = subst (λ (x : ℕ). l ≡ front (map suc (order d n 0 x)) o) q e in
    let full : length (map suc (order d n 0 (suc k))) ≡ n = length-map (order d n 0 (suc k)) suc ∙ (order_once d k).size in
    let m = map suc (order d n 0 (suc k)) in
    let size = ap length e ∙ length-append m (drop (length m) o) in
    from-order d k l (omega (arith, size, full)) (rw e (take_at m _ n full))

-- every image can be grafted exactly where the four-point condition holds
pub seats_condition : (L n : ℕ) (d : ℕ → ℕ → ℕ) (l : List ℕ) → 2 ≤ n → WellFormed L d n → Ordered d n l
    → (all_graft (placed d (seat l)) (n - 1) ≡ true) ↔ FourPoint d n
seats_condition L zero d l h c y = absurd (omega arith)
seats_condition L (suc zero) d l h c y = absurd (omega arith)
seats_condition L (suc (suc k)) d l h c y =
    let q : suc (suc k) - 1 ≡ suc k = omega arith in
    let u = y.least in
    rw q (graft_condition L d (seat l) k c y.seated.places (rw q at u))
