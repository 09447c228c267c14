-- What the order line of a listing says: all images once, from 1 to the last image; and which image that is. Images are 1 to n here, as in
-- the listing. Assumes nothing.
use Rattle.std.specs.Prelude.{List, ◌++◌, refl, ◌≡◌, suc, ℕ, ◌-◌, ◌≤◌, get_or, length, replicate, take, Ok}
use Rattle.std.proofs.Common.{append_assoc, ap, subst, ◌∙◌, arith, get_or-take}
use Rattle.std.proofs.Math.Path.{sym}
use Rattle.std.proofs.lemmas.List.{length-replicate}
use Rattle.ground.specs.Members.{occurs}
use Rattle.ground.specs.Outcomes.{Left}
use Rattle.theory.proofs.Demands.{ordered}
use Rattle.theory.specs.LinkTables.{costs, fars}
use Rattle.theory.specs.Order.{AnOrder, closed, order}
use Rattle.theory.specs.OrderRules.{counted_from0}
use Rattle.theory.specs.Routes.{uppers}
use Rattle.theory.specs.Tables.{CostTable, cost, limit}
use Rattle.far_end.specs.FarEnd.{IsFarEnd, far_end}
use Rattle.far_end.proofs.Laws.FarEnd.{far_end_is, far_end_only}
use Rattle.order.specs.Laws.Counted.{back-suc}
use Rattle.order.specs.Outcome.{images, order_outcome}
use Rattle.order.proofs.Promises.{order-accepted, order_wrote}
use Rattle.tree.specs.Exact.{exact_rows}
use Rattle.table_text.specs.LastImage.{Other}
use Rattle.listing_text.specs.LastImage.{last_image}
use Rattle.table_text.specs.Laws.Accepted.{order_asked, order-left}
use Rattle.listing_text.specs.Laws.LastImage.{last_other}
use Rattle.listing_lines.specs.Lines.{header, order_line, reading_text, row_lines}
use Rattle.listing_text.specs.Listing.{Listed, images_said, listing_text, table_said}
use Rattle.listing_text.specs.Promises.{listed-front, listing_accepted, listing_exact, listing_table, listing_checks, order_said}
use Rattle.listing_text.specs.declared.Last.{Last}
use Rattle.listing_text.specs.declared.Last.TheVariants.{FarEnd, ImageN}

-- ## The last image

-- last is the far end: an image of 2 to n; none of these costs more from image 1; of equals it is the lowest
pub record LastIsFar (n : ℕ) (t : List ℕ) (last : ℕ) : Type 0 where
  pub other : 2 ≤ last
  pub image : last ≤ n
  pub greatest : (i : ℕ) → 2 ≤ i → i ≤ n → cost t n 0 (i - 1) ≤ cost t n 0 (last - 1)
  pub lowest : (i : ℕ) → 2 ≤ i → i ≤ n → cost t n 0 (i - 1) ≡ cost t n 0 (last - 1) → last ≤ i

pub last_is_far : (n : ℕ) (t : List ℕ) → CostTable limit n t → LastIsFar n t (last_image FarEnd n t)
last_is_far n t c =
    let f = far_end_is (cost t n) n (omega (arith, c.some)) in
    let back : last_image FarEnd n t - 1 ≡ far_end (cost t n) n = omega arith in
    record {
      other = omega (arith, f.other);
      image = omega (arith, f.image);
      greatest = λ i l h. rw back (f.greatest (i - 1) (omega arith) (omega arith));
      lowest = λ i l h e. omega (arith, f.lowest (i - 1) (omega arith) (omega arith) (rw back at e));
    }

-- and no other image is all that
pub last_only : (n : ℕ) (t : List ℕ) (last : ℕ) → CostTable limit n t → LastIsFar n t last → last ≡ last_image FarEnd n t
last_only n t last c f =
    let back : (w : ℕ) → suc w - 1 ≡ w = λ w. omega arith in
    let g : IsFarEnd (cost t n) n (last - 1) = record {
      other = omega (arith, f.other);
      image = omega (arith, f.other, f.image);
      greatest = λ w l h. rw (back w) at (f.greatest (suc w) (omega arith) (omega arith));
      lowest = λ w l h e. omega (arith, f.lowest (suc w) (omega arith) (omega arith) (rw (back w) e));
    } in
    omega (arith, f.other, far_end_only (cost t n) n (last - 1) (omega (arith, c.some)) g)

-- ## All images once

-- o has each of n images once, image 1 in front and last at the end
pub record FromOneTo (last n : ℕ) (o : List ℕ) : Type 0 where
  pub size : length o ≡ n
  pub once : (i : ℕ) → 1 ≤ i → i ≤ n → occurs i o ≡ 1
  pub front : get_or o 0 0 ≡ 1
  pub back : get_or o (n - 1) 0 ≡ last

pub from_one : (n : ℕ) (t : List ℕ) (last : ℕ) → CostTable limit n t → Other n last → FromOneTo last n (images n t 1 last)
from_one n t last c b =
    let o : List ℕ = replicate 64 0 in
    let q = order_outcome limit n t 1 last o in
    let p : Left q q.answer q.places = record { answered = refl; left = refl } in
    let h : 64 ≤ length o = omega (arith, length-replicate {A = ℕ} 64 0) in
    let a = order-accepted limit n t 1 last o q.answer q.places p (order_asked n t last o c b h) in
    let w = (order_wrote limit n t 1 last o q.answer q.places n p a).1 in
    record {
      size = (order-left n t last o q.places q.answer c b h p).1;
      once = λ i l g. rw w.wrote at (w.once i l g);
      front = refl;
      back =
          ap (λ (z : List ℕ). get_or z (n - 1) 0) (sym w.wrote) ∙ get_or-take n q.places (n - 1) 0 (omega (arith, c.some)) ∙ w.to;
    }

-- ## What is printed

-- header and rows of the table that the bytes say
abbrev pub rows_shown : List ℕ → List ℕ
rows_shown s =
    let T = exact_rows limit (images_said s) (table_said s) in header (images_said s) (length (fars T)) ++ row_lines (fars T) (costs T) (uppers (fars T))

-- the text is header and rows, which are the same whichever image is last, and the order from 1 to last, which has all images once
pub record Printed (s text : List ℕ) (last : ℕ) : Type 0 where
  pub lines : text ≡ rows_shown s ++ order_line (images (images_said s) (table_said s) 1 last)
  pub ring : FromOneTo last (images_said s) (images (images_said s) (table_said s) 1 last)
  -- no ring is shorter than this order, closed by the way back from last to image 1
  pub least : (l : List ℕ) → AnOrder (images_said s) l
      → closed (cost (table_said s) (images_said s)) (counted_from0 (images (images_said s) (table_said s) 1 last)) ≤ closed (cost (table_said s) (images_said s)) l

module _ (s : List ℕ) (e : listing_checks s ≡ Ok tt) where
  -- whichever image is last, the lines before the order line are the same
  pub shown : (which : Last) → listing_text which s ≡ rows_shown s ++ order_line (order_said which s)
  unfolding reading_text
  shown which =
      let n = images_said s in
      let T = exact_rows limit n (table_said s) in
      listing_accepted which s e
      ∙ sym (append_assoc (header n (length (fars T))) (row_lines (fars T) (costs T) (uppers (fars T))) (order_line (order_said which s)))

  printed : (which : Last) {size : ℕ} {text : List ℕ} → Listed which s size text
      → Printed s (take size text) (last_image which (images_said s) (table_said s))
  printed which p =
      let n = images_said s in
      let t = table_said s in
      let last = last_image which n t in
      let c = listing_table s e in
      let o = last_other which n t c in
      let x = listing_exact which s e in
      let all = ordered limit (cost t n) n 0 (last - 1) c.formed (omega (arith, c.some)) (omega (arith, o.low, o.high)) (λ z. omega (arith, o.low)) in
      record {
        lines = listed-front which s p ∙ shown which;
        ring = from_one n t _ c o;
        least = λ l a. subst (λ (r : List ℕ). closed (cost t n) r ≤ closed (cost t n) l) (sym (back-suc (order (cost t n) n 0 (last - 1))))
            (all.least x.0 x.1.exact l a);
      }

  -- the listing closes its ring over the long link
  pub closes_far : {size : ℕ} {text : List ℕ} → Listed FarEnd s size text
      → (last : ℕ) × Printed s (take size text) last × LastIsFar (images_said s) (table_said s) last
  closes_far p = (last_image FarEnd (images_said s) (table_said s), printed FarEnd p, last_is_far (images_said s) (table_said s) (listing_table s e))

  -- the second listing at image n
  pub closes_at_n : {size : ℕ} {text : List ℕ} → Listed ImageN s size text → Printed s (take size text) (images_said s)
  closes_at_n p = printed ImageN p
