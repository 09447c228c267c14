-- The two listings of one input: they differ in the order line only, and there exactly where the far end is not image n. Assumes nothing.
use mathlib.Core.List.Memᴰ
use Rattle.std.specs.Prelude.{List, [], map, ◌++◌, ◌∷◌, ◌↔◌, refl, ◌≡◌, suc, ℕ, ◌-◌, ◌<◌, ◌^◌, ◌≤◌, get_or, take, Ok, Err}
use Rattle.std.proofs.lemmas.List.{append_cancel_left}
use Rattle.std.proofs.Math.Path.{ap}
use Rattle.std.proofs.Common.{sym, ◌∙◌, arith}
use Rattle.ground.specs.Filters.{Each}
use Rattle.ground.specs.Laws.Filters.{each_cons, each_nil}
use Rattle.ground.specs.declared.Refusal.{Refusal}
use Rattle.theory.proofs.Demands.{ordered}
use Rattle.theory.specs.Order.{order}
use Rattle.theory.specs.Tables.{cost, limit}
use Rattle.listing_lines.proofs.Laws.Once.{order_line_once}
use Rattle.listing_lines.specs.Lines.{order_line, refused_line}
use Rattle.listing_text.specs.LastImage.{last_image}
use Rattle.listing_text.specs.Laws.LastImage.{last_other}
use Rattle.listing_text.specs.Listing.{Listed, images_said, listing_text, stored_checks, table_said}
use Rattle.listing_text.specs.OrderLines.{from_one, rows_shown, shown}
use Rattle.listing_text.specs.Promises.{listed-front, listing_refused, listing_table, listing_checks, order_said}
use Rattle.table_text.specs.TableText.{table_text, text_if}
use Rattle.listing_text.specs.declared.Last.{Last}
use Rattle.listing_text.specs.declared.Last.TheVariants.{FarEnd, ImageN}

-- x, the listing, and y, the one with last n, differ in the order line only, and where there is none in nothing
pub record OrderLineOnly (s x y : List ℕ) : Type 0 where
  pub refused : (q : Refusal) → listing_checks s ≡ Err q → (x ≡ refused_line q) × (y ≡ refused_line q)
  pub accepted : listing_checks s ≡ Ok tt
      → (x ≡ rows_shown s ++ order_line (order_said FarEnd s)) × (y ≡ rows_shown s ++ order_line (order_said ImageN s))

pub order_line_only : (s : List ℕ) {a b : ℕ} {t u : List ℕ} → Listed FarEnd s a t → Listed ImageN s b u → OrderLineOnly s (take a t) (take b u)
order_line_only s p q = record {
  refused = λ r e. (listed-front FarEnd s p ∙ listing_refused FarEnd s r e, listed-front ImageN s q ∙ listing_refused ImageN s r e);
  accepted = λ e. (listed-front FarEnd s p ∙ shown s e FarEnd, listed-front ImageN s q ∙ shown s e ImageN);
}

-- ## Where they are the same

suc_small : (n : ℕ) (l : List ℕ) → n ≤ 64 → Each l (λ i. i < n) → Each (map suc l) (λ i. i < 2 ^ 64)
suc_small n [] h p = each_nil (λ i. i < 2 ^ 64)
suc_small n (x ∷ l) h p =
    each_cons (λ i. i < 2 ^ 64) (suc x) (map suc l) (omega (arith, p x (Memᴰ.head refl))) (suc_small n l h (λ y m. p y (Memᴰ.tail m)))

module _ (s : List ℕ) (e : listing_checks s ≡ Ok tt) where
  -- the images of an order are small numbers
  order_small : (which : Last) → Each (order_said which s) (λ i. i < 2 ^ 64)
  order_small which =
      let n = images_said s in
      let c = listing_table s e in
      let last = last_image which n (table_said s) in
      let o = last_other which n (table_said s) c in
      let a = ordered limit (cost (table_said s) n) n 0 (last - 1) c.formed (omega (arith, c.some)) (omega (arith, o.low, o.high))
      (λ z. omega (arith, o.low)) in
      suc_small n (order (cost (table_said s) n) n 0 (last - 1)) c.few a.images.all.range

  -- the last image can be read off
  last_said : listing_text FarEnd s ≡ listing_text ImageN s → last_image FarEnd (images_said s) (table_said s) ≡ images_said s
  last_said q =
      let n = images_said s in
      let t = table_said s in
      let c = listing_table s e in
      let lines : order_line (order_said FarEnd s) ≡ order_line (order_said ImageN s) =
      append_cancel_left (rows_shown s) _ _ (sym (shown s e FarEnd) ∙ q ∙ shown s e ImageN) in
      let same = order_line_once (order_said FarEnd s) (order_said ImageN s) (order_small FarEnd) (order_small ImageN) lines in
      sym (from_one n t (last_image FarEnd n t) c (last_other FarEnd n t c)).back ∙ ap (λ (o : List ℕ). get_or o (n - 1) 0) same
      ∙ (from_one n t n c (last_other ImageN n t c)).back

  -- the two listings of an accepted table are the same exactly where the far end is image n
  pub same_exactly : (listing_text FarEnd s ≡ listing_text ImageN s) ↔ (last_image FarEnd (images_said s) (table_said s) ≡ images_said s)
  unfolding listing_text
  same_exactly = (last_said, λ q. ap (λ (l : ℕ). text_if (stored_checks s) (table_text l (images_said s) (table_said s))) q)
