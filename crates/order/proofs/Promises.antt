-- What the promise of the order call says: what an accepted call wrote, that a refused one altered nothing, and that no second
-- answer meets it. Assumes nothing.
use Rattle.ground.specs.Refusals.{Check, Written}
use Rattle.std.specs.Prelude.{List, [], refl, ◌≡◌, suc, zero, ℕ, ◌-◌, ◌≤◌, drop, get_or, length, take, Ok, Err}
use Rattle.std.proofs.Common.{ap, sym, ◌∙◌, arith, length-append, length-drop, drop_at, get_or-take, take_at}
use Rattle.std.proofs.lemmas.List.{length-map}
use Rattle.ground.specs.Buffers.{front}
use Rattle.ground.specs.Members.{occurs}
use Rattle.ground.specs.Outcomes.{Left}
use Rattle.ground.specs.declared.Refusal.{Refusal}
use Rattle.theory.specs.Demands.{Ordered}
use Rattle.theory.proofs.Demands.{ordered}
use Rattle.theory.specs.Order.{grow, order}
use Rattle.theory.specs.Tables.{cost}
use Rattle.order.proofs.Laws.Asked.{asked_ends, asked_passed, passed_asked}
use Rattle.order.specs.Laws.Counted.{back-suc, last_suc, occurs-suc}
use Rattle.order.specs.Outcome.{OrderAsked, counted, images, order_checks, order_outcome}
pub use Rattle.order.specs.Promises.{OrderLeft}

-- ## The two ways out of the call

module _ (L n : ℕ) (t : List ℕ) (first last : ℕ) (o : List ℕ) where
  pub left-refused : {c : Check} {r : Refusal} → c ≡ Err r → c ≡ order_checks L n t first last (length o)
      → Left (order_outcome L n t first last o) (Err r) o
  left-refused e f = rw (← f, e) (record { answered = refl; left = refl })

  pub left_written : {c : Check} (e : List ℕ) → c ≡ Ok tt → c ≡ order_checks L n t first last (length o)
      → e ≡ front (images n t first last) o → Left (order_outcome L n t first last o) (Ok n) e
  left_written e p f q = rw (← f, p) (record { answered = refl; left = q })

-- what the author of the call names
pub ruleset ways_out = (left-refused, left_written)

-- ## An accepted call

module _ (L n : ℕ) (t : List ℕ) (first last : ℕ) (e₀ : List ℕ) where
  front_wrote : OrderAsked L n t first last (length e₀) → (e : List ℕ) → e ≡ front (images n t first last) e₀ → OrderLeft L n t first last e₀ e
  front_wrote a e q = record {
    asked = a;
    wrote = wrote;
    rest = rest;
    size = size;
    once = λ i l h. rw wrote (once i l h);
    from = rw q (omega (arith, a.first_low));
    to = sym (get_or-take n e (n - 1) 0 (omega (arith, a.table.some))) ∙ ap (λ (z : List ℕ). get_or z (n - 1) 0) wrote ∙ to;
    rule = λ a w x l q. all.rule a w x l (sym counted_is ∙ q);
    runs = λ S s p. rw counted_is (all.runs S s p);
    sums = λ T x. rw counted_is (all.sums T x);
    least = λ T x l a. rw counted_is (all.least T x l a);
    within = λ q p l a. rw counted_is (all.within q p l a);
    far_runs = λ T x r m. rw counted_is (all.far_runs T x r m);
  }
    where
      all : Ordered L (cost t n) n (first - 1) (last - 1)
      all =
          let z = asked_ends L n t first last (length e₀) a in
          ordered L (cost t n) n (first - 1) (last - 1) a.table.formed z.0 z.1 z.2

      l : List ℕ
      l = order (cost t n) n (first - 1) (last - 1)

      full : length (images n t first last) ≡ n
      full = length-map l suc ∙ all.images.size

      wrote : take n e ≡ images n t first last
      wrote = rw q (take_at (images n t first last) _ n full)

      rest : drop n e ≡ drop n e₀
      rest = rw q (drop_at (images n t first last) _ n full ∙ ap (λ (k : ℕ). drop k e₀) full)

      counted_is : counted n e ≡ l
      counted_is = rw wrote (back-suc l)

      once : (i : ℕ) → 1 ≤ i → i ≤ n → occurs i (images n t first last) ≡ 1
      once zero l h = absurd (omega arith)
      once (suc i) l h = occurs-suc i (order (cost t n) n (first - 1) (last - 1)) ∙ all.images.all.once i (omega arith)

      size : length e ≡ length e₀
      size = rw q (simp (length-append, length-drop) (omega (arith, full, a.space)))

      g : List ℕ
      g = grow (cost t n) n (first - 1) (n - 2) (last - 1) []

      to : get_or (images n t first last) (n - 1) 0 ≡ last
      to =
          let k : n - 1 ≡ length g = omega (arith, all.images.size) in
          rw k (last_suc (first - 1) g ∙ omega (arith, all.images.back, a.last_low))

  -- ## The laws of the promise

  -- asked for what may be asked, it accepts
  pub order-accepted : (r : Written) (e : List ℕ) → Left (order_outcome L n t first last e₀) r e → OrderAsked L n t first last (length e₀) → r ≡ Ok n
  order-accepted r e p a = p.answered ∙ rw (asked_passed L n t first last (length e₀) a)

  -- accepted, it was asked for that, answers n and wrote the order
  pub order_wrote : (r : Written) (e : List ℕ) (count : ℕ) → Left (order_outcome L n t first last e₀) r e → r ≡ Ok count
      → (count ≡ n) × OrderLeft L n t first last e₀ e
  order_wrote r e count p z = go (order_checks L n t first last (length e₀)) refl p
    where
      go : (c : Check) → order_checks L n t first last (length e₀) ≡ c → Left (order_outcome L n t first last e₀) r e
          → (count ≡ n) × OrderLeft L n t first last e₀ e
      go (Ok tt) s p = let w = rw s at p.answered in (cc, front_wrote (passed_asked L n t first last (length e₀) s) e (rw s at p.left))
      go (Err q) s p = absurd (let w = rw s at p.answered in let y : ◌≡◌ {A = ℕ} 0 1 = cc in omega arith)

  -- refused, it gives the first refusal of the checks and altered nothing
  pub order-refused : (r : Written) (e : List ℕ) (q : Refusal) → Left (order_outcome L n t first last e₀) r e → r ≡ Err q
      → (order_checks L n t first last (length e₀) ≡ Err q) × (e ≡ e₀)
  order-refused r e q p z = go (order_checks L n t first last (length e₀)) refl p
    where
      go : (c : Check) → order_checks L n t first last (length e₀) ≡ c → Left (order_outcome L n t first last e₀) r e
          → (order_checks L n t first last (length e₀) ≡ Err q) × (e ≡ e₀)
      go (Ok tt) s p = absurd (let w = rw s at p.answered in let y : ◌≡◌ {A = ℕ} 0 1 = cc in omega arith)
      go (Err u) s p = let w = rw s at p.answered in (let v : u ≡ q = cc in s ∙ ap Err v, rw s at p.left)
