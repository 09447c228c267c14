-- A division that a ring passes twice is one run of neighbours.
-- Assumes nothing.
use Rattle.std.specs.Prelude.{Bool, false, true, List, [], ◌++◌, ◌∷◌, refl, ◌≡◌, ℕ}
use Rattle.std.proofs.Common.{ap, ap₂, arith}
use borrow.Table.Steps.{cases}
use Rattle.ground.specs.Counts.{one_if}
use Rattle.ground.specs.Filters.{Each}
use Rattle.ground.specs.Laws.Filters.{each_cons, each_nil}
use Rattle.ground.specs.Tests.{one_of}
use Rattle.theory.proofs.Laws.Ring.{turn}
use Rattle.theory.proofs.Laws.Ring.{away_self, turn-away, turn-back}
use Rattle.theory.specs.LinkTables.{apart}
use Rattle.theory.specs.Order.{along, closed}
use Rattle.theory.specs.OrderRules.{OneRun}

module _ (S f : ℕ) where
  abbrev away : ℕ → Bool
  away i = apart S f i

  -- never passed from here on: nothing of the far group follows
  rest_out : (x : ℕ) (l : List ℕ) → away x ≡ false → along (turn S) f x l ≡ 0 → Each (x ∷ l) (λ i. away i ≡ false)
  rest_out x [] a e = each_cons _ x [] a (each_nil _)
  rest_out x (y ∷ l) a e =
      cases (away y)
      (λ t. absurd (omega (arith, turn-away S f x y, ap one_if (ap₂ one_of a t))))
      (λ t. each_cons _ x (y ∷ l) a (rest_out y l t (omega (arith, turn-away S f x y, ap one_if (ap₂ one_of a t)))))

  pub record Then (p q : Bool) (l : List ℕ) : Type 0 where
    pub front : List ℕ
    pub back : List ℕ
    pub is : l ≡ front ++ back
    pub all-front : Each front (λ i. away i ≡ p)
    pub all_back : Each back (λ i. away i ≡ q)

  rest_in : (x : ℕ) (l : List ℕ) → away x ≡ true → along (turn S) f x l ≡ 1 → Then true false (x ∷ l)
  rest_in x [] a e = record { front = x ∷ []; back = []; is = refl; all-front = each_cons _ x [] a (each_nil _); all_back = each_nil _ }
  rest_in x (y ∷ l) a e =
      cases (away y)
      (λ t. let r = rest_in y l t (omega (arith, turn-away S f x y, ap one_if (ap₂ one_of a t))) in
      record {
        front = x ∷ r.front;
        back = r.back;
        is = ap (λ z. x ∷ z) r.is;
        all-front = each_cons _ x r.front a r.all-front;
        all_back = r.all_back;
      })
      (λ t. record {
        front = x ∷ [];
        back = y ∷ l;
        is = refl;
        all-front = each_cons _ x [] a (each_nil _);
        all_back = rest_out y l t (omega (arith, turn-away S f x y, ap one_if (ap₂ one_of a t)));
      })

  passed-twice : (x : ℕ) (l : List ℕ) → away x ≡ false → along (turn S) f x l ≡ 2 → OneRun S f (x ∷ l)
  passed-twice x [] a e = absurd (omega (arith, turn-back S f x, ap one_if a))
  passed-twice x (y ∷ l) a e =
      cases (away y)
      (λ t. let r = rest_in y l t (omega (arith, turn-away S f x y, ap one_if (ap₂ one_of a t))) in
      record {
        before = x ∷ [];
        run = r.front;
        after = r.back;
        is = ap (λ z. x ∷ z) r.is;
        all_before = each_cons _ x [] a (each_nil _);
        all-run = r.all-front;
        all_after = r.all_back;
      })
      (λ t. let r = passed-twice y l t (omega (arith, turn-away S f x y, ap one_if (ap₂ one_of a t))) in
      record {
        before = x ∷ r.before;
        run = r.run;
        after = r.after;
        is = ap (λ z. x ∷ z) r.is;
        all_before = each_cons _ x r.before a r.all_before;
        all-run = r.all-run;
        all_after = r.all_after;
      })

  pub one_run_list : (l : List ℕ) → closed (turn S) (f ∷ l) ≡ 2 → OneRun S f (f ∷ l)
  one_run_list l e = passed-twice f l (away_self S f) e
