-- Generic laws of lists: ascending numbers, members, the rows of a table by their places. Assumes nothing.
use Rattle.std.specs.Prelude.{◌||◌, refl, ◌≡◌, suc, zero, ℕ, ◌<◌, ◌≤◌, eqb, drop, get_or, length, take}
use mathlib.Core.List.{List, Memᴰ, [], ◌++◌, ◌∷◌}
use Rattle.std.proofs.Common.{ap, arith}
use borrow.Table.Steps.{cases}
use Rattle.ground.specs.Ascending.{Between}
use Rattle.ground.specs.Filters.{Each}
use Rattle.ground.specs.Members.{is_in}
use Rattle.ground.specs.Laws.Filters.{each_append, each_cons, each_nil}
use Rattle.theory.specs.LinkTables.{Row, costs, fars}

-- ## Ascending numbers

pub between_split : (a S k : ℕ) (l r : List ℕ) → Between a (l ++ (S ∷ r)) k → Between a l S × Between (suc S) r k
between_split a S k [] r b = (b.0, b.1)
between_split a S k (x ∷ l) r b = let ih = between_split (suc x) S k l r b.1 in ((b.0, ih.0), ih.1)

pub between_last : (a k S : ℕ) (l : List ℕ) → Between a l k → Each l (λ X. X < S) → a ≤ S → S < k → Between a (l ++ (S ∷ [])) k
between_last a k S [] b h p q = (p, q)
between_last a k S (x ∷ l) b h p q = (b.0, between_last (suc x) k S l b.1 (λ X d. h X (Memᴰ.tail d)) (h x (Memᴰ.head refl)) q)

-- ## Members

pub is_in_append : (x : ℕ) (l m : List ℕ) → is_in x (l ++ m) ≡ (is_in x l || is_in x m)
is_in_append x [] m = refl
is_in_append x (y ∷ l) m = let ih = is_in_append x l m in cases (eqb x y) (λ e. rw e refl) (λ e. rw (e, ih) refl)

pub each_one : {A : Type 0} (P : A → Type 0) (x : A) → P x → Each (x ∷ []) P
each_one P x p = each_cons P x [] p (each_nil P)

-- any two members
pub pairs_append : {A : Type 0} (Q : A → A → Type 0) → ((x y : A) → Q x y → Q y x) → (l m : List A)
    → Each l (λ x. Each l (Q x)) → Each m (λ x. Each m (Q x)) → Each l (λ x. Each m (Q x)) → Each (l ++ m) (λ x. Each (l ++ m) (Q x))
pairs_append Q s l m a b c =
    each_append (λ x. Each (l ++ m) (Q x)) l m (λ x d. each_append (Q x) l m (a x d) (c x d))
    (λ x d. each_append (Q x) l m (λ y e. s y x (c y e x d)) (b x d))

-- ## Rows by their places

pub row_at : (T : List Row) (k : ℕ) → k < length T → Memᴰ (get_or (fars T) k 0, get_or (costs T) k 0) T
row_at [] k h = absurd (omega arith)
row_at (r ∷ T) zero h = Memᴰ.head refl
row_at (r ∷ T) (suc k) h = Memᴰ.tail (row_at T k (omega arith))

pub at_row : (T : List Row) (x : Row) → Memᴰ x T → (k : ℕ) × (k < length T) × (x ≡ (get_or (fars T) k 0, get_or (costs T) k 0))
at_row [] x m = elim m [ ]
at_row (r ∷ T) x (Memᴰ.head e) = (0, omega arith, e)
at_row (r ∷ T) x (Memᴰ.tail d) = let k = at_row T x d in (suc k.0, omega (arith, k.1), k.2)

pub row_is : (T : List Row) (k : ℕ) → k < length T → take (suc k) T ≡ take k T ++ ((get_or (fars T) k 0, get_or (costs T) k 0) ∷ [])
row_is [] k h = absurd (omega arith)
row_is (r ∷ T) zero h = refl
row_is (r ∷ T) (suc k) h = ap (λ (m : List Row). r ∷ m) (row_is T k (omega arith))

pub cut_at : (T : List Row) (k : ℕ) → k < length T → T ≡ take k T ++ ((get_or (fars T) k 0, get_or (costs T) k 0) ∷ drop (suc k) T)
cut_at [] k h = absurd (omega arith)
cut_at (r ∷ T) zero h = refl
cut_at (r ∷ T) (suc k) h = ap (λ (m : List Row). r ∷ m) (cut_at T k (omega arith))
