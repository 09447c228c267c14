-- The checks of the next table, once the reader has answered. Assumes nothing.
use Rattle.std.specs.Prelude.{not, List, [], ◌++◌, ◌∷◌, refl, ◌≡◌, ℕ, ◌*◌, ◌<◌, ◌^◌, eqb, drop, length, take, Ok, Err}
use mathlib.Core.List.Memᴰ
use Rattle.std.proofs.Common.{ap, subst, sym, ◌∙◌, arith, eqb-true, length-drop, ne_eqb}
use Rattle.std.proofs.lemmas.Bool.{not-false}
use Rattle.ground.specs.Filters.{Each}
use Rattle.ground.specs.Laws.Refusals.{refuse_if-passed}
use Rattle.ground.specs.Refusals.{◌then◌, Check}
use Rattle.ground.specs.declared.Refusal.{Refusal}
use Rattle.theory.specs.Tables.{limit}
use Rattle.figures.specs.Checks.{many_check, next_check, same_check, stored_checks}
use Rattle.counting.specs.Ready.{ReadReady, TableReady}
use Rattle.counting.specs.Standing.{Holds, Sound, Stands}
use Rattle.report.specs.Same.{other_check}
use Rattle.counting.specs.Taking.{Moved, Turn}
use Rattle.figures.specs.Tables.{Table, images_in, table_at, table_of}
use Rattle.report.specs.Laws.Read.{Read}
use Rattle.report.specs.Turning.{Paused}
use Rattle.figures.specs.declared.Figures.{Figures}
use Rattle.counting.specs.declared.Standing.{Standing}

-- ## 15

pub same_other : (L : ℕ) (ts : List Table) (n : ℕ) → Sound L ts → other_check (images_in ts) n ≡ same_check ts n
same_other L [] n s = refl
same_other L (t ∷ ts) n s =
    let c = s.formed t (Memᴰ.head refl) in rw (ne_eqb t.images 0 (λ e. omega (arith, c.some))) refl

pub same_passed : (L : ℕ) (ts : List Table) (n : ℕ) → Sound L ts → same_check ts n ≡ Ok tt → Each ts (λ t. t.images ≡ n)
same_passed L [] n s e t m = absurd (Memᴰ.not-nil m)
same_passed L (x ∷ ts) n s e t m =
    let q = eqb-true n x.images (not-false (eqb n x.images) (refuse_if-passed (not (eqb n x.images)) _ e)) in
    s.one t m ∙ sym q

module _ (ts : List Table) (tb : Table) (here : Standing) (f t s : List ℕ) (y : ReadReady ts tb here f t s) (c : Check)
    (e : c ≡ other_check here.figures.images tb.images) where
  is_same : c ≡ same_check ts tb.images
  is_same = e ∙ ap (λ (x : Figures). other_check x.images tb.images) y.stands.figures ∙ same_other limit ts tb.images y.stands.sound

  pub read_ready : c ≡ Ok tt → TableReady ts tb here f t s
  read_ready p = record {
    read = y;
    one = same_passed limit ts tb.images y.stands.sound (sym is_same ∙ p);
  }

  -- refused with 15: nothing has moved
  pub moved_other : (r : Refusal) → c ≡ Err r
      → Moved limit (same_check ts tb.images then many_check limit (ts ++ (tb ∷ []))) ts tb (record { standing = here; stop = c }) f t s f t s
  moved_other r p =
      rw (sym is_same ∙ p) (record { stopped = p; stands = y.stands; grown = omega arith; stored = y.holds.stored })

  pub moved_same : (x : Turn) (f' t' s' : List ℕ) → c ≡ Ok tt
      → Moved limit (many_check limit (ts ++ (tb ∷ []))) ts tb x f t s f' t' s'
      → Moved limit (same_check ts tb.images then many_check limit (ts ++ (tb ∷ []))) ts tb x f t s f' t' s'
  moved_same x f' t' s' p m = rw (sym is_same ∙ p) m

-- ## All checks of the next table

-- the table that the reader gives is ready to be taken
pub table_ready : (ts : List Table) (bytes : List ℕ) (here : Standing) (f t s : List ℕ) → Paused ts bytes here f t s → length bytes < 2 ^ 64 → (out : List ℕ) (n more : ℕ)
    → Read (drop here.figures.used bytes) out n more → ReadReady ts (table_of n more (take (n * n) out)) here f t s
table_ready ts bytes here f t s y u out n more q = record {
  stands = y.stands;
  holds = y.holds;
  below = y.below;
  formed = q.formed;
  fits = omega (arith, u, q.within, y.within, length-drop here.figures.used bytes);
}

pub moved_unread : (ts : List Table) (b : List ℕ) (here : Standing) (f t s : List ℕ) (r : Refusal)
    → Stands limit ts here → Holds limit ts here f t s → stored_checks b ≡ Err r
    → Moved limit (next_check limit ts b) ts (table_at b) (record { standing = here; stop = Err r }) f t s f t s
unfolding next_check
moved_unread ts b here f t s r st ho e = rw e (record { stopped = refl; stands = st; grown = omega arith; stored = ho.stored })

pub moved_read : (ts : List Table) (b : List ℕ) (tb : Table) (x : Turn) (f t s f' t' s' : List ℕ)
    → stored_checks b ≡ Ok tt → tb ≡ table_at b
    → Moved limit (same_check ts tb.images then many_check limit (ts ++ (tb ∷ []))) ts tb x f t s f' t' s'
    → Moved limit (next_check limit ts b) ts (table_at b) x f t s f' t' s'
unfolding next_check
moved_read ts b tb x f t s f' t' s' p e m =
    rw p (subst (λ (z : Table). Moved limit (same_check ts z.images then many_check limit (ts ++ (z ∷ []))) ts z x f t s f' t' s') e m)
