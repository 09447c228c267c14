-- No two answers of the exported calls cross as the same numbers: a call that is decided by its checks gives no refusal numbered 0, which is
-- all that the crossing asks. Assumes nothing.
use mathlib.Core.List.Memᴰ
use Rattle.std.specs.Prelude.{List, [], ◌∷◌, refl, ◌≡◌, ℕ, Ok, Err}
use Rattle.std.proofs.Common.{ap, sym, ◌∙◌, arith}
use Rattle.ground.specs.Filters.{Each}
use Rattle.ground.specs.InOrder.{Decides, Own}
use Rattle.ground.specs.Refusals.{if_passed, Check}
use Rattle.ground.specs.Steps.{Step, decided}
use Rattle.ground.specs.declared.Refusal.{Refusal}
use Rattle.numbers.specs.Kept.{Kept, Numbered}
use Rattle.numbers.specs.declared.KemotuikiHead.{KemotuikiHead}

module _ {A : Type 0} (refuse : ℕ → Refusal → A) (same : (m n : ℕ) (p q : Refusal) → refuse m p ≡ refuse n q → p ≡ q) (y : A) (plain : Numbered refuse y) where
  decided-numbered : (l : List Step) → Each l Own → Numbered refuse (decided refuse l y)
  decided-numbered [] o = plain
  decided-numbered (s ∷ l) o = go s.check refl (decided-numbered l (λ t m. o t (Memᴰ.tail m)))
    where
      go : (c : Check) → s.check ≡ c → Numbered refuse (decided refuse l y) → Numbered refuse (if_passed (refuse s.table) c (decided refuse l y))
      go (Ok tt) e rest m q f = rest m q f
      go (Err r) e rest m q f =
          let w = o s (Memᴰ.head refl) in
          omega (arith, w.some, w.alone r e, ap (λ (z : Refusal). z.number) (same s.table m r q f))

  -- the answer of a call, which is y where it is accepted, is no refusal numbered 0
  pub decides_numbered : {l : List Step} {x : A} → Decides refuse l y x → Numbered refuse x
  decides_numbered {l} d m q e = decided-numbered l d.own m q (sym d.same ∙ e)

-- so two answers with the same numbers are the same
pub crosses_once : {A K : Type 0} {head : K → KemotuikiHead} {numbers : A → K} {refuse : ℕ → Refusal → A} → Kept head numbers refuse
    → ((m n : ℕ) (p q : Refusal) → refuse m p ≡ refuse n q → p ≡ q) → {k l : List Step} {y z x w : A} → Numbered refuse y → Numbered refuse z
    → Decides refuse k y x → Decides refuse l z w → numbers x ≡ numbers w → x ≡ w
crosses_once {refuse = refuse} h same {y = y} {z} {x} {w} p q d e =
    h.once x w (decides_numbered refuse same y p d) (decides_numbered refuse same z q e)
