-- The answer of a replay crosses and nothing is lost, the images and rows of a refused event included. Assumes nothing.
use Rattle.ground.specs.Refusals.{Check}
use Rattle.std.proofs.Common.{inl, inr, ap, ◌∙◌}
use Rattle.std.specs.Prelude.{refl, ◌≡◌, Ok, Err}
use Rattle.leaving.specs.declared.Replayed.{Replayed}
use Rattle.numbers.specs.Kept.{Kept, Numbered}
use Rattle.numbers.specs.Laws.Kept.{ReadBack, kept}
use Rattle.numbers.specs.Replays.{of_check, of_replayed}
use Rattle.numbers.specs.declared.KemotuikiHead.{KemotuikiHead}
use Rattle.numbers.specs.declared.KemotuikiReplay.{KemotuikiReplay}

pub check_kept : Kept (λ (k : KemotuikiHead). k) of_check (λ m. Err)
check_kept = kept (λ k. k) of_check (λ m. Err) (λ k. (Ok tt)) (λ m q. refl) each
  where
    each : (c : Check) → ReadBack (λ (k : KemotuikiHead). k) of_check (λ m. Err) (λ k. (Ok tt)) c
    each (Ok tt) = inr (refl, refl)
    each (Err q) = inl (0, q, refl, refl)

-- no second answer crosses as the same numbers
pub replay-kept : (x y : Replayed) → Numbered (λ m. Err) x.stop → Numbered (λ m. Err) y.stop → of_replayed x ≡ of_replayed y → x ≡ y
replay-kept x y m o e =
    let stop : x.stop ≡ y.stop = check_kept.once x.stop y.stop m o (ap (λ (k : KemotuikiReplay). k.head) e) in
    let images : x.images ≡ y.images = ap (λ (k : KemotuikiReplay). k.images) e in
    let rows : x.rows ≡ y.rows = ap (λ (k : KemotuikiReplay). k.rows) e in
    let event : x.event ≡ y.event = ap (λ (k : KemotuikiReplay). k.event) e in
    ap (λ c. record { images = x.images; rows = x.rows; event = x.event; stop = c }) stop
    ∙ ap (λ i. record { images = i; rows = x.rows; event = x.event; stop = y.stop }) images
    ∙ ap (λ i. record { images = y.images; rows = i; event = x.event; stop = y.stop }) rows
    ∙ ap (λ i. record { images = y.images; rows = y.rows; event = i; stop = y.stop }) event
