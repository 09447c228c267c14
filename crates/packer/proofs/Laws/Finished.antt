-- A whole form: put field by field from the start, then finished. Assumes nothing.
use Rattle.std.specs.Prelude.{List, [], ◌++◌, refl, ◌≡◌, ℕ, ◌-◌, ◌/◌, ◌^◌, drop, length, take}
use Rattle.std.proofs.Common.{append-nil, ap, ap₂, sym, ◌∙◌, arith, take-append-drop}
use Rattle.ground.specs.Buffers.{front}
use Rattle.bits.specs.Bits.{AllBits, AllBytes, bits, bits_of}
use Rattle.bits.specs.Forms.{bytes_for, fill_width, filled, packed}
use Rattle.bits.specs.Laws.Packed.{length-packed, packed_only}
use Rattle.bits.specs.Laws.Written.{all_bytes_take}
use Rattle.packer.specs.Gathering.{Finished, Put, put_bits, put_count}
use Rattle.packer.specs.Laws.Putting.{drop_further}
use Rattle.packer.specs.Start.{started}
use Rattle.packer.specs.declared.Gathered.{Gathered}

-- the fill bits put, nothing is gathered any more
pub fill_put : {old new : List ℕ} {g r : Gathered} {w : ℕ} → w ≡ fill_width (put_count g) → r.count ≡ 0 → r.at ≡ bytes_for (put_count g)
    → Put (bits_of w 0) old new g r → Finished old new g r.at
unfolding put_bits bits_of
fill_put {old = old} {new = new} {g = g} {r = r} e z a p =
    record {
      counted = a;
      whole = sym (ap (λ (k : ℕ). bits (take r.at new) ++ bits_of k (r.bits / 2 ^ (64 - r.count))) z ∙ append-nil (bits (take r.at new)))
          ∙ p.behind
          ∙ ap (λ (k : ℕ). put_bits old g ++ bits_of k 0) e;
      others = p.others;
    }

nothing_put : (old : List ℕ) → put_bits old started ≡ []
unfolding put_bits bits bits_of
nothing_put old = refl

-- bits put from the start and then finished: so many bytes are used, they stand at the front, and those behind are as they were
pub form_packed : {l old mid new : List ℕ} {g : Gathered} {used end : ℕ} → AllBits l → length l ≡ end → AllBytes new → Put l old mid started g
    → Finished mid new g used → (used ≡ bytes_for end) × (new ≡ front (packed l) old)
unfolding filled
form_packed {l = l} {old = old} {mid = mid} {new = new} {g = g} {used = used} b n y p f =
    let counted : put_count g ≡ length l = omega (arith, p.counted) in
    let all : put_bits mid g ≡ l = p.behind ∙ ap (λ (x : List ℕ). x ++ l) (nothing_put old) in
    let whole : take used new ≡ packed l = packed_only l b (take used new) (all_bytes_take used new y)
    (f.whole ∙ ap₂ (λ (x : List ℕ) (k : ℕ). x ++ bits_of (fill_width k) 0) all counted) in
    let rest : drop used mid ≡ drop used old = drop_further g.at used mid old (omega (arith, f.counted)) p.others in (
      f.counted ∙ ap bytes_for (counted ∙ n),
      sym (take-append-drop used new)
          ∙ ap₂ (λ (x z : List ℕ). x ++ z) whole (f.others ∙ rest)
          ∙ ap (λ (k : ℕ). packed l ++ drop k old) (f.counted ∙ ap bytes_for counted ∙ sym (length-packed l)),
    )
