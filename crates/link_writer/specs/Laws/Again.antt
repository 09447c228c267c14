-- Writing what was read, for any form. Assumes nothing.
use Rattle.std.specs.Prelude.{List, ◌≡◌, ℕ, ◌/◌, ◌≤◌, drop, length, take}
use Rattle.std.proofs.Common.{ap, ap₂, ◌∙◌, arith}
use Rattle.ground.specs.Outcomes.{wrote_into}
use Rattle.theory.specs.Tables.{limit}
use Rattle.bits.specs.Bits.{AllBytes}
use Rattle.bits.specs.Editions.{Marked}
use Rattle.link_writer.specs.Laws.Accepted.{passed_write}
use Rattle.link_writer.specs.Writing.{write_outcome}
use Rattle.links.specs.Links.{Links}
use Rattle.link_forms.specs.Form.{link_bytes, link_used}
use Rattle.stored_links.proofs.Laws.ReadAt.{used_bytes}
use Rattle.stored_links.specs.Laws.WriteBack.{read_links}
use Rattle.link_forms.specs.Said.{costs_of, fars_of}
use Rattle.bits.specs.declared.Form.{Form}
use Rattle.stored_links.specs.Stored.{TableAt}

module _ (form : Form) (w : form.limit ≤ limit) where
  -- a link table is written where there is room for it
  pub written_is : (n N : ℕ) (l v out : List ℕ) → Links form.limit n N l v → link_used form n N ≤ length out
      → write_outcome form n N l v out ≡ wrote_into (link_used form n N) (link_bytes form n l v) out
  written_is n N l v out t h =
      let e : link_used form n (length l) ≡ link_used form n N = ap (link_used form n) t.counted in
      let p = passed_write form n N l v (length out) w t (rw e h) in
      rw p (ap (λ (x : ℕ). wrote_into x (link_bytes form n l v) out) e)

  -- writing what was read gives the same used bytes
  pub read_again : (bytes : List ℕ) (position n N used : ℕ) (out : List ℕ) → AllBytes bytes → TableAt form bytes position n N used
      → Marked form (drop (position / 8) bytes) → used ≤ length out
      → write_outcome form n N (fars_of form n N (drop (position / 8) bytes)) (costs_of form n N (drop (position / 8) bytes)) out
      ≡ wrote_into used (take used (drop (position / 8) bytes)) out
  read_again bytes position n N used out b t m h =
      let s = drop (position / 8) bytes in
      let e = t.used_is in
      written_is n N (fars_of form n N s) (costs_of form n N s) out (read_links form n N s t.stored) (omega (arith, e, h))
      ∙ ap₂ (λ (x : ℕ) (y : List ℕ). wrote_into x y out) e (used_bytes form bytes position n N used b t m)
