-- `stored_costs::check_row` meets its contract: what is left answers as the whole does. Assumes nothing.
use Rattle.std.proofs.Common.{List, length, ◌<◌, ap, arith, rules, sym, ℕ, ◌*◌, ◌+◌, ◌∙◌, ◌≡◌, ◌≤◌}
use Rattle.ground.specs.Laws.Lowest.{in_turn}
use Rattle.bits.specs.declared.Form.{Form}
use Rattle.cost_forms.specs.Sizes.{Held, last_entry_end}
use Rattle.bits.specs.Bits.{bits, part, value_of}
use Rattle.bits.specs.Forms.{field_value}
use Rattle.bits.specs.Laws.OneWidth.{field_end, times_more}
use Rattle.cost_forms.specs.Entries.{entry_cost, entry_count, entry_number}
use Rattle.cost_forms.specs.Said.{entry_of}
use Rattle.cost_forms.specs.Laws.Entries.{number_lt}
use Rattle.cost_forms.specs.Laws.Sizes.{end_le}
use Rattle.cost_forms.specs.Laws.Tables.{cost_of_up}
use Rattle.stored_costs.proofs.check_row.Goals as goal

-- the number behind the entries before it is the entry of i and j
said : (form : Form) (n i j : ℕ) {p v : ℕ} (s : List ℕ) → i < j → p ≡ form.head + 7 + form.width * entry_number n i j
    → v ≡ value_of (part (bits s) p form.width) → v ≡ entry_cost (entry_of form s) n i j
unfolding entry_of field_value
said form n i j s h e f =
    f ∙ ap (λ (x : ℕ). value_of (part (bits s) x form.width)) e ∙ sym (cost_of_up (entry_of form s) n i j h)

-- and ends where the entries end, or before
ends : (form : Form) (n i j m p : ℕ) → Held form n m → i < j → j < n → p ≡ form.head + 7 + form.width * entry_number n i j
    → (p + form.width ≤ 8 * m) × (p + form.width ≤ last_entry_end)
ends form n i j m p h a b e =
    let f = field_end (form.head + 7) form.width (entry_count n) (entry_number n i j) (number_lt n i j a b) in
    let g = end_le form n h.small in
    (omega (arith, h.within), omega arith)

pub entry_at-requires : goal.entry_at-requires
entry_at-requires c =
    let a = c.args in
    let l = c.loop-j in
    let e = ends a.form a.n a.i l.j (length a.bytes.now) l.p c.requires.0 l.invariant.0 c.loop-j-test.true l.invariant.1 in
    let h = c.requires.0.small in
    (h.narrow, record { width = omega (arith, h.narrow); within = e.0; counted = omega arith })

pub returns-in_err-check_value : goal.returns-in_err-check_value
returns-in_err-check_value c =
    let a = c.args in
    let l = c.loop-j in
    let e = said a.form a.n a.i l.j a.bytes.now l.invariant.0 l.invariant.1 c.entry_at.ensures in
    let q = rw e at c.check_value.ensures in
    grind (arith, in_turn)

pub overflow_add-p : goal.overflow_add-p
overflow_add-p c =
    let a = c.args in
    let l = c.loop-j in
    let e = ends a.form a.n a.i l.j (length a.bytes.now) l.p c.requires.0 l.invariant.0 c.loop-j-test.true l.invariant.1 in
    omega arith

pub loop-j-preserved : goal.loop-j-preserved
loop-j-preserved c =
    let a = c.args in
    let l = c.loop-j in
    let e = said a.form a.n a.i l.j a.bytes.now l.invariant.0 l.invariant.1 c.entry_at.ensures in
    let q = rw e at c.check_value.ensures in
    let next : entry_number a.n a.i (l.j + 1) ≡ entry_number a.n a.i l.j + 1 = omega (arith, l.invariant.0) in (
      search rules,
      omega (arith, l.invariant.1, ap (λ (x : ℕ). a.form.width * x) next, times_more a.form.width (entry_number a.n a.i l.j)),
      grind (arith, in_turn),
    )
