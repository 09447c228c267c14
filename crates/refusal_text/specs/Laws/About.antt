-- The table that a refusal is about: when it is named, and how long that is. Assumes nothing.
use Rattle.std.specs.Prelude.{◌||◌, [], ◌++◌, refl, ◌≡◌, ℕ, ◌≤◌, eqb, length}
use Rattle.std.proofs.Common.{arith, length-append, ne_eqb}
use borrow.Table.Steps.{cases}
use Rattle.text.specs.Fields.{field}
use Rattle.text.proofs.Laws.Lengths.{field-most}
use Rattle.text.specs.Words.{bytes_of}
use Rattle.refusal_text.specs.Text.{about_table}

pub about-accepted : (number table : ℕ) → number ≡ 0 → about_table number table ≡ []
unfolding about_table
about-accepted number table e = rw e refl

pub about_none : (number table : ℕ) → table ≡ 0 → about_table number table ≡ []
unfolding about_table
about_none number table e = rw e (cases (eqb number 0) (λ h. rw h refl) (λ h. rw h refl))

pub about-one : (number table : ℕ) → (number ≡ 0 → ⊥) → (table ≡ 0 → ⊥)
    → about_table number table ≡ bytes_of "table" ++ (field table ++ bytes_of ": ")
unfolding about_table
about-one number table h k = rw (ne_eqb number 0 h, ne_eqb table 0 k) refl

pub about-most : (number table : ℕ) → length (about_table number table) ≤ 28
unfolding about_table bytes_of
about-most number table =
    cases (eqb number 0 || eqb table 0) (λ e. rw e (omega arith)) (λ e. rw e (simp length-append (omega (arith, field-most table))))

-- for code that writes it
pub ruleset by_number = (about-accepted, about_none, about-most)
