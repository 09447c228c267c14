-- The bits of a form: reading its fields back, and writing what was read. Assumes nothing.
use Rattle.std.specs.Prelude.{List, [], map, ◌++◌, ◌∷◌, refl, ◌≡◌, ℕ, ◌≤◌, drop, length, take}
use Rattle.std.proofs.Common.{append_assoc, ap, ap₂, sym, ◌∙◌, arith, length-drop, drop_at, length-take-le, take-add, take_at}
use Rattle.ground.specs.Sums.{sum}
use Rattle.bits.specs.Bits.{AllBits, bits_of, none, value_of}
use Rattle.bits.specs.Forms.{AllFit, Field, also, field, field_bits, nothing}
use Rattle.bits.specs.Laws.Numbers.{all_bits_append, all_bits_drop, all_bits_of, all_bits_take, bits-value, length-bits_of, value-bits}

pub form_append : (a b : List Field) → field_bits (a ++ b) ≡ field_bits a ++ field_bits b
unfolding field_bits
form_append [] b = refl
form_append (f ∷ a) b =
    ap (λ (x : List ℕ). bits_of f.width f.value ++ x) (form_append a b) ∙ sym (append_assoc (bits_of f.width f.value) (field_bits a) (field_bits b))

pub all_bits_form : (fs : List Field) → AllBits (field_bits fs)
unfolding field_bits
all_bits_form [] = none
all_bits_form (f ∷ fs) = all_bits_append (all_bits_of f.width f.value) (all_bits_form fs)

-- the values read back from l, field by field at these widths
unfoldable pub read_values : List ℕ → List ℕ → List ℕ
read_values [] l = []
read_values (w ∷ ws) l = value_of (take w l) ∷ read_values ws (drop w l)

-- the form with these widths and values
unfoldable pub form_of : List ℕ → List ℕ → List Field
form_of [] vs = []
form_of (w ∷ ws) [] = []
form_of (w ∷ ws) (v ∷ vs) = field w v ∷ form_of ws vs

-- reading undoes writing, whatever follows
pub read_back : {fs : List Field} → AllFit fs → (r : List ℕ) → read_values (map (λ f. f.width) fs) (field_bits fs ++ r) ≡ map (λ f. f.value) fs
unfolding field_bits read_values
read_back nothing r = refl
read_back (also {f = f} {fs = fs} h t) r =
    let x = bits_of f.width f.value in
    let e : (x ++ field_bits fs) ++ r ≡ x ++ (field_bits fs ++ r) = append_assoc x (field_bits fs) r in
    rw e (ap₂ {C = List ℕ} (λ (v : ℕ) (vs : List ℕ). v ∷ vs)
    (ap value_of (take_at x (field_bits fs ++ r) f.width (length-bits_of f.width f.value)) ∙ value-bits f.width f.value h)
    (ap (read_values (map (λ g. g.width) fs)) (drop_at x (field_bits fs ++ r) f.width (length-bits_of f.width f.value)) ∙ read_back t r))

-- writing what was read gives the same bits
pub write_back : (ws l : List ℕ) → AllBits l → sum ws (λ w. w) ≤ length l → field_bits (form_of ws (read_values ws l)) ≡ take (sum ws (λ w. w)) l
unfolding field_bits read_values form_of
write_back [] l b h = refl
write_back (w ∷ ws) l b h =
    ap₂ (λ (x y : List ℕ). x ++ y)
    (ap (λ (k : ℕ). bits_of k (value_of (take w l))) (sym (length-take-le w l (omega arith))) ∙ bits-value (all_bits_take w b))
    (write_back ws (drop w l) (all_bits_drop w b) (omega (arith, length-drop w l)))
    ∙ sym (take-add w (sum ws (λ w. w)) l)
