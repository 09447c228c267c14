-- What a batch answers and writes, by recursion over its tables: each is stored in the form. Assumes nothing.
use Rattle.ground.specs.declared.TableRefusal.{TableRefusal}
use Rattle.std.specs.Prelude.{not, List, [], ◌∷◌, ℕ, ◌+◌, ◌-◌, eqb, drop, length, Ok, Err, Result}
use Rattle.ground.specs.Buffers.{front}
use Rattle.ground.specs.Outcomes.{Outcome}
use Rattle.ground.specs.Refusals.{if_passed, refusal, refuse_if, Check, refused_in}
use Rattle.link_forms.specs.Form.{link_used}
use Rattle.joined_tables.specs.Bytes.{batch_bytes}
use Rattle.joined_tables.specs.Tables.{Table, left_over_checks, next_checks, tables}
use Rattle.bits.specs.declared.Form.{Form}

-- what the call answers: how many bytes it wrote, or the refusal with the table's number
abbrev pub Batched : Type 0
Batched = Result ℕ TableRefusal

-- the answer b where the check passed, else its refusal with the table's number k beside it
abbrev pub numbered : ℕ → Check → Batched → Batched
numbered k c b = if_passed (refused_in k) c b

-- the answer for the tables that follow the first k, which used so many bytes and left the rows l and v and so much room
unfoldable pub batch_from : Form → ℕ → ℕ → List Table → List ℕ → List ℕ → ℕ → Batched
batch_from form k used [] l v room = numbered k (left_over_checks l v) (Ok used)
batch_from form k used (t ∷ ts) l v room =
    numbered (k + 1) (next_checks form t.0 t.1 l v room)
    (batch_from form (k + 1) (used + link_used form t.0 t.1) ts (drop t.1 l) (drop t.1 v) (room - link_used form t.0 t.1))

-- the answer for the whole batch: 2 with number 0 where the two lists differ in length
abbrev pub batch_answer : Form → List ℕ → List ℕ → List ℕ → List ℕ → ℕ → Batched
batch_answer form ns counts l v room =
    numbered 0 (refuse_if (not (eqb (length ns) (length counts))) (refusal 2 0 0 0 0)) (batch_from form 0 0 (tables ns counts) l v room)

-- m at the front of the lent bytes d where the answer is a count of bytes; where it is a refusal they are as they were
abbrev pub front_by : Batched → List ℕ → List ℕ → List ℕ
front_by (Ok used) m d = front m d
front_by (Err e) m d = d

-- the answer, and the lent bytes as they are left
abbrev pub batch_outcome : Form → List ℕ → List ℕ → List ℕ → List ℕ → List ℕ → Outcome Batched
batch_outcome form ns counts l v out =
    record {
      answer = batch_answer form ns counts l v (length out);
      places = front_by (batch_answer form ns counts l v (length out)) (batch_bytes form (tables ns counts) l v) out;
    }
