-- A table that gets 7, counted apart. Assumes nothing.
use Rattle.std.specs.Prelude.{false, List, [], ◌++◌, ◌∷◌, refl, ◌≡◌, ℕ, ltb, length, Ok}
use Rattle.std.proofs.Common.{ap, sym, ◌∙◌, arith, le-ltb}
use Rattle.ground.specs.Laws.Filters.{each_end}
use Rattle.theory.specs.LinkTables.{Row, fars}
use Rattle.theory.specs.Tables.{CostTable, limit}
use Rattle.seen.specs.Seen.{entries, seen}
use Rattle.figures.specs.Figures.{entries_at, sides_at}
use Rattle.figures.proofs.Laws.Grown.{figures_apart}
use Rattle.figures.specs.Laws.Tables.{entries-at, images-more, sides-at, trees_no}
use Rattle.figures.specs.Checks.{many_check, most_sides}
use Rattle.counting.specs.Ready.{TableReady}
use Rattle.figures.specs.OneMore.{with_apart}
use Rattle.figures.specs.Pairing.{last_tree}
use Rattle.counting.specs.Taking.{Moved}
use Rattle.figures.specs.Tables.{Table, is_accepted, table_of}
use Rattle.counting.specs.declared.Standing.{Standing}

pub moved_apart : (ts : List Table) (n more : ℕ) (u : List ℕ) (here : Standing) (f t s : List ℕ)
    → TableReady ts (table_of n more u) here f t s → is_accepted (table_of n more u) ≡ false
    → Moved limit (many_check limit (ts ++ (table_of n more u ∷ []))) ts (table_of n more u) (record {
      standing = record {
        figures = with_apart here.figures n more;
        rows = here.rows;
        last = here.last;
      };
      stop = Ok tt;
    }) f t s f t s
moved_apart ts n more u here f t s y e =
    let tb = table_of n more u in
    let one = y.one in
    let x = y.read.stands in
    let all = each_end (λ (t : Table). t.images ≡ n) ts tb one refl in
    let k : sides_at limit (ts ++ (tb ∷ [])) ≡ sides_at limit ts =
    sides-at limit n (ts ++ (tb ∷ [])) all ∙ ap (λ (Ts : List (List Row)). length (seen n Ts)) (trees_no limit ts tb e) ∙ sym (sides-at limit n ts one) in
    let m : entries_at limit (ts ++ (tb ∷ [])) ≡ entries_at limit ts =
    entries-at limit n (ts ++ (tb ∷ [])) all ∙ ap (entries n) (trees_no limit ts tb e) ∙ sym (entries-at limit n ts one) in
    let q : ltb most_sides (sides_at limit (ts ++ (tb ∷ []))) ≡ false = le-ltb most_sides (sides_at limit (ts ++ (tb ∷ []))) (rw k x.sound.kept) in
    rw q (record {
      stopped = refl;
      stands = record {
        sound = record {
          one = rw (images-more n ts tb one refl) all;
          formed = each_end (λ (t : Table). CostTable limit t.images t.costs) ts tb x.sound.formed y.read.formed;
          kept = rw k x.sound.kept;
        };
        figures = rw x.figures (figures_apart limit n ts tb one refl e);
        last_room = x.last_room;
        few = x.few;
        last_sides = x.last_sides ∙ ap (λ (Ts : List (List Row)). fars (last_tree Ts)) (sym (trees_no limit ts tb e));
      };
      grown = rw m (omega arith);
      stored = rw m y.read.holds.stored;
    })
