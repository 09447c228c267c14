-- What path, upper rows and routes promise, on one page: which calls are accepted, what the answers are worth, and that there is no other.
-- l are the far sides and v the doubled costs of N rows; images are counted from 0 but in the calls. Assumes nothing.
use Rattle.std.specs.Prelude.{true, List, [], ◌∷◌, ◌↔◌, ◌≡◌, suc, ℕ, ◌+◌, ◌-◌, ◌<◌, ◌≤◌, get_or, length, Ok}
use Rattle.std.proofs.Common.{◌∙◌, arith}
use Rattle.ground.specs.Ascending.{Between}
use Rattle.ground.specs.Buffers.{front}
use Rattle.ground.specs.Filters.{filter}
use Rattle.ground.specs.Ranges.{from}
use Rattle.theory.specs.FarSides.{own}
use Rattle.theory.specs.FourPoint.{FourPoint}
use Rattle.theory.proofs.Laws.Paths.{path_four_point, path_none_above, path_same, path_self}
use Rattle.theory.specs.LinkTables.{Row, path, rows_of}
use Rattle.theory.specs.Routes.{contains, route, uppers}
use Rattle.links.specs.Links.{Links}
use Rattle.routes.specs.Laws.Accepted.{passed-path, passed-route, passed-upper, path-passed, route-passed, upper-passed}
use Rattle.routes.specs.Laws.Containing.{last_row_lem, upper_none, upper-smallest, upper_there}
use Rattle.routes.specs.Laws.Holding.{route_ascends, route_ends, route-first, route_held, route_starts}
use Rattle.routes.specs.Orders.{path_checks, route_checks, upper_checks}
use Rattle.routes.specs.Outcomes.{path_outcome, route_outcome, upper_outcome}
use Rattle.climbing.specs.Laws.UpperRows.{upper-contains, upper_later, upper-most, uppers-length}
use Rattle.routes.specs.Asked.{PathAsked, RouteAsked, UppersAsked}
use Rattle.climbing.specs.Climbs.{held_by}

-- ## Which calls are accepted: exactly those with a link table, room and images in range

pub path-accepted : (L n N : ℕ) (l v : List ℕ) (i j : ℕ) → (path_checks L n N l v i j ≡ Ok tt) ↔ PathAsked L n N l v i j
path-accepted L n N l v i j = (path-passed L n N l v i j, passed-path L n N l v i j)

pub upper-accepted : (L n N : ℕ) (l v : List ℕ) (room : ℕ) → (upper_checks L n N l v room ≡ Ok tt) ↔ UppersAsked L n N l v room
upper-accepted L n N l v room = (upper-passed L n N l v room, passed-upper L n N l v room)

pub route-accepted : (L n N : ℕ) (l v : List ℕ) (i room : ℕ) → (route_checks L n N l v i room ≡ Ok tt) ↔ RouteAsked L n N l v i room
route-accepted L n N l v i room = (route-passed L n N l v i room, passed-route L n N l v i room)

-- ## What an accepted call answers and leaves behind

pub path-answer : (L n N : ℕ) (l v : List ℕ) (i j : ℕ) → PathAsked L n N l v i j → path_outcome L n N l v i j ≡ Ok (path (rows_of l v) (i - 1) (j - 1))
path-answer L n N l v i j t = rw (passed-path L n N l v i j t)

pub upper-answer : (L n N : ℕ) (l v o : List ℕ) → UppersAsked L n N l v (length o)
    → upper_outcome L n N l v o ≡ record { answer = Ok N; places = front (uppers l) o }
upper-answer L n N l v o t = rw (passed-upper L n N l v (length o) t, ← (uppers-length 1 l ∙ t.table.counted))

pub route-answer : (L n N : ℕ) (l v : List ℕ) (i : ℕ) (o : List ℕ) → RouteAsked L n N l v i (length o)
    → route_outcome L n N l v i o ≡ record { answer = Ok (length (route n l (i - 1))); places = front (route n l (i - 1)) o }
route-answer L n N l v i o t = rw (passed-route L n N l v i (length o) t)

-- ## Path costs: symmetric, 0 from an image to itself, with the triangle inequality and the four-point condition

pub record PathLaws (n : ℕ) (T : List Row) : Type 0 where
  pub self : (i : ℕ) → path T i i ≡ 0
  pub same : (i j : ℕ) → path T i j ≡ path T j i
  pub triangle : {i j k : ℕ} → i < n → j < n → k < n → path T i k ≤ path T i j + path T j k
  pub four_point : FourPoint (path T) n

pub path_laws : (L n N : ℕ) (l v : List ℕ) → Links L n N l v → PathLaws n (rows_of l v)
path_laws L n N l v t = record {
  self = path_self T;
  same = path_same T;
  triangle = λ {i} {j} {k} hi hj hk. omega (arith, (path_none_above L n T t.table).low hi hk hj hj, path_self T j, path_same T k j);
  four_point = path_four_point L n T t.table;
}
  where
    T : List Row
    T = rows_of l v

-- ## Upper rows: the last row is the own link of image 0 and has none; every other row has one, a later row that contains it, and the smallest
-- that does: every other row that contains the row contains its upper row too

pub record UpperLaws (n N : ℕ) (l : List ℕ) : Type 0 where
  pub each : length (uppers l) ≡ N
  pub last_row : get_or l (N - 1) 0 ≡ own n 0
  pub none : get_or (uppers l) (N - 1) 0 ≡ 0
  pub later : (k : ℕ) → k + 1 < N → (k + 1 < get_or (uppers l) k 0) × (get_or (uppers l) k 0 ≤ N)
  pub above : (k : ℕ) → k + 1 < N → contains (get_or l (get_or (uppers l) k 0 - 1) 0) (get_or l k 0) ≡ true
  pub smallest : (k : ℕ) → k + 1 < N → (j : ℕ) → j < N → (j ≡ k → ⊥) → contains (get_or l j 0) (get_or l k 0) ≡ true
      → contains (get_or l j 0) (get_or l (get_or (uppers l) k 0 - 1) 0) ≡ true

pub upper_laws : (L n N : ℕ) (l v : List ℕ) → Links L n N l v → UpperLaws n N l
upper_laws L n N l v t = record {
  each = uppers-length 1 l ∙ t.counted;
  last_row = last_row_lem L n N l v t;
  none = upper_none L n N l v t;
  later = λ k h. omega (arith, upper_later l k (omega arith) (upper_there L n N l v t k h), upper-most l k (omega arith));
  above = λ k h. upper-contains l k (omega arith) (upper_there L n N l v t k h);
  smallest = upper-smallest L n N l v t;
}

-- ## Routes: from the own link strictly up to the last row; for images other than 0 exactly the rows that hold the image, and for image 0 the last row

pub record RouteLaws (n N : ℕ) (l : List ℕ) (i : ℕ) : Type 0 where
  pub starts : get_or l (get_or (route n l i) 0 0 - 1) 0 ≡ own n i
  pub ascends : Between 1 (route n l i) (suc N)
  pub ends : get_or (route n l i) (length (route n l i) - 1) 0 ≡ N
  pub first : i ≡ 0 → route n l i ≡ N ∷ []
  pub held : 0 < i → route n l i ≡ filter (held_by l i) (from 1 N)

pub route_laws : (L n N : ℕ) (l v : List ℕ) → Links L n N l v → (i : ℕ) → i < n → RouteLaws n N l i
route_laws L n N l v t i h = record {
  starts = route_starts L n N l v t i h;
  ascends = route_ascends L n N l v t i h;
  ends = route_ends L n N l v t i h;
  first = λ e. rw e (route-first L n N l v t);
  held = λ a. route_held L n N l v t i a h;
}
