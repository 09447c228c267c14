-- What the checks of a call say once they have passed. Assumes nothing.
use Rattle.std.specs.Prelude.{List, ◌≡◌, ℕ, ◌*◌, ◌-◌, ◌<◌, ◌≤◌, ltb, length, Ok}
use Rattle.std.proofs.Common.{arith, le-ltb, ltb-false}
use Rattle.ground.specs.Members.{place_of}
use Rattle.ground.specs.Refusals.{outside, refusal, room_check}
use Rattle.ground.specs.Laws.Refusals.{outside_false, refuse_if-passed, then_passed}
use Rattle.theory.specs.FarSides.{own}
use Rattle.theory.specs.Laws.JoinedRows.{rows_of-fars}
use Rattle.theory.proofs.Laws.RowCount.{row_count}
use Rattle.theory.specs.LinkTables.{rows_of}
use Rattle.links.specs.Checks.{row_checks, size_checks}
use Rattle.links.specs.Links.{Links}
use Rattle.links.specs.Laws.LinkChecks.{link_checks_lem, rows-length}
use Rattle.links.specs.Laws.Searches.{place_in}
use Rattle.theory.specs.Checks.{image_check}
use Rattle.routes.specs.Orders.{path_checks, route_checks, upper_checks}
use Rattle.routes.specs.Asked.{PathAsked, RouteAsked, UppersAsked}

-- the size and row checks, whatever stands between them
links_passed : (L n N : ℕ) (l v : List ℕ) → size_checks n N l v ≡ Ok tt → row_checks L n l v ≡ Ok tt → Links L n N l v
links_passed L n N l v e f = (link_checks_lem L n N l v).0 (rw e f)

passed_links : (L n N : ℕ) (l v : List ℕ) → Links L n N l v → (size_checks n N l v ≡ Ok tt) × (row_checks L n l v ≡ Ok tt)
passed_links L n N l v t = then_passed (size_checks n N l v) (row_checks L n l v) ((link_checks_lem L n N l v).1 t)

image_passed : (n i : ℕ) → image_check n i ≡ Ok tt → (1 ≤ i) × (i ≤ n)
image_passed n i e = outside_false 1 n i (refuse_if-passed (outside 1 n i) (refusal 8 0 0 0 0) e)

passed_image : (n i : ℕ) → 1 ≤ i → i ≤ n → image_check n i ≡ Ok tt
passed_image n i a b = rw (le-ltb i 1 a, le-ltb n i b)

-- ## path: a link table, and both images are 1 to n

pub path-passed : (L n N : ℕ) (l v : List ℕ) (i j : ℕ) → path_checks L n N l v i j ≡ Ok tt → PathAsked L n N l v i j
path-passed L n N l v i j e =
    let p = then_passed (size_checks n N l v) _ e in
    let q = then_passed (row_checks L n l v) _ p.1 in
    let r = then_passed (image_check n i) (image_check n j) q.1 in
    let a = image_passed n i r.0 in
    let b = image_passed n j r.1 in
    record { table = links_passed L n N l v p.0 q.0; low = a.0; high = a.1; low' = b.0; high' = b.1 }

pub passed-path : (L n N : ℕ) (l v : List ℕ) (i j : ℕ) → PathAsked L n N l v i j → path_checks L n N l v i j ≡ Ok tt
passed-path L n N l v i j t =
    let p = passed_links L n N l v t.table in
    rw (p.0, p.1, passed_image n i t.low t.high) (passed_image n j t.low' t.high')

-- ## upper rows: a link table, and room for 2 n - 3 places

pub upper-passed : (L n N : ℕ) (l v : List ℕ) (room : ℕ) → upper_checks L n N l v room ≡ Ok tt → UppersAsked L n N l v room
upper-passed L n N l v room e =
    let p = then_passed (size_checks n N l v) _ e in
    let q = then_passed (room_check (2 * n - 3) room) (row_checks L n l v) p.1 in
    record {
      table = links_passed L n N l v p.0 q.1;
      spare = ltb-false room (2 * n - 3) (refuse_if-passed (ltb room (2 * n - 3)) (refusal 3 0 0 0 0) q.0);
    }

pub passed-upper : (L n N : ℕ) (l v : List ℕ) (room : ℕ) → UppersAsked L n N l v room → upper_checks L n N l v room ≡ Ok tt
passed-upper L n N l v room t = let p = passed_links L n N l v t.table in rw (p.0, le-ltb room (2 * n - 3) t.spare) p.1

-- ## routes: the same, and the image is 1 to n

pub route-passed : (L n N : ℕ) (l v : List ℕ) (i room : ℕ) → route_checks L n N l v i room ≡ Ok tt → RouteAsked L n N l v i room
route-passed L n N l v i room e =
    let p = then_passed (upper_checks L n N l v room) (image_check n i) e in
    let a = image_passed n i p.1 in
    record { uppers = upper-passed L n N l v room p.0; low = a.0; high = a.1 }

pub passed-route : (L n N : ℕ) (l v : List ℕ) (i room : ℕ) → RouteAsked L n N l v i room → route_checks L n N l v i room ≡ Ok tt
passed-route L n N l v i room t = rw (passed-upper L n N l v room t.uppers) (passed_image n i t.low t.high)

-- ## What private functions need of a table that was accepted

-- the number of rows, which every answer of rows fits
pub few_rows : (L n N : ℕ) (l v : List ℕ) → Links L n N l v → (0 < N) × (N ≤ 2 * n - 3) × (N ≤ 125)
few_rows L n N l v t =
    let e : length l ≡ length v = omega arith in
    let c = row_count L n (rows_of l v) t.some t.table in
    let q = rows-length l v e in
    (omega arith, omega arith, omega arith)

-- the own link of an image is one of the rows
pub own-place : (L n N : ℕ) (l v : List ℕ) → Links L n N l v → (i : ℕ) → i < n → (0 < place_of 1 (own n i) l) × (place_of 1 (own n i) l ≤ N)
own-place L n N l v t i h =
    let e : length l ≡ length v = omega arith in
    let p = place_in 1 (own n i) l (rw (rows_of-fars l v e) at (t.table.owns i h)) in
    (omega arith, omega arith)
