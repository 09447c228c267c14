-- The choice between settled examples of document 01 in their stored form, computed. Assumes nothing.
use Rattle.std.specs.Prelude.{List, [], ◌∷◌, ℕ}
use Rattle.link_forms.specs.Form.{link_bytes, new_links, old_links}

-- examples E and G, and E with images 2 and 3 exchanged
unfoldable pub stored_e : List ℕ
stored_e = link_bytes old_links 4 (2 ∷ 4 ∷ 8 ∷ 12 ∷ 14 ∷ []) (2 ∷ 2 ∷ 2 ∷ 4 ∷ 2 ∷ [])

unfoldable pub stored_g : List ℕ
stored_g = link_bytes old_links 4 (2 ∷ 4 ∷ 8 ∷ 14 ∷ []) (2 ∷ 2 ∷ 2 ∷ 2 ∷ [])

unfoldable pub exchanged_e : List ℕ
exchanged_e = link_bytes old_links 4 (2 ∷ 4 ∷ 8 ∷ 10 ∷ 14 ∷ []) (2 ∷ 2 ∷ 2 ∷ 4 ∷ 2 ∷ [])

-- examples E and G in the new form
unfoldable pub new_e : List ℕ
new_e = link_bytes new_links 4 (2 ∷ 4 ∷ 8 ∷ 12 ∷ 14 ∷ []) (2 ∷ 2 ∷ 2 ∷ 4 ∷ 2 ∷ [])

unfoldable pub new_g : List ℕ
new_g = link_bytes new_links 4 (2 ∷ 4 ∷ 8 ∷ 14 ∷ []) (2 ∷ 2 ∷ 2 ∷ 2 ∷ [])
