-- The order around the tree, in document 01's words.
use Rattle.std.specs.Prelude.{Bool, cond, ◌&&◌, ◌||◌, List, [], ◌∷◌, ◌≡◌, suc, zero, ℕ, ◌+◌, ◌-◌, ◌<◌, eqb, ltb, length}
use Rattle.ground.specs.Filters.{Each}
use Rattle.ground.specs.Members.{occurs}

-- image w is not yet placed, and is not first
abbrev pub free : ℕ → List ℕ → ℕ → Bool
free f l w = eqb (occurs w (f ∷ l)) 0

-- d(x,w) - d(first,w) is below d(x,b) - d(first,b), said without a sign; b = first says that there is no b yet
abbrev pub better : (ℕ → ℕ → ℕ) → ℕ → ℕ → ℕ → ℕ → Bool
better d f x w b = eqb b f || ltb (d x w + d f b) (d x b + d f w)

-- of the free images below m, the one with the least d(x,w) - d(first,w), the lowest number on a tie
unfoldable pub next : (ℕ → ℕ → ℕ) → ℕ → ℕ → List ℕ → ℕ → ℕ
next d f x l zero = f
next d f x l (suc m) = let b = next d f x l m in cond (free f l m && better d f x m b) m b

-- m images more, to the left of x and l
unfoldable pub grow : (ℕ → ℕ → ℕ) → ℕ → ℕ → ℕ → ℕ → List ℕ → List ℕ
grow d n f zero x l = x ∷ l
grow d n f (suc m) x l = grow d n f m (next d f x (x ∷ l) n) (x ∷ l)

-- built from the end: after last, all others, then first
abbrev pub order : (ℕ → ℕ → ℕ) → ℕ → ℕ → ℕ → List ℕ
order d n f last = f ∷ grow d n f (n - 2) last []

-- the last element of x and l
abbrev pub last_of : ℕ → List ℕ → ℕ
last_of x [] = x
last_of x (y ∷ l) = last_of y l

-- l is an order of the n images: it holds each of them once, and nothing else
pub record AnOrder (n : ℕ) (l : List ℕ) : Type 0 where
  pub range : Each l (λ i. i < n)
  pub once : (i : ℕ) → i < n → occurs i l ≡ 1

-- l is a list of all n images, each once, with first at the front and last at the end
pub record AllOnce (n f last : ℕ) (l : List ℕ) : Type 0 where
  pub all : AnOrder n l
  pub size : length l ≡ n
  pub front : (t : List ℕ) × (l ≡ f ∷ t)
  pub back : last_of f l ≡ last

-- from x along l and back to f, adding up w
abbrev pub along : (ℕ → ℕ → ℕ) → ℕ → ℕ → List ℕ → ℕ
along w f x [] = w x f
along w f x (y ∷ l) = w x y + along w f y l

-- the closed sum along a list and back to its first
abbrev pub closed : (ℕ → ℕ → ℕ) → List ℕ → ℕ
closed w [] = 0
closed w (f ∷ l) = along w f f l
