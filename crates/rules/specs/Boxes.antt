-- Boxes and windows on the map grid: which are proper, when they meet, and what covers them.
use Rattle.std.specs.Prelude.{ℕ, ◌*◌, ◌-◌, min, max, Bool, List, [], ◌∷◌, leb}
use Rattle.rules.specs.declared.Box.{Box}
use Rattle.rules.specs.declared.Window.{Window}
use Rattle.rules.specs.Lists.{all_of}

-- the last metre of the grid
abbrev pub edge : ℕ
edge = 1_048_575

unfoldable pub proper_box : Box → Bool
proper_box b = all_of (leb b.x0 b.x1 ∷ leb b.y0 b.y1 ∷ leb b.x1 edge ∷ leb b.y1 edge ∷ [])

unfoldable pub proper_window : Window → Bool
proper_window w = all_of (leb w.x0 w.x1 ∷ leb w.y0 w.y1 ∷ leb w.x1 edge ∷ leb w.y1 edge ∷ [])

-- box and window share at least one point, edges and corners included
unfoldable pub meets : Box → Window → Bool
meets b w = all_of (leb b.x0 w.x1 ∷ leb w.x0 b.x1 ∷ leb b.y0 w.y1 ∷ leb w.y0 b.y1 ∷ [])

-- width times height, which may be 0
unfoldable pub area : Box → ℕ
area b = (b.x1 - b.x0) * (b.y1 - b.y0)

-- the smallest box that covers both
unfoldable pub cover : Box → Box → Box
cover a b = record { x0 = min a.x0 b.x0; y0 = min a.y0 b.y0; x1 = max a.x1 b.x1; y1 = max a.y1 b.y1 }

-- by how much the area of a box grows when it is to cover a new one too
unfoldable pub growth : Box → Box → ℕ
growth new old = area (cover old new) - area old

abbrev pub no_box : Box
no_box = record { x0 = 0; y0 = 0; x1 = 0; y1 = 0 }

-- the smallest box that covers all; of none, all zero
unfoldable pub cover_of : {A : Type 0} → (A → Box) → List A → Box
cover_of f [] = no_box
cover_of f (e ∷ []) = f e
cover_of f (e ∷ g ∷ es) = cover (f e) (cover_of f (g ∷ es))

-- a proof that says `unfolding boxes_open` sees through every definition of this file
unfoldable pub boxes_open : Unit {0}
unfolding proper_box proper_window meets area cover growth cover_of
boxes_open = tt
