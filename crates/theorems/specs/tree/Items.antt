-- The tree by itself: an item of level 0 is an entry, of level l + 1 a page that holds items of level l. Boxes are computed, not kept.
use Rattle.std.specs.Prelude.{ℕ, zero, suc, ◌≤◌, cond, leb, length, get_or, set}
use mathlib.Core.List.{List, [], ◌∷◌, ◌++◌, flat_map}
use Rattle.rules.specs.declared.PageNo.{PageNo}
use Rattle.rules.specs.declared.Stamp.{Stamp}
use Rattle.rules.specs.declared.Box.{Box}
use Rattle.rules.specs.declared.Entry.{Entry}
use Rattle.rules.specs.Boxes.{cover_of}
use Rattle.rules.specs.Store.{stamp, page_no}
use Rattle.rules.specs.Tree.{choose, split}
use Rattle.rules.specs.laws.All.{All}

-- a page by itself: its number, its mark and what it holds
pub record Node (A : Type 0) : Type 0 where
  pub no : PageNo
  pub mark : Stamp
  pub items : List A

-- an item of each level
abbrev pub Item : ℕ → Type 0
Item zero = Entry
Item (suc l) = Node (Item l)

-- the smallest box that covers an item
unfoldable pub extent : (l : ℕ) → Item l → Box
extent zero e = e.bounds
extent (suc l) t = cover_of (extent l) t.items

-- the mark of an inner page
abbrev pub no_mark : Stamp
no_mark = stamp 0

-- the page with other items
abbrev pub with_items : {A : Type 0} → Node A → List A → Node A
with_items t xs = record { no = t.no; mark = t.mark; items = xs }

-- what is read where there is no page
abbrev pub no_node : {A : Type 0} → Node A
no_node = record { no = page_no 0; mark = no_mark; items = [] }

-- ---- what a tree is made of: its pages with level and mark, its entries with the mark of their leaf
pub data Atom : Type 0 where
  page : (level : ℕ) (no : PageNo) (mark : Stamp) → Atom
  entry : (mark : Stamp) (e : Entry) → Atom

-- an inner page's mark is 0
abbrev pub mark_at : ℕ → Stamp → Stamp
mark_at zero m = m
mark_at (suc l) m = no_mark

-- the atoms of an item; the mark given is that of the leaf an entry stands in, and says nothing of a page
unfoldable pub atoms : (l : ℕ) → Stamp → Item l → List Atom
atoms zero m e = entry m e ∷ []
atoms (suc l) m t = page l t.no (mark_at l t.mark) ∷ flat_map (atoms l t.mark) t.items

-- those of a page
abbrev pub atoms_of : (l : ℕ) → Item (suc l) → List Atom
atoms_of l t = atoms (suc l) no_mark t

-- the page numbers, and the entries, among atoms
abbrev pub number_of : Atom → List ℕ
number_of (page l p m) = p.0 ∷ []
number_of (entry m e) = []

abbrev pub entry_of : Atom → List Entry
entry_of (page l p m) = []
entry_of (entry m e) = e ∷ []

abbrev pub numbers : List Atom → List ℕ
numbers xs = flat_map number_of xs

abbrev pub entries : List Atom → List Entry
entries xs = flat_map entry_of xs

-- ---- n to 8 places, each fit; a full item is an entry, or a page with at least 4 that are full
pub record Thick (n : ℕ) {A : Type 0} (Fit : A → Type 0) (t : Node A) : Type 0 where
  pub least : n ≤ length t.items
  pub most : length t.items ≤ 8
  pub each : All Fit t.items

abbrev pub Full : (l : ℕ) → Item l → Type 0
Full zero e = Unit {0}
Full (suc l) t = Thick 4 (Full l) t

-- ---- putting in
-- what becomes of a page: it stays one, or is split in two
pub data Grown (A : Type 0) : Type 0 where
  single : A → Grown A
  double : A → A → Grown A

abbrev pub parts : {A : Type 0} → Grown A → List A
parts (single a) = a ∷ []
parts (double a b) = a ∷ b ∷ []

-- one more where it was split
abbrev pub one_more : {A : Type 0} → Grown A → ℕ → ℕ
one_more (single a) n = n
one_more (double a b) n = suc n

-- the page with these items; of nine the second part goes to page q
unfoldable pub settle : {A : Type 0} → (A → Box) → PageNo → Node A → List A → Grown (Node A)
settle f q t xs =
    let h = split f xs in
    let two = double (with_items t h.first) (record { no = q; mark = t.mark; items = h.second }) in
    cond (leb (length xs) 8) (single (with_items t xs)) two

-- the items of a page after the one in place i has become g
unfoldable pub replaced : {A : Type 0} → List A → ℕ → Grown A → List A
replaced xs i (single y) = set xs i y
replaced xs i (double y z) = set xs i y ++ (z ∷ [])

-- the level d above level k
abbrev pub above : ℕ → ℕ → ℕ
above k zero = k
above k (suc d) = suc (above k d)

-- x, an item of level k, goes d levels below the page t; the j-th page to be split, counted from below, takes the j-th of the free ones
unfoldable pub put : (k d : ℕ) → List ℕ → Item k → Item (above k (suc d)) → Grown (Item (above k (suc d)))
put k zero fs x t = settle (extent k) (page_no (get_or fs 0 0)) t (t.items ++ (x ∷ []))
put k (suc d) fs x t =
    let i = choose (extent (above k (suc d))) (extent k x) t.items in
    settle (extent (above k (suc d))) (page_no (get_or fs (suc d) 0)) t
    (replaced t.items i (put k d fs x (get_or t.items i no_node)))

-- how many pages are split
unfoldable pub splits : (k d : ℕ) → List ℕ → Item k → Item (above k (suc d)) → ℕ
splits k zero fs x t = one_more (put k zero fs x t) 0
splits k (suc d) fs x t =
    one_more (put k (suc d) fs x t)
    (splits k d fs x (get_or t.items (choose (extent (above k (suc d))) (extent k x) t.items) no_node))
