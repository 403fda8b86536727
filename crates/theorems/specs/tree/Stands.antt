-- A tree in the flat pages: what page each of its pages is, what depends on which pages, and the flat steps as steps of the tree.
use Rattle.std.specs.Prelude.{ℕ, zero, suc, ◌≡◌, refl, Bool, true, false, cond, leb, length, get_or, set}
use Rattle.std.proofs.Common.{sym, ◌∙◌, ap}
use mathlib.Core.List.{List, [], ◌∷◌, map, flat_map, map-append}
use Rattle.std.proofs.lemmas.List.{length-map}
use Rattle.std.proofs.Math.ListN.{get_or-map}
use Rattle.rules.specs.declared.PageNo.{PageNo}
use Rattle.rules.specs.declared.Stamp.{Stamp}
use Rattle.rules.specs.declared.Box.{Box}
use Rattle.rules.specs.declared.Entry.{Entry}
use Rattle.rules.specs.Boxes.{cover_of}
use Rattle.rules.specs.Store.{Page, page_no, child_of, no_place, page_at, put_page}
use Rattle.rules.specs.Tree.{its_box, cover_page, child_place, choose, split, lowest_free, Written, whole, parted, pages_in, settled, renewed}
use Rattle.rules.specs.Sound.{is_free}
use Rattle.rules.specs.laws.Tests.{not_both}
use Rattle.rules.specs.laws.All.{All, none, more, all_map, all_zip, all_flat, flat_all, flat_flat}
use Rattle.theorems.specs.tree.Numbers.{Off}
use Rattle.rules.specs.laws.Split.{cover-map, choose-map, split-map}
use Rattle.theorems.specs.tree.Pages.{page_other}
use Rattle.theorems.specs.tree.Items.{Node, Item, extent, no_mark, with_items, no_node, Atom, mark_at, atoms, number_of, numbers, Grown, single, double, parts, settle, replaced}

-- a page over items of level l is a leaf or inner
abbrev pub kind_at : ℕ → ℕ
kind_at zero = 1
kind_at (suc l) = 2

-- an item as a place of a page, and a page of items as a flat one
unfoldable pub place : (l : ℕ) → Item l → Entry
place zero e = e
place (suc l) t = record { bounds = extent (suc l) t; key = t.no.0; stamp = no_mark }

unfoldable pub page_of : (l : ℕ) → Item (suc l) → Page
page_of l t = record { kind = kind_at l; mark = mark_at l t.mark; places = map (place l) t.items }

-- an entry is its own place
pub same_places : (es : List Entry) → map (place 0) es ≡ es
unfolding place
same_places [] = refl
same_places (e ∷ es) = ap (λ r. e ∷ r) (same_places es)

-- the tree's pages stand in the flat ones
abbrev pub Stands : List Page → (l : ℕ) → Item l → Type 0
Stands ps zero e = Unit {0}
Stands ps (suc l) t = (page_at ps t.no ≡ page_of l t) × All (Stands ps l) t.items

-- ---- what stands depends only on its own pages
pub all_numbers : {A : Type 0} {P : ℕ → Type 0} (f : A → List Atom) (xs : List A) → All P (numbers (flat_map f xs)) → All (λ x. All P (numbers (f x))) xs
all_numbers f xs a = all_flat (λ x. numbers (f x)) xs (rw (flat_flat number_of f xs) at a)

-- of the numbers of several items, together and one by one
pub numbers_all : {A : Type 0} {P : ℕ → Type 0} (f : A → List Atom) {xs : List A} → All (λ x. All P (numbers (f x))) xs → All P (numbers (flat_map f xs))
numbers_all f {xs = xs} a = rw (flat_flat number_of f xs) (flat_all (λ x. numbers (f x)) a)

-- of them the mark given says nothing
pub numbers_mark : (l : ℕ) (m m' : Stamp) (x : Item l) → numbers (atoms l m x) ≡ numbers (atoms l m' x)
unfolding atoms flat_map
numbers_mark zero m m' x = refl
numbers_mark (suc l) m m' x = refl

-- where those are as they were, it stands still
pub stands_frame : (ps qs : List Page) (l : ℕ) (m : Stamp) (t : Item l)
    → All (λ n. page_at qs (page_no n) ≡ page_at ps (page_no n)) (numbers (atoms l m t)) → Stands ps l t → Stands qs l t
unfolding atoms flat_map
stands_frame ps qs zero m t a s = tt
stands_frame ps qs (suc l) m t (more h a) s =
    (h ∙ s.0, all_zip (all_numbers (atoms l t.mark) t.items a) s.1 λ c b r. stands_frame ps qs l t.mark c b r)

-- its pages are used
pub kind_used : (l : ℕ) (t : Item (suc l)) → is_free (page_of l t) ≡ false
unfolding page_of
kind_used zero t = refl
kind_used (suc l) t = refl

pub stands_used : (ps : List Page) (l : ℕ) (m : Stamp) (t : Item l) → Stands ps l t → All (λ n. is_free (page_at ps (page_no n)) ≡ false) (numbers (atoms l m t))
unfolding atoms flat_map
stands_used ps zero m t s = none
stands_used ps (suc l) m t s =
    more (ap is_free s.0 ∙ kind_used l t) (numbers_all (atoms l t.mark) (all_map s.1 λ c r. stands_used ps l t.mark c r))

-- a write to a page that is none of its own
pub spared : (ps : List Page) (p : PageNo) (g : Page) (l : ℕ) (m : Stamp) (c : Item l) → Off p.0 (numbers (atoms l m c)) → Stands ps l c → Stands (put_page ps p g) l c
spared ps p g l m c o s = stands_frame ps (put_page ps p g) l m c (all_map o λ n k. page_other ps p g n k) s

-- a free page is none of its own
pub free_off : (ps : List Page) (q : PageNo) (l : ℕ) (m : Stamp) (c : Item l) → is_free (page_at ps q) ≡ true → Stands ps l c → Off q.0 (numbers (atoms l m c))
free_off ps q l m c f s = all_map (stands_used ps l m c s) λ n u e. not_both (is_free (page_at ps q)) f (rw e at u)

-- ---- the flat steps, as steps of the tree
-- the tree's page, or the two, written to the flat ones
unfoldable pub written : (l : ℕ) → List Page → Grown (Item (suc l)) → Written
written l ps (single t) = whole (put_page ps t.no (page_of l t))
written l ps (double a b) = parted (put_page (put_page ps a.no (page_of l a)) b.no (page_of l b)) b.no

-- a place has its item's box
pub its_extent : (l : ℕ) → ◌≡◌ {A = Item l → Box} (λ x. its_box (place l x)) (extent l)
unfolding place extent
its_extent zero = refl
its_extent (suc l) = refl

-- settling a page
pub settled_is : (l : ℕ) (ps : List Page) (t : Item (suc l)) (xs : List (Item l))
    → settled ps t.no (page_of l t) (map (place l) xs) ≡ written l ps (settle (extent l) (lowest_free ps) t xs)
unfolding settled settle written page_of
settled_is l ps t xs =
    rw (split-map (place l) its_box xs, its_extent l, length-map xs (place l)) (go (leb (length xs) 8))
  where
    flat : List (Item l) → Page
    flat ys = record { kind = kind_at l; mark = mark_at l t.mark; places = map (place l) ys }

    go : (b : Bool)
        → cond b (whole (put_page ps t.no (flat xs)))
        (parted (put_page (put_page ps t.no (flat (split (extent l) xs).first)) (lowest_free ps) (flat (split (extent l) xs).second)) (lowest_free ps))
        ≡ written l ps (cond b (single (with_items t xs)) (double (with_items t (split (extent l) xs).first) (record { no = lowest_free ps; mark = t.mark; items = (split (extent l) xs).second })))
    go true = refl
    go false = refl

-- the place of a child page
pub child_is : (l : ℕ) (ps : List Page) (t : Item (suc l)) → page_at ps t.no ≡ page_of l t → child_place ps t.no ≡ place (suc l) t
unfolding child_place cover_page place extent page_of
child_is l ps t e = rw (e, cover-map (place l) its_box t.items, its_extent l)

-- setting one of the places
pub set-map : {A B : Type 0} (f : A → B) (xs : List A) (i : ℕ) (y : A) → set (map f xs) i (f y) ≡ map f (set xs i y)
set-map f [] i y = refl
set-map f (x ∷ xs) zero y = refl
set-map f (x ∷ xs) (suc i) y = ap (λ r. f x ∷ r) (set-map f xs i y)

-- choosing a place
pub choose_is : (l : ℕ) (new : Box) (xs : List (Item l)) → choose its_box new (map (place l) xs) ≡ choose (extent l) new xs
choose_is l new xs = choose-map (place l) its_box new xs ∙ ap (λ f. choose f new xs) (its_extent l)

-- the child page of a place
pub number_is : (l : ℕ) (xs : List (Item (suc l))) (i : ℕ) → child_of (get_or (map (place (suc l)) xs) i no_place) ≡ (get_or xs i no_node).no
unfolding place extent cover_of
number_is l xs i = ap child_of (get_or-map (place (suc l)) xs i no_node)

-- the tree and the flat pages agree on whether page p was split, and into which pages
abbrev pub Agree : {A : Type 0} → PageNo → Grown (Node A) → Written → Type 0
Agree p (single t) (whole ps) = t.no ≡ p
Agree p (single t) (parted ps q) = ⊥
Agree p (double a b) (whole ps) = ⊥
Agree p (double a b) (parted ps q) = (a.no ≡ p) × (b.no ≡ q)

-- the places of a page after its child has been written
pub renewed_is : (l : ℕ) (xs : List (Item (suc l))) (i : ℕ) (c : PageNo) (g : Grown (Item (suc l))) (r : Written)
    → Agree c g r → All (Stands (pages_in r) (suc l)) (parts g)
    → renewed (map (place (suc l)) xs) i c r ≡ map (place (suc l)) (replaced xs i g)
unfolding renewed replaced
renewed_is l xs i c (single t) (whole ps) s (more h none) = rw (← s, child_is l ps t h.0) (set-map (place (suc l)) xs i t)
renewed_is l xs i c (single t) (parted ps q) s h = absurd s
renewed_is l xs i c (double a b) (whole ps) s h = absurd s
renewed_is l xs i c (double a b) (parted ps q) s (more h (more k none)) =
    rw (← s.0, ← s.1, child_is l ps a h.0, child_is l ps b k.0, set-map (place (suc l)) xs i a)
    (sym (map-append (place (suc l)) (set xs i a) (b ∷ [])))
