-- The tree: choosing a place, splitting nine, and putting an entry or a child page in at its level.
use Rattle.std.specs.Prelude.{ℕ, zero, suc, ◌+◌, ◌-◌, Bool, cond, ◌&&◌, ◌||◌, List, [], ◌∷◌, ◌++◌, eqb, leb, ltb, length, get_or, take, drop, set}
use Rattle.rules.specs.declared.PageNo.{PageNo}
use Rattle.rules.specs.declared.Box.{Box}
use Rattle.rules.specs.declared.Entry.{Entry}
use Rattle.rules.specs.Lists.{first}
use Rattle.rules.specs.Boxes.{area, growth, cover_of}
use Rattle.rules.specs.Store.{Page, Store, stamp, page_no, child_of, no_place, page_at, put_page}

-- root, levels and pages: the part of a store that is the tree
pub record Tree : Type 0 where
  pub root : PageNo
  pub levels : ℕ
  pub pages : List Page

abbrev pub tree_of : Store → Tree
tree_of s = record { root = s.root; levels = s.levels; pages = s.pages }

abbrev pub its_box : Entry → Box
its_box e = e.bounds

-- the smallest box that covers a page's places, and the place of that page in its parent
unfoldable pub cover_page : List Page → PageNo → Box
cover_page ps p = cover_of its_box (page_at ps p).places

unfoldable pub child_place : List Page → PageNo → Entry
child_place ps p = record { bounds = cover_page ps p; key = p.0; stamp = stamp 0 }

-- ---- choosing a place: the one whose area grows least; then the smaller area; then the lower place
unfoldable pub better : Box → Box → Box → Bool
better new a b = ltb (growth new a) (growth new b) || (eqb (growth new a) (growth new b) && ltb (area a) (area b))

-- from place i on, where the best before is at place `at` with the box `so_far`
unfoldable pub choose_on : {A : Type 0} → (A → Box) → Box → ℕ → ℕ → Box → List A → ℕ
choose_on f new i at so_far [] = at
choose_on f new i at so_far (e ∷ es) =
    let this = choose_on f new (suc i) i (f e) es in
    let other = choose_on f new (suc i) at so_far es in
    cond (better new (f e) so_far) this other

unfoldable pub choose : {A : Type 0} → (A → Box) → Box → List A → ℕ
choose f new [] = 0
choose f new (e ∷ es) = choose_on f new 1 0 (f e) es

-- ---- ordering nine, by lower then upper side; equals keep their order
unfoldable pub before_x : Box → Box → Bool
before_x a b = ltb a.x0 b.x0 || (eqb a.x0 b.x0 && ltb a.x1 b.x1)

unfoldable pub before_y : Box → Box → Bool
before_y a b = ltb a.y0 b.y0 || (eqb a.y0 b.y0 && ltb a.y1 b.y1)

unfoldable pub insert_by : {A : Type 0} → (A → Box) → (Box → Box → Bool) → A → List A → List A
insert_by f before e [] = e ∷ []
insert_by f before e (q ∷ qs) =
    let later = insert_by f before e qs in
    cond (before (f q) (f e)) (q ∷ later) (e ∷ q ∷ qs)

unfoldable pub sort_by : {A : Type 0} → (A → Box) → (Box → Box → Bool) → List A → List A
sort_by f before [] = []
sort_by f before (e ∷ es) = insert_by f before e (sort_by f before es)

-- ---- splitting nine: x with 4 and 5, x with 5 and 4, y the same two; the smallest sum of areas, the earlier on a tie
pub record Halves (A : Type 0) : Type 0 where
  pub first : List A
  pub second : List A

unfoldable pub halve : {A : Type 0} → ℕ → List A → Halves A
halve n es = record { first = take n es; second = drop n es }

unfoldable pub cost : {A : Type 0} → (A → Box) → Halves A → ℕ
cost f h = area (cover_of f h.first) + area (cover_of f h.second)

unfoldable pub cheaper : {A : Type 0} → (A → Box) → Halves A → Halves A → Halves A
cheaper f earlier later = cond (ltb (cost f later) (cost f earlier)) later earlier

unfoldable pub split : {A : Type 0} → (A → Box) → List A → Halves A
split f nine =
    let xs = sort_by f before_x nine in
    let ys = sort_by f before_y nine in
    cheaper f (cheaper f (cheaper f (halve 4 xs) (halve 5 xs)) (halve 4 ys)) (halve 5 ys)

-- ---- putting in
unfoldable pub lowest_free : List Page → PageNo
lowest_free ps = page_no (first (λ g. eqb g.kind 0) ps)

-- the pages once a page has been written; where it was split, also the page with the second part
pub data Written : Type 0 where
  whole : List Page → Written
  parted : List Page → PageNo → Written

abbrev pub pages_in : Written → List Page
pages_in (whole ps) = ps
pages_in (parted ps q) = ps

abbrev pub with_places : Page → List Entry → Page
with_places g es = record { kind = g.kind; mark = g.mark; places = es }

-- page p, read as g, gets these places; of nine the first part stays, and the second goes to the lowest free page with the same mark
unfoldable pub settled : List Page → PageNo → Page → List Entry → Written
settled ps p g es =
    let q = lowest_free ps in
    let h = split its_box es in
    let staying : Page = record { kind = g.kind; mark = g.mark; places = h.first } in
    let going : Page = record { kind = g.kind; mark = g.mark; places = h.second } in
    let two = parted (put_page (put_page ps p staying) q going) q in
    cond (leb (length es) 8) (whole (put_page ps p (with_places g es))) two

-- a page's places after its child c, in place i, has been written: the box made anew, and a second part added last
unfoldable pub renewed : List Entry → ℕ → PageNo → Written → List Entry
renewed es i c (whole ps) = set es i (child_place ps c)
renewed es i c (parted ps q) = set es i (child_place ps c) ++ (child_place ps q ∷ [])

-- e goes into a page `depth` levels below page p; a new place comes behind the used ones
unfoldable pub put_below : ℕ → List Page → PageNo → Entry → Written
put_below zero ps p e = settled ps p (page_at ps p) ((page_at ps p).places ++ (e ∷ []))
put_below (suc depth) ps p e =
    let g = page_at ps p in
    let i = choose its_box e.bounds g.places in
    let c = child_of (get_or g.places i no_place) in
    let r = put_below depth ps c e in
    settled (pages_in r) p g (renewed g.places i c r)

-- over a split root comes a new one, in the lowest free page left: the old root first, the new page second
unfoldable pub rooted : PageNo → ℕ → Written → Tree
rooted root levels (whole ps) = record { root = root; levels = levels; pages = ps }
rooted root levels (parted ps q) =
    let r = lowest_free ps in
    let above : Page = record { kind = 2; mark = stamp 0; places = child_place ps root ∷ child_place ps q ∷ [] } in
    record { root = r; levels = suc levels; pages = put_page ps r above }

-- e goes into a page at this level; leaves stand at level 1
unfoldable pub put_at : ℕ → Entry → Tree → Tree
put_at level e t = rooted t.root t.levels (put_below (t.levels - level) t.pages t.root e)

-- a proof that says `unfolding tree_open` sees through every definition of this file
unfoldable pub tree_open : Unit {0}
unfolding cover_page child_place better choose_on choose before_x before_y insert_by sort_by halve cost cheaper split lowest_free settled renewed put_below rooted put_at
tree_open = tt
