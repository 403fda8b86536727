-- Cleaning a leaf: which one, the path to it, taking out what is thin, putting back, and the root that gives way.
use Rattle.std.specs.Prelude.{ℕ, zero, suc, ◌-◌, Bool, cond, ◌&&◌, eqb, leb, ltb, length, get_or, set}
use mathlib.Core.List.{List, [], ◌∷◌, ◌++◌, map, flat_map}
use Rattle.rules.specs.declared.Stamp.{Stamp}
use Rattle.rules.specs.declared.PageNo.{PageNo}
use Rattle.rules.specs.declared.Entry.{Entry}
use Rattle.rules.specs.Lists.{first, some_one, without}
use Rattle.rules.specs.Store.{Page, limit, stamp, page_no, child_of, free_page, no_place, page_at, put_page}
use Rattle.rules.specs.Tree.{Tree, with_places, child_place, put_at}

-- ---- the leaf with the smallest mark, lowest page number on a tie
unfoldable pub smallest_mark : List Page → Stamp
smallest_mark [] = stamp limit
smallest_mark (g ∷ gs) =
    let later = smallest_mark gs in
    cond (eqb g.kind 1 && leb g.mark.0 later.0) g.mark later

unfoldable pub leaf_to_clean : List Page → PageNo
leaf_to_clean ps = page_no (first (λ g. eqb g.kind 1 && eqb g.mark.0 (smallest_mark ps).0) ps)

-- ---- the way to it
-- the pages under page p, itself first
unfoldable pub reached_under : List Page → ℕ → PageNo → List PageNo
reached_under ps zero p = []
reached_under ps (suc zero) p = p ∷ []
reached_under ps (suc (suc l)) p = p ∷ flat_map (λ e. reached_under ps (suc l) (child_of e)) (page_at ps p).places

unfoldable pub among : PageNo → List PageNo → Bool
among q ps = some_one (λ p. eqb p.0 q.0) ps

-- the places to go down by from page p, d levels above the leaves, to the leaf q
unfoldable pub path_to : List Page → ℕ → PageNo → PageNo → List ℕ
path_to ps zero p q = []
path_to ps (suc d) p q =
    let es = (page_at ps p).places in
    let i = first (λ e. among q (reached_under ps (suc d) (child_of e))) es in
    i ∷ path_to ps d (child_of (get_or es i no_place)) q

-- ---- taking out what is thin
-- what waits to be put back: a place, and the level of the page that it goes into
pub record Orphan : Type 0 where
  pub level : ℕ
  pub place : Entry

pub record Trimmed : Type 0 where
  pub pages : List Page
  pub orphans : List Orphan

-- the leaf at the end of the path keeps the places that f leaves and gets the mark; on the way back up a page with fewer
-- than 4 places is freed, its places wait and its own leaves its parent, or else its box in the parent is made anew
unfoldable pub trimmed_below : (List Entry → List Entry) → Stamp → ℕ → List Page → List ℕ → PageNo → Trimmed
trimmed_below f m zero ps path p =
    record { pages = put_page ps p (record { kind = 1; mark = m; places = f (page_at ps p).places }); orphans = [] }
trimmed_below f m (suc d) ps [] p = record { pages = ps; orphans = [] }
trimmed_below f m (suc d) ps (i ∷ path) p =
    let g = page_at ps p in
    let c = child_of (get_or g.places i no_place) in
    let r = trimmed_below f m d ps path c in
    let left = (page_at r.pages c).places in
    let out : Trimmed =
    record {
      pages = put_page (put_page r.pages c free_page) p (with_places g (without g.places i));
      orphans = r.orphans ++ map (λ e. record { level = suc d; place = e }) left;
    } in
    let stay : Trimmed =
    record {
      pages = put_page r.pages p (with_places g (set g.places i (child_place r.pages c)));
      orphans = r.orphans;
    } in
    cond (ltb (length left) 4) out stay

-- ---- putting back: leaf entries first, then child pages from the lowest level up, each in the order of their places
unfoldable pub put_back : List Orphan → Tree → Tree
put_back [] t = t
put_back (o ∷ os) t = put_back os (put_at o.level o.place t)

-- a root with one child gives way to it
unfoldable pub given_way : Tree → Tree
given_way t =
    let g = page_at t.pages t.root in
    let child : Tree =
    record {
      root = child_of (get_or g.places 0 no_place);
      levels = t.levels - 1;
      pages = put_page t.pages t.root free_page;
    } in
    cond (eqb g.kind 2 && eqb (length g.places) 1) child t

-- the tree after a clean of the leaf q, which keeps the places that f leaves and gets the mark m
unfoldable pub cleaned : (List Entry → List Entry) → Stamp → PageNo → Tree → Tree
cleaned f m q t =
    let d = t.levels - 1 in
    let r = trimmed_below f m d t.pages (path_to t.pages d t.root q) t.root in
    given_way (put_back r.orphans (record { root = t.root; levels = t.levels; pages = r.pages }))

-- a proof that says `unfolding cleaning_open` sees through every definition of this file
unfoldable pub cleaning_open : Unit {0}
unfolding smallest_mark leaf_to_clean reached_under among path_to trimmed_below put_back given_way cleaned
cleaning_open = tt
