-- When a store is sound: the ranges of its fields, and rules 1 to 8, each a test.
use Rattle.std.specs.Prelude.{ℕ, zero, suc, ◌*◌, Bool, true, false, not, ◌&&◌, ◌||◌, eqb, leb, ltb, length}
use mathlib.Core.List.{List, [], ◌∷◌, map, flat_map}
use Rattle.rules.specs.declared.Stamp.{Stamp}
use Rattle.rules.specs.declared.PageNo.{PageNo}
use Rattle.rules.specs.declared.Box.{Box}
use Rattle.rules.specs.declared.Entry.{Entry}
use Rattle.rules.specs.declared.Slot.{Slot}
use Rattle.rules.specs.declared.Row.{Row}
use Rattle.rules.specs.declared.LookUp.{LookUp}
use Rattle.rules.specs.declared.LookUp.TheVariants.{Absent, Found}
use Rattle.rules.specs.Lists.{all_of, one_if, keep, every, count, from, distinct, ascending, same_words}
use Rattle.rules.specs.Boxes.{proper_box, proper_window}
use Rattle.rules.specs.Store.{Page, Board, Store, limit, row_limit, page_no, child_of, train_of, page_at, box_words, window_words, row_words, words, store_of}
use Rattle.rules.specs.Memo.{look_up, is_latest, is_obsolete}
use Rattle.rules.specs.Live.{held, rows_in}
use Rattle.rules.specs.Tree.{cover_page}
use Rattle.rules.specs.Cleaning.{reached_under}
use Rattle.rules.specs.Boards.{is_open}

-- ---- kinds of a page
abbrev pub is_free : Page → Bool
is_free g = eqb g.kind 0

abbrev pub is_leaf : Page → Bool
is_leaf g = eqb g.kind 1

abbrev pub is_inner : Page → Bool
is_inner g = eqb g.kind 2

-- ---- the ranges
unfoldable pub sizes_in_range : ℕ → ℕ → ℕ → Bool
sizes_in_range p k b = all_of (leb 1 p ∷ leb p 192 ∷ leb 1 k ∷ leb k 1_024 ∷ leb b 32 ∷ [])

-- words 1, 2 and 3
unfoldable pub header_in_range : Store → Bool
header_in_range s =
    all_of
    (leb 1 s.next.0
    ∷ leb s.next.0 limit
    ∷ ltb s.root.0 (length s.pages)
    ∷ leb 1 s.levels
    ∷ leb s.levels 5
    ∷ [])

-- a free page is zero throughout, and an inner place has a child page and zero
unfoldable pub page_in_range : ℕ → Page → Bool
page_in_range p g =
    all_of
    (leb g.kind 2
    ∷ leb (length g.places) 8
    ∷ (not (is_free g) || (eqb g.mark.0 0 && eqb (length g.places) 0))
    ∷ (not (is_inner g) || every (λ e. ltb (child_of e).0 p && eqb e.stamp.0 0) g.places)
    ∷ [])

unfoldable pub entry_in_range : Entry → Bool
entry_in_range e = all_of (proper_box e.bounds ∷ leb 1 (train_of e).0 ∷ [])

-- used slots are those of trains, in ascending train
unfoldable pub memo_in_range : ℕ → List Slot → Bool
memo_in_range k memo =
    all_of (leb (length memo) k ∷ every (λ m. leb 1 m.train.0) memo ∷ ascending (map (λ m. m.train.0) memo) ∷ [])

-- a closed board is zero throughout
unfoldable pub board_in_range : Board → Bool
board_in_range b =
    all_of
    (leb b.isopen 1
    ∷ leb (length b.rows) row_limit
    ∷ (is_open b || (every (λ n. eqb n 0) (window_words b.window) && eqb (length b.rows) 0))
    ∷ [])

unfoldable pub in_range : Store → Bool
in_range s =
    all_of
    (sizes_in_range (length s.pages) s.slots (length s.boards)
    ∷ header_in_range s
    ∷ every (page_in_range (length s.pages)) s.pages
    ∷ every entry_in_range (held s)
    ∷ memo_in_range s.slots s.memo
    ∷ every board_in_range s.boards
    ∷ [])

-- ---- rule 1: the root isn't free; every page that isn't free is reached exactly once from the root, and no free page is
-- reached; all leaves stand at the level that word 3 gives
unfoldable pub reached : Store → List PageNo
reached s = reached_under s.pages s.levels s.root

-- from page p, at this level, down to the leaves at level 1 the pages are inner
unfoldable pub levelled : List Page → ℕ → PageNo → Bool
levelled ps zero p = false
levelled ps (suc zero) p = is_leaf (page_at ps p)
levelled ps (suc (suc l)) p = is_inner (page_at ps p) && every (λ e. levelled ps (suc l) (child_of e)) (page_at ps p).places

unfoldable pub rule1 : Store → Bool
rule1 s =
    all_of
    (not (is_free (page_at s.pages s.root))
    ∷ levelled s.pages s.levels s.root
    ∷ every (λ p. ltb p.0 (length s.pages)) (reached s)
    ∷ every
    (λ n. eqb (count (λ p. eqb n p.0) (reached s)) (one_if (not (is_free (page_at s.pages (page_no n))))))
    (from 0 (length s.pages))
    ∷ [])

-- ---- rule 2: each page that isn't free, other than the root, has 4 to 8 places used; an inner root has 2 to 8, a root leaf 0 to 8
unfoldable pub filled : Store → PageNo → Bool
filled s p =
    let g = page_at s.pages p in
    let n = length g.places in
    leb n 8 && (leb 4 n || (eqb p.0 s.root.0 && (is_leaf g || leb 2 n)))

unfoldable pub rule2 : Store → Bool
rule2 s = every (filled s) (reached s)

-- ---- rule 3: each inner box is the smallest that covers its child's places
unfoldable pub same_box : Box → Box → Bool
same_box a b = same_words (box_words a) (box_words b)

unfoldable pub rule3 : Store → Bool
rule3 s =
    every
    (λ g. not (is_inner g) || every (λ e. same_box e.bounds (cover_page s.pages (child_of e))) g.places)
    s.pages

-- ---- rule 4: at most 3P leaf entries are held; their stamps are distinct, at least 1 and below the next stamp
unfoldable pub rule4 : Store → Bool
rule4 s =
    all_of
    (leb (length (held s)) (3 * length s.pages)
    ∷ distinct (map (λ e. e.stamp.0) (held s))
    ∷ every (λ e. all_of (leb 1 e.stamp.0 ∷ ltb e.stamp.0 s.next.0 ∷ [])) (held s)
    ∷ [])

-- ---- rule 5: each train has at most one latest entry; no entry's stamp is above its slot's
unfoldable pub not_above : LookUp → Stamp → Bool
not_above Absent s = true
not_above (Found place latest old) s = leb s.0 latest.0

unfoldable pub rule5 : Store → Bool
rule5 s =
    all_of
    (distinct (map (λ e. (train_of e).0) (keep (is_latest s.memo) (held s)))
    ∷ every (λ e. not_above (look_up (train_of e) s.memo) e.stamp) (held s)
    ∷ [])

-- ---- rule 6: a slot's stamp is 1 or more and below the next stamp; its old count is at least 1, at least the number of that
-- train's obsolete entries held, and at most its stamp
unfoldable pub obsolete_of : Store → Slot → ℕ
obsolete_of s m = count (λ e. eqb (train_of e).0 m.train.0 && is_obsolete s.memo e) (held s)

unfoldable pub rule6 : Store → Bool
rule6 s =
    every
    (λ m.
    all_of
    (leb 1 m.latest.0
    ∷ ltb m.latest.0 s.next.0
    ∷ leb 1 m.old
    ∷ leb (obsolete_of s m) m.old
    ∷ leb m.old m.latest.0
    ∷ []))
    s.memo

-- ---- rule 7: a leaf's mark is 1 to the next stamp, an inner page's is 0; no obsolete entry stands in a leaf whose mark is above
-- its slot's stamp
unfoldable pub leaf_marked : Store → Page → Bool
leaf_marked s g =
    all_of
    (leb 1 g.mark.0
    ∷ leb g.mark.0 s.next.0
    ∷ every (λ e. is_latest s.memo e || not_above (look_up (train_of e) s.memo) g.mark) g.places
    ∷ [])

unfoldable pub rule7 : Store → Bool
rule7 s =
    every
    (λ g. all_of ((not (is_leaf g) || leaf_marked s g) ∷ (not (is_inner g) || eqb g.mark.0 0) ∷ []))
    s.pages

-- ---- rule 8: each open board has a proper window and exactly the rows that a query of it gives
unfoldable pub same_rows : List Row → List Row → Bool
same_rows qs rs = same_words (flat_map row_words qs) (flat_map row_words rs)

unfoldable pub rule8 : Store → Bool
rule8 s =
    every
    (λ b. not (is_open b) || all_of (proper_window b.window ∷ same_rows b.rows (rows_in s b.window) ∷ []))
    s.boards

-- ---- all of them
unfoldable pub sound : Store → Bool
sound s =
    all_of (in_range s ∷ rule1 s ∷ rule2 s ∷ rule3 s ∷ rule4 s ∷ rule5 s ∷ rule6 s ∷ rule7 s ∷ rule8 s ∷ [])

-- the words are those of a sound store; that writing it out again gives the same words says that unused parts are zero throughout
unfoldable pub sound_words : List ℕ → Bool
sound_words w = same_words (words (store_of w)) w && sound (store_of w)

-- a proof that says `unfolding sound_open` sees through every definition of this file
unfoldable pub sound_open : Unit {0}
unfolding sizes_in_range header_in_range page_in_range entry_in_range memo_in_range board_in_range in_range reached levelled rule1 filled rule2 same_box rule3 rule4 not_above rule5 obsolete_of rule6 leaf_marked rule7 same_rows rule8 sound sound_words
sound_open = tt
