-- Soundness as facts: for each test of Boxes and Sound a record of what it says, with the way there and back.
use Rattle.std.specs.Prelude.{ℕ, zero, suc, ◌≤◌, ◌<◌, ◌*◌, ◌≡◌, refl, true, false, not, ◌&&◌, ◌||◌, eqb, leb, ltb, length, drop}
use Rattle.std.proofs.Common.{arith, ap, ap₂, leb-true, leb-false, ltb-true, eqb-true, le-leb, lt-ltb, eq-eqb, ne_eqb}
use Rattle.std.proofs.lemmas.Bool.{false≢true, eqb-false, lt-leb, not-true}
use mathlib.Core.List.{List, [], ◌∷◌, map, flat_map}
use Rattle.rules.specs.declared.Stamp.{Stamp}
use Rattle.rules.specs.declared.PageNo.{PageNo}
use Rattle.rules.specs.declared.Box.{Box}
use Rattle.rules.specs.declared.Window.{Window}
use Rattle.rules.specs.declared.Entry.{Entry}
use Rattle.rules.specs.declared.Slot.{Slot}
use Rattle.rules.specs.declared.Row.{Row}
use Rattle.rules.specs.declared.LookUp.{LookUp}
use Rattle.rules.specs.declared.LookUp.TheVariants.{Absent, Found}
use Rattle.rules.specs.Lists.{every, keep, count, one_if}
use Rattle.rules.specs.Boxes.{edge, proper_box, proper_window, meets}
use Rattle.rules.specs.Store.{Page, Board, Store, limit, row_limit, page_no, child_of, train_of, free_page, closed, page_at, box_words, window_words, row_words, box_of, window_of, row_of}
use Rattle.rules.specs.Sound.{is_free, is_leaf, is_inner, sizes_in_range, header_in_range, page_in_range, entry_in_range, memo_in_range, board_in_range, in_range}
use Rattle.rules.specs.Sound.{reached, levelled, rule1, filled, rule2, same_box, rule3, rule4, not_above, rule5, obsolete_of, rule6, leaf_marked, rule7, same_rows, rule8, sound}
use Rattle.rules.specs.Live.{held, rows_in}
use Rattle.rules.specs.Memo.{look_up, is_latest, is_obsolete}
use Rattle.rules.specs.Tree.{cover_page}
use Rattle.rules.specs.Boards.{is_open}
use Rattle.rules.specs.laws.Tests.{not_both, and_left, and_right, and_both, equal_then, then_equal, or_else, else_or, not_fails, each, each_all_of, ◌also◌}
use Rattle.rules.specs.laws.All.{All, every_all, every_holds, every_test}
use Rattle.rules.specs.laws.Lists.{length-zero, all_from, from_all, same_words_equal, same_words_self, zeros, Distinct, distinct-holds, distinct_test, Ascending, ascending-holds, ascending_test}

-- ---- boxes and windows
-- the sides of a box are in order, and it lies on the grid
pub record ProperBox (b : Box) : Type 0 where
  pub x_order : b.x0 ≤ b.x1
  pub y_order : b.y0 ≤ b.y1
  pub x_edge : b.x1 ≤ edge
  pub y_edge : b.y1 ≤ edge

pub proper_box-holds : (b : Box) → proper_box b ≡ true → ProperBox b
unfolding proper_box
proper_box-holds b e = let t = each _ e in omega (arith, leb-true)

pub proper_box_test : (b : Box) → ProperBox b → proper_box b ≡ true
unfolding proper_box
proper_box_test b h = each_all_of _ (omega (arith, le-leb))

-- the sides of a window are in order, and it lies on the grid
pub record ProperWindow (w : Window) : Type 0 where
  pub x_order : w.x0 ≤ w.x1
  pub y_order : w.y0 ≤ w.y1
  pub x_edge : w.x1 ≤ edge
  pub y_edge : w.y1 ≤ edge

pub proper_window-holds : (w : Window) → proper_window w ≡ true → ProperWindow w
unfolding proper_window
proper_window-holds w e = let t = each _ e in omega (arith, leb-true)

pub proper_window_test : (w : Window) → ProperWindow w → proper_window w ≡ true
unfolding proper_window
proper_window_test w h = each_all_of _ (omega (arith, le-leb))

-- box and window share at least one point: neither begins past the other's end, along x and along y
pub record Meets (b : Box) (w : Window) : Type 0 where
  pub box_x : b.x0 ≤ w.x1
  pub window_x : w.x0 ≤ b.x1
  pub box_y : b.y0 ≤ w.y1
  pub window_y : w.y0 ≤ b.y1

pub meets-holds : (b : Box) (w : Window) → meets b w ≡ true → Meets b w
unfolding meets
meets-holds b w e = let t = each _ e in omega (arith, leb-true)

pub meets_test : (b : Box) (w : Window) → Meets b w → meets b w ≡ true
unfolding meets
meets_test b w h = each_all_of _ (omega (arith, le-leb))

-- ---- the ranges
-- P is 1 to 192, K 1 to 1,024 and B 0 to 32
pub record Sizes (p k b : ℕ) : Type 0 where
  pub some_page : 1 ≤ p
  pub pages_most : p ≤ 192
  pub some_slot : 1 ≤ k
  pub slots_most : k ≤ 1_024
  pub boards_most : b ≤ 32

pub sizes_in_range-holds : (p k b : ℕ) → sizes_in_range p k b ≡ true → Sizes p k b
unfolding sizes_in_range
sizes_in_range-holds p k b e = let t = each _ e in omega (arith, leb-true)

pub sizes_in_range_test : (p k b : ℕ) → Sizes p k b → sizes_in_range p k b ≡ true
unfolding sizes_in_range
sizes_in_range_test p k b h = each_all_of _ (omega (arith, le-leb))

-- the next stamp is 1 to 4,294,967,295, the root one of the pages, and the levels 1 to 5
pub record HeaderInRange (s : Store) : Type 0 where
  pub next_least : 1 ≤ s.next.0
  pub next_most : s.next.0 ≤ limit
  pub root_page : s.root.0 < length s.pages
  pub levels_least : 1 ≤ s.levels
  pub levels_most : s.levels ≤ 5

pub header_in_range-holds : (s : Store) → header_in_range s ≡ true → HeaderInRange s
unfolding header_in_range
header_in_range-holds s e = let t = each _ e in omega (arith, leb-true, ltb-true)

pub header_in_range_test : (s : Store) → HeaderInRange s → header_in_range s ≡ true
unfolding header_in_range
header_in_range_test s h = each_all_of _ (omega (arith, le-leb, lt-ltb))

-- an inner place has a child page and zero
pub record InnerPlace (p : ℕ) (e : Entry) : Type 0 where
  pub child : (child_of e).0 < p
  pub unstamped : e.stamp.0 ≡ 0

-- a page is free, leaf or inner, with at most eight places; a free page is zero throughout
pub record PageInRange (p : ℕ) (g : Page) : Type 0 where
  pub kind_most : g.kind ≤ 2
  pub places_most : length g.places ≤ 8
  pub free : g.kind ≡ 0 → g ≡ free_page
  pub inner : g.kind ≡ 2 → All (InnerPlace p) g.places

inner_place-holds : (p : ℕ) (e : Entry) → (ltb (child_of e).0 p && eqb e.stamp.0 0) ≡ true → InnerPlace p e
inner_place-holds p e h =
    record { child = ltb-true _ _ (and_left _ _ h); unstamped = eqb-true _ _ (and_right (ltb (child_of e).0 p) _ h) }

inner_place_test : (p : ℕ) (e : Entry) → InnerPlace p e → (ltb (child_of e).0 p && eqb e.stamp.0 0) ≡ true
inner_place_test p e h = and_both (lt-ltb _ _ h.child) (eq-eqb _ _ h.unstamped)

no_page : (g : Page) → g.kind ≡ 0 → (eqb g.mark.0 0 && eqb (length g.places) 0) ≡ true → g ≡ free_page
no_page g k e =
    let m = eqb-true _ _ (and_left (eqb g.mark.0 0) _ e) in
    let r = length-zero g.places (eqb-true _ _ (and_right (eqb g.mark.0 0) _ e)) in
    λ i. record { kind = k i; mark = record { 0 = m i }; places = r i }

pub page_in_range-holds : (p : ℕ) (g : Page) → page_in_range p g ≡ true → PageInRange p g
unfolding page_in_range
page_in_range-holds p g e =
    let t = each _ e in
    record {
      kind_most = leb-true _ _ t.0;
      places_most = leb-true _ _ t.1.0;
      free = λ k. no_page g k (equal_then _ t.1.1.0 k);
      inner = λ k. every_holds _ g.places (inner_place-holds p) (equal_then _ t.1.1.1.0 k);
    }

pub page_in_range_test : (p : ℕ) (g : Page) → PageInRange p g → page_in_range p g ≡ true
unfolding page_in_range
page_in_range_test p g h =
    each_all_of _
    (le-leb _ _ h.kind_most
    also le-leb _ _ h.places_most
    also then_equal _ _ (λ k. rw (h.free k) refl)
    also then_equal _ _ (λ k. every_test _ (inner_place_test p) (h.inner k))
    also tt)

-- a held entry has a proper box and a train
pub record EntryInRange (e : Entry) : Type 0 where
  pub proper : ProperBox e.bounds
  pub a_train : 1 ≤ (train_of e).0

pub entry_in_range-holds : (e : Entry) → entry_in_range e ≡ true → EntryInRange e
unfolding entry_in_range
entry_in_range-holds e h = let t = each _ h in record { proper = proper_box-holds _ t.0; a_train = leb-true _ _ t.1.0 }

pub entry_in_range_test : (e : Entry) → EntryInRange e → entry_in_range e ≡ true
unfolding entry_in_range
entry_in_range_test e h = each_all_of _ (proper_box_test _ h.proper also le-leb _ _ h.a_train also tt)

-- at most K slots are used, those of trains, in ascending train
pub record MemoInRange (k : ℕ) (memo : List Slot) : Type 0 where
  pub used_most : length memo ≤ k
  pub trains : All (λ m. 1 ≤ m.train.0) memo
  pub ascends : Ascending (map (λ m. m.train.0) memo)

pub memo_in_range-holds : (k : ℕ) (memo : List Slot) → memo_in_range k memo ≡ true → MemoInRange k memo
unfolding memo_in_range
memo_in_range-holds k memo e =
    let t = each _ e in
    record {
      used_most = leb-true _ _ t.0;
      trains = every_holds _ memo (λ m. leb-true _ _) t.1.0;
      ascends = ascending-holds _ t.1.1.0;
    }

pub memo_in_range_test : (k : ℕ) (memo : List Slot) → MemoInRange k memo → memo_in_range k memo ≡ true
unfolding memo_in_range
memo_in_range_test k memo h =
    each_all_of _
    (le-leb _ _ h.used_most also every_test _ (λ m. le-leb _ _) h.trains also ascending_test h.ascends also tt)

-- a board has at most 16 rows; a closed board is zero throughout
pub record BoardInRange (b : Board) : Type 0 where
  pub open_most : b.isopen ≤ 1
  pub rows_most : length b.rows ≤ row_limit
  pub shut : b.isopen ≡ 0 → b ≡ closed

no_board : (b : Board) → b.isopen ≡ 0 → (every (λ n. eqb n 0) (window_words b.window) && eqb (length b.rows) 0) ≡ true → b ≡ closed
unfolding window_words window_of
no_board b o e =
    let w = ap window_of (zeros (window_words b.window) (and_left _ _ e)) in
    let r = length-zero b.rows (eqb-true _ _ (and_right (every (λ (n : ℕ). eqb n 0) (window_words b.window)) _ e)) in
    λ i. record { window = w i; isopen = o i; rows = r i }

pub board_in_range-holds : (b : Board) → board_in_range b ≡ true → BoardInRange b
unfolding board_in_range
board_in_range-holds b e =
    let t = each _ e in
    record {
      open_most = leb-true _ _ t.0;
      rows_most = leb-true _ _ t.1.0;
      shut = λ o. no_board b o (or_else (is_open b) _ (ne_eqb b.isopen 1 (omega arith)) t.1.1.0);
    }

pub board_in_range_test : (b : Board) → BoardInRange b → board_in_range b ≡ true
unfolding board_in_range window_words
board_in_range_test b h =
    each_all_of _
    (le-leb _ _ h.open_most
    also le-leb _ _ h.rows_most
    also else_or (is_open b) _ (λ n. rw (h.shut (omega (arith, h.open_most, eqb-false b.isopen 1 n))) refl)
    also tt)

-- every field of the store is in its range
pub record InRange (s : Store) : Type 0 where
  pub sizes : Sizes (length s.pages) s.slots (length s.boards)
  pub header : HeaderInRange s
  pub pages : All (PageInRange (length s.pages)) s.pages
  pub entries : All EntryInRange (held s)
  pub memo : MemoInRange s.slots s.memo
  pub boards : All BoardInRange s.boards

pub in_range-holds : (s : Store) → in_range s ≡ true → InRange s
unfolding in_range
in_range-holds s e =
    let t = each _ e in
    record {
      sizes = sizes_in_range-holds _ _ _ t.0;
      header = header_in_range-holds _ t.1.0;
      pages = every_holds _ _ (page_in_range-holds _) t.1.1.0;
      entries = every_holds _ _ entry_in_range-holds t.1.1.1.0;
      memo = memo_in_range-holds _ _ t.1.1.1.1.0;
      boards = every_holds _ _ board_in_range-holds t.1.1.1.1.1.0;
    }

pub in_range_test : (s : Store) → InRange s → in_range s ≡ true
unfolding in_range
in_range_test s h =
    each_all_of _
    (sizes_in_range_test _ _ _ h.sizes
    also header_in_range_test _ h.header
    also every_test _ (page_in_range_test _) h.pages
    also every_test _ entry_in_range_test h.entries
    also memo_in_range_test _ _ h.memo
    also every_test _ board_in_range_test h.boards
    also tt)

-- ---- rule 1
-- from page p, at this level, down to the leaves at level 1 the pages are inner
abbrev pub Levelled : List Page → ℕ → PageNo → Type 0
Levelled ps zero p = ⊥
Levelled ps (suc zero) p = (page_at ps p).kind ≡ 1
Levelled ps (suc (suc l)) p = ((page_at ps p).kind ≡ 2) × All (λ e. Levelled ps (suc l) (child_of e)) (page_at ps p).places

pub levelled-holds : (ps : List Page) (l : ℕ) (p : PageNo) → levelled ps l p ≡ true → Levelled ps l p
unfolding levelled
levelled-holds ps zero p e = false≢true e
levelled-holds ps (suc zero) p e = eqb-true _ _ e
levelled-holds ps (suc (suc l)) p e =
    (eqb-true _ _ (and_left _ _ e), every_holds _ _ (λ c. levelled-holds ps (suc l) (child_of c)) (and_right (is_inner (page_at ps p)) _ e))

pub levelled_test : (ps : List Page) (l : ℕ) (p : PageNo) → Levelled ps l p → levelled ps l p ≡ true
unfolding levelled
levelled_test ps zero p h = absurd h
levelled_test ps (suc zero) p h = eq-eqb _ _ h
levelled_test ps (suc (suc l)) p h =
    and_both (eq-eqb _ _ h.0) (every_test _ (λ c. levelled_test ps (suc l) (child_of c)) h.1)

-- the root isn't free, the leaves stand at the level of word 3, every page that isn't free is reached exactly once from the
-- root, and no free page is
pub record Rule1 (s : Store) : Type 0 where
  pub root_used : (page_at s.pages s.root).kind ≡ 0 → ⊥
  pub leaves : Levelled s.pages s.levels s.root
  pub inside : All (λ p. p.0 < length s.pages) (reached s)
  pub once : (n : ℕ) → n < length s.pages → count (λ p. eqb n p.0) (reached s) ≡ one_if (not (is_free (page_at s.pages (page_no n))))

pub rule1-holds : (s : Store) → rule1 s ≡ true → Rule1 s
unfolding rule1
rule1-holds s e =
    let t = each _ e in
    record {
      root_used = eqb-false _ _ (not-true _ t.0);
      leaves = levelled-holds _ _ _ t.1.0;
      inside = every_holds _ _ (λ p. ltb-true _ _) t.1.1.0;
      once = λ n h. eqb-true _ _ (all_from 0 _ (every_all _ _ t.1.1.1.0) n (omega arith) (omega arith));
    }

pub rule1_test : (s : Store) → Rule1 s → rule1 s ≡ true
unfolding rule1
rule1_test s h =
    each_all_of _
    (ap not (ne_eqb _ _ h.root_used)
    also levelled_test _ _ _ h.leaves
    also every_test _ (λ p. lt-ltb _ _) h.inside
    also every_test _ (λ n. eq-eqb _ _) (from_all 0 _ (λ n low high. h.once n (omega arith)))
    also tt)

-- ---- rule 2
-- a page has at most 8 places used; other than the root at least 4, a root that is no leaf at least 2
pub record Filled (s : Store) (p : PageNo) : Type 0 where
  pub most : length (page_at s.pages p).places ≤ 8
  pub least : (p.0 ≡ s.root.0 → ⊥) → 4 ≤ length (page_at s.pages p).places
  pub root_least : p.0 ≡ s.root.0 → ((page_at s.pages p).kind ≡ 1 → ⊥) → 2 ≤ length (page_at s.pages p).places

pub filled-holds : (s : Store) (p : PageNo) → filled s p ≡ true → Filled s p
unfolding filled
filled-holds s p e =
    let g = page_at s.pages p in
    let n = length g.places in
    let root = eqb p.0 s.root.0 in
    let thin : leb 4 n ≡ false → (root && (is_leaf g || leb 2 n)) ≡ true = λ f. or_else _ _ f (and_right (leb n 8) _ e) in
    record {
      most = leb-true _ _ (and_left (leb n 8) _ e);
      least = λ d. leb-true 4 n (not_fails _ λ f. not_both root (and_left root _ (thin f)) (ne_eqb _ _ d));
      root_least = λ r d. leb-true 2 n (not_fails _ λ f.
          not_both (leb 2 n) (or_else (is_leaf g) _ (ne_eqb _ _ d) (and_right root _ (thin (lt-leb 4 n (omega (arith, leb-false 2 n f)))))) f);
    }

pub filled_test : (s : Store) (p : PageNo) → Filled s p → filled s p ≡ true
unfolding filled
filled_test s p h =
    let g = page_at s.pages p in
    let n = length g.places in
    and_both (le-leb _ _ h.most) (else_or (leb 4 n) _ λ f.
    let r = not_fails (eqb p.0 s.root.0) (λ d. omega (arith, leb-false 4 n f, h.least (eqb-false _ _ d))) in
    and_both r (else_or (is_leaf g) _ λ d. le-leb _ _ (h.root_least (eqb-true _ _ r) (eqb-false _ _ d))))

-- every page that isn't free is filled as it should be
pub record Rule2 (s : Store) : Type 0 where
  pub all_filled : All (Filled s) (reached s)

pub rule2-holds : (s : Store) → rule2 s ≡ true → Rule2 s
unfolding rule2
rule2-holds s e = record { all_filled = every_holds _ _ (filled-holds s) e }

pub rule2_test : (s : Store) → Rule2 s → rule2 s ≡ true
unfolding rule2
rule2_test s h = every_test _ (filled_test s) h.all_filled

-- ---- rule 3
pub same_box-holds : (a b : Box) → same_box a b ≡ true → a ≡ b
unfolding same_box box_words box_of
same_box-holds a b e = ap box_of (same_words_equal (box_words a) (box_words b) e)

pub same_box_test : (a b : Box) → a ≡ b → same_box a b ≡ true
unfolding same_box
same_box_test a b q = rw q (same_words_self (box_words b))

-- each inner box is the smallest that covers its child's places
pub record Rule3 (s : Store) : Type 0 where
  pub smallest : All (λ g. g.kind ≡ 2 → All (λ e. e.bounds ≡ cover_page s.pages (child_of e)) g.places) s.pages

pub rule3-holds : (s : Store) → rule3 s ≡ true → Rule3 s
unfolding rule3
rule3-holds s e =
    record { smallest = every_holds _ _ (λ g h k. every_holds _ _ (λ e. same_box-holds _ _) (equal_then _ h k)) e }

pub rule3_test : (s : Store) → Rule3 s → rule3 s ≡ true
unfolding rule3
rule3_test s h = every_test _ (λ g f. then_equal _ _ (λ k. every_test _ (λ e. same_box_test _ _) (f k))) h.smallest

-- ---- rule 4
-- a stamp that has been given out
pub record Given (next st : Stamp) : Type 0 where
  pub least : 1 ≤ st.0
  pub below : st.0 < next.0

-- at most 3P leaf entries are held; their stamps are distinct, at least 1 and below the next stamp
pub record Rule4 (s : Store) : Type 0 where
  pub held_most : length (held s) ≤ 3 * length s.pages
  pub apart : Distinct (map (λ e. e.stamp.0) (held s))
  pub stamps : All (λ e. Given s.next e.stamp) (held s)

pub rule4-holds : (s : Store) → rule4 s ≡ true → Rule4 s
unfolding rule4
rule4-holds s e =
    let t = each _ e in
    record {
      held_most = leb-true _ _ t.0;
      apart = distinct-holds _ t.1.0;
      stamps = every_holds _ _ (λ e h. let u = each _ h in omega (arith, leb-true, ltb-true)) t.1.1.0;
    }

pub rule4_test : (s : Store) → Rule4 s → rule4 s ≡ true
unfolding rule4
rule4_test s h =
    each_all_of _
    (le-leb _ _ h.held_most
    also distinct_test h.apart
    also every_test _ (λ e g. each_all_of _ (omega (arith, le-leb, lt-ltb))) h.stamps
    also tt)

-- ---- rule 5
-- a stamp is not above that of the slot found, if one is
pub record NotAbove (f : LookUp) (st : Stamp) : Type 0 where
  pub at_most : {place : ℕ} {latest : Stamp} {old : ℕ} → f ≡ Found place latest old → st.0 ≤ latest.0

pub not_above-holds : (f : LookUp) (st : Stamp) → not_above f st ≡ true → NotAbove f st
unfolding not_above
not_above-holds f st e = record { at_most = λ q. leb-true _ _ (rw q at e) }

pub not_above_test : (f : LookUp) (st : Stamp) → NotAbove f st → not_above f st ≡ true
unfolding not_above
not_above_test Absent st h = refl
not_above_test (Found place latest old) st h = le-leb _ _ (h.at_most refl)

-- each train has at most one latest entry; no entry's stamp is above its slot's
pub record Rule5 (s : Store) : Type 0 where
  pub one_latest : Distinct (map (λ e. (train_of e).0) (keep (is_latest s.memo) (held s)))
  pub none_above : All (λ e. NotAbove (look_up (train_of e) s.memo) e.stamp) (held s)

pub rule5-holds : (s : Store) → rule5 s ≡ true → Rule5 s
unfolding rule5
rule5-holds s e =
    let t = each _ e in
    record { one_latest = distinct-holds _ t.0; none_above = every_holds _ _ (λ e. not_above-holds _ _) t.1.0 }

pub rule5_test : (s : Store) → Rule5 s → rule5 s ≡ true
unfolding rule5
rule5_test s h =
    each_all_of _ (distinct_test h.one_latest also every_test _ (λ e. not_above_test _ _) h.none_above also tt)

-- ---- rule 6
-- a slot's stamp is 1 or more and below the next stamp; its old count is at least 1, at least the number of that train's
-- obsolete entries held, and at most its stamp
pub record SlotSound (s : Store) (m : Slot) : Type 0 where
  pub stamp_least : 1 ≤ m.latest.0
  pub stamp_below : m.latest.0 < s.next.0
  pub old_least : 1 ≤ m.old
  pub old_counts : obsolete_of s m ≤ m.old
  pub old_most : m.old ≤ m.latest.0

-- every used slot is sound
pub record Rule6 (s : Store) : Type 0 where
  pub slots : All (SlotSound s) s.memo

pub rule6-holds : (s : Store) → rule6 s ≡ true → Rule6 s
unfolding rule6
rule6-holds s e = record { slots = every_holds _ _ (λ m h. let t = each _ h in omega (arith, leb-true, ltb-true)) e }

pub rule6_test : (s : Store) → Rule6 s → rule6 s ≡ true
unfolding rule6
rule6_test s h = every_test _ (λ m k. each_all_of _ (omega (arith, le-leb, lt-ltb))) h.slots

-- ---- rule 7
-- a leaf's mark is 1 to the next stamp; no obsolete entry stands in a leaf whose mark is above its slot's stamp
pub record LeafMarked (s : Store) (g : Page) : Type 0 where
  pub mark_least : 1 ≤ g.mark.0
  pub mark_most : g.mark.0 ≤ s.next.0
  pub obsolete : All (λ e. is_obsolete s.memo e ≡ true → NotAbove (look_up (train_of e) s.memo) g.mark) g.places

pub leaf_marked-holds : (s : Store) (g : Page) → leaf_marked s g ≡ true → LeafMarked s g
unfolding leaf_marked is_obsolete
leaf_marked-holds s g e =
    let t = each _ e in
    record {
      mark_least = leb-true _ _ t.0;
      mark_most = leb-true _ _ t.1.0;
      obsolete = every_holds _ _ (λ e h o. not_above-holds _ _ (or_else (is_latest s.memo e) _ (not-true _ o) h)) t.1.1.0;
    }

pub leaf_marked_test : (s : Store) (g : Page) → LeafMarked s g → leaf_marked s g ≡ true
unfolding leaf_marked is_obsolete
leaf_marked_test s g h =
    each_all_of _
    (le-leb _ _ h.mark_least
    also le-leb _ _ h.mark_most
    also every_test _ (λ e k. else_or (is_latest s.memo e) _ (λ f. not_above_test _ _ (k (ap not f)))) h.obsolete
    also tt)

-- a leaf's mark is as rule 7 says, an inner page's is 0
pub record Marked (s : Store) (g : Page) : Type 0 where
  pub leaf : g.kind ≡ 1 → LeafMarked s g
  pub inner : g.kind ≡ 2 → g.mark.0 ≡ 0

-- every leaf and every inner page is marked so
pub record Rule7 (s : Store) : Type 0 where
  pub marks : All (Marked s) s.pages

pub rule7-holds : (s : Store) → rule7 s ≡ true → Rule7 s
unfolding rule7
rule7-holds s e =
    record {
      marks =
          every_holds _ _
          (λ g h.
          let t = each _ h in
          record { leaf = λ k. leaf_marked-holds s g (equal_then _ t.0 k); inner = λ k. eqb-true _ _ (equal_then _ t.1.0 k) })
          e;
    }

pub rule7_test : (s : Store) → Rule7 s → rule7 s ≡ true
unfolding rule7
rule7_test s h =
    every_test _
    (λ g m.
    each_all_of _
    (then_equal _ _ (λ k. leaf_marked_test s g (m.leaf k)) also then_equal _ _ (λ k. eq-eqb _ _ (m.inner k)) also tt))
    h.marks

-- ---- rule 8
-- rows are known from their words
rows_known : (qs rs : List Row) → flat_map row_words qs ≡ flat_map row_words rs → qs ≡ rs
unfolding flat_map row_words box_words row_of box_of
rows_known [] [] e = refl
rows_known [] (r ∷ rs) e = absurd (omega (arith, ap length e))
rows_known (q ∷ qs) [] e = absurd (omega (arith, ap length e))
rows_known (q ∷ qs) (r ∷ rs) e = ap₂ (λ u v. u ∷ v) (ap row_of e) (rows_known qs rs (ap (drop 5) e))

pub same_rows-holds : (qs rs : List Row) → same_rows qs rs ≡ true → qs ≡ rs
unfolding same_rows
same_rows-holds qs rs e = rows_known qs rs (same_words_equal _ _ e)

pub same_rows_test : (qs rs : List Row) → qs ≡ rs → same_rows qs rs ≡ true
unfolding same_rows
same_rows_test qs rs q = rw q (same_words_self _)

-- an open board has a proper window and exactly the rows that a query of it gives
pub record OpenBoard (s : Store) (b : Board) : Type 0 where
  pub proper : ProperWindow b.window
  pub exact : b.rows ≡ rows_in s b.window

-- every board that is open is such a one
pub record Rule8 (s : Store) : Type 0 where
  pub boards : All (λ b. b.isopen ≡ 1 → OpenBoard s b) s.boards

pub rule8-holds : (s : Store) → rule8 s ≡ true → Rule8 s
unfolding rule8
rule8-holds s e =
    record {
      boards =
          every_holds _ _
          (λ b h o.
          let t = each _ (equal_then _ h o) in
          record { proper = proper_window-holds _ t.0; exact = same_rows-holds _ _ t.1.0 })
          e;
    }

pub rule8_test : (s : Store) → Rule8 s → rule8 s ≡ true
unfolding rule8
rule8_test s h =
    every_test _
    (λ b f.
    then_equal _ _
    (λ o. each_all_of _ (proper_window_test _ (f o).proper also same_rows_test _ _ (f o).exact also tt)))
    h.boards

-- ---- all of them
-- the ranges and rules 1 to 8
pub record Sound (s : Store) : Type 0 where
  pub ranges : InRange s
  pub rule1 : Rule1 s
  pub rule2 : Rule2 s
  pub rule3 : Rule3 s
  pub rule4 : Rule4 s
  pub rule5 : Rule5 s
  pub rule6 : Rule6 s
  pub rule7 : Rule7 s
  pub rule8 : Rule8 s

pub sound-holds : (s : Store) → sound s ≡ true → Sound s
unfolding sound
sound-holds s e =
    let t = each _ e in
    let u = t.1.1.1.1 in
    record {
      ranges = in_range-holds s t.0;
      rule1 = rule1-holds s t.1.0;
      rule2 = rule2-holds s t.1.1.0;
      rule3 = rule3-holds s t.1.1.1.0;
      rule4 = rule4-holds s u.0;
      rule5 = rule5-holds s u.1.0;
      rule6 = rule6-holds s u.1.1.0;
      rule7 = rule7-holds s u.1.1.1.0;
      rule8 = rule8-holds s u.1.1.1.1.0;
    }

pub sound_test : (s : Store) → Sound s → sound s ≡ true
unfolding sound
sound_test s h =
    each_all_of _
    (in_range_test s h.ranges
    also rule1_test s h.rule1
    also rule2_test s h.rule2
    also rule3_test s h.rule3
    also rule4_test s h.rule4
    also rule5_test s h.rule5
    also rule6_test s h.rule6
    also rule7_test s h.rule7
    also rule8_test s h.rule8
    also tt)
