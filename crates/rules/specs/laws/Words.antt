-- Words and records: how long each part's words are, and that reading them gives the part back.
use Rattle.std.specs.Prelude.{ℕ, zero, suc, ◌+◌, ◌*◌, ◌-◌, ◌≤◌, ◌≡◌, true, drop, replicate}
use native.Mathlib.Omega.{arith}
use Rattle.std.proofs.Math.Nat.{mul-suc, min-eq_right}
use Rattle.std.proofs.Math.Path.{refl}
use Rattle.std.proofs.Common.{◌∙◌, ap, length-append, drop-drop, leb-true, ne_eqb}
use mathlib.Core.List.{List, [], ◌++◌, map, flat_map, append_assoc, append-nil}
use Rattle.std.proofs.Math.ListN.{length}
use Rattle.std.proofs.lemmas.List.{length-replicate}
use Rattle.std.proofs.Math.Seq.{take_at, drop_at}
use Rattle.rules.specs.declared.Entry.{Entry}
use Rattle.rules.specs.declared.Slot.{Slot}
use Rattle.rules.specs.declared.Row.{Row}
use Rattle.rules.specs.Lists.{cut, padded}
use Rattle.rules.specs.Store.{Page, Board, Store, train, stamp, row_limit, box_words, window_words, place_words, page_words, slot_words, row_words, board_words, header_words, words, memo_start, boards_start, store_length, box_of, window_of, place_of, page_of, slot_of, row_of, board_of, used, store_of}
use Rattle.rules.specs.Sound.{page_in_range, memo_in_range, board_in_range, in_range}
use Rattle.rules.specs.laws.Tests.{each}
use Rattle.rules.specs.laws.All.{All, none, more, all_map, every_all, map_back, flat_append, always}

-- ---- parts of one size, one after the other, whatever follows them
module _ {A : Type 0} (f : A → List ℕ) (size : ℕ) where
  -- they are as long as the size times their number
  pub flat_length : {xs : List A} → All (λ x. length (f x) ≡ size) xs → length (flat_map f xs) ≡ size * length xs
  unfolding flat_map
  flat_length none = omega arith
  flat_length (more {x = x} {xs = xs} h a) = rw (length-append, h, flat_length a) (omega (arith, mul-suc size (length xs)))

  -- cut into as many, they are the parts again
  pub cut_flat : {xs : List A} → All (λ x. length (f x) ≡ size) xs → (rest : List ℕ) → cut (length xs) size (flat_map f xs ++ rest) ≡ map f xs
  unfolding flat_map
  cut_flat none rest = refl
  cut_flat (more {x = x} {xs = xs} h a) rest =
      rw (append_assoc (f x) (flat_map f xs) rest, take_at (f x) (flat_map f xs ++ rest) size h, drop_at (f x) (flat_map f xs ++ rest) size h, cut_flat a rest)

  -- dropped, they leave what follows
  pub drop_flat : {xs : List A} → All (λ x. length (f x) ≡ size) xs → (rest : List ℕ) → drop (size * length xs) (flat_map f xs ++ rest) ≡ rest
  drop_flat {xs = xs} a rest = drop_at (flat_map f xs) rest (size * length xs) (flat_length a)

  -- what reads one part back reads all of them back
  pub parts-read : (g : List ℕ → A) {xs : List A} → All (λ x. length (f x) ≡ size) xs → All (λ x. g (f x) ≡ x) xs → (rest : List ℕ)
      → map g (cut (length xs) size (flat_map f xs ++ rest)) ≡ xs
  parts-read g a b rest = rw (cut_flat a rest) (map_back g f b)

-- what is padded has the length that it is padded to
pub padded-length : (n : ℕ) (ws : List ℕ) → length ws ≤ n → length (padded n ws) ≡ n
unfolding padded
padded-length n ws h = rw (length-append, length-replicate) (omega arith)

-- ---- a place, a slot and a row
-- each takes as many words as document 01 gives it
pub place_words-length : (e : Entry) → length (place_words e) ≡ 6
unfolding place_words box_words
place_words-length e = refl

pub slot_words-length : (m : Slot) → length (slot_words m) ≡ 3
unfolding slot_words
slot_words-length m = refl

pub row_words-length : (r : Row) → length (row_words r) ≡ 5
unfolding row_words box_words
row_words-length r = refl

-- each is read back as it was written
pub place_read : (e : Entry) → place_of (place_words e) ≡ e
unfolding place_words box_words place_of box_of
place_read e = refl

pub slot_read : (m : Slot) → slot_of (slot_words m) ≡ m
unfolding slot_words slot_of
slot_read m = refl

pub row_read : (r : Row) → row_of (row_words r) ≡ r
unfolding row_words box_words row_of box_of
row_read r = refl

-- ---- a page, which has room for 8 places
-- it takes 52 words, however many of its places are used
pub page_words-length : (g : Page) → length g.places ≤ 8 → length (page_words g) ≡ 52
unfolding page_words
page_words-length g h = padded-length 52 _ (rw (flat_length place_words 6 (always place_words-length g.places)) (omega arith))

-- its words are read back as the page
pub page-read : (g : Page) → length g.places ≤ 8 → page_of (page_words g) ≡ g
unfolding page_words padded page_of
page-read g h =
    rw (min-eq_right h, parts-read place_words 6 place_of (always place_words-length g.places) (always place_read g.places) _) refl

-- ---- a board, which has room for 16 rows
-- it takes 86 words, however many of its rows are used
pub board_words-length : (b : Board) → length b.rows ≤ row_limit → length (board_words b) ≡ 86
unfolding board_words window_words
board_words-length b h = padded-length 86 _ (rw (flat_length row_words 5 (always row_words-length b.rows)) (omega arith))

-- its words are read back as the board
pub board_read : (b : Board) → length b.rows ≤ row_limit → board_of (board_words b) ≡ b
unfolding board_words window_words padded board_of window_of
board_read b h =
    rw (min-eq_right h, parts-read row_words 5 row_of (always row_words-length b.rows) (always row_read b.rows) _) refl

-- ---- the memo, which has room for k slots
-- its words: those of the used slots, then zeros
abbrev pub memo_words : ℕ → List Slot → List ℕ
memo_words k memo = padded (3 * k) (flat_map slot_words memo)

-- an unused slot
abbrev pub no_slot : Slot
no_slot = record { train = train 0; latest = stamp 0; old = 0 }

-- zeros are the words of unused slots
zero_slots : (n : ℕ) → replicate (3 * n) 0 ≡ flat_map slot_words (replicate n no_slot)
unfolding flat_map slot_words
zero_slots zero = refl
zero_slots (suc n) =
    let e : 3 * suc n ≡ suc (suc (suc (3 * n))) = omega arith in
    rw (e, zero_slots n)

-- as many slots as there is room for: the used ones, then unused ones
unfoldable pub all_slots : ℕ → List Slot → List Slot
all_slots k memo = memo ++ replicate (k - length memo) no_slot

-- the memo's words are those of all its slots
pub padded_slots : (k : ℕ) (memo : List Slot) → length memo ≤ k → memo_words k memo ≡ flat_map slot_words (all_slots k memo)
unfolding padded all_slots
padded_slots k memo h =
    let e : 3 * k - 3 * length memo ≡ 3 * (k - length memo) = omega arith in
    rw (flat_append, flat_length slot_words 3 (always slot_words-length memo), e, zero_slots (k - length memo))

all_slots-length : (k : ℕ) (memo : List Slot) → length memo ≤ k → length (all_slots k memo) ≡ k
unfolding all_slots
all_slots-length k memo h = rw (length-append, length-replicate) (omega arith)

-- of a memo's slots and then unused ones, the used are the memo's
used_front : (n : ℕ) {memo : List Slot} → All (λ m. 1 ≤ m.train.0) memo → used (memo ++ replicate n no_slot) ≡ memo
unfolding used
used_front zero none = refl
used_front (suc n) none = refl
used_front n (more {x = m} h a) = rw (ne_eqb m.train.0 0 (λ e. omega arith), used_front n a)

module _ (k : ℕ) (memo : List Slot) (h : length memo ≤ k) where
  -- it takes three words for each slot that there is room for
  pub memo_words-length : length (memo_words k memo) ≡ 3 * k
  memo_words-length = padded-length (3 * k) _ (rw (flat_length slot_words 3 (always slot_words-length memo)) (omega arith))

  -- its words are read back as the memo, whatever follows them
  pub memo_read : All (λ m. 1 ≤ m.train.0) memo → (rest : List ℕ) → used (map slot_of (cut k 3 (memo_words k memo ++ rest))) ≡ memo
  unfolding all_slots
  memo_read a rest =
      let all : List Slot = all_slots k memo in
      let e : map slot_of (cut (length all) 3 (flat_map slot_words all ++ rest)) ≡ all = parts-read slot_words 3 slot_of (always slot_words-length all) (always slot_read all) rest in
      rw padded_slots (ap used (rw (all_slots-length k memo h) at e) ∙ used_front (k - length memo) a)

-- ---- the store
-- each part fits into its words, and a slot is a train's
pub record Fits (s : Store) : Type 0 where
  pub pages_fit : All (λ g. length g.places ≤ 8) s.pages
  pub memo_fits : length s.memo ≤ s.slots
  pub slots_used : All (λ m. 1 ≤ m.train.0) s.memo
  pub boards_fit : All (λ b. length b.rows ≤ row_limit) s.boards

-- a store in range is such a store
pub in_range_fits : (s : Store) → in_range s ≡ true → Fits s
unfolding in_range page_in_range memo_in_range board_in_range
in_range_fits s e =
    let (sizes, (header, (pages, (entries, (memo, (boards, end)))))) = each _ e in
    record {
      pages_fit = all_map (every_all _ s.pages pages) λ g h. leb-true _ 8 (each _ h).1.0;
      memo_fits = leb-true _ _ (each _ memo).0;
      slots_used = all_map (every_all _ s.memo (each _ memo).1.0) λ m h. leb-true 1 _ h;
      boards_fit = all_map (every_all _ s.boards boards) λ b h. leb-true _ row_limit (each _ h).1.0;
    }

-- words 0 to 15
pub header_words-length : (s : Store) → length (header_words s) ≡ 16
unfolding header_words padded
header_words-length s = refl

-- a part further on
drop_next : (i j : ℕ) (w a b : List ℕ) → drop i w ≡ a ++ b → length a ≡ j → drop (i + j) w ≡ b
drop_next i j w a b e h = rw (← drop-drop j i w, e) (drop_at a b j h)

module _ (s : Store) (fits : Fits s) where
  -- how long the pages, the memo and the boards are
  pub pages_length : length (flat_map page_words s.pages) ≡ 52 * length s.pages
  pages_length = flat_length page_words 52 (all_map fits.pages_fit page_words-length)

  pub memo_length : length (memo_words s.slots s.memo) ≡ 3 * s.slots
  memo_length = memo_words-length s.slots s.memo fits.memo_fits

  pub boards_length : length (flat_map board_words s.boards) ≡ 86 * length s.boards
  boards_length = flat_length board_words 86 (all_map fits.boards_fit board_words-length)

  -- a store's words have the length that belongs to its numbers of pages, slots and boards
  pub words-length : length (words s) ≡ store_length (length s.pages) s.slots (length s.boards)
  unfolding words store_length
  words-length = simp (length-append, header_words-length, pages_length, memo_length, boards_length) (omega arith)

  -- the pages, the memo and the boards stand where words 4, 6 and 8 say
  pub from_pages : drop 16 (words s) ≡ flat_map page_words s.pages ++ (memo_words s.slots s.memo ++ flat_map board_words s.boards)
  unfolding words
  from_pages = drop_at (header_words s) _ 16 (header_words-length s)

  pub from_memo : drop (memo_start (length s.pages)) (words s) ≡ memo_words s.slots s.memo ++ flat_map board_words s.boards
  unfolding memo_start
  from_memo = drop_next 16 (52 * length s.pages) (words s) (flat_map page_words s.pages) _ from_pages pages_length

  pub from_boards : drop (boards_start (length s.pages) s.slots) (words s) ≡ flat_map board_words s.boards
  unfolding boards_start memo_start
  from_boards = drop_next (16 + 52 * length s.pages) (3 * s.slots) (words s) (memo_words s.slots s.memo) _ from_memo memo_length

  -- and are read back from there
  pub pages_back : map page_of (cut (length s.pages) 52 (drop 16 (words s))) ≡ s.pages
  pages_back =
      rw from_pages (parts-read page_words 52 page_of (all_map fits.pages_fit page_words-length) (all_map fits.pages_fit page-read) _)

  pub memo_back : used (map slot_of (cut s.slots 3 (drop (memo_start (length s.pages)) (words s)))) ≡ s.memo
  memo_back = rw from_memo (memo_read s.slots s.memo fits.memo_fits fits.slots_used _)

  pub boards_back : map board_of (cut (length s.boards) 86 (drop (boards_start (length s.pages) s.slots) (words s))) ≡ s.boards
  boards_back =
      rw (from_boards, ← append-nil (flat_map board_words s.boards))
      (parts-read board_words 86 board_of (all_map fits.boards_fit board_words-length) (all_map fits.boards_fit board_read) [])

  -- so a store whose parts fit is read back from its words
  pub fits_read : store_of (words s) ≡ s
  unfolding store_of words header_words padded
  fits_read =
      λ i.
      record {
        next = s.next;
        root = s.root;
        levels = s.levels;
        slots = s.slots;
        pages = pages_back i;
        memo = memo_back i;
        boards = boards_back i;
      }
