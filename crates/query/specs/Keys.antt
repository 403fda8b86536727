-- A key names an entry by its page and place, below the entry's train, so that keys in order are in the order of their trains.
use Rattle.std.specs.Prelude.{ℕ, zero, suc, ◌+◌, ◌*◌, ◌/◌, ◌%◌, ◌≤◌, ◌≡◌, Bool, true, cond, ◌&&◌, length, get_or, take, drop}
use mathlib.Core.List.{List, [], ◌∷◌, ◌++◌, map, flat_map}
use Rattle.std.proofs.lemmas.List.Edits.{sets}
use Rattle.rules.specs.declared.PageNo.{PageNo}
use Rattle.rules.specs.declared.Window.{Window}
use Rattle.rules.specs.declared.Entry.{Entry}
use Rattle.rules.specs.declared.Slot.{Slot}
use Rattle.rules.specs.declared.Row.{Row}
use Rattle.rules.specs.Lists.{put_if, same_words}
use Rattle.rules.specs.Boxes.{meets}
use Rattle.rules.specs.Store.{Page, Store, no_place, train_of, child_of, page_no, page_at, words, store_of}
use Rattle.rules.specs.Memo.{is_latest}
use Rattle.rules.specs.Live.{row_for, rows_in}
use Rattle.rules.specs.Sound.{sound_words}
use Rattle.rules.specs.Views.{InRange, Levelled, Rule3, Rule4, Rule5, sound-holds}
use Rattle.rules.specs.laws.Tests.{and_left, and_right}
use Rattle.rules.specs.laws.Lists.{same_words_equal}
use Rattle.rules.specs.laws.Placed.{Placed, ranges_placed}
use Rattle.sort.specs.Sorted.{sorted, worked}

-- ---- one key
-- train, page and place in 32, 29 and 3 bits: a train counts 2 to the 32nd
abbrev pub train_unit : ℕ
train_unit = 4_294_967_296

unfoldable pub key_of : PageNo → ℕ → Entry → ℕ
key_of p i e = (train_of e).0 * train_unit + (8 * p.0 + i)

-- the page and the place that a key names, and the row of the entry there
abbrev pub page_named : ℕ → PageNo
page_named k = page_no (k / 8 % 536_870_912)

unfoldable pub entry_named : List Page → ℕ → Entry
entry_named ps k = get_or (page_at ps (page_named k)).places (k % 8) no_place

unfoldable pub row_of_key : List Page → ℕ → Row
row_of_key ps k = row_for (entry_named ps k)

-- ---- the keys of a window
-- what a query lists: the latest entries that meet its window
unfoldable pub hit : List Slot → Window → Entry → Bool
hit memo w e = is_latest memo e && meets e.bounds w

-- in a leaf p, whose places from i on are given
unfoldable pub leaf_keys : List Slot → Window → PageNo → ℕ → List Entry → List ℕ
leaf_keys memo w p i [] = []
leaf_keys memo w p i (e ∷ es) = put_if (hit memo w e) (key_of p i e) (leaf_keys memo w p (suc i) es)

-- under page p, which stands at this level; of an inner page only under the places whose box meets the window
unfoldable pub keys_under : List Page → List Slot → Window → ℕ → PageNo → List ℕ
keys_under ps memo w zero p = []
keys_under ps memo w (suc zero) p = leaf_keys memo w p 0 (page_at ps p).places
keys_under ps memo w (suc (suc l)) p =
    flat_map
    (λ e.
    let under = keys_under ps memo w (suc l) (child_of e) in
    cond (meets e.bounds w) under [])
    (page_at ps p).places

-- under the page that a place leads to, where the place's box meets the window
abbrev pub keys_below : List Page → List Slot → Window → ℕ → Entry → List ℕ
keys_below ps memo w l e =
    let under = keys_under ps memo w l (child_of e) in
    cond (meets e.bounds w) under []

-- in the store of these words
abbrev pub keys_at : List ℕ → Window → ℕ → PageNo → List ℕ
keys_at v w l p = keys_under (store_of v).pages (store_of v).memo w l p

unfoldable pub keys_in : Store → Window → List ℕ
keys_in s w = keys_under s.pages s.memo w s.levels s.root

-- ---- what a search needs of a store's words: of the rules that leaves stand at level 1, and rules 3 to 5
pub record Searchable (w : List ℕ) : Type 0 where
  pub written : words (store_of w) ≡ w
  pub ranges : InRange (store_of w)
  pub leaves : Levelled (store_of w).pages (store_of w).levels (store_of w).root
  pub rule3 : Rule3 (store_of w)
  pub rule4 : Rule4 (store_of w)
  pub rule5 : Rule5 (store_of w)

pub sound_searchable : (w : List ℕ) → sound_words w ≡ true → Searchable w
unfolding sound_words
sound_searchable w e =
    let same = same_words (words (store_of w)) w in
    let h = sound-holds (store_of w) (and_right same _ e) in
    record {
      written = same_words_equal _ w (and_left same _ e);
      ranges = h.ranges;
      leaves = h.rule1.leaves;
      rule3 = h.rule3;
      rule4 = h.rule4;
      rule5 = h.rule5;
    }

-- its parts stand where they should
pub searchable_placed : (w : List ℕ) → Searchable w → Placed w
searchable_placed w h = ranges_placed w h.written h.ranges

-- ---- what a descent leaves: as many keys more, written where there is room
pub record Written (keys : List ℕ) (n : ℕ) (ks : List ℕ) (r : ℕ) (keys' : List ℕ) : Type 0 where
  pub counted : r ≡ n + length ks
  pub wrote : keys' ≡ sets keys n ks

-- ---- what a search leaves: as many keys as the query has rows, in front, and read in turn they give the rows
pub record Found (s : Store) (w : Window) (keys work : List ℕ) (n : ℕ) (keys' work' : List ℕ) : Type 0 where
  pub listed : keys' ≡ sorted (keys_in s w) ++ drop n keys
  pub worked_in : work' ≡ worked (keys_in s w) (take n work) ++ drop n work
  pub many : n ≡ length (rows_in s w)
  pub most : n ≤ 576
  pub rows : map (row_of_key s.pages) (take n keys') ≡ rows_in s w
