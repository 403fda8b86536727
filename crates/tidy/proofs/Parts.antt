-- What a page's and a board's words are held to, test by test. Assumes nothing.
use Rattle.std.proofs.Common.{ℕ, zero, suc, ◌+◌, ◌*◌, ◌-◌, ◌/◌, ◌^◌, ◌≤◌, ◌<◌, arith, ◌≡◌, refl, sym, ◌∙◌, Bool, true, false, not, ◌&&◌, ◌||◌, cond, List, eqb, leb, ltb, length, get_or, take, drop, add-zero, get_or-drop, mul-suc, length-drop, drop-drop}
use Rattle.std.proofs.lemmas.List.{take_rest, take-take, drop-take}
use Rattle.std.proofs.Math.Bool.{and-true}
use Rattle.std.proofs.lemmas.Bool.{leb-true, le-leb}
use Rattle.std.proofs.lemmas.Bool.Decides.{nat_tests}
use Rattle.std.proofs.Math.Nat.{mul-div_cancel_left, min-eq_right}
use Rattle.std.proofs.Math.ListN.{length-map}
use Rattle.std.specs.Simd.{first_chunks}
use Rattle.std.proofs.lemmas.List.Folds.{list_all-map}
use Rattle.std.specs.List.{list_all}
use Rattle.rules.specs.Lists.{all_of, every, same_words, cut, from}
use Rattle.rules.specs.Store.{page_words, page_of, board_words, board_of, place_of, window_of, window_words, store_of, limit}
use Rattle.rules.specs.Sound.{header_in_range, page_in_range, board_in_range}
use Rattle.rules.specs.laws.Places.{cut-length, take-cut}
use Rattle.rules.specs.laws.Tests.{each}
use Rattle.tidy.specs.Tidy.{is_zero, FewPlaces, inner_place, Laid, tidy, memo_tidy, slots_tidy, pages_tidy, memo_part_tidy, boards_tidy}
use Rattle.tidy.specs.Laws.{page_same, board_same, words-from, memo_so, pages_many, tidy-parts}

-- the part of a slice from word a on
abbrev pub behind : List ℕ → ℕ → List ℕ
behind v a = take (length v - a) (drop a v)

guarded : (t a b : Bool) → (t ≡ true → a ≡ b) → (t && a) ≡ (t && b)
guarded true a b h = h refl
guarded false a b h = refl

-- ---- a page's words
pub page_padded_so : (v : List ℕ) → length v ≡ 52
    → same_words (page_words (page_of v)) v ≡ (leb (get_or v 1 0) 8 && (eqb (get_or v 3 0) 0 && every is_zero (behind v (4 + 6 * get_or v 1 0))))
unfolding all_of
page_padded_so v long =
    rw (page_same v long) (guarded (leb (get_or v 1 0) 8) _ _ λ t. rw (min-eq_right (leb-true _ 8 t), take_rest v (4 + 6 * get_or v 1 0), and-true))

pub page_behind : (v : List ℕ) → length v ≡ 52 → get_or v 1 0 ≤ 8 → get_or v 3 0 ≡ 0 → same_words (page_words (page_of v)) v ≡ every is_zero (behind v (4 + 6 * get_or v 1 0))
page_behind v long few word_3 = rw (page_padded_so v long, le-leb (get_or v 1 0) 8 few, word_3)

pub page_few : (v : List ℕ) → length v ≡ 52 → same_words (page_words (page_of v)) v ≡ true → FewPlaces v
page_few v long e = record { long = long; few = leb-true _ 8 (each _ (sym (page_same v long) ∙ e)).0 }

places_many : (v : List ℕ) → get_or v 1 0 ≤ 8 → length (page_of v).places ≡ get_or v 1 0
unfolding page_of
places_many v h = rw (length-map, cut-length, min-eq_right h)

kinds : (k c m : ℕ) (e : Bool) → (leb k 2 && ((not (eqb k 0) || (eqb m 0 && eqb c 0)) && ((not (eqb k 2) || e) && true))) ≡ cond (eqb k 0) (eqb c 0 && eqb m 0) (eqb k 1 || (eqb k 2 && e))
kinds k c m e = grind (arith, nat_tests)

pub page_range_so : (p : ℕ) (v : List ℕ) → FewPlaces v
    → page_in_range p (page_of v)
    ≡ cond (eqb (get_or v 0 0) 0) (eqb (get_or v 1 0) 0 && eqb (get_or v 2 0) 0) (eqb (get_or v 0 0) 1 || (eqb (get_or v 0 0) 2 && every (inner_place p) (page_of v).places))
unfolding page_of page_in_range all_of
page_range_so p v given = rw (places_many v given.few, le-leb (get_or v 1 0) 8 given.few) (kinds (get_or v 0 0) (get_or v 1 0) (get_or v 2 0) (every (inner_place p) (page_of v).places))

pub inner_places_so : (p : ℕ) (v : List ℕ) → FewPlaces v
    → every (inner_place p) (page_of v).places ≡ list_all (λ place. inner_place p (place_of place)) (take (get_or v 1 0) (first_chunks 6 (length (behind v 4) / 6) (behind v 4)))
unfolding page_of
inner_places_so p v given =
    let long : length (drop 4 v) ≡ 48 = simp length-drop (omega arith) in
    rw (list_all-map, take_rest v 4, long, take-cut (get_or v 1 0) 8 6 (drop 4 v) given.few, min-eq_right given.few)

-- ---- a board's words
pub board_padded_so : (v : List ℕ) → length v ≡ 86
    → same_words (board_words (board_of v)) v ≡ (leb (get_or v 5 0) 16 && every is_zero (behind v (6 + 5 * get_or v 5 0)))
unfolding all_of
board_padded_so v long =
    rw (board_same v long) (guarded (leb (get_or v 5 0) 16) _ _ λ t. rw (min-eq_right (leb-true _ 16 t), take_rest v (6 + 5 * get_or v 5 0), and-true))

pub board_few : (v : List ℕ) → length v ≡ 86 → same_words (board_words (board_of v)) v ≡ true → get_or v 5 0 ≤ 16
board_few v long e = leb-true _ 16 (each _ (sym (board_same v long) ∙ e)).0

rows_many : (v : List ℕ) → get_or v 5 0 ≤ 16 → length (board_of v).rows ≡ get_or v 5 0
unfolding board_of
rows_many v h = rw (length-map, cut-length, min-eq_right h)

open_or_shut : (k c : ℕ) (a b d e : Bool) → (leb k 1 && (eqb k 1 || (a && (b && (d && (e && true))) && eqb c 0))) ≡ (eqb k 1 || (eqb k 0 && (eqb c 0 && (a && (b && (d && (e && true)))))))
open_or_shut k c a b d e = grind (arith, nat_tests)

pub board_range_so : (v : List ℕ) → length v ≡ 86 → get_or v 5 0 ≤ 16
    → board_in_range (board_of v) ≡ (eqb (get_or v 4 0) 1 || (eqb (get_or v 4 0) 0 && (eqb (get_or v 5 0) 0 && every is_zero (take 4 v))))
unfolding board_of board_in_range all_of window_of window_words from
board_range_so v long few = rw (words-from 0 4 v (omega arith), rows_many v few, le-leb (get_or v 5 0) 16 few, and-true) (open_or_shut (get_or v 4 0) (get_or v 5 0) (is_zero (get_or v 0 0)) (is_zero (get_or v 1 0)) (is_zero (get_or v 2 0)) (is_zero (get_or v 3 0)))

-- ---- the memo's words
pub memo_at_first : (k : ℕ) (m : List ℕ) → length m ≡ 3 * k → memo_tidy k m ≡ slots_tidy (k - 0) 0 (drop (3 * 0) m)
memo_at_first k m long = let all : k - 0 ≡ k = omega arith in rw all (memo_so k m long)

pub slots_more : (k i last : ℕ) (m : List ℕ) → i < k
    → slots_tidy (k - i) last (drop (3 * i) m)
    ≡ cond (eqb (get_or m (3 * i) 0) 0) (every is_zero (behind m (3 * i))) (ltb last (get_or m (3 * i) 0) && slots_tidy (k - (i + 1)) (get_or m (3 * i) 0) (drop (3 * (i + 1)) m))
unfolding slots_tidy
slots_more k i last m h =
    let left : k - i ≡ suc (k - (i + 1)) = omega arith in
    let next : 3 * i + 3 ≡ 3 * (i + 1) = omega arith in
    rw (left, get_or-drop, add-zero (3 * i), drop-drop, next, take_rest m (3 * i))

pub slots_none : (k i last : ℕ) (m : List ℕ) → k ≤ i → slots_tidy (k - i) last m ≡ true
unfolding slots_tidy
slots_none k i last m h = let none : k - i ≡ 0 = omega arith in rw none

-- ---- the whole
cut_front : (n size : ℕ) (ws : List ℕ) → cut n size (take (size * n) ws) ≡ cut n size ws
cut_front zero size ws = refl
cut_front (suc n) size ws =
    let m : size * suc n ≡ size + size * n = omega (arith, mul-suc size n) in
    rw (m, take-take size (size + size * n) ws (omega arith), drop-take size (size * n) ws, cut_front n size (drop size ws))

pub pages_lent : (p e : ℕ) (w : List ℕ) → e ≡ 16 + 52 * p → cut p 52 (take (e - 16) (drop 16 w)) ≡ cut p 52 (drop 16 w)
pages_lent p e w h = let n : e - 16 ≡ 52 * p = omega arith in rw n (cut_front p 52 (drop 16 w))

pub boards_many : (w : List ℕ) → Laid w → length (drop (16 + 52 * get_or w 5 0 + 3 * get_or w 7 0) w) / 86 ≡ get_or w 9 0
boards_many w given =
    let long : length (drop (16 + 52 * get_or w 5 0 + 3 * get_or w 7 0) w) ≡ 86 * get_or w 9 0 = simp length-drop (omega (arith, given.long)) in
    rw long (mul-div_cancel_left (get_or w 9 0) (omega arith))

pub header_so : (w : List ℕ) → get_or w 1 0 < 2 ^ 32
    → header_in_range (store_of w) ≡ (not (eqb (get_or w 1 0) 0) && (ltb (get_or w 2 0) (get_or w 5 0) && (not (eqb (get_or w 3 0) 0) && leb (get_or w 3 0) 5)))
unfolding header_in_range store_of all_of
header_so w h = rw (pages_many w, le-leb (get_or w 1 0) limit (omega arith)) (grind (arith, nat_tests))

pub tidy_so : (w : List ℕ) → Laid w → tidy w ≡ (header_in_range (store_of w) && (pages_tidy w && (memo_part_tidy w && boards_tidy w)))
unfolding all_of
tidy_so w given = sym (tidy-parts w given.laid) ∙ rw and-true
