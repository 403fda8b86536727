-- The store's words are tidy exactly if each part's are.
use Prim.Native.Nat.{ℕ, zero, suc, ◌+◌, ◌*◌, ◌-◌, ◌≤◌, min}
use native.Mathlib.Omega.{arith}
use Rattle.std.proofs.Common.{mul-suc, mul-zero, ◌∙◌, ap, length-append, take-append-drop, take_all, drop-cons, get_or-drop, get_or-take, take-add}
use Rattle.std.proofs.Math.Nat.{min-le_left, mul-le-mul_left, min-eq_right}
use Rattle.std.specs.Prelude.{◌≡◌, false, ◌&&◌, eqb, leb, ltb, drop, replicate}
use Rattle.std.proofs.Math.Path.{refl, sym}
use Rattle.std.proofs.Math.Bool.{Bool, true, and_assoc, and-true}
use mathlib.Core.List.{List, [], ◌∷◌, ◌++◌, map, flat_map, append_assoc, append-nil}
use Rattle.std.proofs.Math.ListN.{length, get_or, take, length-map, length-drop, drop_of_length-le}
use Rattle.std.proofs.Math.Seq.{drop-drop, length-take-le}
use Rattle.std.proofs.lemmas.List.{take-append-le, drop-append-le}
use borrow.Author.Tests.{eqb-true, eq-eqb, leb-true, le-leb, eqb-false, ne_eqb, lt-ltb, ltb-true}
use Rattle.rules.specs.declared.Slot.{Slot}
use Rattle.rules.specs.Lists.{all_of, every, same_words, cut, padded, from, ascending}
use Rattle.rules.specs.Store.{box_words, place_words, box_of, place_of, page_words, page_of, row_words, row_of, board_words, slots_of, used, memo_words, board_of, window_words, window_of, slot_of, slot_words, header_words, store_of, store_length, words, memo_start, boards_start}
use Rattle.rules.specs.Sound.{header_in_range, page_in_range, memo_in_range, board_in_range}
use Rattle.rules.specs.Calls.{sizes_read, laid_out}
use Rattle.rules.specs.Views.{sizes_in_range-holds, header_in_range-holds, page_in_range-holds, memo_in_range-holds, board_in_range-holds}
use Rattle.rules.specs.laws.Tests.{and_left, and_right, and_both, either, each}
use Rattle.rules.specs.laws.Words.{flat_length, place_words-length, row_words-length, slot_words-length, page_words-length, board_words-length, header_words-length, memo_words-length}
use Rattle.rules.specs.laws.Places.{cut-length}
use Rattle.rules.specs.laws.All.{always, all_every, all_map, every_all, every_holds}
use Rattle.rules.specs.laws.Lists.{same_words_self, zeros, same_words_equal}
use Rattle.tidy.specs.Tidy.{is_zero, memo_tidy, slots_tidy, tidy, page_tidy, board_tidy, TidyWords, pages_tidy, Laid, memo_part_tidy, boards_tidy}
use Rattle.tidy.specs.Passes.{same_truth, every_both}

-- ---- the same words, part by part
pub same_front : (n : ℕ) (a b w : List ℕ) → length a ≡ n → n ≤ length w → same_words (a ++ b) w ≡ (same_words a (take n w) && same_words b (drop n w))
unfolding same_words
same_front zero [] b w e h = refl
same_front zero (x ∷ a) b w e h = absurd (omega arith)
same_front (suc n) [] b w e h = absurd (omega arith)
same_front (suc n) (x ∷ a) b [] e h = absurd (omega arith)
same_front (suc n) (x ∷ a) b (y ∷ w) e h = rw (same_front n a b w (omega arith) (omega arith), and_assoc)

-- parts of one size, read and written again, with other words behind them
pub parts_same : {A : Type 0} (f : A → List ℕ) (g : List ℕ → A) (size : ℕ) → ((v : List ℕ) → length v ≡ size → length (f (g v)) ≡ size) → (n : ℕ) (rest ws : List ℕ)
    → size * n ≤ length ws
    → same_words (flat_map f (map g (cut n size ws)) ++ rest) ws ≡ (every (λ v. same_words (f (g v)) v) (cut n size ws) && same_words rest (drop (size * n) ws))
unfolding flat_map
parts_same f g size long zero rest ws h = rw (mul-zero size)
parts_same f g size long (suc n) rest ws h =
    let m = mul-suc size n in
    let e : size + size * n ≡ size * suc n = omega arith in
    let d : size * n ≤ length (drop size ws) = simp length-drop (omega arith) in
    let first = f (g (take size ws)) in
    let later = flat_map f (map g (cut n size (drop size ws))) in
    rw (append_assoc first later rest, same_front size first (later ++ rest) ws (long (take size ws) (length-take-le size ws (omega arith))) (omega arith), parts_same f g size long n rest (drop size ws) d, drop-drop (size * n) size ws, e, and_assoc)

zero_sides : (n : ℕ) → eqb 0 n ≡ eqb n 0
zero_sides n = same_truth _ _ (λ h. eq-eqb n 0 (sym (eqb-true 0 n h))) (λ h. eq-eqb 0 n (sym (eqb-true n 0 h)))

pub zeros_same : (n : ℕ) (ws : List ℕ) → length ws ≡ n → same_words (replicate n 0) ws ≡ every is_zero ws
unfolding same_words
zeros_same zero [] e = refl
zeros_same zero (y ∷ ws) e = absurd (omega arith)
zeros_same (suc n) [] e = absurd (omega arith)
zeros_same (suc n) (y ∷ ws) e =
    rw (zeros_same n ws (omega arith), zero_sides y)

-- what always reads back to the same words
pub always_same : {A : Type 0} (f : A → List ℕ) (g : List ℕ → A) (size : ℕ) → ((v : List ℕ) → length v ≡ size → same_words (f (g v)) v ≡ true) → (n : ℕ) (ws : List ℕ)
    → size * n ≤ length ws → every (λ v. same_words (f (g v)) v) (cut n size ws) ≡ true
always_same f g size h zero ws k = refl
always_same f g size h (suc n) ws k =
    let m = mul-suc size n in
    and_both (h (take size ws) (length-take-le size ws (omega arith))) (always_same f g size h n (drop size ws) (simp length-drop (omega arith)))

-- the first n words from word k on, one by one
pub words-from : (k n : ℕ) (w : List ℕ) → k + n ≤ length w → take n (drop k w) ≡ map (λ i. get_or w i 0) (from k n)
unfolding from
words-from k zero w h = refl
words-from k (suc n) w h = rw (drop-cons w k 0 (omega arith), words-from (suc k) n w (omega arith))

all_words : (n : ℕ) (v : List ℕ) → length v ≡ n → v ≡ map (λ i. get_or v i 0) (from 0 n)
all_words n v e = sym (take_all n v (omega arith)) ∙ words-from 0 n v (omega arith)

-- ---- a place and a row are written as the words that they are read from
place_same : (v : List ℕ) → length v ≡ 6 → place_words (place_of v) ≡ v
unfolding place_words box_words place_of box_of from
place_same v e = sym (all_words 6 v e)

row_same : (v : List ℕ) → length v ≡ 5 → row_words (row_of v) ≡ v
unfolding row_words box_words row_of box_of from
row_same v e = simp get_or-drop (sym (all_words 5 v e))

-- ---- words with parts of one size behind their head, as many as are used, and zeros behind these
module _ {A : Type 0} (f : A → List ℕ) (g : List ℕ → A) (size room : ℕ) (sized : (x : A) → length (f x) ≡ size) (back : (v : List ℕ) → length v ≡ size → f (g v) ≡ v) where
  padded_same : (total n : ℕ) (head v : List ℕ) → length head + size * room ≡ total → length v ≡ total → n ≤ room
      → same_words (padded total (head ++ flat_map f (map g (cut n size (drop (length head) v))))) v
      ≡ (same_words head (take (length head) v) && every is_zero (drop (length head + size * n) v))
  unfolding padded
  padded_same total n head v fills long few =
      let h = length head in
      let parts = map g (cut n size (drop h v)) in
      let flat = flat_map f parts in
      let m = mul-le-mul_left size few in
      let k : length parts ≡ n = rw (length-map, cut-length) in
      let l : length flat ≡ size * n = rw (flat_length f size (always sized parts), k) in
      let d : length (drop h v) ≡ size * room = simp length-drop (omega arith) in
      let z : length (drop (size * n) (drop h v)) ≡ total - length (head ++ flat) = simp (length-drop, length-append) (omega arith) in
      let same : (u : List ℕ) → length u ≡ size → same_words (f (g u)) u ≡ true = λ u e. rw (back u e) (same_words_self u) in
      rw (append_assoc head flat)
      (same_front h head _ v refl (omega arith)
      ∙ rw (parts_same f g size (λ u e. sized (g u)) n _ (drop h v) (omega arith), always_same f g size same n (drop h v) (omega arith), zeros_same _ _ z, drop-drop))

-- ---- a page
-- a count that is read as the most there is room for says what it is read as
few : (room n : ℕ) → eqb (min room n) n ≡ leb n room
few room n =
    let low = min-le_left room n in
    same_truth _ _
    (λ e. le-leb n room (omega (arith, eqb-true (min room n) n e)))
    (λ e. eq-eqb (min room n) n (min-eq_right (leb-true n room e)))

module _ (v : List ℕ) (long : length v ≡ 52) where
  pub page_same : same_words (page_words (page_of v)) v ≡ all_of (leb (get_or v 1 0) 8 ∷ is_zero (get_or v 3 0) ∷ every is_zero (drop (4 + 6 * min 8 (get_or v 1 0)) v) ∷ [])
  unfolding page_words page_of same_words all_of from
  page_same =
      let n = min 8 (get_or v 1 0) in
      padded_same place_words place_of 6 8 place_words-length place_same 52 n (get_or v 0 0 ∷ length (map place_of (cut n 6 (drop 4 v))) ∷ get_or v 2 0 ∷ 0 ∷ []) v refl long (min-le_left 8 _)
      ∙ rw (words-from 0 4 v (omega arith), length-map, cut-length, eq-eqb (get_or v 0 0) _ refl, eq-eqb (get_or v 2 0) _ refl, few 8 (get_or v 1 0), zero_sides, and-true, and-true) (and_assoc (leb (get_or v 1 0) 8) (is_zero (get_or v 3 0)) _)

-- ---- a board
module _ (v : List ℕ) (long : length v ≡ 86) where
  pub board_same : same_words (board_words (board_of v)) v ≡ all_of (leb (get_or v 5 0) 16 ∷ every is_zero (drop (6 + 5 * min 16 (get_or v 5 0)) v) ∷ [])
  unfolding board_words board_of window_words window_of same_words all_of from
  board_same =
      let n = min 16 (get_or v 5 0) in
      padded_same row_words row_of 5 16 row_words-length row_same 86 n (get_or v 0 0 ∷ get_or v 1 0 ∷ get_or v 2 0 ∷ get_or v 3 0 ∷ get_or v 4 0 ∷ length (map row_of (cut n 5 (drop 6 v))) ∷ []) v refl long (min-le_left 16 _)
      ∙ rw (words-from 0 6 v (omega arith), length-map, cut-length, eq-eqb (get_or v 0 0) _ refl, eq-eqb (get_or v 1 0) _ refl, eq-eqb (get_or v 2 0) _ refl, eq-eqb (get_or v 3 0) _ refl, eq-eqb (get_or v 4 0) _ refl, few 16 (get_or v 5 0), and-true (leb (get_or v 5 0) 16), and-true)

-- ---- the memo
-- the used slots are at most as many as there are
pub used_few : (ms : List Slot) → length (used ms) ≤ length ms
unfolding used
used_few [] = omega arith
used_few (m ∷ ms) =
    let h = used_few ms in
    either (λ (l : List Slot). length l ≤ suc (length ms)) (eqb m.train.0 0) (λ e. omega arith) (λ e. omega arith)

-- a slot is written as the words that it is read from
slot_same : (v : List ℕ) → length v ≡ 3 → slot_words (slot_of v) ≡ v
unfolding slot_words slot_of from
slot_same v e = sym (all_words 3 v e)

abbrev trains : List Slot → List ℕ
trains ms = map (λ s. s.train.0) ms

-- what the slots in the words m are held to, all of them above `last`
unfoldable slots_held : ℕ → ℕ → List ℕ → Bool
slots_held k last m =
    let ms = slots_of k m in
    same_words (memo_words k ms) m && (every (ltb last) (trains ms) && ascending (trains ms))

module _ (k last : ℕ) (m : List ℕ) (long : length m ≡ 3 * suc k) where
  first-train : get_or (take 3 m) 0 0 ≡ get_or m 0 0
  first-train = get_or-take 3 m 0 0 (omega arith)

  -- the first slot is unused
  held_none : get_or m 0 0 ≡ 0 → every is_zero m ≡ slots_held (suc k) last m
  unfolding slots_held used slot_of ascending padded flat_map
  held_none e = rw (first-train, e) (sym (rw and-true (zeros_same (3 * suc k - 0) m (omega arith))))

  -- it is used
  memo_more : (s : Slot) (ms : List Slot) → memo_words (suc k) (s ∷ ms) ≡ slot_words s ++ memo_words k ms
  unfolding padded flat_map slot_words
  memo_more s ms =
      let n = length (flat_map slot_words ms) in
      let e : 3 * suc k - suc (suc (suc n)) ≡ 3 * k - n = omega arith in
      rw e

  above : (t : ℕ) (ts : List ℕ) → ltb last t ≡ true → every (ltb t) ts ≡ true → every (ltb last) ts ≡ true
  above t ts h e = all_every _ (all_map (every_all (ltb t) ts e) λ u l. lt-ltb last u (omega (arith, ltb-true last t h, ltb-true t u l)))

  chained : (l s t u a : Bool) → (l ≡ true → t ≡ true → u ≡ true) → (l && (s && (t && a))) ≡ (s && ((l && u) && (t && a)))
  chained false true t u a h = refl
  chained false false t u a h = refl
  chained true false t u a h = refl
  chained true true true u a h = rw (h refl refl)
  chained true true false true a h = refl
  chained true true false false a h = refl

  held_one : (get_or m 0 0 ≡ 0 → ⊥) → (ltb last (get_or m 0 0) && slots_held k (get_or m 0 0) (drop 3 m)) ≡ slots_held (suc k) last m
  unfolding slots_held used slot_of ascending
  held_one e =
      let t = get_or m 0 0 in
      let ms = slots_of k (drop 3 m) in
      let three : slot_words (slot_of (take 3 m)) ≡ take 3 m = slot_same _ (length-take-le 3 m (omega arith)) in
      let same : same_words (memo_words (suc k) (slot_of (take 3 m) ∷ ms)) m ≡ same_words (memo_words k ms) (drop 3 m) =
      rw (memo_more (slot_of (take 3 m)) ms, same_front 3 (slot_words (slot_of (take 3 m))) (memo_words k ms) m (slot_words-length _) (omega arith), three, same_words_self (take 3 m)) in
      chained (ltb last t) (same_words (memo_words k ms) (drop 3 m)) (every (ltb t) (trains ms)) (every (ltb last) (trains ms)) (ascending (trains ms)) (above t (trains ms))
      ∙ rw (first-train, ne_eqb t 0 e, ← same, first-train)

slots_so : (k last : ℕ) (m : List ℕ) → length m ≡ 3 * k → slots_tidy k last m ≡ slots_held k last m
unfolding slots_tidy slots_held used flat_map padded same_words ascending
slots_so zero last [] e = refl
slots_so zero last (x ∷ m) e = absurd (omega arith)
slots_so (suc k) last m e =
    either (λ b. b ≡ slots_held (suc k) last m) (eqb (get_or m 0 0) 0)
    (λ z. held_none k last m e (eqb-true _ 0 z))
    (λ z. rw (slots_so k (get_or m 0 0) (drop 3 m) (simp length-drop (omega arith))) (held_one k last m e (eqb-false _ 0 z)))

pub every_map : {A B : Type 0} (f : B → Bool) (g : A → B) (xs : List A) → every f (map g xs) ≡ every (λ x. f (g x)) xs
every_map f g [] = refl
every_map f g (x ∷ xs) = rw (every_map f g xs)

pub memo_so : (k : ℕ) (m : List ℕ) → length m ≡ 3 * k → memo_tidy k m ≡ slots_tidy k 0 m
unfolding memo_tidy memo_in_range slots_held all_of
memo_so k m e =
    let ms = slots_of k m in
    let few : length ms ≤ k = omega (arith, used_few (map slot_of (cut k 3 m)), length-map (cut k 3 m) slot_of, cut-length k 3 m) in
    rw (slots_so k 0 m e, le-leb (length ms) k few, every_map (ltb 0) (λ s. s.train.0) ms, and-true)

-- ---- the whole
-- parts read from words do not depend on what follows them
cut_front : (n size : ℕ) (a b : List ℕ) → size * n ≤ length a → cut n size (a ++ b) ≡ cut n size a
cut_front zero size a b h = refl
cut_front (suc n) size a b h =
    let m = mul-suc size n in
    rw (take-append-le size a b (omega arith), drop-append-le size a b (omega arith), cut_front n size (drop size a) b (simp length-drop (omega arith)))

slots_front : (k : ℕ) (ws : List ℕ) → 3 * k ≤ length ws → slots_of k (take (3 * k) ws) ≡ slots_of k ws
slots_front k ws h =
    let long = length-take-le (3 * k) ws h in
    ap (λ l. used (map slot_of l)) (sym (cut_front k 3 (take (3 * k) ws) (drop (3 * k) ws) (omega arith)) ∙ ap (cut k 3) (take-append-drop (3 * k) ws))

page_long : (v : List ℕ) → length v ≡ 52 → length (page_words (page_of v)) ≡ 52
unfolding page_of
page_long v e = page_words-length _ (rw (length-map, cut-length) (min-le_left 8 _))

board_long : (v : List ℕ) → length v ≡ 86 → length (board_words (board_of v)) ≡ 86
unfolding board_of
board_long v e = board_words-length _ (rw (length-map, cut-length) (min-le_left 16 _))

pub pages_many : (w : List ℕ) → length (store_of w).pages ≡ get_or w 5 0
unfolding store_of
pages_many w = rw (length-map, cut-length)

module _ (w : List ℕ) (laid : laid_out w ≡ true) where
  laid_length : length w ≡ store_length (get_or w 5 0) (get_or w 7 0) (get_or w 9 0)
  unfolding laid_out
  laid_length = eqb-true _ _ (each _ laid).0

  -- words 0 to 15 are the header's
  header_same : header_words (store_of w) ≡ take 16 w
  unfolding laid_out header_words store_of store_length padded from
  header_same =
      let t = each _ laid in
      let long = laid_length in
      let rest = zeros (take 6 (drop 10 w)) t.1.1.1.1.1.0 in
      let six : length (take 6 (drop 10 w)) ≡ 6 = length-take-le 6 (drop 10 w) (simp length-drop (omega arith)) in
      sym
      (take-add 10 6 w
      ∙ rw (rest, six, words-from 0 10 w (omega arith), eqb-true (get_or w 0 0) _ t.1.0, eqb-true (get_or w 4 0) _ t.1.1.0, eqb-true (get_or w 6 0) _ t.1.1.1.0, eqb-true (get_or w 8 0) _ t.1.1.1.1.0, length-map, cut-length, length-map, cut-length))

  -- and the others are those of the pages, the memo and the boards, each by itself
  words_same : same_words (words (store_of w)) w
      ≡ (every (λ v. same_words (page_words (page_of v)) v) (cut (get_or w 5 0) 52 (drop 16 w))
      && (same_words (memo_words (get_or w 7 0) (store_of w).memo) (take (3 * get_or w 7 0) (drop (memo_start (get_or w 5 0)) w))
      && every (λ v. same_words (board_words (board_of v)) v) (cut (get_or w 9 0) 86 (drop (boards_start (get_or w 5 0) (get_or w 7 0)) w))))
  unfolding words laid_out store_of store_length memo_start boards_start
  words_same =
      let p = get_or w 5 0 in
      let k = get_or w 7 0 in
      let b = get_or w 9 0 in
      let s = store_of w in
      let long = laid_length in
      let few : length (slots_of k (drop (16 + 52 * p) w)) ≤ k =
      omega (arith, used_few (map slot_of (cut k 3 (drop (16 + 52 * p) w))), length-map (cut k 3 (drop (16 + 52 * p) w)) slot_of, cut-length k 3 (drop (16 + 52 * p) w)) in
      let boards = flat_map board_words s.boards in
      let memo = memo_words k s.memo in
      same_front 16 (header_words s) (flat_map page_words s.pages ++ (memo ++ boards)) w (header_words-length s) (omega arith)
      ∙ rw (header_same, same_words_self (take 16 w))
      (parts_same page_words page_of 52 page_long p (memo ++ boards) (drop 16 w) (simp length-drop (omega arith))
      ∙ rw (drop-drop (52 * p) 16 w, same_front (3 * k) memo boards (drop (16 + 52 * p) w) (memo_words-length k s.memo few) (simp length-drop (omega arith)), ← append-nil boards, drop-drop (3 * k) (16 + 52 * p) w, parts_same board_words board_of 86 board_long b [] (drop (16 + 52 * p + 3 * k) w) (simp length-drop (omega arith)), drop-drop (86 * b) (16 + 52 * p + 3 * k) w, drop_of_length-le w {i = 16 + 52 * p + 3 * k + 86 * b} (omega arith), same_words_self [], and-true))

  parts_both : (h a b c d e f : Bool) → (h && ((a && b) && ((c && d) && (e && f)))) ≡ ((a && (c && e)) && (h && (b && (d && f))))
  parts_both false true b true d true f = refl
  parts_both false true b true d false f = refl
  parts_both false true b false d e f = refl
  parts_both false false b c d e f = refl
  parts_both true false b c d e f = refl
  parts_both true true false true d true f = refl
  parts_both true true false true d false f = refl
  parts_both true true false false d e f = refl
  parts_both true true true false d e f = refl
  parts_both true true true true true e f = refl
  parts_both true true true true false true f = refl
  parts_both true true true true false false f = refl

  -- the words are tidy exactly if words 1 to 3 are in range and each part is tidy
  pub tidy-parts : all_of (header_in_range (store_of w) ∷ pages_tidy w ∷ memo_part_tidy w ∷ boards_tidy w ∷ []) ≡ tidy w
  unfolding all_of tidy pages_tidy memo_part_tidy boards_tidy store_of page_tidy memo_tidy board_tidy store_length memo_start
  tidy-parts =
      let p = get_or w 5 0 in
      let k = get_or w 7 0 in
      let long = laid_length in
      let pages = cut p 52 (drop 16 w) in
      let boards = cut (get_or w 9 0) 86 (drop (boards_start p k) w) in
      let memo = take (3 * k) (drop (memo_start p) w) in
      let page : List ℕ → Bool = λ v. same_words (page_words (page_of v)) v in
      let page_range : List ℕ → Bool = λ v. page_in_range p (page_of v) in
      let board : List ℕ → Bool = λ v. same_words (board_words (board_of v)) v in
      let board-range : List ℕ → Bool = λ v. board_in_range (board_of v) in
      let front : slots_of k memo ≡ (store_of w).memo = slots_front k (drop (memo_start p) w) (simp length-drop (omega arith)) in
      rw (front, every_both page page_range pages, every_both board board-range boards, words_same, pages_many w, every_map (page_in_range p) page_of pages, every_map board_in_range board_of boards, and-true, and-true)
      (parts_both (header_in_range (store_of w)) (every page pages) (every page_range pages) (same_words (memo_words k (store_of w).memo) memo) (memo_in_range k (store_of w).memo) (every board boards) (every board-range boards))

pub laid_holds : (w : List ℕ) → sizes_read w ≡ true → laid_out w ≡ true → Laid w
unfolding sizes_read store_length
laid_holds w sizes laid = record { sizes = sizes_in_range-holds _ _ _ sizes; long = laid_length w laid; laid = laid }

pub tidy-holds : (w : List ℕ) → Laid w → tidy w ≡ true → TidyWords w
unfolding tidy
tidy-holds w given e =
    let t = each _ (and_right (same_words (words (store_of w)) w) _ e) in
    record {
      given = given;
      same = same_words_equal _ w (and_left _ _ e);
      header = header_in_range-holds _ t.0;
      pages = every_holds _ _ (page_in_range-holds _) t.1.0;
      memo = memo_in_range-holds _ _ t.1.1.0;
      boards = every_holds _ _ board_in_range-holds t.1.1.1.0;
    }
