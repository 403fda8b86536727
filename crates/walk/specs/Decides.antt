-- A walk that succeeds, and every page held to its tests, is what rules 1, 2 and 3 say.
use Prim.Native.Nat.{ℕ, zero, suc, ◌+◌, ◌≤◌, ◌<◌}
use Rattle.std.proofs.Common.{arith, ◌∙◌, subst, length-set, get_or-set_same, get_or-set_other}
use Rattle.std.specs.Prelude.{◌≡◌, Bool, not, ◌&&◌, List, [], ◌∷◌, eqb, get_or, set, replicate}
use Rattle.std.proofs.Math.Path.{refl, sym, ap}
use Rattle.std.proofs.Math.Bool.{true, false}
use mathlib.Core.List.Memᴰ
use Rattle.std.proofs.Math.Dec.{ltb}
use Rattle.std.proofs.Math.ListN.{length}
use Rattle.rules.specs.declared.PageNo.{PageNo}
use Rattle.rules.specs.Lists.{from, count, one_if}
use Rattle.rules.specs.Store.{Page, page_no, page_at, store_of, free_page, child_of}
use Rattle.rules.specs.Views.{PageInRange, Levelled, levelled-holds, Rule1, rule1-holds, levelled_test, rule1_test}
use Rattle.rules.specs.laws.All.{All, none, more, all_map, Mem, head_of, tail_of, flat_all, all_zip, every_all, all_at, all_every, all_members, all_member, all_places}
use borrow.Author.Tests.{eqb-true, eqb-false, eq-eqb, not-true, ne_eqb, ltb-true, ltb-false}
use Rattle.rules.specs.laws.Lists.{all_from, from_all}
use Rattle.rules.specs.laws.Tests.{◌also◌, else_or}
use Rattle.rules.specs.Cleaning.{reached_under}
use Rattle.rules.specs.Sound.{reached, is_free, levelled, rule1, rule2, rule3}
use Rattle.tidy.specs.Tidy.{TidyWords}
use Rattle.tidy.specs.Laws.{pages_many}
use Rattle.tidy.specs.Passes.{same_truth}
use Rattle.walk.specs.Walk.{flagged, all_new, walks, covered, page_holds, pages_hold, tree_rules}
use Rattle.rules.specs.laws.Tests.{and_left, and_right, and_both, each, each_all_of, or_else}

-- ---- numbers one after the other
pub from-length : (n k : ℕ) → length (from n k) ≡ k
unfolding from
from-length n zero = refl
from-length n (suc k) = ap suc (from-length (suc n) k)

pub from_at : (n k i : ℕ) → i < k → get_or (from n k) i 0 ≡ n + i
unfolding from
from_at n zero i h = absurd (omega arith)
from_at n (suc k) zero h = omega arith
from_at n (suc k) (suc i) h = from_at (suc n) k i (omega arith) ∙ omega arith

-- a page past the last is free, so what holds of every page and of a free one holds of any
at_any : {P : Page → Type 0} {ps : List Page} → All P ps → P free_page → (i : ℕ) → P (get_or ps i free_page)
at_any none h i = h
at_any (more k a) h zero = k
at_any (more k a) h (suc i) = at_any a h i

pub tidy_few : (w : List ℕ) → TidyWords w → (p : PageNo) → length (page_at (store_of w).pages p).places ≤ 8
unfolding page_at
tidy_few w t p = at_any {P = λ g. length g.places ≤ 8} (all_map t.pages λ g r. r.places_most) (omega arith) p.0

-- ---- flags count visits: a page is flagged once for each time that it was visited
abbrev times : ℕ → List PageNo → ℕ
times n xs = count (λ p. eqb n p.0) xs

-- what one flag more says of page n
one_flag : (fs : List Bool) (i n : ℕ) → i < length fs → get_or fs i false ≡ false → one_if (get_or (set fs i true) n false) ≡ one_if (eqb n i) + one_if (get_or fs n false)
one_flag fs i n h e = go (eqb n i) refl
  where
    go : (b : Bool) → eqb n i ≡ b → one_if (get_or (set fs i true) n false) ≡ one_if b + one_if (get_or fs n false)
    go true q = let k = eqb-true n i q in rw (k, get_or-set_same fs i true false h, e)
    go false q = rw (get_or-set_other fs i n true false (eqb-false n i q)) (omega arith)

pub visits : (n : ℕ) (xs : List PageNo) (fs : List Bool) → All (λ p. p.0 < length fs) xs → all_new xs fs ≡ true
    → one_if (get_or (flagged xs fs) n false) ≡ times n xs + one_if (get_or fs n false)
unfolding all_new flagged count
visits n [] fs a e = omega arith
visits n (p ∷ xs) fs a e =
    let h = head_of a in
    let new = not-true _ (and_left _ _ e) in
    let l = length-set fs p.0 true in
    let longer : All (λ q. q.0 < length (set fs p.0 true)) xs = all_map (tail_of a) λ q k. omega arith in
    let later = visits n xs (set fs p.0 true) longer (and_right (not (get_or fs p.0 false)) _ e) in
    omega (arith, one_flag fs p.0 n h new)

-- and where no page is visited or flagged twice, each is new when its turn comes
pub visited_new : (xs : List PageNo) (fs : List Bool) → All (λ p. p.0 < length fs) xs → ((n : ℕ) → n < length fs → times n xs + one_if (get_or fs n false) ≤ 1) → all_new xs fs ≡ true
unfolding all_new count
visited_new [] fs a once = refl
visited_new (p ∷ xs) fs a once =
    let h = head_of a in
    let new : get_or fs p.0 false ≡ false = unflagged (get_or fs p.0 false) (omega (arith, once p.0 h, ap one_if (eq-eqb p.0 p.0 refl))) in
    let l = length-set fs p.0 true in
    and_both (ap not new)
    (visited_new xs (set fs p.0 true) (all_map (tail_of a) λ q k. omega arith)
    (λ n k. omega (arith, once n (omega arith), one_flag fs p.0 n h new)))
  where
    unflagged : (b : Bool) → one_if b ≤ 0 → b ≡ false
    unflagged true k = absurd (omega arith)
    unflagged false k = refl

-- ---- pages that are visited
pub visited : {P : PageNo → Type 0} (n : ℕ) (xs : List PageNo) → 1 ≤ times n xs → All P xs → P (page_no n)
unfolding count
visited n [] h a = absurd (omega arith)
visited {P} n (p ∷ xs) h a = go (eqb n p.0) refl (λ k. visited n xs k (tail_of a))
  where
    go : (b : Bool) → eqb n p.0 ≡ b → (1 ≤ times n xs → P (page_no n)) → P (page_no n)
    go true e later = subst P (ap page_no (sym (eqb-true n p.0 e))) (head_of a)
    go false e later = later (omega (arith, ap one_if e))

pub member_visited : (p : PageNo) (xs : List PageNo) → Mem p xs → 1 ≤ times p.0 xs
unfolding count
member_visited p [] m = elim m [ ]
member_visited p (q ∷ xs) (Memᴰ.head e) = omega (arith, ap one_if (eq-eqb p.0 q.0 (ap (λ (x : PageNo). x.0) e)))
member_visited p (q ∷ xs) (Memᴰ.tail m) = omega (arith, member_visited p xs m)

unvisited : (n k : ℕ) {xs : List PageNo} → All (λ p. p.0 < k) xs → k ≤ n → times n xs ≡ 0
unfolding count
unvisited n k none h = refl
unvisited n k (more {x = p} l a) h = omega (arith, ap one_if (ne_eqb n p.0 (λ e. omega arith)), unvisited n k a h)

-- ---- what is reached by levels
levelled-used : (ps : List Page) (l : ℕ) (p : PageNo) → Levelled ps l p → (page_at ps p).kind ≡ 0 → ⊥
levelled-used ps zero p v k = v
levelled-used ps (suc zero) p v k = omega arith
levelled-used ps (suc (suc l)) p v k = omega (arith, v.0)

module _ (ps : List Page) (ranges : All (PageInRange (length ps)) ps) where
  reached_inside : (l : ℕ) (p : PageNo) → Levelled ps l p → p.0 < length ps → All (λ q. q.0 < length ps) (reached_under ps l p)
  unfolding reached_under page_at
  reached_inside zero p v h = none
  reached_inside (suc zero) p v h = more h none
  reached_inside (suc (suc l)) p v h =
      more h
      (flat_all _ (all_zip v.1 ((all_at ranges p.0 free_page h).inner v.0) λ e deeper place. reached_inside (suc l) (child_of e) deeper place.child))

-- ---- the walk with no flag set, and the tests of every page
abbrev pub clear : List Bool
clear = replicate 192 false

clear_at : (k n : ℕ) → get_or (replicate k false) n false ≡ false
clear_at zero n = refl
clear_at (suc k) zero = refl
clear_at (suc k) (suc n) = clear_at k n

used_one : (b : Bool) → 1 ≤ one_if (not b) → b ≡ false
used_one true h = absurd (omega arith)
used_one false h = refl

one_most : (b : Bool) → one_if b ≤ 1
one_most true = omega arith
one_most false = omega arith

module _ (w : List ℕ) (t : TidyWords w) where
  flag_each : {xs : List PageNo} → All (λ p. p.0 < length (store_of w).pages) xs → All (λ p. p.0 < length clear) xs
  flag_each a = all_map a λ p h. omega (arith, pages_many w, t.given.sizes.pages_most)

  -- flags after a walk that succeeds count how often each page is reached
  flag_times : (n : ℕ) → All (λ p. p.0 < length (store_of w).pages) (reached (store_of w)) → all_new (reached (store_of w)) clear ≡ true
      → one_if (get_or (flagged (reached (store_of w)) clear) n false) ≡ times n (reached (store_of w))
  flag_times n a e = visits n (reached (store_of w)) clear (flag_each a) e ∙ rw (clear_at 192 n) (omega arith)

  walk_done : (walks (store_of w).pages (store_of w).levels (store_of w).root clear && pages_hold (store_of w) (flagged (reached (store_of w)) clear)) ≡ true → tree_rules (store_of w) ≡ true
  unfolding walks pages_hold page_holds tree_rules reached rule2 rule3 covered page_at
  walk_done e =
      let s = store_of w in
      let fs = flagged (reached s) clear in
      let walked = and_left (walks s.pages s.levels s.root clear) _ e in
      let level = and_left (levelled s.pages s.levels s.root) _ walked in
      let new = and_right (levelled s.pages s.levels s.root) _ walked in
      let leaves = levelled-holds _ _ _ level in
      let inside = reached_inside s.pages t.pages s.levels s.root leaves t.header.root_page in
      let held = every_all _ _ (and_right (walks s.pages s.levels s.root clear) _ e) in
      let tests : (n : ℕ) → n < length s.pages → page_holds s (get_or fs n false) (page_no n) ≡ true = λ n h. all_from 0 (length s.pages) held n (omega arith) (omega arith) in
      let once : (n : ℕ) → n < length s.pages → times n (reached s) ≡ one_if (not (is_free (page_at s.pages (page_no n)))) = λ n h. sym (flag_times n inside new) ∙ eqb-true _ _ (each _ (tests n h)).0 in
      let one : rule1 s ≡ true = rule1_test s (record { root_used = levelled-used s.pages s.levels s.root leaves; leaves = leaves; inside = inside; once = once }) in
      let two : rule2 s ≡ true =
      all_every _
      (all_members (reached s) λ p m.
      let h = all_member inside m in
      or_else (is_free (page_at s.pages p)) _ (used_one _ (omega (arith, once p.0 h, member_visited p (reached s) m))) (each _ (tests p.0 h)).1.0) in
      let three : rule3 s ≡ true = all_every _ (all_places s.pages free_page λ i h. (each _ (tests i h)).1.1.0) in
      each_all_of _ (one also two also three also tt)

  walk_needed : tree_rules (store_of w) ≡ true → (walks (store_of w).pages (store_of w).levels (store_of w).root clear && pages_hold (store_of w) (flagged (reached (store_of w)) clear)) ≡ true
  unfolding walks pages_hold page_holds tree_rules reached rule2 rule3 covered page_at
  walk_needed e =
      let s = store_of w in
      let rules = each _ e in
      let one = rule1-holds s rules.0 in
      let new : all_new (reached s) clear ≡ true =
      visited_new (reached s) clear (flag_each one.inside) λ n h.
      let z = clear_at 192 n in
      let f = ap one_if z in
      at_most_once n (ltb n (length s.pages)) refl one in
      and_both (and_both (levelled_test _ _ _ one.leaves) new)
      (all_every _
      (from_all 0 (length s.pages) λ n low high.
      let once = one.once n (omega arith) in
      each_all_of _
      (eq-eqb _ _ (flag_times n one.inside new ∙ once)
      also else_or (is_free (page_at s.pages (page_no n))) _ (λ f. visited n (reached s) (omega (arith, once, ap (λ b. one_if (not b)) f)) (every_all _ _ rules.1.0))
      also all_at {xs = (store_of w).pages} (every_all _ _ rules.1.1.0) n free_page (omega arith)
      also tt)))
    where
      at_most_once : (n : ℕ) (b : Bool) → ltb n (length (store_of w).pages) ≡ b → Rule1 (store_of w) → times n (reached (store_of w)) + one_if (get_or clear n false) ≤ 1
      at_most_once n true q r =
          omega (arith, r.once n (ltb-true _ _ q), one_most (not (is_free (page_at (store_of w).pages (page_no n)))), ap one_if (clear_at 192 n))
      at_most_once n false q r = omega (arith, unvisited n _ r.inside (ltb-false _ _ q), ap one_if (clear_at 192 n))

  -- the walk and the tests decide rules 1, 2 and 3
  pub walk_decides : (walks (store_of w).pages (store_of w).levels (store_of w).root clear && pages_hold (store_of w) (flagged (reached (store_of w)) clear)) ≡ tree_rules (store_of w)
  walk_decides = same_truth _ _ walk_done walk_needed
