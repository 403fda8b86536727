-- A store whose pages hold a tree within its bounds has a sound tree.
use Prim.Native.Nat.{ℕ, zero, suc, ◌+◌, ◌*◌, ◌≤◌, ◌<◌}
use Rattle.std.proofs.Common.{arith, sym, ◌∙◌, ap}
use Rattle.std.specs.Prelude.{◌≡◌, refl, Bool, true, false, not, length}
use mathlib.Core.List.{List, [], flat_map}
use Rattle.std.proofs.lemmas.List.{length-map}
use Rattle.rules.specs.declared.Stamp.{Stamp}
use Rattle.rules.specs.Lists.{one_if}
use Rattle.rules.specs.Store.{Page, Store, page_no, child_of, free_page, page_at}
use Rattle.rules.specs.Live.{held}
use Rattle.rules.specs.Tree.{cover_page, child_place}
use Rattle.rules.specs.Sound.{is_free}
use Rattle.rules.specs.Views.{PageInRange, Rule1, Filled, Rule2, Rule3}
use Rattle.rules.specs.laws.Tests.{not_both}
use Rattle.rules.specs.laws.All.{All, none, more, all_map, all_zip, all_append, all_back, all_mapped, all_places}
use Rattle.rules.specs.laws.Lists.{all_from, from_all}
use Rattle.rules.specs.laws.Order.{back, all_reordered}
use Rattle.theorems.specs.TreeSound.{TreeSound}
use Rattle.theorems.specs.tree.Items.{Item, no_mark, atoms, numbers, Thick, Full}
use Rattle.theorems.specs.tree.Budget.{root_least, five_levels}
use Rattle.theorems.specs.tree.Pages.{used_inside, frees, frees_inside}
use Rattle.theorems.specs.tree.Stands.{place, page_of, Stands, numbers_all, kind_used, child_is}
use Rattle.theorems.specs.tree.Laid.{Top, Rooted, atoms_top, Laid, laid_once, laid_count}
use Rattle.theorems.specs.tree.Descent.{levelled_is, reached_all, reached-count, held_all}

-- the tree that a store's pages hold
pub record TreeIn (s : Store) : Type 0 where
  pub top : Top
  pub root : s.root ≡ top.tree.no
  pub level : s.levels ≡ suc top.depth
  pub laid : Laid s.pages top []
  pub rooted : Rooted 2 top

-- ---- what holds of a free page and of each page of the tree holds of every page
module _ (ps : List Page) (P : Page → Type 0) (each : (l : ℕ) (t : Item (suc l)) → Stands ps (suc l) t → length t.items ≤ 8 → P (page_of l t)) where
  at_number : (l : ℕ) (t : Item (suc l)) → Stands ps (suc l) t → length t.items ≤ 8 → P (page_at ps t.no)
  at_number l t s most = rw s.0 (each l t s most)

  at_numbers : (l : ℕ) (m : Stamp) (t : Item l) → Stands ps l t → Full l t → All (λ n. P (page_at ps (page_no n))) (numbers (atoms l m t))
  unfolding atoms flat_map
  at_numbers zero m t s h = none
  at_numbers (suc l) m t s h =
      more (at_number l t s h.most) (numbers_all (atoms l t.mark) (all_zip s.1 h.each λ c r f. at_numbers l t.mark c r f))

  laid_all : (n : ℕ) (T : Top) → Laid ps T [] → Rooted n T → P free_page → All P ps
  unfolding atoms flat_map page_at
  laid_all n T L h free =
      let t = T.tree in
      let tree : All (λ n. P (page_at ps (page_no n))) (numbers (atoms_top T)) =
      more (at_number T.depth t L.stands h.most)
      (numbers_all (atoms T.depth t.mark) (all_zip L.stands.1 h.each λ c r f. at_numbers T.depth t.mark c r f)) in
      let spare : All (λ n. P (page_at ps (page_no n))) (frees ps) = all_map (frees_inside ps) λ n f. rw (L.clear n f.0) free in
      let all = all_reordered (laid_once ps T L) (all_append spare tree) in
      all_places ps free_page λ i k. all_from 0 (length ps) all i (omega arith) (omega arith)

-- ---- rule 1
other_one : (b : Bool) (c : ℕ) → one_if b + c ≡ 1 → c ≡ one_if (not b)
other_one true c e = omega arith
other_one false c e = omega arith

to_rule1 : (s : Store) → TreeIn s → Rule1 s
to_rule1 s I =
    let ps = s.pages in
    let T = I.top in
    let t = T.tree in
    let L = I.laid in
    let st = L.stands in
    let used : is_free (page_at ps s.root) ≡ false = ap (λ p. is_free (page_at ps p)) I.root ∙ ap is_free st.0 ∙ kind_used T.depth t in
    let low = all_back (frees ps) (numbers (atoms_top T)) (all_reordered (back (laid_once ps T L)) (from_all {P = λ n. n < length ps} 0 (length ps) λ i a b. omega arith)) in
    record {
      root_used = λ k. not_both (is_free (page_at ps s.root)) (rw k refl) used;
      leaves = rw (I.root, I.level) (levelled_is ps T.depth t st);
      inside = rw (reached_all s T I.root I.level st) (all_mapped page_no low);
      once = λ n h. reached-count s T I.root I.level st n ∙ other_one (is_free (page_at ps (page_no n))) _ (laid_count ps T n L h);
    }

-- ---- rule 2
pub places_are : (ps : List Page) (l : ℕ) (t : Item (suc l)) → page_at ps t.no ≡ page_of l t → length (page_at ps t.no).places ≡ length t.items
unfolding page_of
places_are ps l t e = ap (λ g. length g.places) e ∙ length-map t.items (place l)

full_filled : (s : Store) (l : ℕ) (m : Stamp) (t : Item l) → Stands s.pages l t → Full l t → All (λ n. Filled s (page_no n)) (numbers (atoms l m t))
unfolding atoms flat_map
full_filled s zero m t st h = none
full_filled s (suc l) m t st h =
    let n = places_are s.pages l t st.0 in
    let own : Filled s t.no = record { most = omega (arith, h.most); least = λ d. omega (arith, h.least); root_least = λ r d. omega (arith, h.least) } in
    more own (numbers_all (atoms l t.mark) (all_zip st.1 h.each λ c r f. full_filled s l t.mark c r f))

root_filled : (s : Store) (l : ℕ) (t : Item (suc l)) → s.root ≡ t.no → page_at s.pages t.no ≡ page_of l t → Thick (root_least 2 l) (Full l) t → Filled s t.no
unfolding page_of
root_filled s zero t r e h =
    let n = places_are s.pages 0 t e in
    record { most = omega (arith, h.most); least = λ d. absurd (d (ap (λ p. p.0) (sym r))); root_least = λ q d. absurd (d (ap (λ g. g.kind) e)) }
root_filled s (suc l) t r e h =
    let n = places_are s.pages (suc l) t e in
    record { most = omega (arith, h.most); least = λ d. absurd (d (ap (λ p. p.0) (sym r))); root_least = λ q d. omega (arith, h.least) }

to_rule2 : (s : Store) → TreeIn s → Rule2 s
unfolding atoms flat_map
to_rule2 s I =
    let T = I.top in
    let t = T.tree in
    let st = I.laid.stands in
    let all : All (λ n. Filled s (page_no n)) (numbers (atoms_top T)) =
    more (root_filled s T.depth t I.root st.0 I.rooted)
    (numbers_all (atoms T.depth t.mark) (all_zip st.1 I.rooted.each λ c r f. full_filled s T.depth t.mark c r f)) in
    record { all_filled = rw (reached_all s T I.root I.level st) (all_mapped page_no all) }

-- ---- rule 3
to_rule3 : (s : Store) → TreeIn s → Rule3 s
unfolding page_of place child_place
to_rule3 s I = record { smallest = laid_all ps _ each 2 I.top I.laid I.rooted (λ k. none) }
  where
    ps : List Page
    ps = s.pages

    each : (l : ℕ) (t : Item (suc l)) → Stands ps (suc l) t → length t.items ≤ 8
        → (page_of l t).kind ≡ 2 → All (λ e. e.bounds ≡ cover_page ps (child_of e)) (page_of l t).places
    each zero t st most k = absurd (omega arith)
    each (suc l) t st most k = all_mapped (place (suc l)) (all_map st.1 λ c r. ap (λ e. e.bounds) (sym (child_is l ps c r.0)))

-- ---- the ranges of pages, and inner marks
to_pages : (s : Store) → TreeIn s → All (PageInRange (length s.pages)) s.pages
unfolding page_of place
to_pages s I = laid_all ps (PageInRange (length ps)) each 2 I.top I.laid I.rooted (record { kind_most = omega arith; places_most = omega arith; free = λ k. refl; inner = λ k. none })
  where
    ps : List Page
    ps = s.pages

    each : (l : ℕ) (t : Item (suc l)) → Stands ps (suc l) t → length t.items ≤ 8 → PageInRange (length ps) (page_of l t)
    each zero t st most =
        record { kind_most = omega arith; places_most = omega (arith, length-map t.items (place 0)); free = λ k. absurd (omega arith); inner = λ k. absurd (omega arith) }
    each (suc l) t st most =
        record {
          kind_most = omega arith;
          places_most = omega (arith, length-map t.items (place (suc l)));
          free = λ k. absurd (omega arith);
          inner =
              λ k. all_mapped (place (suc l))
              (all_map st.1 λ c r. record { child = used_inside ps c.no (ap is_free r.0 ∙ kind_used l c); unstamped = refl });
        }

to_marks : (s : Store) → TreeIn s → All (λ g. g.kind ≡ 2 → g.mark.0 ≡ 0) s.pages
unfolding page_of
to_marks s I = laid_all s.pages _ each 2 I.top I.laid I.rooted (λ k. refl)
  where
    each : (l : ℕ) (t : Item (suc l)) → Stands s.pages (suc l) t → length t.items ≤ 8 → (page_of l t).kind ≡ 2 → (page_of l t).mark.0 ≡ 0
    each zero t st most k = absurd (omega arith)
    each (suc l) t st most k = refl

-- ---- all of it
pub to_sound : (s : Store) → TreeIn s → length s.pages ≤ 192 → length (held s) ≤ 3 * length s.pages → TreeSound s
to_sound s I small few =
    let T = I.top in
    let root_in = used_inside s.pages T.tree.no (ap is_free I.laid.stands.0 ∙ kind_used T.depth T.tree) in
    let low = five_levels T.depth no_mark T.tree I.rooted (omega (arith, ap length (held_all s T I.root I.level I.laid.stands))) in
    let lv = I.level in
    record {
      some_page = omega arith;
      pages_most = small;
      root_page = rw I.root root_in;
      levels_least = omega arith;
      levels_most = omega arith;
      pages = to_pages s I;
      inner_marks = to_marks s I;
      rule1 = to_rule1 s I;
      rule2 = to_rule2 s I;
      rule3 = to_rule3 s I;
    }
