-- The pages of a sound tree hold a tree within its bounds: it is read from them by descent.
use Prim.Native.Nat.{ℕ, zero, suc, ◌+◌, ◌-◌, ◌≤◌, ◌<◌}
use Rattle.std.proofs.Common.{arith, ◌∙◌, eqb-true}
use Rattle.std.specs.Prelude.{◌≡◌, Bool, true, false, not, eqb, length, get_or}
use Rattle.std.proofs.Math.Path.{refl, sym, ap}
use mathlib.Core.List.{List, ◌++◌, map, flat_map, append-nil}
use Rattle.rules.specs.declared.PageNo.{PageNo}
use Rattle.rules.specs.declared.Stamp.{Stamp}
use Rattle.rules.specs.declared.Entry.{Entry}
use Rattle.rules.specs.Boxes.{no_box}
use Rattle.rules.specs.Lists.{from, count, one_if}
use Rattle.rules.specs.Store.{Page, Store, stamp, page_no, child_of, free_page, page_at}
use Rattle.rules.specs.Tree.{cover_page, child_place}
use Rattle.rules.specs.Sound.{is_free}
use Rattle.rules.specs.Views.{InnerPlace, Levelled, Filled}
use Rattle.rules.specs.laws.All.{All, none, more, head_of, tail_of, all_map, all_zip, all_append, all_mapped, all_unmapped, map_back, always}
use Rattle.rules.specs.laws.Order.{◌~◌, ◌then◌, same, back, distinct_reordered}
use Rattle.rules.specs.laws.Counts.{count_append}
use Rattle.theorems.specs.TreeSound.{TreeSound}
use Rattle.theorems.specs.tree.Numbers.{head_off, distinct_back, from-distinct, once_each}
use Rattle.theorems.specs.tree.Items.{Item, extent, atoms, numbers, Full}
use Rattle.theorems.specs.tree.Budget.{root_least}
use Rattle.theorems.specs.tree.Pages.{frees, frees_inside, count-frees}
use Rattle.theorems.specs.tree.Stands.{place, page_of, Stands, all_numbers, child_is}
use Rattle.theorems.specs.tree.Laid.{Top, Rooted, atoms_top, Clear}
use Rattle.theorems.specs.tree.Descent.{reached_all, reached-count}
use Rattle.theorems.specs.tree.ToRules.{TreeIn, places_are}

-- the item of level l that a place stands for
unfoldable read : List Page → (l : ℕ) → Entry → Item l
read ps zero e = e
read ps (suc l) e =
    record { no = child_of e; mark = (page_at ps (child_of e)).mark; items = map (read ps l) (page_at ps (child_of e)).places }

-- what holds of every page and of a free one holds of the page at any number
page_holds : {P : Page → Type 0} {ps : List Page} → All P ps → P free_page → (p : PageNo) → P (page_at ps p)
unfolding page_at
page_holds {P} a z p = go a p.0
  where
    go : {ps : List Page} → All P ps → (n : ℕ) → P (get_or ps n free_page)
    go none n = z
    go (more h a) zero = h
    go (more h a) (suc n) = go a n

-- ---- it stands in the pages
module _ (ps : List Page)
    (unstamped : (p : PageNo) → (page_at ps p).kind ≡ 2 → All (InnerPlace (length ps)) (page_at ps p).places)
    (smallest : (p : PageNo) → (page_at ps p).kind ≡ 2 → All (λ e. e.bounds ≡ cover_page ps (child_of e)) (page_at ps p).places)
    (unmarked : (p : PageNo) → (page_at ps p).kind ≡ 2 → (page_at ps p).mark.0 ≡ 0) where
  read_stands : (l : ℕ) (e : Entry) → Levelled ps (suc l) (child_of e) → Stands ps (suc l) (read ps (suc l) e)
  unfolding read page_of place extent child_place
  read_stands zero e k =
      let g = page_at ps (child_of e) in
      let p : g.places ≡ map (place 0) (map (read ps 0) g.places) = sym (map_back (place 0) (read ps 0) (always (λ y. refl) g.places)) in
      ((λ i. record { kind = k i; mark = g.mark; places = p i }), always (λ x. tt) (map (read ps 0) g.places))
  read_stands (suc l) e h =
      let c = child_of e in
      let g = page_at ps c in
      let k = h.0 in
      let m = unmarked c k in
      let stand = all_map h.1 λ f b. read_stands l f b in
      let its-place : All (λ f. place (suc l) (read ps (suc l) f) ≡ f) g.places =
      all_zip (all_zip stand (smallest c k) λ f s b. sym (b ∙ ap (λ z. z.bounds) (child_is l ps (read ps (suc l) f) s.0))) (unstamped c k)
      λ f b u. λ i. record { bounds = b i; key = f.key; stamp = record { 0 = sym u.unstamped i } } in
      let p = sym (map_back (place (suc l)) (read ps (suc l)) its-place) in
      ((λ i. record { kind = k i; mark = record { 0 = m i }; places = p i }), all_mapped (read ps (suc l)) stand)

-- ---- it is within its bounds
-- 4 to 8 places
abbrev Bounded : List Page → ℕ → Type 0
Bounded ps n = (4 ≤ length (page_at ps (page_no n)).places) × (length (page_at ps (page_no n)).places ≤ 8)

stands_full : (ps : List Page) (l : ℕ) (m : Stamp) (t : Item l) → Stands ps l t → All (Bounded ps) (numbers (atoms l m t)) → Full l t
unfolding atoms flat_map
stands_full ps zero m t st f = tt
stands_full ps (suc l) m t st (more f fs) =
    let n = places_are ps l t st.0 in
    record {
      least = omega (arith, f.0);
      most = omega (arith, f.1);
      each = all_zip st.1 (all_numbers (atoms l t.mark) t.items fs) λ c a b. stands_full ps l t.mark c a b;
    }

root_most : (s : Store) (l : ℕ) (t : Item (suc l)) → s.root ≡ t.no → page_at s.pages t.no ≡ page_of l t → Filled s t.no → root_least 2 l ≤ length t.items
unfolding page_of
root_most s zero t r e f = omega arith
root_most s (suc l) t r e f =
    let n = places_are s.pages (suc l) t e in
    let k = ap (λ g. g.kind) e in
    omega (arith, f.root_least (ap (λ p. p.0) (sym r)) (λ z. omega arith))

both_one : (b : Bool) (c : ℕ) → c ≡ one_if (not b) → one_if b + c ≡ 1
both_one true c e = omega arith
both_one false c e = omega arith

-- ---- all of it
module _ (s : Store) (R : TreeSound s) (l : ℕ) (el : s.levels ≡ suc l) where
  abbrev the_top : Top
  the_top = record { depth = l; tree = read s.pages (suc l) (record { bounds = no_box; key = s.root.0; stamp = stamp 0 }) }

  its_root : s.root ≡ the_top.tree.no
  unfolding read
  its_root = refl

  top_stands : Stands s.pages (suc l) the_top.tree
  top_stands =
      read_stands s.pages (page_holds (all_map R.pages λ g h. h.inner) (λ k. none)) (page_holds R.rule3.smallest (λ k. none))
      (page_holds R.inner_marks (λ k. refl)) l _ (rw el at R.rule1.leaves)

  top_clear : Clear s.pages
  top_clear n f = page_holds {P = λ g. g.kind ≡ 0 → g ≡ free_page} (all_map R.pages λ g h. h.free) (λ k. refl) (page_no n) (eqb-true _ _ f)

  top_once : (frees s.pages ++ numbers (atoms_top the_top)) ~ from 0 (length s.pages)
  top_once =
      let ps = s.pages in
      let N = numbers (atoms_top the_top) in
      let low : All (λ n. n < length ps) N = all_unmapped page_no N (rw (reached_all s the_top its_root el top_stands) at R.rule1.inside) in
      once_each 0 (length ps) (frees ps ++ N)
      (all_append (all_map (frees_inside ps) λ n f. omega (arith, f.1)) (all_map low λ n h. omega arith))
      λ n low high.
      (let c = sym (reached-count s the_top its_root el top_stands n) ∙ R.rule1.once n (omega arith) in
      count_append (eqb n) (frees ps) N ∙ ap (λ z. z + count (eqb n) N) (count-frees ps n (omega arith)) ∙ both_one (is_free (page_at ps (page_no n))) (count (eqb n) N) c)

  top_rooted : Rooted 2 the_top
  unfolding atoms flat_map read
  top_rooted =
      let t = the_top.tree in
      let A = atoms l t.mark in
      let st = top_stands in
      let f : All (λ n. Filled s (page_no n)) (numbers (atoms_top the_top)) = all_unmapped page_no _ (rw (reached_all s the_top its_root el st) at R.rule2.all_filled) in
      let o = head_off (distinct_back (frees s.pages) _ (distinct_reordered (back top_once) (from-distinct 0 (length s.pages)))) in
      let n = places_are s.pages l t st.0 in
      let bounded : All (Bounded s.pages) (numbers (flat_map A t.items)) = all_zip (tail_of f) o λ z h d. (h.least d, h.most) in
      record {
        least = root_most s l t its_root st.0 (head_of f);
        most = omega (arith, (head_of f).most);
        each = all_zip st.1 (all_numbers A t.items bounded) λ c a b. stands_full s.pages l t.mark c a b;
      }

  tree_in : TreeIn s
  tree_in =
      record {
        top = the_top;
        root = its_root;
        level = el;
        laid = record { stands = top_stands; once = same (ap (λ z. frees s.pages ++ z) (append-nil (numbers (atoms_top the_top)))) then top_once; clear = top_clear };
        rooted = top_rooted;
      }

-- the tree that a sound one's pages hold
pub from-sound : (s : Store) → TreeSound s → TreeIn s
from-sound s R = tree_in s R (s.levels - 1) (omega (arith, R.levels_least))
