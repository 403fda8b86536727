-- A root with one child gives way to it, and the whole of a clean, one after the other. Assumes nothing.
use Prim.Native.Nat.{ℕ, ◌-◌, ◌≤◌}
use native.Mathlib.Omega.{arith}
use mathlib.Core.Path.{◌≡◌, sym, subst, ◌∙◌, ap, ap₂}
use mathlib.Core.Bool.{false, ◌&&◌, and-false}
use mathlib.Core.List.{List}
use lib.Dec.{eqb}
use lib.ListN.{length, get_or, set, length-set}
use borrow.Author.Tests.{eq-eqb, ne_eqb}
use Rattle.rules.specs.declared.Stamp.{Stamp}
use Rattle.rules.specs.declared.PageNo.{PageNo}
use Rattle.rules.specs.declared.Entry.{Entry}
use Rattle.rules.specs.Lists.{keep}
use Rattle.rules.specs.Store.{Page as Contents, page_no, free_page, no_place, child_of, page_at, put_page, store_of}
use Rattle.rules.specs.Memo.{is_latest}
use Rattle.rules.specs.Tree.{Tree, tree_of}
use Rattle.rules.specs.Cleaning.{Trimmed, put_back, given_way, cleaned}
use Rattle.rules.specs.laws.All.{none}
use Rattle.page.specs.declared.Page.{Page}
use Rattle.page.specs.Struct.{contents, laid_page, struct_at, with_struct}
use Rattle.tree.specs.Putting.{Ready, page_count, IsReady, Wrote, Grown}
use Rattle.tree.specs.Laws.{laid_count, laid_at, room, ready_own, levels_read, root_read, read_laid, read-contents, page-put, grown_from, grown_then, grown_tree, wrote_grown, grown_same}
use Rattle.trim.specs.declared.Orphan.{Orphan}
use Rattle.trim.specs.Trimming.{held_by, Waits, LeafBelow, trimmed_in, TrimmedTo, root_lowered, Cleanable}
use Rattle.trim.proofs.Back.{back_levels}

-- ---- a root with one child
module _ (p : ℕ) (w : List ℕ) (h : Ready p w) where
  pub levels_some : (levels : ℕ) → 1 ≤ (store_of w).levels → levels ≡ get_or w 3 0 → 1 ≤ levels
  levels_some levels k e = omega (arith, levels_read p w h)

  module _ (root : PageNo) (x : Page) (w₁ : List ℕ) (at : root ≡ page_no (get_or w 2 0)) (ex : x ≡ laid_page free_page) (e₁ : w₁ ≡ with_struct w p root x) where
    root_freed : Wrote p w (put_page (store_of w).pages (store_of w).root free_page) w₁
    root_freed = rw (e₁, ex, at ∙ root_read p w h) (page-put p w h (store_of w).root free_page (omega arith) none)

    pub freed_header : 16 ≤ length w₁
    freed_header = omega (arith, room p w₁ root_freed.ready)

    module _ (c : PageNo) (w₂ : List ℕ) (e₂ : w₂ ≡ set w₁ 2 c.0) where
      pub lowered_header : 16 ≤ length w₂
      lowered_header = rw (e₂, length-set) freed_header

      pub lowered : (levels : ℕ) (w₃ : List ℕ) → levels ≡ get_or w 3 0 → w₃ ≡ set w₂ 3 (levels - 1) → Grown p w (root_lowered (tree_of (store_of w)) c) w₃
      lowered levels w₃ n e₃ = grown_from root_freed c ((store_of w).levels - 1) w₃ (e₃ ∙ rw (e₂, n ∙ levels_read p w h))

module _ (p : ℕ) (w : List ℕ) (h : Ready p w) (root : PageNo) (at : root ≡ page_no (get_or w 2 0)) (g : Page) (read : g ≡ struct_at w p root) where
  here : contents g ≡ page_at (store_of w).pages (store_of w).root
  here = read-contents p w h root g read ∙ ap (page_at (store_of w).pages) (at ∙ root_read p w h)

  kind_is : (page_at (store_of w).pages (store_of w).root).kind ≡ g.kind
  unfolding contents
  kind_is = sym (ap (λ (g : Contents). g.kind) here)

  many : length (page_at (store_of w).pages (store_of w).root).places ≡ g.count
  many = sym (laid_count g (read_laid p w h root g read) ∙ ap (λ (g : Contents). length g.places) here)

  stays : (eqb (page_at (store_of w).pages (store_of w).root).kind 2 && eqb (length (page_at (store_of w).pages (store_of w).root).places) 1) ≡ false → Grown p w (given_way (tree_of (store_of w))) w
  unfolding given_way
  stays f = rw f (grown_same h)

  pub leaf_stays : (g.kind ≡ 2 → ⊥) → Grown p w (given_way (tree_of (store_of w))) w
  leaf_stays n = stays (rw (kind_is, ne_eqb g.kind 2 n))

  pub wide_stays : (g.count ≡ 1 → ⊥) → Grown p w (given_way (tree_of (store_of w))) w
  wide_stays n = stays (rw (many, ne_eqb g.count 1 n) (and-false (eqb (page_at (store_of w).pages (store_of w).root).kind 2)))

  pub gives_way : (x : Entry) (w' : List ℕ) → g.kind ≡ 2 → g.count ≡ 1 → x ≡ get_or g.places 0 no_place → Grown p w (root_lowered (tree_of (store_of w)) (child_of x)) w' → Grown p w (given_way (tree_of (store_of w))) w'
  unfolding given_way
  gives_way x w' k n e t =
      let l = read_laid p w h root g read in
      let there : x ≡ get_or (page_at (store_of w).pages (store_of w).root).places 0 no_place =
      e ∙ laid_at g l 0 ∙ ap (λ (g : Contents). get_or g.places 0 no_place) here in
      rw (eq-eqb _ _ (kind_is ∙ k), eq-eqb _ _ (many ∙ n), ← there) t

-- ---- one after the other
module _ (w : List ℕ) (q : PageNo) (h : Cleanable q w) (levels : ℕ) (read : levels ≡ get_or w 3 0) where
  levels_are : levels ≡ (store_of w).levels
  levels_are = read ∙ levels_read _ w h.readable.ready

  pub depth_some : 1 ≤ levels
  depth_some = omega (arith, levels_are, h.levels_least)

  pub depth_few : levels - 1 ≤ 4
  depth_few = omega (arith, levels_are, h.levels_most)

  module _ (root : PageNo) (at : root ≡ page_no (get_or w 2 0)) where
    root_is : root ≡ (store_of w).root
    root_is = at ∙ root_read _ w h.readable.ready

    pub leaf_there : LeafBelow w (levels - 1) root q
    leaf_there = rw (levels_are, root_is) h.leaf

    module _ (mark : Stamp) (w₁ : List ℕ) (o : List Orphan) (t : TrimmedTo (page_count w) w (levels - 1) (trimmed_in w mark (levels - 1) root q) w₁ o) where
      levels_kept : (store_of w₁).levels ≡ (store_of w).levels
      levels_kept = ap (λ s. s.levels) t.pages.stored

      pub trimmed_levels : (store_of w₁).levels ≤ 5
      trimmed_levels = rw levels_kept h.levels_most

      pub trimmed_waits : Waits ((store_of w₁).levels - 1) o
      trimmed_waits = rw (levels_kept, ← levels_are) t.waits

      module _ (os : List Orphan) (same : os ≡ o) (w₂ : List ℕ) (put : Grown (page_count w₁) w₁ (put_back (held_by os) (tree_of (store_of w₁))) w₂) where
        back : Grown (page_count w) w₁ (put_back (held_by o) (tree_of (store_of w₁))) w₂
        back = rw (same, t.pages.ready.counted) at put

        pub back_ready : IsReady w₂
        back_ready = ready_own _ w₂ back.ready

        pub back_some : 1 ≤ (store_of w₂).levels
        back_some = omega (arith, ap (λ (t : Tree). t.levels) (grown_tree back), (back_levels (held_by o) (tree_of (store_of w₁))).0, levels_kept, h.levels_least)

        pub all_clean : (w₃ : List ℕ) → Grown (page_count w₂) w₂ (given_way (tree_of (store_of w₂))) w₃
            → Grown (page_count w) w (cleaned (keep (is_latest (store_of w).memo)) mark q (tree_of (store_of w))) w₃
        unfolding cleaned
        all_clean w₃ last =
            let s = store_of w in
            let made : Trimmed → Tree = λ r. given_way (put_back r.orphans (record { root = s.root; levels = s.levels; pages = r.pages })) in
            let after : given_way (tree_of (store_of w₂)) ≡ made (trimmed_in w mark (levels - 1) root q) = ap given_way (grown_tree back ∙ ap₂ put_back t.orphans (grown_tree (wrote_grown t.pages))) in
            let alike : made (trimmed_in w mark (levels - 1) root q) ≡ made (trimmed_in w mark (s.levels - 1) s.root q) = ap₂ (λ n r. made (trimmed_in w mark (n - 1) r q)) levels_are root_is in
            let then : Grown (page_count w) w₂ (given_way (tree_of (store_of w₂))) w₃ = rw back.ready.counted at last in
            subst (λ z. Grown (page_count w) w z w₃) (after ∙ alike) (grown_then (wrote_grown t.pages) (grown_then back then))
