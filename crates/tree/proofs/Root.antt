-- A new root over a split one, and the header's words that tell of it. Assumes nothing.
use Prim.Native.Nat.{ℕ, suc, ◌+◌, ◌-◌, ◌≤◌, ◌<◌}
use native.Mathlib.Omega.{arith}
use native.Mathlib.Numerals.{add-one}
use mathlib.Core.Path.{◌≡◌, ap, ◌∙◌}
use mathlib.Core.List.{List, [], ◌∷◌}
use lib.ListN.{length, get_or, set, length-set}
use mir.Syntax.{w32}
use mir.Val.{Fits as Number}
use Rattle.rules.specs.declared.PageNo.{PageNo}
use Rattle.rules.specs.declared.Entry.{Entry}
use Rattle.rules.specs.Store.{Page as Contents, stamp, page_no, free_page, words, store_of, limit}
use Rattle.rules.specs.Tree.{tree_of, with_places, child_place, lowest_free, whole, parted, rooted, put_below, put_at, Written as Result}
use Rattle.rules.specs.laws.All.{none, more}
use Rattle.page.specs.declared.Page.{Page}
use Rattle.page.specs.Struct.{laid_page, with_struct, added}
use Rattle.page.specs.Laws.{laid_added}
use Rattle.std.specs.Prelude.{Option, Some, None}
use Rattle.tree.specs.Putting.{Ready, page_count, IsReady, Put, Grown, with_tree, NewRoot, over_root, raised}
use Rattle.tree.specs.Laws.{room, levels_read, root_read, child_proper, page-put, grown_from, wrote_grown}

empty_inner : (f : Page) → f ≡ laid_page free_page → record { kind = 2; count = f.count; mark = f.mark; places = f.places } ≡ laid_page (record { kind = 2; mark = stamp 0; places = [] })
unfolding laid_page
empty_inner f e = rw e

-- two places added to an empty inner page
pub over_made : (w : List ℕ) (root q : PageNo) (f g h : Page) (x y : Entry) → f ≡ laid_page free_page → x ≡ child_place (store_of w).pages root
    → g ≡ added (record { kind = 2; count = f.count; mark = f.mark; places = f.places }) x → y ≡ child_place (store_of w).pages q → h ≡ added g y
    → h ≡ laid_page (over_root (store_of w).pages root q)
over_made w root q f g h x y ef ex eg ey eh =
    let no-places : Contents = record { kind = 2; mark = stamp 0; places = [] } in
    let one : g ≡ laid_page (with_places no-places (x ∷ [])) = eg ∙ ap (λ g. added g x) (empty_inner f ef) ∙ laid_added no-places (omega arith) x (omega arith) in
    let two : h ≡ laid_page (with_places no-places (x ∷ y ∷ [])) = eh ∙ ap (λ g. added g y) one ∙ laid_added (with_places no-places (x ∷ [])) (omega arith) y (omega arith) in
    two ∙ rw (ex, ey)

module _ (p : ℕ) (w : List ℕ) (h : Ready p w) where
  -- ---- the new root
  pub root_put : (q r root : PageNo) (g : Page) (w' : List ℕ) → root ≡ page_no (get_or w 2 0) → r ≡ lowest_free (store_of w).pages
      → g ≡ laid_page (over_root (store_of w).pages root q) → w' ≡ with_struct w p r g → NewRoot p w q w' r
  root_put q r root g w' there free made e =
      record {
        pages = rw (e, made, there ∙ root_read p w h) (page-put p w h r (over_root (store_of w).pages (store_of w).root q) (omega arith) (more (child_proper p w h (store_of w).root) (more (child_proper p w h q) none)));
        free = free;
      }

  -- ---- words 2 and 3
  pub levels_fit : (n : ℕ) → n ≡ get_or w 3 0 → (store_of w).levels < limit → Number w32 (n + 1)
  levels_fit n e k = omega (arith, levels_read p w h)

  module _ (q r : PageNo) (w₁ : List ℕ) (new : NewRoot p w q w₁ r) where
    pub raise_room : 16 ≤ length w₁
    raise_room = omega (arith, room p w₁ new.pages.ready)

    pub raise_room_2 : (w₂ : List ℕ) → w₂ ≡ set w₁ 2 r.0 → 16 ≤ length w₂
    raise_room_2 w₂ e = rw (e, length-set) raise_room

    pub raise_made : (w₂ w₃ : List ℕ) (levels : ℕ) → levels ≡ get_or w 3 0 → w₂ ≡ set w₁ 2 r.0 → w₃ ≡ set w₂ 3 (levels + 1) → Grown p w (raised (store_of w) q) w₃
    unfolding rooted
    raise_made w₂ w₃ levels n e₂ e₃ =
        let e : w₃ ≡ set (set w₁ 2 r.0) 3 (suc (store_of w).levels) = e₃ ∙ rw (e₂, n ∙ levels_read p w h, add-one (store_of w).levels) in
        rw (← new.free) (grown_from new.pages r (suc (store_of w).levels) w₃ e)

-- ---- down from the root
whole_grown : {p : ℕ} {w : List ℕ} (r : Result) {w₁ : List ℕ} {a : Option PageNo} → Put p w r w₁ a → a ≡ None → Grown p w (rooted (store_of w).root (store_of w).levels r) w₁
unfolding rooted
whole_grown (whole ps) put k = wrote_grown put.pages
whole_grown (parted ps q) put k = let z : ◌≡◌ {A = ℕ} 0 1 = cc put.answers in absurd (omega arith)

parted_grown : {p : ℕ} {w : List ℕ} (r : Result) {w₁ : List ℕ} {a : Option PageNo} (q : PageNo) (w₂ : List ℕ) → Put p w r w₁ a → a ≡ Some q → Grown p w₁ (raised (store_of w₁) q) w₂
    → Grown p w (rooted (store_of w).root (store_of w).levels r) w₂
parted_grown (whole ps) q w₂ put k t = let z : ◌≡◌ {A = ℕ} 0 1 = cc put.answers in absurd (omega arith)
parted_grown (parted ps q') q w₂ put k t =
    let same : q' ≡ q = cc put.answers in
    rw same
    (record {
      wrote = t.wrote ∙ ap (λ s. words (with_tree s (raised s q))) put.pages.stored;
      stored = t.stored ∙ ap (λ s. with_tree s (raised s q)) put.pages.stored;
      ready = t.ready;
    })

module _ (w : List ℕ) (h : IsReady w) (levels level : ℕ) (read : levels ≡ get_or w 3 0) where
  pub levels_enough : level ≤ (store_of w).levels → level ≤ levels
  levels_enough k = omega (arith, levels_read _ w h)

  module _ (e : Entry) (root : PageNo) (there : root ≡ page_no (get_or w 2 0)) (w₁ : List ℕ) (a : Option PageNo) (put : Put (page_count w) w (put_below (levels - level) (store_of w).pages root e) w₁ a) where
    put_there : Put (page_count w) w (put_below ((store_of w).levels - level) (store_of w).pages (store_of w).root e) w₁ a
    put_there = rw (read ∙ levels_read _ w h, there ∙ root_read _ w h) at put

    pub put_whole : a ≡ None → Grown (page_count w) w (put_at level e (tree_of (store_of w))) w₁
    unfolding put_at
    put_whole k = whole_grown _ put_there k

    pub levels_kept : (store_of w).levels < limit → (store_of w₁).levels < limit
    levels_kept k = rw put_there.pages.stored k

    pub put_parted : (q : PageNo) (w₂ : List ℕ) → a ≡ Some q → Grown (page_count w₁) w₁ (raised (store_of w₁) q) w₂ → Grown (page_count w) w (put_at level e (tree_of (store_of w))) w₂
    unfolding put_at
    put_parted q w₂ k t = parted_grown _ q w₂ put_there k (rw put_there.pages.ready.counted at t)
