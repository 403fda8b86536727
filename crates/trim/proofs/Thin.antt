-- Taking out what is thin: the leaf, a page once its child has been trimmed, and the way down to the leaf. Assumes nothing.
use Prim.Native.Nat.{ℕ, zero, suc, ◌+◌, ◌-◌, ◌≤◌, ◌<◌}
use native.Mathlib.Omega.{arith}
use mathlib.Core.Path.{◌≡◌, refl, sym, subst, ◌∙◌, ap, ap₂}
use mathlib.Core.Bool.{Bool}
use mathlib.Core.List.{List, [], ◌∷◌, ◌++◌, map, map-append, map-map}
use Rattle.std.specs.Prelude.{Option, Some, IsSome}
use lib.Dec.{ltb}
use lib.ListN.{length, get_or, set, length-set, length-map, length-append}
use borrow.Author.Tests.{ltb-true, ltb-false}
use Rattle.rules.specs.declared.Stamp.{Stamp}
use Rattle.rules.specs.declared.PageNo.{PageNo}
use Rattle.rules.specs.declared.Entry.{Entry}
use Rattle.rules.specs.Lists.{keep, first, without}
use Rattle.rules.specs.Store.{Page as Contents, free_page, no_place, child_of, page_at, put_page, store_of}
use Rattle.rules.specs.Memo.{is_latest}
use Rattle.rules.specs.Tree.{with_places, child_place}
use Rattle.rules.specs.Cleaning.{path_to, trimmed_below}
use Rattle.rules.specs.laws.Tests.{either}
use Rattle.rules.specs.laws.All.{All, none, more, head_of, tail_of, all_map, all_append, all_mapped, all_kept, all_set}
use Rattle.rules.specs.laws.Kept.{keep_fewer}
use Rattle.rules.specs.laws.Places.{without-length}
use Rattle.page.specs.declared.Page.{Page}
use Rattle.page.specs.Struct.{contents, laid_page, struct_at, with_struct, with_place, removed}
use Rattle.page.specs.Laws.{laid_set, laid_removed}
use Rattle.tree.specs.Putting.{ProperPlaces, Ready, page_count, IsReady, Laid, Wrote}
use Rattle.tree.specs.Laws.{laid_few, laid_count, laid_most, laid_holds, laid_at, ready_own, page_few, page_proper, child_proper, read_laid, read-contents, page-put, wrote_then, wrote_pages}
use Rattle.trim.specs.declared.Orphan.{Orphan}
use Rattle.trim.specs.declared.parent.Parent.{Parent}
use Rattle.trim.proofs.Ways.{place_found, some_found}
use Rattle.trim.specs.Trimming.{Readable, page_kept, leads_to, way, LeafBelow, waiting, held_by, at_level, child_at, wait_at, Placeable, Waits, trimmed_in, so_far, child_freed, child_renewed, trimmed_place, TrimmedTo}

-- ---- the leaf
pub leaf_trimmed : (p : ℕ) (w : List ℕ) → Readable p w → (at : PageNo) (mark : Stamp) (g : Page) (w' : List ℕ) → g ≡ laid_page (page_kept (is_latest (store_of w).memo) (store_of w) at)
    → w' ≡ with_struct w p at (record { kind = 1; count = g.count; mark = mark; places = g.places }) → Wrote p w (trimmed_in w mark 0 at at).pages w'
unfolding trimmed_below laid_page
leaf_trimmed p w h at mark g w' e q =
    let es = (page_at (store_of w).pages at).places in
    let left = keep (is_latest (store_of w).memo) es in
    let few : length left ≤ 8 = omega (arith, keep_fewer (is_latest (store_of w).memo) es, page_few p w h.ready at) in
    let proper : ProperPlaces left = all_kept (is_latest (store_of w).memo) (all_map (page_proper p w h.ready at) λ x k z. k) in
    rw (q, e) (page-put p w h.ready at (record { kind = 1; mark = mark; places = left }) few proper)

-- ---- a page once its child has been trimmed
all_without : {A : Type 0} {P : A → Type 0} (xs : List A) (i : ℕ) → All P xs → All P (without xs i)
unfolding without
all_without [] i a = none
all_without (x ∷ xs) zero a = tail_of a
all_without (x ∷ xs) (suc i) a = more (head_of a) (all_without xs i (tail_of a))

parent_laid : (f : Parent) → Laid f.page
parent_laid f = laid_holds f.page f.laid

pub parent_used : (f : Parent) → (f.place < f.page.count) × (f.page.count ≤ 8)
parent_used f = (f.inside, laid_most f.page (parent_laid f))

module _ (p : ℕ) (w : List ℕ) (h : Ready p w) (f : Parent) where
  abbrev g : Contents
  g = contents f.page

  few : length g.places ≤ 8
  few = laid_few f.page (parent_laid f)

  inside : f.place < length g.places
  inside = omega (arith, laid_count f.page (parent_laid f), f.inside)

  module _ (x : Page) (c : PageNo) (w₁ : List ℕ) (ex : x ≡ laid_page free_page) (ec : c ≡ child_at f) (e₁ : w₁ ≡ with_struct w p c x) where
    child_gone : Wrote p w (put_page (store_of w).pages (child_at f) free_page) w₁
    child_gone = rw (e₁, ex, ec) (page-put p w h (child_at f) free_page (omega arith) none)

    pub freed_ready : IsReady w₁
    freed_ready = ready_own p w₁ child_gone.ready

    pub freed : (y : Page) (w₂ : List ℕ) → y ≡ removed f.page f.place → w₂ ≡ with_struct w₁ (page_count w₁) f.at y → Wrote p w (child_freed (store_of w).pages f) w₂
    freed y w₂ ey e₂ =
        let es = without g.places f.place in
        let laid : y ≡ laid_page (with_places g es) = ey ∙ ap (λ g. removed g f.place) f.laid.laid ∙ laid_removed g few f.place inside in
        let fewer : length es ≤ 8 = omega (arith, without-length g.places f.place inside, few) in
        let second : Wrote p w₁ (put_page (store_of w₁).pages f.at (with_places g es)) w₂ =
        rw (e₂, laid, child_gone.ready.counted) (page-put p w₁ child_gone.ready f.at (with_places g es) fewer (all_without g.places f.place (parent_laid f).proper)) in
        wrote_then child_gone (rw (wrote_pages child_gone) at second)

  pub renewed : (c : PageNo) (x : Entry) (y : Page) (w' : List ℕ) → c ≡ child_at f → x ≡ child_place (store_of w).pages c → y ≡ with_place f.page f.place x → w' ≡ with_struct w p f.at y
      → Wrote p w (child_renewed (store_of w).pages f) w'
  renewed c x y w' ec ex ey e =
      let z = child_place (store_of w).pages (child_at f) in
      let es = set g.places f.place z in
      let laid : y ≡ laid_page (with_places g es) = ey ∙ ap₂ (λ g x. with_place g f.place x) f.laid.laid (rw ec at ex) ∙ laid_set g few f.place z inside in
      rw (e, laid) (page-put p w h f.at (with_places g es) (rw length-set few) (all_set (parent_laid f).proper f.place (child_proper p w h (child_at f))))

-- ---- what waits from there
module _ (p : ℕ) (w : List ℕ) (h : Ready p w) (level : ℕ) (f : Parent) (os : List Orphan) (least : 1 ≤ level) (waits : Waits (level - 1) os)
    (left : Page) (c : PageNo) (named : c ≡ child_at f) (read : left ≡ struct_at w p c) where
  here : contents left ≡ page_at (store_of w).pages (child_at f)
  here = read-contents p w h c left read ∙ ap (page_at (store_of w).pages) named

  many : left.count ≡ length (page_at (store_of w).pages (child_at f)).places
  many = laid_count left (read_laid p w h c left read) ∙ ap (λ (g : Contents). length g.places) here

  still : All (λ o. Placeable level (waiting o)) os
  still = all_map waits.placeable λ z k. record { level_most = omega (arith, k.level_most); proper = k.proper }

  -- its used places, which wait if it is freed
  module _ (used : List Entry) (so : used ≡ (contents left).places) where
    abbrev news : List Orphan
    news = map (at_level level) used

    news_length : length news ≡ left.count
    news_length = length-map used (at_level level) ∙ ap (length {A = Entry}) so ∙ sym (laid_count left (read_laid p w h c left read))

    pub news_room : level ≤ 4 → left.count < 4 → length os + length used ≤ 12
    news_room four m = omega (arith, waits.few, news_length, length-map used (at_level level))

    pub trimmed_out : (w' : List ℕ) (r : List Orphan) → left.count < 4 → Wrote p w (child_freed (store_of w).pages f) w' → r ≡ os ++ news
        → TrimmedTo p w level (trimmed_place level f (so_far w os)) w' r
    trimmed_out w' r m t a =
        let es = (page_at (store_of w).pages (child_at f)).places in
        let its : used ≡ es = so ∙ ap (λ (g : Contents). g.places) here in
        let held : held_by r ≡ held_by os ++ wait_at level es = rw (a, map-append waiting os news, its, map-map) refl in
        let proper : All (λ o. Placeable level (waiting o)) news = rw its (all_mapped _ (all_map (page_proper p w h (child_at f)) λ e k. record { level_most = omega arith; proper = k })) in
        either (λ z. TrimmedTo p w level z w' r) (ltb (length es) 4)
        (λ y. record { pages = t; orphans = held; waits = record { few = omega (arith, ap (length {A = Orphan}) a, length-append os news, news_length, waits.few); placeable = rw a (all_append still proper) } })
        (λ y. absurd (omega (arith, many, ltb-false (length es) 4 y)))

  pub trimmed_stay : (w' : List ℕ) → 4 ≤ left.count → Wrote p w (child_renewed (store_of w).pages f) w'
      → TrimmedTo p w level (trimmed_place level f (so_far w os)) w' os
  trimmed_stay w' m t =
      let es = (page_at (store_of w).pages (child_at f)).places in
      either (λ z. TrimmedTo p w level z w' os) (ltb (length es) 4)
      (λ y. absurd (omega (arith, many, ltb-true (length es) 4 y)))
      (λ y. record { pages = t; orphans = refl; waits = record { few = omega (arith, waits.few); placeable = still } })

-- ---- down to the leaf
pub at_leaf : (p : ℕ) (w : List ℕ) (depth : ℕ) (at q : PageNo) (mark : Stamp) (w' : List ℕ) (os : List Orphan) → depth ≡ 0 → Wrote p w (trimmed_in w mark 0 at at).pages w' → os ≡ []
    → TrimmedTo p w depth (trimmed_in w mark depth at q) w' os
unfolding trimmed_below
at_leaf p w depth at q mark w' os z t n =
    rw z (record { pages = t; orphans = rw n; waits = record { few = rw n (omega arith); placeable = rw n none } })

module _ (p : ℕ) (w : List ℕ) (h : Readable p w) (depth : ℕ) (at q : PageNo) (deep : depth ≡ 0 → ⊥) (below : LeafBelow w depth at q) (g : Page) (read : g ≡ struct_at w p at) where
  abbrev ps : List Contents
  ps = (store_of w).pages

  abbrev es : List Entry
  es = (page_at ps at).places

  abbrev leads : Entry → Bool
  leads e = leads_to ps depth q (child_of e)

  laid : Laid g
  laid = read_laid p w h.ready at g read

  abbrev its : (g : Contents) → List Entry
  its g = g.places

  used_here : (contents g).places ≡ es
  used_here = ap its (read-contents p w h.ready at g read)

  -- the place that the path goes down by
  leaf_next : (d : ℕ) → LeafBelow w (suc d) at q
      → let i = first (λ e. leads_to ps (suc d) q (child_of e)) es in (i < length es) × LeafBelow w d (child_of (get_or es i no_place)) q
  unfolding path_to
  leaf_next d f = (f.path.0, record { path = f.path.1 })

  next : (first leads es < length es) × LeafBelow w (depth - 1) (child_of (get_or es (first leads es) no_place)) q
  next = let s : depth ≡ suc (depth - 1) = omega arith in rw (← s) at (leaf_next (depth - 1) (rw s at below))

  pub way_some : (o : Option ℕ) → o ≡ way ps depth q (contents g).places → IsSome o
  way_some o e = rw (e, used_here) (some_found leads es next.0)

  module _ (o : Option ℕ) (i : ℕ) (found : o ≡ way ps depth q (contents g).places) (is : o ≡ Some i) where
    by_path : i ≡ first leads es
    by_path = place_found leads es i (rw used_here at (sym found ∙ is))

    pub way_used : i < g.count
    way_used = omega (arith, by_path, next.0, laid_count g laid, ap (length {A = Entry}) used_here)

    module _ (f : Parent) (its_number : f.at ≡ at) (its_page : f.page ≡ g) (its_place : f.place ≡ i) where
      there : get_or f.page.places f.place no_place ≡ get_or es (first leads es) no_place
      there = rw (its_page, its_place) (laid_at g laid i ∙ rw (used_here, by_path) refl)

      pub leaf_further : (c : PageNo) → c ≡ child_at f → LeafBelow w (depth - 1) c q
      leaf_further c e = rw (e, there) next.1

      one_up : (mark : Stamp) (d : ℕ) → depth ≡ suc d → trimmed_in w mark depth at q ≡ trimmed_place depth f (trimmed_in w mark d (child_at f) q)
      unfolding trimmed_below path_to
      one_up mark d s = rw (there, its_number, its_page, its_place, read-contents p w h.ready at g read, by_path, s)

      pub trimmed_deeper : (c : PageNo) (mark : Stamp) (w₁ : List ℕ) (o₁ : List Orphan) (w₂ : List ℕ) (o₂ : List Orphan) → c ≡ child_at f
          → TrimmedTo p w (depth - 1) (trimmed_in w mark (depth - 1) c q) w₁ o₁ → TrimmedTo (page_count w₁) w₁ depth (trimmed_place depth f (so_far w₁ o₁)) w₂ o₂
          → TrimmedTo p w depth (trimmed_in w mark depth at q) w₂ o₂
      trimmed_deeper c mark w₁ o₁ w₂ o₂ named one two =
          let t = trimmed_in w mark (depth - 1) (child_at f) q in
          let first : TrimmedTo p w (depth - 1) t w₁ o₁ = rw named at one in
          let came : so_far w₁ o₁ ≡ t = λ j. record { pages = wrote_pages first.pages j; orphans = first.orphans j } in
          let both : TrimmedTo p w₁ depth (trimmed_place depth f t) w₂ o₂ = subst (λ r. TrimmedTo p w₁ depth (trimmed_place depth f r) w₂ o₂) came (rw one.pages.ready.counted at two) in
          rw (one_up mark (depth - 1) (omega arith)) (record { pages = wrote_then first.pages both.pages; orphans = both.orphans; waits = both.waits })
