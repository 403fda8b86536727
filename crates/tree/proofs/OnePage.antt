-- A page that gets one place more: with room, and split. Assumes nothing.
use Prim.Native.Nat.{ℕ, ◌+◌, ◌-◌, ◌≤◌, ◌<◌, min}
use native.Mathlib.Omega.{arith}
use mathlib.Core.Path.{◌≡◌, refl, sym, ap, ◌∙◌}
use mathlib.Core.List.Permᴰ
use mathlib.Core.List.{List, [], ◌∷◌, ◌++◌, map}
use lib.Dec.{leb}
use lib.ListN.{length, take, drop, length-append, length-map, length-drop, take-append-drop}
use lib.Seq.{take_all, length-take-le}
use borrow.Author.Tests.{leb-true, leb-false}
use Rattle.rules.specs.declared.PageNo.{PageNo}
use Rattle.rules.specs.declared.Entry.{Entry}
use Rattle.rules.specs.declared.Stamp.{Stamp}
use Rattle.rules.specs.Store.{put_page, place_words, place_of, box_of, store_of}
use Rattle.rules.specs.Tree.{its_box, with_places, split, lowest_free, settled}
use Rattle.rules.specs.Views.{ProperBox}
use Rattle.rules.specs.laws.Tests.{either}
use Rattle.rules.specs.laws.All.{none, more, all_append, all_back, all_mapped, all_take, map_back, always}
use Rattle.rules.specs.laws.Order.{all_reordered}
use Rattle.rules.specs.laws.Words.{place_read}
use Rattle.rules.specs.laws.Split.{split_parted, places_first, places_second, places_proper}
use Rattle.page.specs.declared.Page.{Page}
use Rattle.page.specs.Struct.{contents, laid_page, with_struct, added}
use Rattle.page.specs.Laws.{laid_added}
use Rattle.split.specs.Split.{Proper, Parts}
use Rattle.std.specs.Prelude.{Some, None}
use Rattle.tree.specs.Putting.{ProperPlaces, Ready, page_count, IsReady, Laid, Wrote, InTwo, Put, settled_in, page_with}
use Rattle.tree.specs.Laws.{laid_few, laid_count, laid_length, ready_own, page-put, wrote_then, wrote_pages}

-- ---- two pages, one after the other
row_places : (rows : List (List ℕ)) → Proper rows → ProperPlaces (map place_of rows)
unfolding place_of
row_places rows a = all_mapped place_of a

module _ (w : List ℕ) (h : IsReady w) (at : PageNo) (kind : ℕ) (mark : Stamp) (rows : List (List ℕ)) (long : length rows ≡ 9) (n : ℕ) (least : 1 ≤ n) (most : n ≤ 8) (a : Proper rows)
    (x : Page) (w₁ : List ℕ) (ex : x ≡ laid_page (page_with kind mark (take n rows))) (e₁ : w₁ ≡ with_struct w (page_count w) at x) where
  first_put : Wrote (page_count w) w (put_page (store_of w).pages at (page_with kind mark (take n rows))) w₁
  first_put = rw (e₁, ex) (page-put (page_count w) w h at (page_with kind mark (take n rows)) (rw (length-map, length-take-le n rows (omega arith)) most) (row_places (take n rows) (all_take a n)))

  pub first_ready : IsReady w₁
  first_ready = ready_own (page_count w) w₁ first_put.ready

  pub both_put : (q : PageNo) (y : Page) (w₂ : List ℕ) → q ≡ lowest_free (store_of w).pages → y ≡ laid_page (page_with kind mark (take (9 - n) (drop n rows))) → w₂ ≡ with_struct w₁ (page_count w₁) q y
      → InTwo (page_count w) w at (page_with kind mark (take n rows)) (page_with kind mark (drop n rows)) w₂ q
  both_put q y w₂ free ey e₂ =
      let whole : take (9 - n) (drop n rows) ≡ drop n rows = take_all (9 - n) (drop n rows) (rw (length-drop, long) (omega arith)) in
      let few : length (map place_of (drop n rows)) ≤ 8 = rw (length-map, length-drop) (omega arith) in
      let back : ProperPlaces (map place_of (drop n rows)) = row_places (drop n rows) (all_back (take n rows) _ (rw (take-append-drop n rows) a)) in
      let second : Wrote (page_count w) w₁ (put_page (store_of w₁).pages q (page_with kind mark (drop n rows))) w₂ =
      rw (e₂, ey, whole, first_put.ready.counted) (page-put (page_count w) w₁ first_put.ready q (page_with kind mark (drop n rows)) few back) in
      record { pages = wrote_then first_put (rw (wrote_pages first_put) at second); free = free }

module _ (p : ℕ) (w : List ℕ) (h : Ready p w) (at : PageNo) (g : Page) (l : Laid g) (e : Entry) (b : ProperBox e.bounds) where
  abbrev es : List Entry
  es = (contents g).places ++ (e ∷ [])

  es_length : length es ≡ g.count + 1
  es_length = length-append (contents g).places (e ∷ []) ∙ ap (λ n. n + 1) (sym (laid_count g l))

  es_proper : ProperPlaces es
  es_proper = all_append l.proper (more b none)

  pub settle_whole : (x : Page) (w' : List ℕ) → g.count < 8 → x ≡ added g e → w' ≡ with_struct w p at x → Put p w (settled_in w at g e) w' None
  unfolding settled
  settle_whole x w' k q y =
      let n = laid_count g l in
      let laid : x ≡ laid_page (with_places (contents g) es) = q ∙ ap (λ g. added g e) l.laid ∙ laid_added (contents g) (laid_few g l) e (omega arith) in
      either (λ r. Put p w r w' None) (leb (length es) 8)
      (λ t. record { pages = rw (y, laid) (page-put p w h at (with_places (contents g) es) (omega (arith, es_length)) es_proper); answers = refl })
      (λ f. absurd (omega (arith, es_length, leb-false (length es) 8 f)))

  -- ---- nine
  module _ (full : 8 ≤ g.count) (rows : List (List ℕ)) (nine : rows ≡ map place_words (g.places ++ (e ∷ []))) where
    eight-used : (contents g).places ≡ g.places
    unfolding contents
    eight-used = take_all (min 8 g.count) g.places (omega (arith, laid_length g l))

    rows_back : map place_of rows ≡ es
    rows_back = rw (nine, eight-used) (map_back place_of place_words (always place_read (g.places ++ (e ∷ []))))

    pub nine_proper : Proper rows
    nine_proper = places_proper rows (rw rows_back es_proper)

    rows_length : length rows ≡ 9
    rows_length = sym (length-map rows place_of) ∙ ap length rows_back ∙ omega (arith, es_length, laid_count g l, laid_few g l)

    module _ (n : ℕ) (out : List (List ℕ)) (long : length out ≡ 9) (parts : Parts rows n out) where
      pub parts_proper : Proper out
      parts_proper =
          let a : Proper ((split box_of rows).first ++ (split box_of rows).second) = all_reordered (Permᴰ.symm (split_parted box_of rows rows_length).order) nine_proper in
          rw (parts.front, parts.back, take-append-drop n out) at a

      first_part : map place_of (take n out) ≡ (split its_box es).first
      first_part = rw (← parts.front, ← places_first rows, rows_back)

      second_part : map place_of (drop n out) ≡ (split its_box es).second
      second_part = rw (← parts.back, ← places_second rows, rows_back)

      pub settle_parted : (w' : List ℕ) (q : PageNo) → InTwo p w at (page_with g.kind g.mark (take n out)) (page_with g.kind g.mark (drop n out)) w' q
          → Put p w (settled_in w at g e) w' (Some q)
      unfolding settled contents
      settle_parted w' q t =
          either (λ r. Put p w r w' (Some q)) (leb (length es) 8)
          (λ y. absurd (omega (arith, es_length, leb-true (length es) 8 y)))
          (λ y. rw (← t.free, ← first_part, ← second_part) (record { pages = t.pages; answers = refl }))
