-- What is read from the words of a store that can be searched: its pages, its memo, and whether a query lists an entry.
use Rattle.std.proofs.Common.{◌≡◌, ℕ, ◌+◌, ◌*◌, ◌≤◌, ◌<◌, Bool, true, false, List, length, get_or, sym, ◌∙◌, ap, arith}
use Rattle.std.proofs.Math.Bool.{and-true, and-false}
use Rattle.rules.specs.declared.PageNo.{PageNo}
use Rattle.rules.specs.declared.Window.{Window}
use Rattle.rules.specs.declared.Entry.{Entry}
use Rattle.rules.specs.Boxes.{meets}
use Rattle.rules.specs.Store.{Page as Contents, page_at, memo_words, store_of}
use Rattle.rules.specs.Memo.{is_latest}
use Rattle.rules.specs.laws.Placed.{Placed, header_long, pages_count, pages_room}
use Rattle.page.specs.declared.Page.{Page}
use Rattle.page.specs.Struct.{contents, laid_page, struct_at}
use Rattle.page.specs.Laws.{laid_contents, struct_there}
use Rattle.memo.specs.Slots.{slots_in, HoldsMemo}
use Rattle.memo.specs.Laws.{so_latest}
use Rattle.query.specs.Keys.{hit, Searchable, searchable_placed}
use Rattle.query.specs.Descent.{page_holds, page_inside}

module _ (v : List ℕ) (h : Searchable v) where
  placed : Placed v
  placed = searchable_placed v h

  pub places_fit : (at : PageNo) → length (page_at (store_of v).pages at).places ≤ 8
  places_fit = page_holds placed.fits.pages_fit (omega arith)

  pub header_room : 16 ≤ length v
  header_room = header_long v placed

  module _ (p : ℕ) (there : p ≡ get_or v 5 0) where
    pub page_room : 16 + 52 * p ≤ length v
    page_room = pages_room v placed p there

    pub page_laid : (at : PageNo) (g : Page) → g ≡ struct_at v p at → g ≡ laid_page (page_at (store_of v).pages at)
    page_laid at g e =
        e ∙ ap (λ n. struct_at v n at) (there ∙ pages_count v placed) ∙ rw h.written at (struct_there (store_of v) placed.fits.pages_fit at)

  -- its used places are the page's
  module _ (at : PageNo) (g : Page) (laid : g ≡ laid_page (page_at (store_of v).pages at)) (used : List Entry) (so : used ≡ (contents g).places) where
    pub used_places : used ≡ (page_at (store_of v).pages at).places
    used_places = so ∙ ap (λ (c : Contents). c.places) (ap contents laid ∙ laid_contents _ (places_fit at))

    -- a page that has one is among the store's, and has at most eight
    pub place_inside : (i : ℕ) → i < length used → (at.0 < 192) × (i < 8)
    place_inside i k =
        let there : i < length (page_at (store_of v).pages at).places = rw used_places at k in
        (omega (arith, page_inside (store_of v).pages at i there, h.ranges.sizes.pages_most), omega (arith, places_fit at))

  -- ---- the memo
  pub memo_held : HoldsMemo v
  memo_held =
      record {
        written = h.written;
        fits = placed.fits;
        pages_most = h.ranges.sizes.pages_most;
        slots_most = h.ranges.sizes.slots_most;
        memo = h.ranges.memo;
      }

  module _ (m : List ℕ) (part : m ≡ memo_words (store_of v).slots (store_of v).memo) where
    pub hit_latest : (e : Entry) (w : Window) (b r : Bool) → b ≡ meets e.bounds w → b ≡ true
        → r ≡ is_latest (slots_in m) e → r ≡ hit (store_of v).memo w e
    unfolding hit
    hit_latest e w b r y t q =
        so_latest _ _ h.ranges.memo m part e r q ∙ sym (rw (sym y ∙ t) (and-true (is_latest (store_of v).memo e)))

-- ---- an entry whose box doesn't meet the window isn't listed
pub no_hit : (v : List ℕ) (e : Entry) (w : Window) (b : Bool) → b ≡ meets e.bounds w → b ≡ false → false ≡ hit (store_of v).memo w e
unfolding hit
no_hit v e w b m f = rw (sym m ∙ f) (sym (and-false (is_latest (store_of v).memo e)))
