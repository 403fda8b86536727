-- The pass over the pages of a store: their marks, and the entries in them.
use Rattle.std.proofs.Common.{◌≡◌, ℕ, ◌+◌, ◌≤◌, ◌<◌, Bool, true, false, ◌&&◌, List, length, get_or, take, drop, refl, sym, ◌∙◌, ap, ap₂, arith, true≢false}
use Rattle.std.proofs.Math.ListN.{drop_of_length-le, length-replicate, get_or-replicate}
use Rattle.std.proofs.lemmas.List.{drop_more, take_all}
use mathlib.Core.List.{flat_map}
use Rattle.rules.specs.declared.Entry.{Entry}
use Rattle.rules.specs.declared.Stamp.{Stamp}
use Rattle.rules.specs.Lists.{keep, every, count}
use Rattle.rules.specs.Store.{Page, Store, stamp, page_no, free_page, no_place, page_at, pages_of, store_of}
use Rattle.rules.specs.laws.All.{all_at}
use Rattle.memo.specs.Slots.{slots_in}
use Rattle.page.specs.declared.Page.{Page as Struct}
use Rattle.page.specs.Struct.{struct_at, laid_page, contents}
use Rattle.page.specs.Laws.{laid_contents, struct_there, contents_at, pages_length}
use Rattle.theorems.specs.Leaves.{MarkedEntry, with_mark, marked}
use Rattle.entries.specs.declared.Noted.{Noted}
use Rattle.entries.specs.Given.{given_fits}
use Rattle.entries.specs.Passes.{counters, counted, mark_fine}
use Rattle.entries.specs.State.{Known, Passing, Before, Fresh, Gathered, Tried, OneMore, Room}
use Rattle.entries.proofs.Gather.{room_here, gathered_more, passed, passed_other, passed_all, passed_few, passed_more, one_fails}

-- page i of the store
abbrev page : List ℕ → ℕ → Page
page w i = get_or (store_of w).pages i free_page

all_tried : {s : Store} {ks : List MarkedEntry} {noted : Noted} → Gathered s ks noted → Tried s ks true noted
all_tried G = record { gathered = λ q. G; broken = λ q. absurd (true≢false q) }

-- the number of pages and the next stamp, read off the header
pub pages_read : (w : List ℕ) (p : ℕ) → p ≡ get_or w 5 0 → p ≡ length (store_of w).pages
unfolding store_of
pages_read w p e = e ∙ sym (pages_length w (get_or w 5 0))

pub next_read : (w : List ℕ) (next : Stamp) → next ≡ stamp (get_or w 1 0) → next ≡ (store_of w).next
unfolding store_of
next_read w next e = e

module _ {w m : List ℕ} (P : Passing w m) {i : ℕ} (h : i < length (store_of w).pages) {p : ℕ} (counted : p ≡ get_or w 5 0) {g : Struct} (e : g ≡ struct_at w p (page_no i)) where
  its : g ≡ laid_page (page w i)
  unfolding page_at
  its =
      let T = P.trusted in
      e ∙ ap₂ (λ w p. struct_at w p (page_no i)) (sym T.tidy) (pages_read w p counted)
      ∙ struct_there (store_of w) (given_fits _ T.given).pages_fit (page_no i)

  fits : length (page w i).places ≤ 8
  fits = all_at (given_fits _ P.trusted.given).pages_fit i free_page h

  pub page_skipped : {noted : Noted} → Before w i noted → (g.kind ≡ 1 → ⊥) → Tried (store_of w) (marked (take (i + 1) (store_of w).pages)) true noted
  unfolding laid_page
  page_skipped B d = all_tried (rw (passed_other (store_of w).pages i h (λ k. d (ap (λ g. g.kind) its ∙ k))) at B)

  leaf : g.kind ≡ 1 → (page w i).kind ≡ 1
  unfolding laid_page
  leaf k = sym (ap (λ g. g.kind) its) ∙ k

  module _ (kind : g.kind ≡ 1) {used : List Entry} (so : used ≡ (contents g).places) where
    same : used ≡ (page w i).places
    same = so ∙ ap (λ (c : Page). c.places) (ap contents its ∙ laid_contents (page w i) fits)

    module _ {noted : Noted} {j : ℕ} (G : Gathered (store_of w) (passed (store_of w).pages i j) noted) where
      pub page_done : length used ≤ j → Tried (store_of w) (marked (take (i + 1) (store_of w).pages)) true noted
      page_done k = all_tried (rw (passed_all (store_of w).pages i h (leaf kind) j (rw same at k)) at G)

      module _ (inside : j < length used) where
        short : j < length (page w i).places
        short = rw same at inside

        pub entry_room : Room noted
        entry_room = room_here G (omega (arith, P.few, passed_few (store_of w).pages i h (leaf kind) j short))

        module _ {next : Stamp} (now : next ≡ stamp (get_or w 1 0)) {fine : Bool} {new : Noted} (o : OneMore next (slots_in m) (with_mark g.mark (get_or used j no_place)) noted fine new) where
          one : OneMore (store_of w).next (store_of w).memo (with_mark (page w i).mark (get_or (page w i).places j no_place)) noted fine new
          unfolding laid_page
          one = let its_mark : g.mark ≡ (page w i).mark = ap (λ g. g.mark) its in rw (next_read w next now, P.memo_is, its_mark, same) at o

          pub entry_broken : fine ≡ false → Tried (store_of w) (marked (take (i + 1) (store_of w).pages)) false new
          entry_broken f =
              record {
                gathered = λ (q : false ≡ true). absurd (true≢false (sym q));
                broken = λ q. one_fails (store_of w).pages i h (leaf kind) _ j short (sym one.sound ∙ f);
              }

          pub entry_passed : fine ≡ true → Gathered (store_of w) (passed (store_of w).pages i (j + 1)) new
          entry_passed f = rw (passed_more (store_of w).pages i h j short) (gathered_more G (rw f at one))

-- ---- all pages
pub none_gathered : (w : List ℕ) {noted : Noted} → Fresh noted → Before w 0 noted
unfolding marked keep flat_map counted count
none_gathered w F =
    record {
      fine = refl;
      stamps_so_far = F.no_stamps;
      keys_so_far = F.no_keys;
      counts_long = ap length F.zeros ∙ length-replicate {A = ℕ} counters 0;
      counts_so_far = λ i h. ap (λ c. get_or c i 0) F.zeros ∙ get_or-replicate counters i 0 0 h;
    }

pub all_passed : (w : List ℕ) {p : ℕ} → p ≡ get_or w 5 0 → {i : ℕ} → p ≤ i → {noted : Noted} → Before w i noted → Tried (store_of w) (marked (store_of w).pages) true noted
all_passed w {p} counted {i} h B = all_tried (rw (take_all i (store_of w).pages (omega (arith, pages_read w p counted))) at B)

-- ---- the marks
module _ (w : List ℕ) (p : ℕ) (next : Stamp) (K : Known w p next) where
  pub pages_are : pages_of p (drop 16 w) ≡ (store_of w).pages
  unfolding store_of
  pages_are = ap (λ n. pages_of n (drop 16 w)) (K.pages_many ∙ pages_length w (get_or w 5 0))

  module _ (i : ℕ) (so_far : every (mark_fine next) (store_of w).pages ≡ every (mark_fine next) (drop i (store_of w).pages)) where
    module _ (h : i < p) (g : Struct) (e : g ≡ struct_at w p (page_no i)) (r : Bool) (tested : r ≡ mark_fine next (contents g)) where
      tested_one : every (mark_fine next) (store_of w).pages ≡ (r && every (mark_fine next) (drop (i + 1) (store_of w).pages))
      unfolding page_at
      tested_one =
          let here : contents g ≡ page w i = ap contents e ∙ contents_at w p (page_no i) ∙ ap (λ ps. get_or ps i free_page) pages_are in
          so_far ∙ rw (drop_more (store_of w).pages i free_page (omega (arith, K.pages_many)), tested, here) refl

      pub mark_broken : r ≡ false → false ≡ every (mark_fine next) (store_of w).pages
      mark_broken f = sym (rw f at tested_one)

      pub mark_passed : r ≡ true → every (mark_fine next) (store_of w).pages ≡ every (mark_fine next) (drop (i + 1) (store_of w).pages)
      mark_passed t = rw t at tested_one

    pub marks_passed : p ≤ i → true ≡ every (mark_fine next) (store_of w).pages
    marks_passed h = sym (so_far ∙ rw (drop_of_length-le (store_of w).pages {i = i} (omega (arith, K.pages_many))) refl)
