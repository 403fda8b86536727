-- A page once its child has been written, and the way down to it. Assumes nothing.
use Prim.Native.Nat.{ℕ, zero, suc, ◌-◌, ◌≤◌, ◌<◌}
use native.Mathlib.Omega.{arith}
use mathlib.Core.Path.{◌≡◌, refl, sym, ap, ◌∙◌}
use mathlib.Core.List.{List, [], ◌∷◌, ◌++◌}
use lib.Dec.{leb}
use lib.ListN.{length, get_or, set, take, length-set, get_or-eq_default}
use lib.Seq.{set_out}
use borrow.Author.Tests.{leb-false}
use Rattle.rules.specs.declared.Box.{Box}
use Rattle.rules.specs.declared.PageNo.{PageNo}
use Rattle.rules.specs.declared.Entry.{Entry}
use Rattle.rules.specs.Boxes.{cover_of}
use Rattle.rules.specs.Store.{Page as Contents, no_place, page_no, child_of, store_of, stamp}
use Rattle.rules.specs.Tree.{its_box, with_places, choose, child_place, settled, renewed, whole, parted, pages_in, put_below, Written as Result, cover_page}
use Rattle.rules.specs.Views.{ProperBox}
use Rattle.rules.specs.laws.Tests.{either}
use Rattle.rules.specs.laws.All.{all_set}
use Rattle.rules.specs.laws.Split.{choose_lt}
use Rattle.page.specs.declared.Page.{Page}
use Rattle.page.specs.Struct.{contents, laid_page, struct_at, with_struct, with_place}
use Rattle.page.specs.Laws.{laid_contents, laid_set}
use Rattle.split.specs.Split.{Chosen}
use Rattle.std.specs.Prelude.{Option, Some, None, unwrap_or}
use Rattle.tree.specs.Putting.{Ready, page_count, Laid, LaidByTest, Wrote, Put, answer, result, settled_in, renewed_in, picked, child_in, with_entry}
use Rattle.tree.specs.Laws.{laid_few, laid_count, laid_used, laid_at, laid_holds, laid_of, read-contents, child_proper, page-put, wrote_then, wrote_pages}

-- ---- the place picked
-- it is read and set as the one that the rules choose
picked_place : (new : Box) (es : List Entry) → get_or es (unwrap_or (picked new es) (length es)) no_place ≡ get_or es (choose its_box new es) no_place
unfolding choose
picked_place new [] = refl
picked_place new (e ∷ es) = refl

picked_set : (new : Box) (es : List Entry) (x : Entry) → set es (unwrap_or (picked new es) (length es)) x ≡ set es (choose its_box new es) x
unfolding choose
picked_set new [] x = refl
picked_set new (e ∷ es) x = refl

picked_renewed : (new : Box) (es : List Entry) (c : PageNo) (r : Result) → renewed es (unwrap_or (picked new es) (length es)) c r ≡ renewed es (choose its_box new es) c r
unfolding renewed
picked_renewed new es c (whole ps) = picked_set new es _
picked_renewed new es c (parted ps q) = ap (λ l. l ++ (child_place ps q ∷ [])) (picked_set new es _)

-- and is used, or none
used_picked : (new : Box) (es : List Entry) (i : ℕ) → picked new es ≡ Some i → i < length es
used_picked new [] i e = let z : ◌≡◌ {A = ℕ} 0 1 = cc e in absurd (omega arith)
used_picked new (e ∷ es) i h = let same : choose its_box new (e ∷ es) ≡ i = cc h in rw (← same) (choose_lt its_box new (e ∷ es) (omega arith))

pub picked_used : (new : Box) (es : List Entry) (o : Option ℕ) → o ≡ picked new es → (i : ℕ) → o ≡ Some i → i < length es
picked_used new es o e i h = used_picked new es i (sym e ∙ h)

picks : (new : Box) (es : List Entry) → 0 < length es → Some (choose its_box new es) ≡ picked new es
picks new [] h = absurd (omega arith)
picks new (e ∷ es) h = refl

picks_none : (new : Box) (es : List Entry) → length es ≡ 0 → None ≡ picked new es
picks_none new [] h = refl
picks_none new (e ∷ es) h = absurd (omega arith)

module _ (g : Page) (l : Laid g) (new : Box) where
  pub pick_none : g.count ≡ 0 → None ≡ picked new (contents g).places
  pick_none e = picks_none new (contents g).places (omega (arith, laid_count g l))

  pub pick_one : (r : ℕ) → (g.count ≡ 0 → ⊥) → Chosen new (take g.count g.places) g.count r → Some r ≡ picked new (contents g).places
  pick_one r n t = rw (t.chosen, laid_used g l) (picks new (contents g).places (omega (arith, laid_count g l)))

-- the child page there
pub one_child : (g : Page) → LaidByTest g → (i : ℕ) → child_of (get_or g.places i no_place) ≡ child_in (contents g).places (Some i)
one_child g l i = ap child_of (laid_at g (laid_holds g l) i)

pub none_child : (es : List Entry) (i : Option ℕ) → i ≡ None → page_no 0 ≡ child_in es i
none_child es i h = rw (h, get_or-eq_default es no_place {n = length es} (omega arith)) refl

-- ---- another entry in place i
module _ (g : Page) (l : LaidByTest g) (e : Entry) where
  pub one_set : (i : ℕ) → i < length (contents g).places → with_place g i e ≡ laid_page (with_places (contents g) (with_entry (contents g).places (Some i) e))
  one_set i used = ap (λ g. with_place g i e) l.laid ∙ laid_set (contents g) (laid_few g (laid_holds g l)) i e used

  pub none_set : g ≡ laid_page (with_places (contents g) (with_entry (contents g).places None e))
  none_set = rw (set_out (contents g).places (length (contents g).places) e (omega arith)) l.laid

module _ (g : Page) (l : Laid g) (i : Option ℕ) (e : Entry) where
  set_few : length (with_entry (contents g).places i e) ≤ 8
  set_few = rw length-set (laid_few g l)

  module _ (b : ProperBox e.bounds) (y : Page) (q : y ≡ laid_page (with_places (contents g) (with_entry (contents g).places i e))) where
    pub set_laid : Laid y
    set_laid = rw q (laid_of (with_places (contents g) (with_entry (contents g).places i e)) set_few (all_set l.proper (unwrap_or i (length (contents g).places)) b))

    set_contents : contents y ≡ with_places (contents g) (with_entry (contents g).places i e)
    set_contents = rw q (laid_contents (with_places (contents g) (with_entry (contents g).places i e)) set_few)

-- ---- a page's place in its parent
module _ (p : ℕ) (w : List ℕ) (h : Ready p w) (c : PageNo) where
  pub child_made : (g : Page) (b : Box) → g ≡ struct_at w p c → b ≡ cover_of its_box (contents g).places → record { bounds = b; key = c.0; stamp = stamp 0 } ≡ child_place (store_of w).pages c
  unfolding child_place cover_page
  child_made g b e q = rw (q, read-contents p w h c g e)

  pub made_proper : (x : Entry) → x ≡ child_place (store_of w).pages c → ProperBox x.bounds
  made_proper x e = rw e (child_proper p w h c)

-- ---- the page once its child has been written
module _ (p : ℕ) (w : List ℕ) (h : Ready p w) (at : PageNo) (g : Page) (kept : LaidByTest g) (i : Option ℕ) (c : PageNo) (found : c ≡ child_in (contents g).places i) (x : Entry) (made : x ≡ child_place (store_of w).pages c)
    (y : Page) (there : y ≡ laid_page (with_places (contents g) (with_entry (contents g).places i x))) where
  laid : Laid g
  laid = laid_holds g kept

  abbrev es : List Entry
  es = with_entry (contents g).places i x

  x_proper : ProperBox x.bounds
  x_proper = made_proper p w h c x made

  pub renew_laid : Laid y
  renew_laid = set_laid g laid i x x_proper y there

  pub renew_whole : (below : Option PageNo) (w' : List ℕ) → below ≡ None → w' ≡ with_struct w p at y → Put p w (renewed_in w at g i below) w' None
  unfolding settled renewed
  renew_whole below w' e q =
      let few : length es ≤ 8 = set_few g laid i x in
      rw (e, ← found, ← made)
      (either (λ r. Put p w r w' None) (leb (length es) 8)
      (λ t. record { pages = rw (q, there) (page-put p w h at (with_places (contents g) es) few (all_set laid.proper (unwrap_or i (length (contents g).places)) x_proper)); answers = refl })
      (λ f. absurd (omega (arith, few, leb-false (length es) 8 f))))

  pub renew_parted : (below : Option PageNo) (q : PageNo) (z : Entry) (w' : List ℕ) (a : Option PageNo) → below ≡ Some q → z ≡ child_place (store_of w).pages q
      → Put p w (settled_in w at y z) w' a → Put p w (renewed_in w at g i below) w' a
  unfolding settled renewed
  renew_parted below q z w' a e k t = rw (e, ← found, ← made, ← k) (rw (set_contents g laid i x x_proper y there) at t)

-- ---- down to a child
result_back : (r : Result) → result (answer r) (pages_in r) ≡ r
result_back (whole ps) = refl
result_back (parted ps q) = refl

-- what is written after a first writing, from the pages that it left
put_then : {p : ℕ} {w : List ℕ} {ps : List Contents} {w₁ : List ℕ} {r : Result} {w' : List ℕ} {a : Option PageNo} → Wrote p w ps w₁ → Put p w₁ r w' a → Put p w r w' a
put_then one t = record { pages = wrote_then one t.pages; answers = t.answers }

module _ (p : ℕ) (w : List ℕ) (h : Ready p w) (at : PageNo) (e : Entry) (g : Page) (read : g ≡ struct_at w p at) where
  pub below_here : (depth : ℕ) (w' : List ℕ) (a : Option PageNo) → depth ≡ 0 → Put p w (settled_in w at g e) w' a → Put p w (put_below depth (store_of w).pages at e) w' a
  unfolding put_below
  below_here depth w' a z t = rw (z, ← read-contents p w h at g read) t

  module _ (i : Option ℕ) (best : i ≡ picked e.bounds (contents g).places) (c : PageNo) (found : c ≡ child_in (contents g).places i) where
    chosen : c ≡ child_of (get_or (contents g).places (choose its_box e.bounds (contents g).places) no_place)
    chosen = rw (found, best, picked_place e.bounds (contents g).places) refl

    one_up : (r : Result) (w₁ : List ℕ) (a₁ : Option PageNo) (w' : List ℕ) (a : Option PageNo) → Put p w r w₁ a₁ → Put (page_count w₁) w₁ (renewed_in w₁ at g i a₁) w' a
        → Put p w (settled (pages_in r) at (contents g) (renewed (contents g).places (choose its_box e.bounds (contents g).places) c r)) w' a
    one_up r w₁ a₁ w' a one t =
        put_then one.pages (rw (one.pages.ready.counted, wrote_pages one.pages, one.answers, result_back r, ← found, best, picked_renewed e.bounds (contents g).places c r) at t)

    pub below_deeper : (depth : ℕ) (w₁ : List ℕ) (a₁ : Option PageNo) (w' : List ℕ) (a : Option PageNo) → (depth ≡ 0 → ⊥)
        → Put p w (put_below (depth - 1) (store_of w).pages c e) w₁ a₁ → Put (page_count w₁) w₁ (renewed_in w₁ at g i a₁) w' a
        → Put p w (put_below depth (store_of w).pages at e) w' a
    unfolding put_below
    below_deeper zero w₁ a₁ w' a n one t = absurd (n refl)
    below_deeper (suc d) w₁ a₁ w' a n one t =
        let m : suc d - 1 ≡ d = omega arith in
        rw (← read-contents p w h at g read, ← chosen) (one_up _ w₁ a₁ w' a (rw m at one) t)
