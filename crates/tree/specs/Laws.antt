-- Laws of putting in: what is read from words that are ready, and what writing pages leaves.
use Rattle.std.specs.Prelude.{ℕ, ◌+◌, ◌*◌, ◌≤◌, ◌<◌, ◌≡◌, List, [], ◌∷◌, ◌++◌, length, get_or, set, take, drop, min}
use Rattle.std.proofs.Common.{arith, add-one, ◌∙◌, length-set, take-suc}
use Rattle.std.proofs.Math.Path.{refl, sym, ap}
use Rattle.std.proofs.Math.ListN.{length-take}
use Rattle.rules.specs.declared.PageNo.{PageNo}
use Rattle.rules.specs.declared.Entry.{Entry}
use Rattle.rules.specs.Store.{Page as Contents, Store, page_no, free_page, no_place, page_at, put_page, pages_of, store_length, words, store_of}
use Rattle.rules.specs.Tree.{Tree, tree_of, its_box, lowest_free, child_place, cover_page}
use Rattle.rules.specs.Boxes.{proper_box}
use Rattle.rules.specs.Views.{ProperBox, proper_box-holds, proper_box_test}
use Rattle.rules.specs.laws.All.{All, every_holds, every_test, none, all_set, all_anywhere}
use Rattle.rules.specs.laws.Boxes.{cover_of_all_proper}
use Rattle.rules.specs.laws.Words.{Fits, words-length, fits_read}
use Rattle.rules.specs.laws.Parts.{with_pages, with_header, fits_page, root_written, levels_written}
use Rattle.rules.specs.laws.Header.{root_there, levels_there, pages_there}
use Rattle.page.specs.declared.Page.{Page}
use Rattle.page.specs.Struct.{contents, laid_page, struct_at, with_struct}
use Rattle.page.specs.Laws.{laid_contents, laid_places, laid_place, pages_length, struct_there, struct_written}
use Rattle.tree.specs.Putting.{ProperPlaces, Ready, page_count, IsReady, Laid, LaidByTest, Wrote, Grown, with_tree}

-- ---- words and back
pub ready_words : (p : ℕ) (s : Store) → Fits s → length s.pages ≡ p → p ≤ 192 → All (λ g. ProperPlaces g.places) s.pages → Ready p (words s)
ready_words p s f n m a =
    let e = fits_read s f in
    record { written = ap words e; fits = rw e f; counted = rw e n; most = m; proper = rw e a }

-- ---- structs
-- what a struct that is laid out holds
module _ (g : Page) (l : Laid g) where
  pub laid_few : length (contents g).places ≤ 8
  unfolding contents
  laid_few = rw length-take (omega arith)

  pub laid_count : g.count ≡ length (contents g).places
  unfolding laid_page
  laid_count = ap (λ g. g.count) l.laid

  pub laid_most : g.count ≤ 8
  laid_most = omega (arith, laid_count, laid_few)

  -- its used places
  pub laid_used : take g.count g.places ≡ (contents g).places
  unfolding contents
  laid_used = let n : min 8 g.count ≡ g.count = omega (arith, laid_most) in rw n

  pub laid_length : length g.places ≡ 8
  laid_length = ap (λ g. length g.places) l.laid ∙ laid_places (contents g) laid_few

  -- its places, one by one
  pub laid_at : (i : ℕ) → get_or g.places i no_place ≡ get_or (contents g).places i no_place
  laid_at i = ap (λ g. get_or g.places i no_place) l.laid ∙ laid_place (contents g) laid_few i

  pub laid_next : (i : ℕ) (e : Entry) → i < g.count → e ≡ get_or g.places i no_place → take (i + 1) (contents g).places ≡ take i (contents g).places ++ (e ∷ [])
  laid_next i e h q = rw (add-one i, q ∙ laid_at i) (take-suc (contents g).places i no_place (omega (arith, laid_count)))

  pub laid_test : LaidByTest g
  laid_test = record { laid = l.laid; proper = every_test (λ e. proper_box e.bounds) (λ e. proper_box_test e.bounds) l.proper }

pub laid_holds : (g : Page) → LaidByTest g → Laid g
laid_holds g l = record { laid = l.laid; proper = every_holds (λ e. proper_box e.bounds) (contents g).places (λ e. proper_box-holds e.bounds) l.proper }

-- the struct of contents is laid out
pub laid_of : (g : Contents) → length g.places ≤ 8 → ProperPlaces g.places → Laid (laid_page g)
laid_of g f a =
    let e : contents (laid_page g) ≡ g = laid_contents g f in record { laid = sym (ap laid_page e); proper = rw e a }

-- ---- read
module _ (p : ℕ) (w : List ℕ) (h : Ready p w) where
  pub room : 16 + 52 * p ≤ length w
  unfolding store_length
  room = omega (arith, rw h.written at (words-length (store_of w) h.fits), h.counted)

  pub header_room : 16 ≤ length w
  header_room = omega (arith, room)

  pub levels_read : get_or w 3 0 ≡ (store_of w).levels
  levels_read = rw h.written at (levels_there (store_of w))

  pub root_read : page_no (get_or w 2 0) ≡ (store_of w).root
  root_read = rw h.written at (root_there (store_of w))

  pub page_few : (at : PageNo) → length (page_at (store_of w).pages at).places ≤ 8
  unfolding page_at
  page_few at = all_anywhere h.fits.pages_fit at.0 free_page (omega arith)

  pub page_proper : (at : PageNo) → ProperPlaces (page_at (store_of w).pages at).places
  unfolding page_at
  page_proper at = all_anywhere h.proper at.0 free_page none

  pub page-read : (at : PageNo) → struct_at w p at ≡ laid_page (page_at (store_of w).pages at)
  page-read at = rw (h.written, h.counted) at (struct_there (store_of w) h.fits.pages_fit at)

  module _ (at : PageNo) (g : Page) (e : g ≡ struct_at w p at) where
    pub read_laid : Laid g
    read_laid = rw (e ∙ page-read at) (laid_of (page_at (store_of w).pages at) (page_few at) (page_proper at))

    pub read-contents : contents g ≡ page_at (store_of w).pages at
    read-contents = rw (e ∙ page-read at) (laid_contents (page_at (store_of w).pages at) (page_few at))

  pages_count : get_or w 5 0 ≡ p
  unfolding store_of
  pages_count = sym (pages_length w (get_or w 5 0)) ∙ h.counted

  pub free_read : lowest_free (pages_of p (drop 16 w)) ≡ lowest_free (store_of w).pages
  unfolding store_of
  free_read = rw pages_count refl

  pub child_proper : (c : PageNo) → ProperBox (child_place (store_of w).pages c).bounds
  unfolding child_place cover_page
  child_proper c = cover_of_all_proper its_box (page_at (store_of w).pages c).places (page_proper c)

-- p may be read from the words
pub count_read : (w : List ℕ) (n : ℕ) → IsReady w → n ≡ get_or w 5 0 → n ≡ page_count w
count_read w n h e = e ∙ rw h.written at (pages_there (store_of w))

pub ready_count : (w : List ℕ) (n : ℕ) → Ready (length (store_of w).pages) w → n ≡ get_or w 5 0 → Ready n w
ready_count w n h e = rw (count_read w n h e) h

-- and is the number of pages
pub ready_own : (p : ℕ) (w : List ℕ) → Ready p w → IsReady w
ready_own p w h = rw h.counted h

-- ---- written
-- a page is replaced
module _ (p : ℕ) (w : List ℕ) (h : Ready p w) where
  pub page-put : (at : PageNo) (g : Contents) → length g.places ≤ 8 → ProperPlaces g.places
      → Wrote p w (put_page (store_of w).pages at g) (with_struct w p at (laid_page g))
  unfolding put_page
  page-put at g f a =
      let s : Store = with_pages (store_of w) (put_page (store_of w).pages at g) in
      let fit : Fits s = fits_page (store_of w) at g h.fits f in
      let e : with_struct w p at (laid_page g) ≡ words s = rw (h.written, h.counted) at (struct_written (store_of w) h.fits.pages_fit at g f) in
      record {
        wrote = e;
        stored = rw e (fits_read s fit);
        ready = rw e (ready_words p s fit (length-set (store_of w).pages at.0 g ∙ h.counted) h.most (all_set h.proper at.0 a));
      }

-- and once more
pub wrote_then : {p : ℕ} {w : List ℕ} {ps : List Contents} {w' : List ℕ} {ps' : List Contents} {w'' : List ℕ} → Wrote p w ps w' → Wrote p w' ps' w'' → Wrote p w ps' w''
wrote_then {ps' = ps'} a b =
    record {
      wrote = b.wrote ∙ ap (λ s. words (with_pages s ps')) a.stored;
      stored = b.stored ∙ ap (λ s. with_pages s ps') a.stored;
      ready = b.ready;
    }

pub wrote_pages : {p : ℕ} {w : List ℕ} {ps : List Contents} {w' : List ℕ} → Wrote p w ps w' → (store_of w').pages ≡ ps
wrote_pages a = ap (λ s. s.pages) a.stored

-- other pages are written, and then another root and number of levels
pub grown_from : {p : ℕ} {w : List ℕ} {ps : List Contents} {w₁ : List ℕ} → Wrote p w ps w₁ → (root : PageNo) (levels : ℕ) (w' : List ℕ) → w' ≡ set (set w₁ 2 root.0) 3 levels
    → Grown p w (record { root = root; levels = levels; pages = ps }) w'
grown_from {p} {w} {ps} {w₁} t root levels w' e =
    let s : Store = with_pages (store_of w) ps in
    let r : Store = with_header s s.next root s.levels in
    let z : Store = with_header r r.next r.root levels in
    let f : Fits s = rw t.stored at t.ready.fits in
    let fit : Fits z = record { pages_fit = f.pages_fit; memo_fits = f.memo_fits; slots_used = f.slots_used; boards_fit = f.boards_fit } in
    let q : w' ≡ words z = e ∙ rw (t.wrote, ← root_written s root) (sym (levels_written r levels)) in
    record {
      wrote = q;
      stored = rw q (fits_read z fit);
      ready = rw q (ready_words p z fit (rw t.stored at t.ready.counted) t.ready.most (rw t.stored at t.ready.proper));
    }

-- the words of a store with another tree, and again with another
pub grown_then : {p : ℕ} {w : List ℕ} {t : Tree} {w' : List ℕ} {t' : Tree} {w'' : List ℕ} → Grown p w t w' → Grown p w' t' w'' → Grown p w t' w''
grown_then {t' = t'} a b =
    record {
      wrote = b.wrote ∙ ap (λ s. words (with_tree s t')) a.stored;
      stored = b.stored ∙ ap (λ s. with_tree s t') a.stored;
      ready = b.ready;
    }

pub grown_tree : {p : ℕ} {w : List ℕ} {t : Tree} {w' : List ℕ} → Grown p w t w' → tree_of (store_of w') ≡ t
grown_tree a = ap tree_of a.stored

-- only the pages are others
pub wrote_grown : {p : ℕ} {w : List ℕ} {ps : List Contents} {w' : List ℕ} → Wrote p w ps w' → Grown p w (record { root = (store_of w).root; levels = (store_of w).levels; pages = ps }) w'
wrote_grown a = record { wrote = a.wrote; stored = a.stored; ready = a.ready }

-- nothing has changed
pub grown_same : {p : ℕ} {w : List ℕ} → Ready p w → Grown p w (tree_of (store_of w)) w
grown_same h = record { wrote = sym h.written; stored = refl; ready = h }
