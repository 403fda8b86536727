-- What a leaf keeps and what it loses: the places of a page that pass a test, place by place. Assumes nothing.
use Rattle.std.proofs.Common.{ℕ, ◌+◌, ◌≤◌, ◌<◌, ◌≡◌, ◌∙◌, sym, ap, arith, Bool, true, false, List, [], ◌∷◌, length, get_or, take, append-nil}
use Rattle.std.proofs.lemmas.List.{take_more, take_all, length-take-le}
use Rattle.rules.specs.declared.PageNo.{PageNo}
use Rattle.rules.specs.declared.Entry.{Entry}
use Rattle.rules.specs.declared.Stamp.{Stamp}
use Rattle.rules.specs.Lists.{keep}
use Rattle.rules.specs.Store.{Page as Contents, free_page, store_of}
use Rattle.rules.specs.Tree.{with_places}
use Rattle.rules.specs.laws.Kept.{keep_yes, keep_no, keep_append, keep_fewer}
use Rattle.page.specs.declared.Page.{Page}
use Rattle.page.specs.Struct.{contents, laid_page, struct_at, added}
use Rattle.page.specs.Laws.{laid_added}
use Rattle.tree.specs.Putting.{page_count, Laid}
use Rattle.tree.specs.Laws.{laid_few, read_laid, read-contents}
use Rattle.trim.specs.Trimming.{IsReadable, page_kept}

-- ---- of these places those that pass, in a page of this kind and mark
abbrev pub kept_first : ℕ → Stamp → (Entry → Bool) → List Entry → Contents
kept_first kind mark test es = record { kind = kind; mark = mark; places = keep test es }

pub kept_start : (kind : ℕ) (mark : Stamp) (test : Entry → Bool) (r : Page) → r ≡ laid_page free_page
    → record { kind = kind; count = r.count; mark = mark; places = r.places } ≡ laid_page (kept_first kind mark test [])
unfolding laid_page keep
kept_start kind mark test r e = rw e

module _ (kind : ℕ) (mark : Stamp) (test : Entry → Bool) (es : List Entry) (few : length es ≤ 8) (i : ℕ) (d : Entry) (inside : i < length es) (r : Page) (so_far : r ≡ laid_page (kept_first kind mark test (take i es)))
    (b : Bool) (tested : b ≡ test (get_or es i d)) where
  pub kept_more : (y r' : Page) → b ≡ true → y ≡ added r (get_or es i d) → r' ≡ y → r' ≡ laid_page (kept_first kind mark test (take (i + 1) es))
  unfolding keep
  kept_more y r' t a z =
      let e = get_or es i d in
      let n : length (take i es) ≡ i = length-take-le i es (omega arith) in
      let some : length (keep test (take i es)) < 8 = omega (arith, keep_fewer test (take i es)) in
      z ∙ a ∙ ap (λ g. added g e) so_far ∙ laid_added (kept_first kind mark test (take i es)) (omega arith) e some
      ∙ rw (take_more es i d inside, keep_append test (take i es) (e ∷ []), keep_yes test e [] (sym tested ∙ t))

  pub kept_same : (r' : Page) → b ≡ false → r' ≡ r → r' ≡ laid_page (kept_first kind mark test (take (i + 1) es))
  unfolding keep
  kept_same r' f z =
      z ∙ so_far ∙ rw (take_more es i d inside, keep_append test (take i es) (get_or es i d ∷ []), keep_no test (get_or es i d) [] (sym tested ∙ f), append-nil)

module _ (w : List ℕ) (h : IsReadable w) (at : PageNo) (g : Page) (read : g ≡ struct_at w (page_count w) at) where
  laid : Laid g
  laid = read_laid _ w h.ready at g read

  module _ (used : List Entry) (so : used ≡ (contents g).places) where
    pub used_few : length used ≤ 8
    used_few = rw so (laid_few g laid)

    pub kept_all : (test : Entry → Bool) (r : Page) (i : ℕ) → r ≡ laid_page (kept_first g.kind g.mark test (take i used)) → length used ≤ i
        → r ≡ laid_page (page_kept test (store_of w) at)
    unfolding contents
    kept_all test r i e k =
        e ∙ rw (take_all i used k, so)
        (ap (λ (c : Contents). laid_page (with_places c (keep test c.places))) (read-contents _ w h.ready at g read))
