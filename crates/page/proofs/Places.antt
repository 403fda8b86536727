-- What is done to a page's places, from what the code's steps came to.
use Rattle.std.proofs.Common.{◌≡◌, min, max, List, [], ◌∷◌, length, refl, sym, ap, ◌∙◌, arith}
use Rattle.std.specs.List.{fold}
use Rattle.rules.specs.declared.Box.{Box}
use Rattle.rules.specs.declared.Entry.{Entry}
use Rattle.rules.specs.Boxes.{cover, cover_of, no_box}
use Rattle.rules.specs.Tree.{its_box}
use Rattle.rules.specs.laws.Lists.{length-zero}
use Rattle.page.specs.declared.Page.{Page}
use Rattle.page.specs.Struct.{contents}

-- ---- the cover of places, from the first to the last
abbrev pub with_box : Box → Entry → Box
with_box b e = cover b e.bounds

cover_assoc : (a b c : Box) → cover (cover a b) c ≡ cover a (cover b c)
unfolding cover
cover_assoc a b c =
    let x0 : min (min a.x0 b.x0) c.x0 ≡ min a.x0 (min b.x0 c.x0) = omega arith in
    let y0 : min (min a.y0 b.y0) c.y0 ≡ min a.y0 (min b.y0 c.y0) = omega arith in
    let x1 : max (max a.x1 b.x1) c.x1 ≡ max a.x1 (max b.x1 c.x1) = omega arith in
    let y1 : max (max a.y1 b.y1) c.y1 ≡ max a.y1 (max b.y1 c.y1) = omega arith in
    cc

fold_cover : (a b : Box) (es : List Entry) → fold with_box (cover a b) es ≡ cover a (fold with_box b es)
fold_cover a b [] = refl
fold_cover a b (e ∷ es) = ap (λ r. fold with_box r es) (cover_assoc a b e.bounds) ∙ fold_cover a (cover b e.bounds) es

fold_covers : (e : Entry) (es : List Entry) → fold with_box e.bounds es ≡ cover_of its_box (e ∷ es)
unfolding cover_of
fold_covers e [] = refl
fold_covers e (f ∷ es) = fold_cover e.bounds f.bounds es ∙ ap (cover e.bounds) (fold_covers f es)

module _ (g : Page) (used : List Entry) (so : used ≡ (contents g).places) where
  pub none_covered : (b : Box) → length used ≡ 0 → b ≡ no_box → b ≡ cover_of its_box (contents g).places
  unfolding cover_of
  none_covered b z e = rw (← so, length-zero _ z) e

  pub some_covered : (e : Entry) (es : List Entry) (b : Box) → used ≡ e ∷ es → b ≡ fold with_box e.bounds es → b ≡ cover_of its_box (contents g).places
  some_covered e es b there f = f ∙ fold_covers e es ∙ ap (cover_of its_box) (sym there ∙ so)
