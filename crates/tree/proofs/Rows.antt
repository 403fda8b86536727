-- Places as rows, turn by turn: the nine of a full page, and a part of them as a page. Assumes nothing.
use Prim.Native.Nat.{ℕ, suc, ◌+◌, ◌≤◌, ◌<◌}
use native.Mathlib.Omega.{arith}
use native.Mathlib.Numerals.{add-one}
use mathlib.Core.Path.{◌≡◌, refl, ◌∙◌}
use mathlib.Core.List.{List, [], ◌++◌, map, append_assoc}
use lib.ListN.{length, take, drop, get_or, set, length-map}
use Rattle.std.proofs.lemmas.List.{map_more}
use lib.Seq.{drop-cons, set_at, length-take-le}
use Rattle.rules.specs.declared.Entry.{Entry}
use Rattle.rules.specs.declared.Stamp.{Stamp}
use Rattle.rules.specs.Store.{free_page, place_words, place_of}
use Rattle.page.specs.declared.Page.{Page}
use Rattle.page.specs.Struct.{laid_page, added}
use Rattle.page.specs.Laws.{laid_added}
use Rattle.tree.specs.Putting.{page_with}

-- ---- the nine
pub nine_turn : (es : List Entry) (rows₀ rows : List (List ℕ)) (i : ℕ) (row : List ℕ) (d : Entry) → rows ≡ map place_words (take i es) ++ drop i rows₀ → i < length es → length es < length rows₀
    → row ≡ place_words (get_or es i d) → set rows i row ≡ map place_words (take (i + 1) es) ++ drop (i + 1) rows₀
nine_turn es rows₀ rows i row d so_far n m r =
    let k : length (map place_words (take i es)) ≡ i = rw (length-map, length-take-le i es (omega arith)) in
    rw (so_far, drop-cons rows₀ i row (omega arith), set_at (map place_words (take i es)) _ (drop (suc i) rows₀) row i k, map_more place_words es i d n, append_assoc, add-one i, r)

-- ---- a part of them
module _ (rows : List (List ℕ)) (kind : ℕ) (mark : Stamp) where
  pub part_start : (g : Page) → g ≡ laid_page free_page
      → record { kind = kind; count = g.count; mark = mark; places = g.places } ≡ laid_page (page_with kind mark [])
  unfolding laid_page
  part_start g e = rw e

  pub part_turn : (i : ℕ) (d : List ℕ) → length rows ≤ 8 → i < length rows → laid_page (page_with kind mark (take (i + 1) rows)) ≡ added (laid_page (page_with kind mark (take i rows))) (place_of (get_or rows i d))
  part_turn i d n k =
      let l : length (map place_of (take i rows)) ≡ i = length-map (take i rows) place_of ∙ length-take-le i rows (omega arith) in
      rw (laid_added (page_with kind mark (take i rows)) (omega arith) (place_of (get_or rows i d)) (omega arith), map_more place_of rows i d k) refl
