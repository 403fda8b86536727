-- Reading and writing a page's words.
use Rattle.std.proofs.Common.{ℕ, ◌≡◌, ◌+◌, ◌-◌, ◌*◌, ◌/◌, ◌≤◌, ◌<◌, List, [], ◌∷◌, ◌++◌, take, drop, length, get_or, map, refl, append-nil, take-add, drop-drop, sym, ap, ◌∙◌, arith}
use Rattle.std.proofs.Math.Seq.{sets, sets-eq}
use Rattle.std.proofs.lemmas.List.{drop_all, map-id, take_all, ext_get_or, length-map}
use Rattle.std.proofs.lemmas.Grind.{common_steps}
use Rattle.std.proofs.lemmas.Slice.{take-put_mid}
use borrow.Author.Tests.{lt-ltb, le-ltb}
use borrow.Rule.Slice.PartMut.{put_mid}
use Rattle.rules.specs.declared.PageNo.{PageNo}
use Rattle.rules.specs.declared.Entry.{Entry}
use Rattle.rules.specs.Lists.{cut}
use Rattle.rules.specs.Store.{free_page, no_place, place_words, place_of}
use Rattle.rules.specs.laws.All.{always}
use Rattle.rules.specs.laws.Words.{place_words-length}
use Rattle.rules.specs.laws.Parts.{one_there}
use Rattle.rules.specs.laws.Places.{parts_at, cut-length, take-cut}
use Rattle.page.specs.declared.Page.{Page}
use Rattle.page.specs.Struct.{struct_words, struct_of, laid_page, struct_at}
use Rattle.page.specs.Laws.{struct_words-length}

-- stores to each place in turn leave what was stored; for the rows that `query` writes
pub stored : (vs l : List ℕ) → length l ≡ length vs → sets l 0 vs ≡ vs
stored vs l e = sets-eq vs l 0 (omega arith) ∙ ap (λ r. vs ++ r) (drop_all (0 + length vs) l (omega arith)) ∙ append-nil vs

-- ---- the pages of a store
pub pages_there : (w : List ℕ) (n p : ℕ) (ps : List (List ℕ)) → 16 + 52 * p ≤ length w → n ≡ length w - 16
    → ps ≡ cut (length (take n (drop 16 w)) / 52) 52 (take n (drop 16 w)) → take p ps ≡ cut p 52 (drop 16 w)
pages_there w n p ps h e q =
    let all : take n (drop 16 w) ≡ drop 16 w = grind (arith, common_steps) in
    let many : p ≤ length (drop 16 w) / 52 = grind (arith, common_steps) in
    ap (take p) q ∙ rw all (take-cut p _ 52 (drop 16 w) many)

part_at : (n size : ℕ) (w : List ℕ) (i : ℕ) (d : List ℕ) → i < n → get_or (cut n size w) i d ≡ take size (drop (size * i) w)
part_at n size w i d h = rw map-id at (parts_at (λ x. x) n size w i d h)

module _ (w : List ℕ) (p : ℕ) (at : PageNo) (ps : List (List ℕ)) (cut_so : ps ≡ cut p 52 (drop 16 w)) where
  as_many : length ps ≡ p
  as_many = ap length cut_so ∙ cut-length p 52 (drop 16 w)

  pub read_past : (g : Page) → length ps ≤ at.0 → g ≡ laid_page free_page → g ≡ struct_at w p at
  unfolding struct_at
  read_past g h e = let n = as_many in rw (le-ltb at.0 p (omega arith)) e

  pub read_inside : (g : Page) (page : List ℕ) → at.0 < length ps → page ≡ get_or ps at.0 page → g ≡ struct_of page → g ≡ struct_at w p at
  unfolding struct_at
  read_inside g page h e q =
      let n = as_many in
      let there : page ≡ take 52 (drop (16 + 52 * at.0) w) = e ∙ rw (cut_so, part_at p 52 (drop 16 w) at.0 page (omega arith), drop-drop (52 * at.0) 16 w) in
      rw (lt-ltb at.0 p (omega arith), ← there) q

-- ---- a page's places
pub places_read : (w : List ℕ) (ps : List Entry) → length ps ≡ 8
    → ((i : ℕ) → i < 8 → get_or ps i no_place ≡ place_of (take (10 + 6 * i - (4 + 6 * i)) (drop (4 + 6 * i) w))) → ps ≡ map place_of (cut 8 6 (drop 4 w))
places_read w ps long each =
    ext_get_or no_place ps (map place_of (cut 8 6 (drop 4 w))) (omega (arith, cut-length 8 6 (drop 4 w), length-map (cut 8 6 (drop 4 w)) place_of)) λ i h.
    let six : 10 + 6 * i - (4 + 6 * i) ≡ 6 = omega arith in
    each i (omega arith) ∙ rw (six, parts_at place_of 8 6 (drop 4 w) i no_place (omega arith), drop-drop (6 * i) 4 w)

module _ (g : Page) (eight : length g.places ≡ 8) (w : List ℕ) (long : length w ≡ 52) (i : ℕ) (so_far : take (4 + 6 * i) w ≡ take (4 + 6 * i) (struct_words g)) where
  place_there : (d : Entry) → i < 8 → take 6 (drop (4 + 6 * i) (struct_words g)) ≡ place_words (get_or g.places i d)
  unfolding struct_words
  place_there d h =
      rw append-nil at (one_there place_words 6 (g.kind ∷ g.count ∷ g.mark.0 ∷ 0 ∷ []) [] 4 refl (always place_words-length g.places) i (omega arith) d)

  pub place_written : (d : Entry) (k : ℕ) (ys : List ℕ) → i < 8 → ys ≡ place_words (get_or g.places i d)
      → take (4 + 6 * (i + 1)) (put_mid (4 + 6 * i) k w ys) ≡ take (4 + 6 * (i + 1)) (struct_words g)
  place_written d k ys h e =
      let next : 4 + 6 * (i + 1) ≡ 4 + 6 * i + 6 = omega arith in
      let six : length ys ≡ 6 = ap length e ∙ place_words-length _ in
      take-put_mid (4 + 6 * i) k w ys _ (omega arith) (omega arith)
      ∙ rw (so_far, e, ← place_there d h, next, take-add (4 + 6 * i) 6 (struct_words g))

  pub all_written : 8 ≤ i → w ≡ struct_words g
  all_written h =
      let whole = struct_words-length g eight in
      sym (take_all (4 + 6 * i) w (omega arith)) ∙ so_far ∙ take_all (4 + 6 * i) (struct_words g) (omega arith)
