-- Laws of the page struct: its words and contents, writing it into the store, and what is done to its places.
use Prim.Native.Nat.{ℕ, zero, suc, ◌+◌, ◌*◌, ◌-◌, ◌≤◌, ◌<◌}
use native.Mathlib.Omega.{arith}
use Rattle.std.proofs.Math.Nat.{min-eq_right, min-le_left}
use Rattle.std.specs.Prelude.{◌≡◌, ltb, set, replicate}
use Rattle.std.proofs.Math.Path.{refl, sym, ap}
use Rattle.std.proofs.Common.{◌∙◌, drop-drop}
use Rattle.std.proofs.Math.Bool.{cond}
use mathlib.Core.List.{List, [], ◌∷◌, ◌++◌, map, flat_map, append-nil, append_assoc}
use Rattle.std.proofs.Math.ListN.{length, get_or, take, drop, length-append, length-set, replicate-append-replicate, get_or-eq_default}
use Rattle.std.proofs.lemmas.List.{length-replicate, length-map, set-append_left}
use Rattle.std.proofs.Math.Seq.{take_at, set_at, set_out}
use borrow.Author.Tests.{ltb-true, ltb-false, lt-ltb}
use Rattle.rules.specs.declared.PageNo.{PageNo}
use Rattle.rules.specs.declared.Entry.{Entry}
use Rattle.rules.specs.Lists.{cut, padded, without}
use Rattle.rules.specs.Boxes.{cover_of}
use Rattle.rules.specs.Store.{Page as Contents, Store, free_page, no_place, box_words, place_words, place_of, page_words, page_of, page_at, put_page, pages_of, words}
use Rattle.rules.specs.Tree.{its_box, with_places}
use Rattle.rules.specs.laws.Tests.{either}
use Rattle.rules.specs.laws.All.{All, flat_append, always, all_at}
use Rattle.rules.specs.laws.Words.{flat_length, parts-read, place_words-length, place_read}
use Rattle.rules.specs.laws.Places.{cut-length, take-cut, parts_at, without-length, without_front}
use Rattle.rules.specs.laws.Splice.{splice-length, splice_part, splice-apart}
use Rattle.rules.specs.laws.Parts.{with_pages, page_words_there, page-written}
use Rattle.page.specs.declared.Page.{Page}
use Rattle.page.specs.Struct.{struct_words, struct_of, contents, eight, laid_page, page_start, struct_at, with_struct, with_place, added, removed, page_in}

-- ---- arrays
-- what owning a struct tells of a field that is an array of structs stands at a `map` over its list
pub length_mapped : (X Y : Type 0) (f : X → Y) (l : List X) (n : ℕ) → length (map f l) ≡ n → length l ≡ n
length_mapped X Y f l n e = sym (length-map l f) ∙ e

-- ---- words
pub struct_words-length : (g : Page) → length g.places ≡ 8 → length (struct_words g) ≡ 52
unfolding struct_words
struct_words-length g e = let n = flat_length place_words 6 (always place_words-length g.places) in omega arith

-- the struct is read back from its words
pub struct_read : (g : Page) → length g.places ≡ 8 → struct_of (struct_words g) ≡ g
unfolding struct_of struct_words
struct_read g e =
    let all = parts-read place_words 6 place_of (always place_words-length g.places) (always place_read g.places) [] in
    let back : map place_of (cut 8 6 (flat_map place_words g.places)) ≡ g.places = rw (e, append-nil) at all in
    rw back

-- what is read from words has eight places, and the contents that the rules read from them
pub struct_places : (w : List ℕ) → length (struct_of w).places ≡ 8
unfolding struct_of
struct_places w = refl

take-map : {A B : Type 0} (f : A → B) (n : ℕ) (xs : List A) → take n (map f xs) ≡ map f (take n xs)
take-map f zero xs = refl
take-map f (suc n) [] = refl
take-map f (suc n) (x ∷ xs) = ap (λ r. f x ∷ r) (take-map f n xs)

pub contents_of : (w : List ℕ) → contents (struct_of w) ≡ page_of w
unfolding contents struct_of page_of
contents_of w = rw (take-map, take-cut _ 8 6 (drop 4 w) (min-le_left 8 (get_or w 1 0)))

-- ---- laid out
-- zeros are the words of unused places
zero_places : (n : ℕ) → flat_map place_words (replicate n no_place) ≡ replicate (6 * n) 0
unfolding flat_map place_words box_words
zero_places zero = refl
zero_places (suc n) = let e : 6 * suc n ≡ suc (suc (suc (suc (suc (suc (6 * n)))))) = omega arith in rw (e, zero_places n)

pub eight-length : (es : List Entry) → length es ≤ 8 → length (eight es) ≡ 8
unfolding eight
eight-length es h = rw (length-append, length-replicate) (omega arith)

-- a list and the same list padded with a default give the same at every place
padding_unseen : {A : Type 0} (d : A) (xs : List A) (n i : ℕ) → get_or (xs ++ replicate n d) i d ≡ get_or xs i d
padding_unseen d [] zero i = refl
padding_unseen d [] (suc n) zero = refl
padding_unseen d [] (suc n) (suc i) = padding_unseen d [] n i
padding_unseen d (x ∷ xs) n zero = refl
padding_unseen d (x ∷ xs) n (suc i) = padding_unseen d xs n i

module _ (g : Contents) (fits : length g.places ≤ 8) where
  pub laid_places : length (laid_page g).places ≡ 8
  unfolding laid_page
  laid_places = eight-length g.places fits

  pub laid_contents : contents (laid_page g) ≡ g
  unfolding contents laid_page eight
  laid_contents = rw (min-eq_right fits, take_at g.places _ (length g.places) refl)

  pub laid_words : struct_words (laid_page g) ≡ page_words g
  unfolding struct_words laid_page eight page_words padded
  laid_words =
      let n = length g.places in
      let e : 52 - suc (suc (suc (suc (6 * n)))) ≡ 6 * (8 - n) = omega arith in
      rw (flat_append, flat_length place_words 6 (always place_words-length g.places), e, zero_places (8 - n))

  pub laid_read : struct_of (page_words g) ≡ laid_page g
  laid_read = rw (← laid_words) (struct_read (laid_page g) laid_places)

  -- ---- what is done to the places
  -- an unused place is read as one that isn't there
  pub laid_place : (i : ℕ) → get_or (laid_page g).places i no_place ≡ get_or g.places i no_place
  unfolding laid_page eight
  laid_place i = padding_unseen no_place g.places (8 - length g.places) i

  pub laid_set : (i : ℕ) (e : Entry) → i < length g.places → with_place (laid_page g) i e ≡ laid_page (with_places g (set g.places i e))
  unfolding with_place laid_page eight
  laid_set i e h = rw (set-append_left g.places _ i e h, length-set g.places i e)

  pub laid_added : (e : Entry) → length g.places < 8 → added (laid_page g) e ≡ laid_page (with_places g (g.places ++ (e ∷ [])))
  unfolding added laid_page eight
  laid_added e h =
      let n = length g.places in
      let k : 8 - n ≡ suc (8 - (n + 1)) = omega arith in
      rw (lt-ltb n 8 h, k, set_at g.places no_place _ e n refl, length-append, append_assoc)

  pub laid_removed : (i : ℕ) → i < length g.places → removed (laid_page g) i ≡ laid_page (with_places g (without g.places i))
  unfolding removed laid_page eight
  laid_removed i h =
      let n = length g.places in
      let k : 8 - (n - 1) ≡ 8 - n + 1 = omega arith in
      rw (without_front g.places _ i h, without-length g.places i h, k, ← replicate-append-replicate, append_assoc)

  pub laid_cover : cover_of its_box (contents (laid_page g)).places ≡ cover_of its_box g.places
  laid_cover = ap (λ c. cover_of its_box c.places) laid_contents

-- ---- in a store's words
pub pages_length : (w : List ℕ) (p : ℕ) → length (pages_of p (drop 16 w)) ≡ p
pages_length w p = rw (length-map, cut-length)

-- page i of p pages, and what is read past the last
module _ (w : List ℕ) (p i : ℕ) where
  pub page_number : i < p → get_or (pages_of p (drop 16 w)) i free_page ≡ page_in w i
  unfolding page_in
  page_number h = parts_at page_of p 52 (drop 16 w) i free_page h ∙ rw (drop-drop (52 * i) 16 w)

  pub no_page : p ≤ i → get_or (pages_of p (drop 16 w)) i free_page ≡ free_page
  no_page h = get_or-eq_default (pages_of p (drop 16 w)) free_page (rw (pages_length w p) h)

module _ (w : List ℕ) (p : ℕ) (at : PageNo) where
  pub struct_at_places : length (struct_at w p at).places ≡ 8
  unfolding struct_at
  struct_at_places =
      either (λ (g : Page). length g.places ≡ 8) (ltb at.0 p) (λ t. struct_places _) (λ f. laid_places free_page (omega arith))

  -- its contents are what the rules read there
  pub contents_at : contents (struct_at w p at) ≡ page_at (pages_of p (drop 16 w)) at
  unfolding struct_at page_in page_at
  contents_at =
      either (λ g. contents g ≡ get_or (pages_of p (drop 16 w)) at.0 free_page) (ltb at.0 p)
      (λ t. contents_of _ ∙ sym (page_number w p at.0 (ltb-true _ _ t)))
      (λ f. laid_contents free_page (omega arith) ∙ sym (no_page w p at.0 (ltb-false _ _ f)))

  -- once a struct is written there, it is read again, any other page is as it was, and the words are as many
  module _ (g : Page) (full : length g.places ≡ 8) (long : 16 + 52 * p ≤ length w) where
    room : at.0 < p → page_start at.0 + 52 ≤ length w
    room h = omega arith

    pub put-length : length (with_struct w p at g) ≡ length w
    unfolding with_struct
    put-length =
        either (λ (l : List ℕ). length l ≡ length w) (ltb at.0 p)
        (λ t. splice-length w (page_start at.0) 52 (struct_words g) (struct_words-length g full) (room (ltb-true _ _ t)))
        (λ f. refl)

    pub put_same : at.0 < p → struct_at (with_struct w p at g) p at ≡ g
    unfolding struct_at with_struct
    put_same h =
        rw (lt-ltb at.0 p h, splice_part w (page_start at.0) 52 (struct_words g) (struct_words-length g full) (room h)) (struct_read g full)

    pub put_other : (b : PageNo) → (b.0 ≡ at.0 → ⊥) → struct_at (with_struct w p at g) p b ≡ struct_at w p b
    unfolding struct_at with_struct
    put_other b h =
        ap (λ l. cond (ltb b.0 p) (struct_of l) (laid_page free_page))
        (either (λ l. take 52 (drop (page_start b.0) l) ≡ take 52 (drop (page_start b.0) w)) (ltb at.0 p)
        (λ t. splice-apart w (page_start at.0) 52 (struct_words g) (struct_words-length g full) (room (ltb-true _ _ t)) (page_start b.0) 52 (omega arith))
        (λ f. refl))

-- ---- in the words of a store
module _ (s : Store) (fit : All (λ g. length g.places ≤ 8) s.pages) (at : PageNo) where
  pub struct_there : struct_at (words s) (length s.pages) at ≡ laid_page (page_at s.pages at)
  unfolding struct_at page_at
  struct_there =
      either (λ g. g ≡ laid_page (get_or s.pages at.0 free_page)) (ltb at.0 (length s.pages))
      (λ t. let h = ltb-true _ _ t in ap struct_of (page_words_there s at h fit) ∙ laid_read _ (all_at fit at.0 free_page h))
      (λ f. ap laid_page (sym (get_or-eq_default s.pages free_page (ltb-false _ _ f))))

  pub struct_written : (g : Contents) → length g.places ≤ 8 → with_struct (words s) (length s.pages) at (laid_page g) ≡ words (with_pages s (put_page s.pages at g))
  unfolding with_struct put_page
  struct_written g h =
      either (λ l. l ≡ words (with_pages s (set s.pages at.0 g))) (ltb at.0 (length s.pages))
      (λ t. ap (λ ws. take (page_start at.0) (words s) ++ (ws ++ drop (page_start at.0 + 52) (words s))) (laid_words g h) ∙ sym (page-written s at (ltb-true _ _ t) fit g))
      (λ f. ap (λ ps. words (with_pages s ps)) (sym (set_out s.pages at.0 g (ltb-false _ _ f))))
