-- A row from its key, and a row more behind those that are written.
use Rattle.std.proofs.Common.{◌≡◌, ℕ, ◌+◌, ◌-◌, ◌*◌, ◌%◌, ◌<◌, List, [], ◌++◌, length, get_or, take, drop, map, refl, ◌∙◌, ap, arith, add-one, append_assoc, drop-drop, length-take-le}
use Rattle.std.proofs.Math.ListN.{length-map}
use Rattle.std.proofs.Math.Seq.{take-suc, take_at, drop_at}
use mathlib.Core.List.{flat_map, map-append, append-nil}
use borrow.Rule.Slice.PartMut.{put_mid}
use Rattle.rules.specs.declared.Entry.{Entry}
use Rattle.rules.specs.declared.Row.{Row}
use Rattle.rules.specs.Store.{no_place, page_at, row_words, store_of}
use Rattle.rules.specs.Live.{row_for}
use Rattle.rules.specs.laws.All.{always, flat_append}
use Rattle.rules.specs.laws.Words.{flat_length, row_words-length}
use Rattle.page.specs.declared.Page.{Page}
use Rattle.page.specs.Struct.{laid_page}
use Rattle.page.specs.Laws.{laid_place}
use Rattle.query.specs.Keys.{page_named, entry_named, row_of_key, Searchable}
use Rattle.query.proofs.Lent.{places_fit}

pub row_read : (v : List ℕ) → Searchable v → (key : ℕ) (g : Page) (e : Entry) → g ≡ laid_page (page_at (store_of v).pages (page_named key))
    → e ≡ get_or g.places (key % 8) no_place → row_for e ≡ row_of_key (store_of v).pages key
unfolding row_of_key entry_named
row_read v h key g e laid q =
    let ps = (store_of v).pages in
    ap row_for (q ∙ ap (λ g. get_or g.places (key % 8) no_place) laid ∙ laid_place (page_at ps (page_named key)) (places_fit v h (page_named key)) (key % 8))

-- the words of the rows of keys
abbrev pub rows_words : (ℕ → Row) → List ℕ → List ℕ
rows_words f keys = flat_map row_words (map f keys)

pub no_rows : flat_map row_words [] ≡ []
unfolding flat_map
no_rows = refl

pub written_more : (f : ℕ → Row) (keys out out' : List ℕ) (i : ℕ) → i < length keys → out' ≡ rows_words f (take i keys) ++ drop (5 * i) out
    → (ys : List ℕ) → ys ≡ row_words (f (get_or keys i 0))
    → put_mid (5 * i) (5 * i + 5 - 5 * i) out' ys ≡ rows_words f (take (i + 1) keys) ++ drop (5 * (i + 1)) out
unfolding flat_map
written_more f keys out out' i h e ys y =
    let front = rows_words f (take i keys) in
    let five : 5 * i + 5 - 5 * i ≡ 5 = omega arith in
    let next : 5 * (i + 1) ≡ 5 * i + 5 = omega arith in
    let long : length front ≡ 5 * i =
    flat_length row_words 5 (always row_words-length _) ∙ ap (λ n. 5 * n) (length-map (take i keys) f ∙ length-take-le i keys (omega arith)) in
    let more : rows_words f (take (i + 1) keys) ≡ front ++ row_words (f (get_or keys i 0)) = rw (add-one i, take-suc keys i 0 h, map-append, flat_append, append-nil) in
    rw (five, next, more, y, e, take_at front (drop (5 * i) out) (5 * i) long, drop_at front (drop (5 * i) out) (5 * i) long, drop-drop, append_assoc)
