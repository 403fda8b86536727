-- The page struct, which has all eight places: its words, the contents that the rules speak of, and what is done to it.
use Rattle.std.specs.Prelude.{ℕ, ◌+◌, ◌*◌, ◌-◌, min, Bool, cond, ◌&&◌, eqb, leb, ltb, length, get_or, take, drop, set, replicate}
use mathlib.Core.List.{List, [], ◌∷◌, ◌++◌, map, flat_map}
use Rattle.rules.specs.declared.Stamp.{Stamp}
use Rattle.rules.specs.declared.PageNo.{PageNo}
use Rattle.rules.specs.declared.Entry.{Entry}
use Rattle.rules.specs.Lists.{cut, without}
use Rattle.rules.specs.Store.{Page as Contents, stamp, free_page, no_place, place_words, place_of, page_of}
use Rattle.page.specs.declared.Page.{Page}

-- ---- written as words, and read from them
unfoldable pub struct_words : Page → List ℕ
struct_words g = g.kind ∷ g.count ∷ g.mark.0 ∷ 0 ∷ flat_map place_words g.places

unfoldable pub struct_of : List ℕ → Page
struct_of w =
    record { kind = get_or w 0 0; count = get_or w 1 0; mark = stamp (get_or w 2 0); places = map place_of (cut 8 6 (drop 4 w)) }

-- ---- what the struct holds: its used places; and the struct that holds given contents, its unused places zero
unfoldable pub contents : Page → Contents
contents g = record { kind = g.kind; mark = g.mark; places = take (min 8 g.count) g.places }

unfoldable pub eight : List Entry → List Entry
eight es = es ++ replicate (8 - length es) no_place

unfoldable pub laid_page : Contents → Page
laid_page g = record { kind = g.kind; count = length g.places; mark = g.mark; places = eight g.places }

-- ---- page `at` of p pages in a store's words; past the last there is an empty one, and writing it changes nothing
abbrev pub page_start : ℕ → ℕ
page_start i = 16 + 52 * i

unfoldable pub struct_at : List ℕ → ℕ → PageNo → Page
struct_at w p at =
    let there = struct_of (take 52 (drop (page_start at.0) w)) in
    cond (ltb at.0 p) there (laid_page free_page)

unfoldable pub with_struct : List ℕ → ℕ → PageNo → Page → List ℕ
with_struct w p at g =
    let a = page_start at.0 in
    let written = take a w ++ (struct_words g ++ drop (a + 52) w) in
    cond (ltb at.0 p) written w

-- ---- places of a struct
-- another entry in place i
unfoldable pub with_place : Page → ℕ → Entry → Page
with_place g i e = record { kind = g.kind; count = g.count; mark = g.mark; places = set g.places i e }

-- one more place, behind the used ones, where there is room
unfoldable pub added : Page → Entry → Page
added g e =
    let longer : Page = record { kind = g.kind; count = g.count + 1; mark = g.mark; places = set g.places g.count e } in
    cond (ltb g.count 8) longer g

-- without place i: the later ones close the gap, and the last is zero
unfoldable pub removed : Page → ℕ → Page
removed g i =
    record { kind = g.kind; count = g.count - 1; mark = g.mark; places = without g.places i ++ (no_place ∷ []) }

-- ---- page i of a store's words, as the rules read it
unfoldable pub page_in : List ℕ → ℕ → Contents
page_in w i = page_of (take 52 (drop (page_start i) w))

-- the smaller of a page's mark, where it is a leaf, and the smallest one of the pages behind it
unfoldable pub lower_mark : Contents → Stamp → Stamp
lower_mark g later = cond (eqb g.kind 1 && leb g.mark.0 later.0) g.mark later

-- a leaf with this mark
unfoldable pub leaf_marked : Stamp → Contents → Bool
leaf_marked mark g = eqb g.kind 1 && eqb g.mark.0 mark.0
