-- Putting back what waits: entries first, then pages, each into the tree as it is by then.
use Prim.Native.Nat.{ℕ, zero, suc, ◌+◌, ◌*◌, ◌≤◌}
use Rattle.std.proofs.Common.{arith, sym, ◌∙◌, length-append}
use Rattle.std.specs.Prelude.{◌≡◌, refl, false, length}
use Rattle.std.proofs.Math.Path.{ap}
use mathlib.Core.List.{List, [], ◌∷◌, ◌++◌, map, flat_map, append_assoc}
use mathlib.Core.List.Permᴰ
use Rattle.rules.specs.declared.Stamp.{Stamp}
use Rattle.rules.specs.Store.{Page, page_no, page_at}
use Rattle.rules.specs.Tree.{Tree, put_at}
use Rattle.rules.specs.Cleaning.{put_back}
use Rattle.rules.specs.Sound.{is_free}
use Rattle.rules.specs.laws.All.{All, none, more, all_map, all_zip, all_append, all_back, flat_append}
use Rattle.rules.specs.laws.Order.{◌~◌, ◌then◌, same, rear, forth, length_reordered}
use Rattle.theorems.specs.tree.Numbers.{Off, distinct_cross}
use Rattle.theorems.specs.tree.Items.{Item, no_mark, Atom, page, entry, number_of, atoms, atoms_of, numbers, entries, Full}
use Rattle.theorems.specs.tree.Budget.{size, weight, weight_append, pages_entries, sum_pages}
use Rattle.theorems.specs.tree.PutAtoms.{New}
use Rattle.theorems.specs.tree.Stands.{place, Stands, all_numbers, stands_frame, stands_used}
use Rattle.theorems.specs.tree.Laid.{Top, Rooted, atoms_top, Laid, laid_distinct}
use Rattle.theorems.specs.tree.PutTop.{Joined}
use Rattle.theorems.specs.tree.PutAt.{put_at_laid, joined_entries}
use Rattle.theorems.specs.tree.Trim.{Loose, loose, loose_entry, loose_page}
use Rattle.theorems.specs.tree.LeafMarks.{LeafIn, joined_mark, joined_leaves}
use Rattle.theorems.specs.tree.TrimPages.{loose_atoms, orphan}

-- what waits stands in the pages, full, and of a level not above n
abbrev pub Waits : List Page → ℕ → Loose → Type 0
Waits ps n (loose k x) = (k ≤ n) × Full k x × Stands ps k x

-- an entry that came back has a mark among those of S
abbrev pub EntryIn : (Stamp → Type 0) → Atom → Type 0
EntryIn S (page l p m) = ⊥
EntryIn S (entry m e) = S m

-- a page of any kind
abbrev pub IsPage : Atom → Type 0
IsPage (page l p m) = Unit {0}
IsPage (entry m e) = ⊥

-- ---- what the tree is made of after it
-- `new` are the pages taken, `landed` the entries come back, each under its leaf's mark; every mark is among those of S
pub record CameBack (S : Stamp → Type 0) (ws : List Loose) (old : List Atom) (T : Top) : Type 0 where
  pub new : List Atom
  pub landed : List Atom
  pub made : atoms_top T ~ (new ++ (landed ++ (flat_map loose_page ws ++ old)))
  pub pages_new : All IsPage new
  pub landed_entries : entries landed ≡ flat_map loose_entry ws
  pub landed_in : All (EntryIn S) landed
  pub leaves_in : All (LeafIn S) (atoms_top T)

new_page : (k : ℕ) (m : Stamp) (a : Atom) → New k m a → IsPage a
new_page k m (page l p m') h = tt
new_page k m (entry m' e) h = absurd h

-- n is new, l landed, p the pages put back before; j new, x landed or put back now
sort_new : {A : Type 0} (n l p j x o : List A) → (n ++ (l ++ (p ++ (j ++ (x ++ o))))) ~ ((n ++ j) ++ (l ++ (x ++ (p ++ o))))
sort_new n l p j x o =
    rear n (rear l (forth p j (x ++ o)) then forth l j (p ++ (x ++ o)))
    then same (sym (append_assoc n j (l ++ (p ++ (x ++ o)))))
    then rear (n ++ j) (rear l (forth p x o))

module _ (S : Stamp → Type 0) where
  -- one put back, and then the others
  back_more : (k : ℕ) (x : Item k) (ws : List Loose) (old : List Atom) (T U : Top) → Joined k x old T → All (LeafIn S) old → CameBack S ws (atoms_top T) U → CameBack S (loose k x ∷ ws) old U
  unfolding flat_map atoms
  back_more zero x ws old T U J a B =
      let e = entry J.mark x in
      let LP = flat_map loose_page ws in
      record {
        new = B.new ++ J.new;
        landed = e ∷ B.landed;
        made =
            B.made
            then rear B.new (rear B.landed (rear LP J.made))
            then sort_new B.new B.landed LP J.new (e ∷ []) old
            then rear (B.new ++ J.new) (forth B.landed (e ∷ []) (LP ++ old));
        pages_new = all_append B.pages_new (all_map J.fresh (new_page 0 J.mark));
        landed_entries = ap (λ r. x ∷ r) B.landed_entries;
        landed_in = let z : EntryIn S e = joined_mark S x old T J a in more z B.landed_in;
        leaves_in = B.leaves_in;
      }
  back_more (suc k) x ws old T U J a B =
      let LP = flat_map loose_page ws in
      record {
        new = B.new ++ J.new;
        landed = B.landed;
        made =
            B.made
            then rear B.new (rear B.landed (rear LP J.made))
            then sort_new B.new B.landed LP J.new (atoms_of k x) old
            then rear (B.new ++ J.new) (rear B.landed (same (sym (append_assoc (atoms_of k x) LP old))));
        pages_new = all_append B.pages_new (all_map J.fresh (new_page (suc k) J.mark));
        landed_entries = B.landed_entries;
        landed_in = B.landed_in;
        leaves_in = B.leaves_in;
      }

-- ---- all that waits
still_waits : (ps qs : List Page) (n m : ℕ) (N : List ℕ) (w : Loose) → n ≤ m
    → ((z : ℕ) → Off z N → is_free (page_at ps (page_no z)) ≡ false → page_at qs (page_no z) ≡ page_at ps (page_no z))
    → Waits ps n w → All (λ z. Off z N) (numbers (loose_atoms w)) → Waits qs m w
still_waits ps qs n m N (loose k x) h f a o =
    (omega (arith, a.0), a.1, stands_frame ps qs k no_mark x (all_zip o (stands_used ps k no_mark x a.2) λ z p u. f z p u) a.2)

waits_weight : (ps : List Page) (n : ℕ) (w : Loose) → Waits ps n w → 3 * size (loose_atoms w) + 1 ≤ weight (loose_atoms w)
waits_weight ps n (loose k x) a = pages_entries k no_mark x a.1

-- the tree that has all of them back
pub record Returned (S : Stamp → Type 0) (ws : List Loose) (T : Top) (long : ℕ) (F : Tree) : Type 0 where
  pub top : Top
  pub root : F.root ≡ top.tree.no
  pub level : F.levels ≡ suc top.depth
  pub laid : Laid F.pages top []
  pub rooted : Rooted 1 top
  pub came_back : CameBack S ws (atoms_top T) top
  pub same_length : length F.pages ≡ long

-- where P pages are enough for all their entries
pub put_all : (S : Stamp → Type 0) (ws : List Loose) (T : Top) (F : Tree) → F.root ≡ T.tree.no → F.levels ≡ suc T.depth
    → Laid F.pages T (numbers (flat_map loose_atoms ws)) → Rooted 1 T → All (Waits F.pages T.depth) ws
    → weight (flat_map loose_atoms ws) + weight (atoms_top T) ≤ 3 * length F.pages
    → All (λ w. All (LeafIn S) (loose_page w)) ws → All (LeafIn S) (atoms_top T)
    → Returned S ws T (length F.pages) (put_back (map orphan ws) F)
unfolding put_back flat_map
put_all S [] T F er el L h a w la lt =
    record {
      top = T;
      root = er;
      level = el;
      laid = L;
      rooted = h;
      came_back = record { new = []; landed = []; made = Permᴰ.refl (atoms_top T); pages_new = none; landed_entries = refl; landed_in = none; leaves_in = lt };
      same_length = refl;
    }
put_all S (loose k x ∷ ws) T F er el L h (more a ar) w (more l la) lt =
    let ps = F.pages in
    let N = numbers (atoms_top T) in
    let nx = numbers (atoms k no_mark x) in
    let rest = numbers (flat_map loose_atoms ws) in
    let L1 : Laid ps T (nx ++ rest) = rw (flat_append number_of (atoms k no_mark x) (flat_map loose_atoms ws)) at L in
    let ww = weight_append (atoms k no_mark x) (flat_map loose_atoms ws) in
    let sp = sum_pages loose_atoms (all_map ar λ z b. waits_weight ps T.depth z b) in
    let P = put_at_laid 1 (omega arith) (omega arith) k x T F rest (weight (flat_map loose_atoms ws)) a.0 er el a.1 a.2 h L1 (omega arith) (omega arith) in
    let J = P.joined in
    let old = atoms_top T in
    let off = all_numbers loose_atoms ws (all_back nx rest (distinct_cross N (nx ++ rest) (laid_distinct ps T (nx ++ rest) L1))) in
    let F1 = put_at (suc k) (place k x) F in
    let R =
    put_all S ws P.top F1 P.root P.level P.laid P.rooted (all_zip ar off λ z b c. still_waits ps F1.pages T.depth P.top.depth N z P.deep P.others b c)
    (omega (arith, length_reordered (joined_entries k x old P.top J), length-append (entries (atoms k no_mark x)) (entries old), P.long))
    la (joined_leaves S k x old P.top J l lt) in
    record {
      top = R.top;
      root = R.root;
      level = R.level;
      laid = R.laid;
      rooted = R.rooted;
      came_back = back_more S k x ws old P.top R.top J lt R.came_back;
      same_length = R.same_length ∙ P.long;
    }
