-- What a tree is made of after an item is put in: the pages taken, the item, and what was there.
use Rattle.std.specs.Prelude.{ℕ, zero, suc, ◌<◌, ◌≤◌, min, ◌≡◌, Bool, length, get_or, set}
use Rattle.std.proofs.Common.{arith, sym, ◌∙◌, ap, length-append, length-set}
use Rattle.std.proofs.Math.Path.{refl}
use Rattle.std.proofs.Math.Bool.{true, false, cond}
use mathlib.Core.List.{List, [], ◌∷◌, ◌++◌, flat_map, append_assoc, append-nil}
use mathlib.Core.List.Permᴰ
use Rattle.std.proofs.Math.Dec.{leb}
use borrow.Author.Tests.{leb-false, le-leb}
use Rattle.rules.specs.declared.PageNo.{PageNo}
use Rattle.rules.specs.declared.Stamp.{Stamp}
use Rattle.rules.specs.declared.Box.{Box}
use Rattle.rules.specs.declared.Entry.{Entry}
use Rattle.rules.specs.Lists.{without}
use Rattle.rules.specs.Store.{page_no}
use Rattle.rules.specs.Tree.{choose, split}
use Rattle.rules.specs.laws.All.{All, none, more, head_of, all_append, flat_append}
use Rattle.rules.specs.laws.Order.{◌~◌, ◌then◌, same, back, both, rear, swapped, forth, all_reordered, length_reordered, flat_reordered, picked}
use Rattle.theorems.specs.tree.Numbers.{picks}
use Rattle.rules.specs.laws.Split.{choose_lt, split_parted}
use Rattle.theorems.specs.tree.Items.{Node, Item, extent, no_mark, with_items, no_node, Atom, page, entry, mark_at, atoms, number_of, numbers, Thick, Full, Grown, single, double, parts, one_more, settle, replaced, above, put, splits}
use Rattle.theorems.specs.tree.PutFull.{replaced-parts, parts_few}

-- the page that a split takes
abbrev pub taken : {A : Type 0} → ℕ → PageNo → Stamp → Grown A → List Atom
taken l q m (single a) = []
taken l q m (double a b) = page l q (mark_at l m) ∷ []

-- how many pages are taken below a page at depth d: all of them up to it where it is split
abbrev pub Took : {A : Type 0} → ℕ → Grown A → ℕ → Type 0
Took d (single a) n = n ≤ d
Took d (double a b) n = n ≡ suc d

-- a page taken stands at level k or above, and has the mark m where it is a leaf
abbrev pub New : ℕ → Stamp → Atom → Type 0
New k m (page l n m') = (k ≤ l) × (m' ≡ mark_at l m)
New k m (entry m' e) = ⊥

-- what is gathered from pages alone, where entries have it all: nothing
pub pages_only : {B : Type 0} (k : Atom → List B) → ((l : ℕ) (p : PageNo) (m : Stamp) → k (page l p m) ≡ []) → (P : Atom → Type 0) → ((m : Stamp) (e : Entry) → P (entry m e) → ⊥)
    → {xs : List Atom} → All P xs → flat_map k xs ≡ []
unfolding flat_map
pages_only k z P f none = refl
pages_only k z P f (more {x = page l p m} h a) = rw (z l p m, pages_only k z P f a)
pages_only k z P f (more {x = entry m e} h a) = absurd (f m e h)

-- settling loses nothing: the page taken, the page itself, and what the items are made of
module _ (l : ℕ) (f : Item l → Box) (q : PageNo) (t : Item (suc l)) (xs : List (Item l)) where
  settle-atoms : length xs ≤ 9
      → flat_map (atoms (suc l) no_mark) (parts (settle f q t xs))
      ~ (taken l q t.mark (settle f q t xs) ++ (page l t.no (mark_at l t.mark) ∷ flat_map (atoms l t.mark) xs))
  unfolding settle atoms flat_map
  settle-atoms most = go (leb (length xs) 8) refl
    where
      go : (b : Bool) → leb (length xs) 8 ≡ b →
          let g = cond b (single (with_items t xs)) (double (with_items t (split f xs).first) (record { no = q; mark = t.mark; items = (split f xs).second })) in
          flat_map (atoms (suc l) no_mark) (parts g)
          ~ (taken l q t.mark g ++ (page l t.no (mark_at l t.mark) ∷ flat_map (atoms l t.mark) xs))
      go true e = same (append-nil _)
      go false e =
          let p = split_parted f xs (omega (arith, leb-false (length xs) 8 e)) in
          let a = flat_map (atoms l t.mark) (split f xs).first in
          let b = flat_map (atoms l t.mark) (split f xs).second in
          let z = page l q (mark_at l t.mark) in
          let y = page l t.no (mark_at l t.mark) in
          let s : (a ++ b) ~ flat_map (atoms l t.mark) xs =
          same (sym (flat_append (atoms l t.mark) (split f xs).first (split f xs).second))
          then flat_reordered (atoms l t.mark) p.order in
          rear (y ∷ a) (same (append-nil (z ∷ b)))
          then Permᴰ.cons refl (Permᴰ.middle z a b)
          then Permᴰ.swap refl refl
          then rear (z ∷ y ∷ []) s

-- ---- a page is split only over a split one
abbrev pub IsSingle : {A : Type 0} → Grown A → Type 0
IsSingle (single a) = Unit {0}
IsSingle (double a b) = ⊥

abbrev pub Under : {A B : Type 0} → Grown A → Grown B → Type 0
Under (single a) g = IsSingle g
Under (double a b) g = Unit {0}

-- a page over a whole one isn't split
pub settle_under : {A : Type 0} (f : A → Box) (q : PageNo) (t : Node A) (xs : List A) (i : ℕ) (g : Grown A)
    → length xs ≤ 8 → Under g (settle f q t (replaced xs i g))
unfolding settle replaced
settle_under f q t xs i (single y) h = rw (le-leb (length (set xs i y)) 8 (omega (arith, length-set xs i y))) tt
settle_under f q t xs i (double y z) h = tt

took_more : {A B : Type 0} (d : ℕ) (h : Grown B) (g : Grown A) (n : ℕ) → Under h g → Took d h n → Took (suc d) g (one_more g n)
took_more d (single b) (single a) n u e = omega arith
took_more d (single b) (double a a') n u e = absurd u
took_more d (double b c) (single a) n u e = omega arith
took_more d (double b c) (double a a') n u e = omega arith

-- the page that the split takes, and the pages taken below it, are the first of the free ones
pub picks_more : {A B : Type 0} (fs : List ℕ) (l : ℕ) (m : Stamp) (d : ℕ) (h : Grown B) (g : Grown A) (n : ℕ) → Under h g → Took d h n
    → numbers (taken l (page_no (get_or fs (suc d) 0)) m g) ++ picks fs n ≡ picks fs (one_more g n)
unfolding flat_map
picks_more fs l m d (single b) (single a) n u e = refl
picks_more fs l m d (single b) (double a a') n u e = absurd u
picks_more fs l m d (double b c) (single a) n u e = refl
picks_more fs l m d (double b c) (double a a') n u e = rw e

-- so is the first page taken
pub picks_first : {A : Type 0} (fs : List ℕ) (l : ℕ) (m : Stamp) (g : Grown A) → numbers (taken l (page_no (get_or fs 0 0)) m g) ≡ picks fs (one_more g 0)
unfolding flat_map
picks_first fs l m (single a) = refl
picks_first fs l m (double a b) = refl

took_first : {A : Type 0} (g : Grown A) → Took 0 g (one_more g 0)
took_first (single a) = omega arith
took_first (double a b) = refl

taken_new : {A : Type 0} (k l : ℕ) (q : PageNo) (m m' : Stamp) (g : Grown A) → k ≤ l → mark_at l m ≡ mark_at l m' → All (New k m') (taken l q m g)
taken_new k l q m m' (single a) h e = none
taken_new k l q m m' (double a b) h e = let z : New k m' (page l q (mark_at l m)) = (h, e) in more z none

-- a level above another isn't below it
pub above_least : (k d : ℕ) → k ≤ above k d
above_least k zero = omega arith
above_least k (suc d) = omega (arith, above_least k d)

-- ---- the item put in
-- the item stands in the page `at`, of its mark; `new` are the pages taken, `rest` the atoms that were there but for that page
pub record Outcome (k d : ℕ) (fs : List ℕ) (x : Item k) (t : Item (above k (suc d))) (g : Grown (Item (above k (suc d)))) : Type 0 where
  pub mark : Stamp
  pub at : PageNo
  pub new : List Atom
  pub rest : List Atom
  pub made : flat_map (atoms (above k (suc d)) no_mark) (parts g) ~ (new ++ (atoms k mark x ++ atoms (above k (suc d)) no_mark t))
  pub numbered : numbers new ≡ picks fs (splits k d fs x t)
  pub fresh : All (New k mark) new
  pub took : Took d g (splits k d fs x t)
  pub there : atoms (above k (suc d)) no_mark t ~ (page k at (mark_at k mark) ∷ rest)

-- n ++ (p ∷ ((o ++ (x ++ c)) ++ w)) with f for c ++ w
sort_out : {A : Type 0} (n : List A) (p : A) (o x c w f : List A) → (c ++ w) ~ f → (n ++ (p ∷ ((o ++ (x ++ c)) ++ w))) ~ ((n ++ o) ++ (x ++ (p ∷ f)))
sort_out n p o x c w f h =
    rear n
    (rear (p ∷ []) (same (append_assoc o (x ++ c) w) then rear o (same (append_assoc x c w) then rear x h))
    then forth (p ∷ []) o (x ++ f)
    then rear o (forth (p ∷ []) x f))
    then same (sym (append_assoc n o (x ++ (p ∷ f))))

sort_out_first : {A : Type 0} (n : List A) (p : A) (i x : List A) → (n ++ (p ∷ (i ++ (x ++ [])))) ~ (n ++ (x ++ (p ∷ i)))
sort_out_first n p i x = rear n (rear (p ∷ []) (rear i (same (append-nil x)) then swapped i x) then forth (p ∷ []) x i)

-- so it is after every put
pub put_outcome : (k d : ℕ) (fs : List ℕ) (x : Item k) (t : Item (above k (suc d))) (n : ℕ) → min 1 d ≤ n
    → Full k x → Thick n (Full (above k d)) t → Outcome k d fs x t (put k d fs x t)
unfolding put atoms flat_map splits
put_outcome k zero fs x t n m hx h =
    let l = length-append t.items (x ∷ []) in
    let q = page_no (get_or fs 0 0) in
    let g = settle (extent k) q t (t.items ++ (x ∷ [])) in
    let A : Item k → List Atom = atoms k t.mark in
    let y : Atom = page k t.no (mark_at k t.mark) in
    let s = settle-atoms k (extent k) q t (t.items ++ (x ∷ [])) (omega (arith, h.most)) in
    record {
      mark = t.mark;
      at = t.no;
      new = taken k q t.mark g;
      rest = flat_map A t.items;
      made =
          s
          then rear (taken k q t.mark g) (rear (y ∷ []) (same (flat_append A t.items (x ∷ []))))
          then sort_out_first (taken k q t.mark g) y (flat_map A t.items) (A x);
      numbered = picks_first fs k t.mark g;
      fresh = taken_new k k q t.mark t.mark g (omega arith) refl;
      took = took_first g;
      there = Permᴰ.refl _;
    }
put_outcome k (suc d) fs x t n m hx h =
    let l = above k (suc d) in
    let i = choose (extent l) (extent k x) t.items in
    let c = get_or t.items i no_node in
    let w = without t.items i in
    let g' = put k d fs x c in
    let xs = replaced t.items i g' in
    let q = page_no (get_or fs (suc d) 0) in
    let g = settle (extent l) q t xs in
    let hi : i < length t.items = choose_lt (extent l) (extent k x) t.items (omega (arith, h.least)) in
    let p : t.items ~ (c ∷ w) = picked t.items i no_node hi in
    let r : xs ~ (parts g' ++ w) = replaced-parts t.items i g' hi in
    let few = parts_few g' in
    let lp = length_reordered p in
    let lr = length_reordered r ∙ length-append (parts g') w in
    let o = put_outcome k d fs x c 4 (omega arith) hx (head_of (all_reordered p h.each)) in
    let u = settle_under (extent l) q t t.items i g' h.most in
    let A : Item l → List Atom = atoms l no_mark in
    let y : Atom = page l t.no (mark_at l t.mark) in
    let back_in : (A c ++ flat_map A w) ~ flat_map A t.items = flat_reordered A (back p) in
    let s = settle-atoms l (extent l) q t xs (omega (arith, h.most)) in
    record {
      mark = o.mark;
      at = o.at;
      new = taken l q t.mark g ++ o.new;
      rest = y ∷ (o.rest ++ flat_map A w);
      made =
          s
          then rear (taken l q t.mark g) (rear (y ∷ []) (flat_reordered A r then same (flat_append A (parts g') w) then both o.made (Permᴰ.refl (flat_map A w))))
          then sort_out (taken l q t.mark g) y o.new (atoms k o.mark x) (A c) (flat_map A w) (flat_map A t.items) back_in;
      numbered =
          flat_append number_of (taken l q t.mark g) o.new
          ∙ ap (λ z. numbers (taken l q t.mark g) ++ z) o.numbered
          ∙ picks_more fs l t.mark d g' g (splits k d fs x c) u o.took;
      fresh = all_append (taken_new k l q t.mark o.mark g (above_least k (suc d)) refl) o.fresh;
      took = took_more d g' g (splits k d fs x c) u o.took;
      there =
          Permᴰ.cons refl (back back_in then both o.there (Permᴰ.refl (flat_map A w)))
          then Permᴰ.swap refl refl;
    }
