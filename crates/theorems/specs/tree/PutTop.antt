-- An item put into a whole tree: over a split root comes a new one, and the tree that comes out is laid out in the pages that come out.
use Rattle.std.specs.Prelude.{ℕ, zero, suc, ◌+◌, ◌≤◌, min, ◌≡◌, refl, false, length, get_or, drop}
use Rattle.std.proofs.Common.{arith, sym, ◌∙◌, ap, ap₂, drop-cons, length-append}
use mathlib.Core.List.{List, [], ◌∷◌, ◌++◌, flat_map, append-nil, append_assoc}
use mathlib.Core.List.Permᴰ
use Rattle.rules.specs.declared.PageNo.{PageNo}
use Rattle.rules.specs.declared.Stamp.{Stamp}
use Rattle.rules.specs.Store.{Page, page_no, page_at, put_page}
use Rattle.rules.specs.Tree.{Tree, lowest_free, Written, whole, parted, child_place, rooted, put_below}
use Rattle.rules.specs.Sound.{is_free}
use Rattle.rules.specs.laws.Tests.{not_both}
use Rattle.rules.specs.laws.All.{All, none, more, head_of, tail_of, all_map, all_append, all_front, all_back, flat_append}
use Rattle.rules.specs.laws.Order.{◌~◌, ◌then◌, back, same, both, rear, forth, swapped, all_reordered, distinct_reordered, length_reordered, flat_reordered}
use Rattle.theorems.specs.tree.Numbers.{Off, length_from, distinct_front, distinct_cross, picks, length-picks}
use Rattle.theorems.specs.tree.Items.{Item, no_mark, Atom, page, mark_at, atoms, atoms_of, number_of, numbers, Thick, Full, Grown, single, double, parts, one_more, above, put, splits}
use Rattle.theorems.specs.tree.PutAtoms.{New, above_least, Outcome, put_outcome}
use Rattle.theorems.specs.tree.Budget.{size}
use Rattle.theorems.specs.tree.Pages.{page_other, page_same, put-length, frees, frees-taken, lowest_is, lowest_is_free, used_off, next_free}
use Rattle.theorems.specs.tree.Stands.{place, page_of, Stands, numbers_mark, stands_used, spared, free_off, child_is}
use Rattle.theorems.specs.tree.PutStands.{Put, drop_more, more_least, put_stands}
use Rattle.theorems.specs.tree.Laid.{Top, atoms_top, Clear, Laid, laid_distinct}

-- the tree over what the root has become
unfoldable pub topped : (l : ℕ) → PageNo → Grown (Item (suc l)) → Top
topped l q (single t) = record { depth = l; tree = t }
topped l q (double a b) = record { depth = suc l; tree = record { no = q; mark = no_mark; items = a ∷ b ∷ [] } }

-- ---- in the pages
record PutRoot (ps : List Page) (ns : List ℕ) (many : ℕ) (T : Top) (F : Tree) : Type 0 where
  root : F.root ≡ T.tree.no
  level : F.levels ≡ suc T.depth
  stand : Stands F.pages (suc T.depth) T.tree
  others : (n : ℕ) → Off n ns → Off n (picks (frees ps) many) → page_at F.pages (page_no n) ≡ page_at ps (page_no n)
  left : frees F.pages ≡ drop many (frees ps)
  long : length F.pages ≡ length ps

put_root : (l : ℕ) (ps : List Page) (p : PageNo) (ns : List ℕ) (n : ℕ) (g : Grown (Item (suc l))) (r : Written)
    → Put l ps p ns (picks (frees ps) n) n g r → one_more g n ≤ length (frees ps)
    → PutRoot ps ns (one_more g n) (topped l (page_no (get_or (frees ps) n 0)) g) (rooted p (suc l) r)
unfolding topped rooted page_of
put_root l ps p ns n (single t) (whole qs) s h =
    record { root = sym s.agree; level = refl; stand = head_of s.stand; others = s.others; left = s.left; long = s.long }
put_root l ps p ns n (single t) (parted qs q) s h = absurd s.agree
put_root l ps p ns n (double a b) (whole qs) s h = absurd s.agree
put_root l ps p ns n (double a b) (parted qs q) s h =
    let fs = frees ps in
    let z = lowest_free qs in
    let nf = next_free n fs qs h s.left in
    let new : Item (suc (suc l)) = record { no = z; mark = no_mark; items = a ∷ b ∷ [] } in
    let G' : Page = record { kind = 2; mark = no_mark; places = child_place qs p ∷ child_place qs q ∷ [] } in
    let sa = head_of s.stand in
    let sb = head_of (tail_of s.stand) in
    let e : G' ≡ page_of (suc l) new =
    ap₂ (λ u v. record { kind = 2; mark = no_mark; places = u ∷ v ∷ [] })
    (ap (child_place qs) (sym s.agree.0) ∙ child_is l qs a sa.0)
    (ap (child_place qs) (sym s.agree.1) ∙ child_is l qs b sb.0) in
    let spare : (c : Item (suc l)) → Stands qs (suc l) c → Stands (put_page qs z G') (suc l) c =
    λ c sc. spared qs z G' (suc l) no_mark c (free_off qs z (suc l) no_mark c (lowest_is_free qs) sc) sc in
    record {
      root = ap page_no (sym nf.1);
      level = refl;
      stand = (
        ap (λ k. page_at (put_page qs z G') (page_no k)) nf.1 ∙ page_same qs z G' (lowest_is qs nf.0).1 ∙ e,
        more (spare a sa) (more (spare b sb) none),
      );
      others = λ m x k. page_other qs z G' m (λ y. head_of k (nf.1 ∙ sym y)) ∙ s.others m x (tail_of k);
      left = frees-taken qs G' refl ∙ ap (drop 1) s.left ∙ drop_more (double a b) n fs;
      long = put-length qs z G' ∙ s.long;
    }

-- ---- what the tree is made of after an item is put in: the pages taken, the item in page `at` of this mark, and what was there
pub record Joined (k : ℕ) (x : Item k) (old : List Atom) (T : Top) : Type 0 where
  pub mark : Stamp
  pub at : PageNo
  pub new : List Atom
  pub rest : List Atom
  pub made : atoms_top T ~ (new ++ (atoms k mark x ++ old))
  pub fresh : All (New k mark) new
  pub there : old ~ (page k at (mark_at k mark) ∷ rest)

-- the pages taken are the first n of the free ones
pub record Gathered (k : ℕ) (x : Item k) (old : List Atom) (fs : List ℕ) (n : ℕ) (T : Top) : Type 0 where
  pub joined : Joined k x old T
  pub numbered : numbers joined.new ≡ picks fs n

-- the new root, where there is one
abbrev new_root : {A : Type 0} → ℕ → PageNo → Grown A → List Atom
new_root l q (single t) = []
new_root l q (double a b) = page (suc l) q no_mark ∷ []

topped-atoms : (l : ℕ) (q : PageNo) (g : Grown (Item (suc l))) → atoms_top (topped l q g) ~ (new_root l q g ++ flat_map (atoms (suc l) no_mark) (parts g))
unfolding topped atoms flat_map
topped-atoms l q (single t) = back (same (append-nil (atoms_of l t)))
topped-atoms l q (double a b) = Permᴰ.refl _

new_root-picks : {A : Type 0} (l n : ℕ) (fs : List ℕ) (g : Grown A) → numbers (new_root l (page_no (get_or fs n 0)) g) ++ picks fs n ≡ picks fs (one_more g n)
unfolding flat_map
new_root-picks l n fs (single t) = refl
new_root-picks l n fs (double a b) = refl

new_root_new : {A : Type 0} (k l : ℕ) (q : PageNo) (m : Stamp) (g : Grown A) → k ≤ l → All (New k m) (new_root l q g)
new_root_new k l q m (single t) h = none
new_root_new k l q m (double a b) h = let z : New k m (page (suc l) q no_mark) = (omega arith, refl) in more z none

gather : (k d : ℕ) (fs : List ℕ) (x : Item k) (t : Item (above k (suc d))) (g : Grown (Item (above k (suc d)))) → Outcome k d fs x t g
    → let n = splits k d fs x t in Gathered k x (atoms_of (above k d) t) fs (one_more g n) (topped (above k d) (page_no (get_or fs n 0)) g)
gather k d fs x t g o =
    let n = splits k d fs x t in
    let nr = new_root (above k d) (page_no (get_or fs n 0)) g in
    record {
      joined =
          record {
            mark = o.mark;
            at = o.at;
            new = nr ++ o.new;
            rest = o.rest;
            made = topped-atoms (above k d) (page_no (get_or fs n 0)) g then rear nr o.made then same (sym (append_assoc nr o.new _));
            fresh = all_append (new_root_new k (above k d) (page_no (get_or fs n 0)) o.mark g (above_least k d)) o.fresh;
            there = o.there;
          };
      numbered = flat_append number_of nr o.new ∙ ap (λ z. numbers nr ++ z) o.numbered ∙ new_root-picks (above k d) n fs g;
    }

drop-picks : (n : ℕ) (fs : List ℕ) → n ≤ length fs → (drop n fs ++ picks fs n) ~ fs
drop-picks zero fs h = same (append-nil fs)
drop-picks (suc n) fs h =
    Permᴰ.middle (get_or fs n 0) (drop (suc n) fs) (picks fs n)
    then same (ap (λ z. z ++ picks fs n) (sym (drop-cons fs n 0 h)))
    then drop-picks n fs (omega arith)

-- ---- both together
module _ (k d : ℕ) (ps : List Page) (x : Item k) (t : Item (above k (suc d))) where
  -- the tree before it and after it, and the flat one after it
  abbrev pub before : Top
  before = record { depth = above k d; tree = t }

  abbrev pub after : Top
  after = topped (above k d) (page_no (get_or (frees ps) (splits k d (frees ps) x t) 0)) (put k d (frees ps) x t)

  abbrev pub flat_after : Tree
  flat_after = rooted t.no (suc (above k d)) (put_below d ps t.no (place k x))

  -- how many pages are taken
  abbrev pub taken_all : ℕ
  taken_all = one_more (put k d (frees ps) x t) (splits k d (frees ps) x t)

  -- the flat pages after it, in which the tree after it is laid out
  pub record PutIn (rest : List ℕ) : Type 0 where
    pub root : flat_after.root ≡ after.tree.no
    pub level : flat_after.levels ≡ suc after.depth
    pub laid : Laid flat_after.pages after rest
    pub long : length flat_after.pages ≡ length ps
    pub others : (n : ℕ) → Off n (numbers (atoms_top before)) → is_free (page_at ps (page_no n)) ≡ false → page_at flat_after.pages (page_no n) ≡ page_at ps (page_no n)

  module _ (n : ℕ) (m : min 1 d ≤ n) (hx : Full k x) (h : Thick n (Full (above k d)) t) where
    -- what the tree after it is made of
    pub gathered : Gathered k x (atoms_top before) (frees ps) taken_all after
    gathered = gather k d (frees ps) x t (put k d (frees ps) x t) (put_outcome k d (frees ps) x t n m hx h)

    numbers_after : numbers (atoms_top after) ~ (picks (frees ps) taken_all ++ (numbers (atoms k no_mark x) ++ numbers (atoms_top before)))
    numbers_after =
        let G = gathered.joined in
        flat_reordered number_of G.made
        then same
        (flat_append number_of G.new (atoms k G.mark x ++ atoms_top before)
        ∙ ap₂ (λ a b. a ++ b) gathered.numbered
        (flat_append number_of (atoms k G.mark x) (atoms_top before) ∙ ap (λ a. a ++ numbers (atoms_top before)) (numbers_mark k G.mark no_mark x)))

    -- an item that waits, put into a tree laid out in the pages, where what comes out has room
    pub put_in : (rest : List ℕ) → Stands ps k x → Laid ps before (numbers (atoms k no_mark x) ++ rest)
        → size (atoms_top after) + length rest ≤ length ps → PutIn rest
    put_in rest sx L room =
        let fs = frees ps in
        let nt = numbers (atoms_top before) in
        let nx = numbers (atoms k no_mark x) in
        let M = taken_all in
        let qs = flat_after.pages in
        let apart = laid_distinct ps before (nx ++ rest) L in
        let few : M ≤ length fs =
        omega (
          arith,
          length_reordered L.once ∙ length_from 0 (length ps),
          length-append fs (nt ++ (nx ++ rest)),
          length-append nt (nx ++ rest),
          length-append nx rest,
          length_reordered numbers_after,
          length-append (picks fs M) (nx ++ nt),
          length-append nx nt,
          length-picks fs M,
        ) in
        let s =
        put_stands k d ps x t n m hx h sx L.stands (distinct_front nt _ apart)
        (all_front nt rest (distinct_cross nx (nt ++ rest) (distinct_reordered (forth nt nx rest) apart)))
        (omega (arith, more_least (put k d fs x t) (splits k d fs x t))) in
        let P = put_root (above k d) ps t.no nt (splits k d fs x t) (put k d fs x t) (put_below d ps t.no (place k x)) s few in
        let clear : Clear qs =
        λ z f.
        (let off : Off z (picks fs M ++ (nx ++ nt)) =
        all_reordered numbers_after (all_map (stands_used qs (suc after.depth) no_mark after.tree P.stand) λ y u e. not_both (is_free (page_at qs (page_no z))) f (ap (λ i. is_free (page_at qs (page_no i))) (sym e) ∙ u)) in
        let same-page = P.others z (all_back nx nt (all_back (picks fs M) _ off)) (all_front _ (nx ++ nt) off) in
        same-page ∙ L.clear z (sym (ap is_free same-page) ∙ f)) in
        record {
          root = P.root;
          level = P.level;
          long = P.long;
          others = λ z o u. P.others z o (used_off ps z M u few);
          laid =
              record {
                stands = P.stand;
                once =
                    rw (P.left, P.long)
                    (rear (drop M fs) (Permᴰ.append_right rest numbers_after then same (append_assoc (picks fs M) (nx ++ nt) rest))
                    then same (sym (append_assoc (drop M fs) (picks fs M) ((nx ++ nt) ++ rest)))
                    then both (drop-picks M fs few) (Permᴰ.append_right rest (swapped nx nt) then same (append_assoc nt nx rest))
                    then L.once);
                clear = clear;
              };
        }
