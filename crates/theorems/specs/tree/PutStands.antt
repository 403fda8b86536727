-- Putting an item into the flat pages does what putting it into the tree does.
use Rattle.std.specs.Prelude.{ℕ, zero, suc, ◌<◌, ◌≤◌, min, ◌≡◌, Bool, length, get_or, drop}
use Rattle.std.proofs.Common.{arith, sym, ◌∙◌, ap, length-append}
use Rattle.std.proofs.Math.Path.{refl}
use Rattle.std.proofs.Math.Bool.{true, false, cond}
use mathlib.Core.List.{List, [], ◌∷◌, ◌++◌, map, flat_map, map-append, append-nil}
use Rattle.std.proofs.Math.Dec.{leb}
use borrow.Author.Tests.{leb-false}
use Rattle.rules.specs.declared.PageNo.{PageNo}
use Rattle.rules.specs.declared.Stamp.{Stamp}
use Rattle.rules.specs.declared.Box.{Box}
use Rattle.rules.specs.declared.Entry.{Entry}
use Rattle.rules.specs.Lists.{without}
use Rattle.rules.specs.Store.{Page, page_no, child_of, no_place, page_at, put_page}
use Rattle.rules.specs.Tree.{its_box, choose, split, lowest_free, Written, whole, parted, pages_in, settled, renewed, put_below}
use Rattle.rules.specs.Sound.{is_free}
use Rattle.rules.specs.laws.Tests.{not_both}
use Rattle.rules.specs.laws.All.{All, none, more, head_of, tail_of, all_map, all_zip, all_append, all_front, all_back, flat_append}
use Rattle.rules.specs.laws.Lists.{Distinct}
use Rattle.rules.specs.laws.Order.{◌~◌, back, all_reordered, distinct_reordered, length_reordered, flat_reordered, flat_both, picked}
use Rattle.theorems.specs.tree.Numbers.{Off, head_off, distinct_tail, distinct_front, distinct_cross, picks}
use Rattle.rules.specs.laws.Split.{choose_lt, split_parted}
use Rattle.theorems.specs.tree.Items.{Node, Item, extent, no_mark, with_items, no_node, Atom, number_of, atoms, numbers, Thick, Full, Grown, single, double, parts, one_more, settle, replaced, above, put, splits}
use Rattle.theorems.specs.tree.PutFull.{replaced-parts, parts_few}
use Rattle.theorems.specs.tree.PutAtoms.{taken, Took, Under, settle_under, picks_more, picks_first, put_outcome}
use Rattle.theorems.specs.tree.Pages.{page_other, page_same, put-length, used_inside, frees, frees-used, frees-taken, lowest_is, lowest_is_free, used_off, next_free}
use Rattle.theorems.specs.tree.Stands.{place, page_of, Stands, all_numbers, numbers_mark, stands_frame, kind_used, stands_used, spared, free_off, written, its_extent, settled_is, choose_is, number_is, Agree, renewed_is}

-- page p, of a tree whose pages are `ns`, has become g in the flat pages r, for which `many` of the free pages were taken: those of `ms`
pub record Put (l : ℕ) (ps : List Page) (p : PageNo) (ns ms : List ℕ) (many : ℕ) (g : Grown (Item (suc l))) (r : Written) : Type 0 where
  pub agree : Agree p g r
  pub stand : All (Stands (pages_in r) (suc l)) (parts g)
  pub others : (n : ℕ) → Off n ns → Off n ms → page_at (pages_in r) (page_no n) ≡ page_at ps (page_no n)
  pub left : frees (pages_in r) ≡ drop many (frees ps)
  pub long : length (pages_in r) ≡ length ps

-- ---- settling
-- an item that stands, and has no part in page p
abbrev pub Beside : List Page → PageNo → (l : ℕ) → Stamp → Item l → Type 0
Beside ps p l m c = Stands ps l c × Off p.0 (numbers (atoms l m c))

module _ (l : ℕ) (m : Stamp) (ps : List Page) where
  one_put : (t : Item (suc l)) → is_free (page_at ps t.no) ≡ false → All (Beside ps t.no l m) t.items
      → Put l ps t.no (t.no.0 ∷ []) [] 0 (single t) (whole (put_page ps t.no (page_of l t)))
  one_put t u a =
      let G = page_of l t in
      record {
        agree = refl;
        stand = more (page_same ps t.no G (used_inside ps t.no u), all_map a λ c h. spared ps t.no G l m c h.1 h.0) none;
        others = λ n h k. page_other ps t.no G n (λ e. head_of h (sym e));
        left = frees-used ps t.no G u (kind_used l t);
        long = put-length ps t.no G;
      }

  two_put : (a b : Item (suc l)) → b.no ≡ lowest_free ps → is_free (page_at ps a.no) ≡ false → 1 ≤ length (frees ps)
      → All (Beside ps a.no l m) a.items → All (Beside ps a.no l m) b.items
      → Put l ps a.no (a.no.0 ∷ []) (b.no.0 ∷ []) 1 (double a b) (parted (put_page (put_page ps a.no (page_of l a)) b.no (page_of l b)) b.no)
  two_put a b e u h ha hb =
      let p = a.no in
      let q = b.no in
      let A = page_of l a in
      let B = page_of l b in
      let qs = put_page ps p A in
      let f : is_free (page_at ps q) ≡ true = rw e (lowest_is_free ps) in
      let pq : p.0 ≡ q.0 → ⊥ = λ z. not_both (is_free (page_at ps q)) f (ap (λ n. is_free (page_at ps (page_no n))) (sym z) ∙ u) in
      let fr : frees qs ≡ frees ps = frees-used ps p A u (kind_used l a) in
      let h' : 1 ≤ length (frees qs) = rw fr h in
      let e' : q ≡ lowest_free qs = e ∙ ap page_no (sym (lowest_is ps h).0 ∙ ap (λ z. get_or z 0 0) (sym fr) ∙ (lowest_is qs h').0) in
      let after : (c : Item l) → Beside ps p l m c → Stands (put_page qs q B) l c =
      λ c s. spared qs q B l m c (free_off ps q l m c f s.0) (spared ps p A l m c s.1 s.0) in
      let inside : q.0 < length qs = rw e' (lowest_is qs h').1 in
      record {
        agree = (refl, refl);
        stand =
            more (page_other qs q B p.0 pq ∙ page_same ps p A (used_inside ps p u), all_map ha after)
            (more (page_same qs q B inside, all_map hb after) none);
        others = λ n x y. page_other qs q B n (λ z. head_of y (sym z)) ∙ page_other ps p A n (λ z. head_of x (sym z));
        left = ap (λ z. frees (put_page qs z B)) e' ∙ frees-taken qs B (kind_used l b) ∙ ap (drop 1) fr;
        long = put-length qs q B ∙ put-length ps p A;
      }

  settle-put : (q : PageNo) (t : Item (suc l)) (xs : List (Item l)) → is_free (page_at ps t.no) ≡ false → length xs ≤ 9
      → (leb (length xs) 8 ≡ false → (1 ≤ length (frees ps)) × (q ≡ lowest_free ps)) → All (Beside ps t.no l m) xs
      → let g = settle (extent l) q t xs in
      Put l ps t.no (t.no.0 ∷ []) (numbers (taken l q t.mark g)) (one_more g 0) g (written l ps (settle (extent l) (lowest_free ps) t xs))
  unfolding settle written flat_map
  settle-put q t xs u most over a = go (leb (length xs) 8) refl
    where
      go : (b : Bool) → leb (length xs) 8 ≡ b →
          let g : PageNo → Grown (Item (suc l)) = λ q. cond b (single (with_items t xs)) (double (with_items t (split (extent l) xs).first) (record { no = q; mark = t.mark; items = (split (extent l) xs).second })) in
          Put l ps t.no (t.no.0 ∷ []) (numbers (taken l q t.mark (g q))) (one_more (g q) 0) (g q) (written l ps (g (lowest_free ps)))
      go true e = one_put (with_items t xs) u a
      go false e =
          let p = split_parted (extent l) xs (omega (arith, leb-false (length xs) 8 e)) in
          let a' = all_reordered (back p.order) a in
          let o = over e in
          rw (← o.1)
          (two_put (with_items t (split (extent l) xs).first) (record { no = q; mark = t.mark; items = (split (extent l) xs).second }) o.1 u o.0
          (all_front _ (split (extent l) xs).second a') (all_back (split (extent l) xs).first _ a'))

-- ---- the flat step at a page, as a settling of the tree's
first_flat : (k : ℕ) (ps : List Page) (x : Item k) (t : Item (suc k)) → page_at ps t.no ≡ page_of k t
    → put_below zero ps t.no (place k x) ≡ written k ps (settle (extent k) (lowest_free ps) t (t.items ++ (x ∷ [])))
unfolding put_below page_of
first_flat k ps x t e = rw (e, ← map-append (place k) t.items (x ∷ [])) (settled_is k ps t (t.items ++ (x ∷ [])))

below_suc : (d : ℕ) (ps : List Page) (p : PageNo) (e : Entry) (g : Page) (i : ℕ) (c : PageNo)
    → page_at ps p ≡ g → choose its_box e.bounds g.places ≡ i → child_of (get_or g.places i no_place) ≡ c
    → put_below (suc d) ps p e ≡ settled (pages_in (put_below d ps c e)) p g (renewed g.places i c (put_below d ps c e))
unfolding put_below
below_suc d ps p e g i c h j k = rw (h, j, k)

next_flat : (k l d : ℕ) (ps : List Page) (x : Item k) (t : Item (suc (suc l))) (g : Grown (Item (suc l))) → page_at ps t.no ≡ page_of (suc l) t →
    let i = choose (extent (suc l)) (extent k x) t.items in
    let c = (get_or t.items i no_node).no in
    let r = put_below d ps c (place k x) in
    Agree c g r → All (Stands (pages_in r) (suc l)) (parts g)
    → put_below (suc d) ps t.no (place k x)
    ≡ written (suc l) (pages_in r) (settle (extent (suc l)) (lowest_free (pages_in r)) t (replaced t.items i g))
unfolding page_of
next_flat k l d ps x t g e s h =
    let i = choose (extent (suc l)) (extent k x) t.items in
    let c = (get_or t.items i no_node).no in
    let r = put_below d ps c (place k x) in
    let j : choose its_box (place k x).bounds (map (place (suc l)) t.items) ≡ i =
    choose_is (suc l) (place k x).bounds t.items ∙ ap (λ b. choose (extent (suc l)) b t.items) (ap (λ f. f x) (its_extent k)) in
    below_suc d ps t.no (place k x) (page_of (suc l) t) i c e j (number_is l t.items i)
    ∙ ap (settled (pages_in r) t.no (page_of (suc l) t)) (renewed_is l t.items i c g r s h)
    ∙ settled_is (suc l) (pages_in r) t (replaced t.items i g)

-- ---- counting the pages taken
pub drop_more : {A : Type 0} (g : Grown A) (n : ℕ) (fs : List ℕ) → drop (one_more g 0) (drop n fs) ≡ drop (one_more g n) fs
drop_more (single a) n fs = refl
drop_more (double a b) n fs = drop_one n fs
  where
    drop_one : (n : ℕ) (fs : List ℕ) → drop 1 (drop n fs) ≡ drop (suc n) fs
    drop_one zero fs = refl
    drop_one (suc n) [] = refl
    drop_one (suc n) (f ∷ fs) = drop_one n fs

settle_over : {A : Type 0} (f : A → Box) (q : PageNo) (t : Node A) (xs : List A) (n : ℕ) → leb (length xs) 8 ≡ false → one_more (settle f q t xs) n ≡ suc n
unfolding settle
settle_over f q t xs n e = rw e

took_double : {A B : Type 0} (d n : ℕ) (h : Grown B) (g : Grown A) → Under h g → one_more g 0 ≡ 1 → Took d h n → n ≡ suc d
took_double d n (single b) (single a) u e k = absurd (omega arith)
took_double d n (single b) (double a a') u e k = absurd u
took_double d n (double b c) g u e k = k

-- no page taken is given back
pub more_least : {A : Type 0} (g : Grown A) (n : ℕ) → n ≤ one_more g n
more_least (single a) n = omega arith
more_least (double a b) n = omega arith

-- ---- a page after its child
chain : (l : ℕ) (ps qs : List Page) (p : PageNo) (nc rest tk : List ℕ) (n : ℕ) (g : Grown (Item (suc l))) (r : Written)
    → (tk ++ picks (frees ps) n ≡ picks (frees ps) (one_more g n))
    → ((m : ℕ) → Off m nc → Off m (picks (frees ps) n) → page_at qs (page_no m) ≡ page_at ps (page_no m))
    → frees qs ≡ drop n (frees ps) → length qs ≡ length ps → ((m : ℕ) → Off m rest → Off m nc)
    → Put l qs p (p.0 ∷ []) tk (one_more g 0) g r
    → Put l ps p (p.0 ∷ rest) (picks (frees ps) (one_more g n)) (one_more g n) g r
chain l ps qs p nc rest tk n g r pk oth left long incl s =
    let fs = frees ps in
    record {
      agree = s.agree;
      stand = s.stand;
      others =
          λ m h k.
          (let k' : Off m (tk ++ picks fs n) = rw pk k in
          s.others m (more (head_of h) none) (all_front _ (picks fs n) k') ∙ oth m (incl m (tail_of h)) (all_back tk _ k'));
      left = s.left ∙ ap (drop (one_more g 0)) left ∙ drop_more g n fs;
      long = s.long ∙ long;
    }

-- the item x, of which no page is one of t's, put into t as it stands in the pages
pub put_stands : (k d : ℕ) (ps : List Page) (x : Item k) (t : Item (above k (suc d))) (n : ℕ) → min 1 d ≤ n → Full k x → Thick n (Full (above k d)) t
    → Stands ps k x → Stands ps (above k (suc d)) t → Distinct (numbers (atoms (above k (suc d)) no_mark t))
    → All (λ m. Off m (numbers (atoms k no_mark x))) (numbers (atoms (above k (suc d)) no_mark t))
    → splits k d (frees ps) x t ≤ length (frees ps)
    → Put (above k d) ps t.no (numbers (atoms (above k (suc d)) no_mark t)) (picks (frees ps) (splits k d (frees ps) x t)) (splits k d (frees ps) x t)
    (put k d (frees ps) x t) (put_below d ps t.no (place k x))
unfolding put splits atoms flat_map
put_stands k zero ps x t n m hx h sx st di ox few =
    let fs = frees ps in
    let xs = t.items ++ (x ∷ []) in
    let q = page_no (get_or fs 0 0) in
    let g = settle (extent k) q t xs in
    let len = length-append t.items (x ∷ []) in
    let all : All (Beside ps t.no k t.mark) xs =
    all_append (all_zip st.1 (all_numbers (atoms k t.mark) t.items (head_off di)) λ c s o. (s, o))
    (more (sx, rw (numbers_mark k t.mark no_mark x) (head_of ox)) none) in
    let over : leb (length xs) 8 ≡ false → (1 ≤ length fs) × (q ≡ lowest_free ps) =
    λ e.
    (let one : one_more g 0 ≡ 1 = settle_over (extent k) q t xs 0 e in
    let some : 1 ≤ length fs = omega arith in
    (some, ap page_no (lowest_is ps some).0)) in
    rw (first_flat k ps x t st.0)
    (chain k ps ps t.no [] (numbers (flat_map (atoms k t.mark) t.items)) (numbers (taken k q t.mark g)) 0 g _
    (append-nil (numbers (taken k q t.mark g)) ∙ picks_first fs k t.mark g) (λ z a b. refl) refl refl (λ z a. none)
    (settle-put k t.mark ps q t xs (ap is_free st.0 ∙ kind_used k t) (omega (arith, h.most)) over all))
put_stands k (suc d) ps x t n m hx h sx st di ox few =
    let l = above k d in
    let L = above k (suc d) in
    let fs = frees ps in
    let i = choose (extent L) (extent k x) t.items in
    let c = get_or t.items i no_node in
    let w = without t.items i in
    let g' = put k d fs x c in
    let n1 = splits k d fs x c in
    let xs = replaced t.items i g' in
    let q = page_no (get_or fs (suc d) 0) in
    let g = settle (extent L) q t xs in
    let hi : i < length t.items = choose_lt (extent L) (extent k x) t.items (omega (arith, h.least)) in
    let p : t.items ~ (c ∷ w) = picked t.items i no_node hi in
    let r : xs ~ (parts g' ++ w) = replaced-parts t.items i g' hi in
    let lp = length_reordered p in
    let lr = length_reordered r ∙ length-append (parts g') w in
    let lf = parts_few g' in
    let A : Item L → List Atom = atoms L no_mark in
    let pn : numbers (flat_map A t.items) ~ (numbers (A c) ++ numbers (flat_map A w)) = flat_both number_of (A c) (flat_map A w) (flat_reordered A p) in
    let apart = distinct_reordered pn (distinct_tail di) in
    let off = all_reordered pn (head_off di) in
    let u = settle_under (extent L) q t t.items i g' h.most in
    let fc = head_of (all_reordered p h.each) in
    let o = put_outcome k d fs x c 4 (omega arith) hx fc in
    let ss = all_reordered p st.1 in
    let n1-few : n1 ≤ length fs = omega (arith, more_least g n1) in
    let ih = put_stands k d ps x c 4 (omega arith) hx fc sx (head_of ss) (distinct_front (numbers (A c)) _ apart) (all_front _ (numbers (flat_map A w)) (all_reordered pn (tail_of ox))) n1-few in
    let qs = pages_in (put_below d ps c.no (place k x)) in
    let up : is_free (page_at ps t.no) ≡ false = ap is_free st.0 ∙ kind_used L t in
    let in-qs : (z : ℕ) → is_free (page_at ps (page_no z)) ≡ false → Off z (numbers (A c)) → page_at qs (page_no z) ≡ page_at ps (page_no z) =
    λ z f a. ih.others z a (used_off ps z n1 f n1-few) in
    let siblings : All (Beside qs t.no L no_mark) w =
    all_zip
    (all_zip (all_numbers A w (distinct_cross (numbers (A c)) _ apart)) (tail_of ss) λ s a b. stands_frame ps qs L no_mark s (all_zip a (stands_used ps L no_mark s b) λ z f e. in-qs z e f) b)
    (all_numbers A w (all_back (numbers (A c)) _ off))
    λ s a b. (a, b) in
    let grown : All (Beside qs t.no L no_mark) (parts g') =
    all_zip ih.stand
    (all_numbers A (parts g')
    (all_reordered (back (flat_reordered number_of o.made))
    (rw (flat_append number_of o.new (atoms k o.mark x ++ A c), flat_append number_of (atoms k o.mark x) (A c), o.numbered, numbers_mark k o.mark no_mark x)
    (all_append (used_off ps t.no.0 n1 up n1-few) (all_append (head_of ox) (all_front _ (numbers (flat_map A w)) off))))))
    λ s a b. (a, b) in
    let over : leb (length xs) 8 ≡ false → (1 ≤ length (frees qs)) × (q ≡ lowest_free qs) =
    λ e.
    (let f = next_free n1 fs qs (omega (arith, settle_over (extent L) q t xs n1 e)) ih.left in
    (f.0, ap page_no (ap (λ z. get_or fs z 0) (sym (took_double d n1 g' g u (settle_over (extent L) q t xs 0 e) o.took)) ∙ f.1))) in
    rw (next_flat k l d ps x t g' st.0 ih.agree ih.stand)
    (chain L ps qs t.no (numbers (A c)) (numbers (flat_map A t.items)) (numbers (taken L q t.mark g)) n1 g _
    (picks_more fs L t.mark d g' g n1 u o.took) ih.others ih.left ih.long (λ z a. all_front _ (numbers (flat_map A w)) (all_reordered pn a))
    (settle-put L no_mark qs q t xs (ap is_free (in-qs t.no.0 up (all_front _ (numbers (flat_map A w)) off)) ∙ up) (omega (arith, h.most)) over
    (all_reordered (back r) (all_append grown siblings))))
