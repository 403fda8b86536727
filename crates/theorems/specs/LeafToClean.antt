-- The leaf that a clean takes: it is a leaf, of the smallest mark, and the path to it leads to it.
use Prim.Native.Nat.{ℕ, zero, suc, ◌-◌, ◌≤◌, ◌<◌}
use native.Mathlib.Omega.{arith}
use Rattle.std.specs.Prelude.{◌≡◌, refl, Bool, true, cond, ◌&&◌, eqb, leb, length, get_or}
use Rattle.std.proofs.Common.{◌∙◌, length-append}
use Rattle.std.proofs.Math.Path.{ap}
use Rattle.std.proofs.Math.Bool.{false}
use mathlib.Core.List.{List, [], ◌∷◌, flat_map}
use Rattle.std.proofs.lemmas.List.{length-map}
use borrow.Author.Tests.{eqb-true, eq-eqb, ne_eqb, leb-true, leb-false}
use Rattle.rules.specs.declared.PageNo.{PageNo}
use Rattle.rules.specs.declared.Stamp.{Stamp}
use Rattle.rules.specs.Lists.{keep, put_if, count}
use Rattle.rules.specs.Store.{Page, Store, limit, stamp, child_of, free_page, no_place, page_at}
use Rattle.rules.specs.Cleaning.{smallest_mark, leaf_to_clean, path_to}
use Rattle.rules.specs.Sound.{is_free, is_leaf, reached, sound}
use Rattle.rules.specs.Views.{sound-holds}
use Rattle.rules.specs.laws.Tests.{not_both, and_left, and_right, and_both}
use Rattle.rules.specs.laws.All.{All, none, more, head_of, tail_of, all_map, flat_append}
use Rattle.rules.specs.laws.Order.{all_reordered, length_reordered, picked}
use Rattle.theorems.specs.TreeSound.{TreeSound}
use Rattle.theorems.specs.Leaves.{leaves, leaf_marks, leaves_all}
use Rattle.theorems.specs.tree.Items.{Item, no_mark, no_node, atoms, atoms_of, Thick, Full}
use Rattle.theorems.specs.tree.Budget.{root_least}
use Rattle.theorems.specs.tree.Stands.{place, page_of, Stands, number_is}
use Rattle.theorems.specs.tree.Laid.{Rooted, laid_used}
use Rattle.theorems.specs.tree.Descent.{reached-count}
use Rattle.theorems.specs.tree.FromRules.{from-sound}
use Rattle.theorems.specs.tree.LeafAtoms.{leaf_mark_of, marks_laid}
use Rattle.theorems.specs.tree.Trim.{Along, leaf_at}
use Rattle.theorems.specs.tree.Path.{Hit, hit_later, path_leads}

-- ---- marks within 32 bits
abbrev pub Limited : List Page → Type 0
Limited ps = All (λ m. m.0 ≤ limit) (leaf_marks ps)

-- a sound store has marks of 32 bits
pub marks_limited : (s : Store) → sound s ≡ true → Limited s.pages
unfolding leaf_marks
marks_limited s e =
    let h = sound-holds s e in
    leaves_all _ (all_map h.rule7.marks λ g k z. more (omega (arith, (k.leaf z).mark_most, h.ranges.header.next_most)) none)

-- ---- the smallest mark
is_marked : Stamp → Page → Bool
is_marked m g = eqb g.kind 1 && eqb g.mark.0 m.0

no_leaf : (ps : List Page) → length (leaf_marks ps) ≡ 0 → (smallest_mark ps).0 ≡ limit
unfolding smallest_mark leaf_marks flat_map keep
no_leaf [] e = refl
no_leaf (g ∷ gs) e = go (is_leaf g) e (λ k. no_leaf gs k)
  where
    go : (b : Bool) → length (flat_map (λ g. g.mark ∷ []) (put_if b g (leaves gs))) ≡ 0 → (length (leaf_marks gs) ≡ 0 → (smallest_mark gs).0 ≡ limit)
        → (cond (b && leb g.mark.0 (smallest_mark gs).0) g.mark (smallest_mark gs)).0 ≡ limit
    go true e ih = absurd (omega arith)
    go false e ih = ih e

marked-hit : (ps : List Page) → Limited ps → 1 ≤ length (leaf_marks ps) → Hit (is_marked (smallest_mark ps)) ps free_page
unfolding smallest_mark leaf_marks flat_map keep is_marked
marked-hit [] a h = absurd (omega arith)
marked-hit (g ∷ gs) a h =
    go (is_leaf g) refl (leb g.mark.0 (smallest_mark gs).0) refl a h (λ b k. marked-hit gs b k)
  where
    later : Stamp
    later = smallest_mark gs

    go : (b : Bool) → is_leaf g ≡ b → (c : Bool) → leb g.mark.0 later.0 ≡ c
        → All (λ m. m.0 ≤ limit) (flat_map (λ g. g.mark ∷ []) (put_if b g (leaves gs))) → 1 ≤ length (flat_map (λ g. g.mark ∷ []) (put_if b g (leaves gs)))
        → (Limited gs → 1 ≤ length (leaf_marks gs) → Hit (is_marked later) gs free_page)
        → Hit (is_marked (cond (b && c) g.mark later)) (g ∷ gs) free_page
    go true e true f a h ih = hit_later (is_marked g.mark) free_page g gs λ z. absurd (not_both (is_marked g.mark g) (and_both e (eq-eqb g.mark.0 g.mark.0 refl)) z)
    go true e false f a h ih = hit_later (is_marked later) free_page g gs λ z. some (leb 1 (length (leaf_marks gs))) refl
      where
        some : (d : Bool) → leb 1 (length (leaf_marks gs)) ≡ d → Hit (is_marked later) gs free_page
        some true k = ih (tail_of a) (leb-true _ _ k)
        some false k = absurd (omega (arith, head_of a, no_leaf gs (omega (arith, leb-false 1 (length (leaf_marks gs)) k)), leb-false g.mark.0 later.0 f))
    go false e c f a h ih = hit_later (is_marked later) free_page g gs λ z. ih a h

smallest_least : (ps : List Page) → All (λ m. (smallest_mark ps).0 ≤ m.0) (leaf_marks ps)
unfolding smallest_mark leaf_marks flat_map keep
smallest_least [] = none
smallest_least (g ∷ gs) = go (is_leaf g) (leb g.mark.0 (smallest_mark gs).0) refl (smallest_least gs)
  where
    go : (b c : Bool) → leb g.mark.0 (smallest_mark gs).0 ≡ c → All (λ m. (smallest_mark gs).0 ≤ m.0) (leaf_marks gs)
        → All (λ m. (cond (b && c) g.mark (smallest_mark gs)).0 ≤ m.0) (flat_map (λ g. g.mark ∷ []) (put_if b g (leaves gs)))
    go true true e ih = more {x = g.mark} (omega arith) (all_map ih λ m h. omega (arith, leb-true g.mark.0 (smallest_mark gs).0 e))
    go true false e ih = more {x = g.mark} (omega (arith, leb-false g.mark.0 (smallest_mark gs).0 e)) ih
    go false c e ih = ih

-- ---- a tree has a leaf
some_leaf : (l : ℕ) (m : Stamp) (t : Item (suc l)) → Thick (root_least 1 l) (Full l) t → 1 ≤ length (flat_map leaf_mark_of (atoms (suc l) m t))
unfolding flat_map atoms
some_leaf zero m t h = omega arith
some_leaf (suc l) m t h = go t.items h.least h.each (λ x f. some_leaf l no_mark x (record { least = omega (arith, enough l, f.least); most = f.most; each = f.each }))
  where
    enough : (l : ℕ) → root_least 1 l ≤ 4
    enough zero = omega arith
    enough (suc l) = omega arith

    go : (xs : List (Item (suc l))) → 1 ≤ length xs → All (Full (suc l)) xs → ((x : Item (suc l)) → Full (suc l) x → 1 ≤ length (flat_map leaf_mark_of (atoms_of l x)))
        → 1 ≤ length (flat_map leaf_mark_of (flat_map (atoms (suc l) no_mark) xs))
    go [] k a ih = absurd (omega arith)
    go (x ∷ xs) k a ih =
        let rest = flat_map (atoms (suc l) no_mark) xs in
        let both = ap length (flat_append leaf_mark_of (atoms_of l x) rest) ∙ length-append (flat_map leaf_mark_of (atoms_of l x)) (flat_map leaf_mark_of rest) in
        omega (arith, both, ih x (head_of a))

-- ---- down the path in the pages: each place is one of its page's, and the last page is q
abbrev pub Followed : List Page → ℕ → PageNo → List ℕ → PageNo → Type 0
Followed ps zero p path q = p ≡ q
Followed ps (suc d) p [] q = ⊥
Followed ps (suc d) p (i ∷ path) q = (i < length (page_at ps p).places) × Followed ps d (child_of (get_or (page_at ps p).places i no_place)) path q

follow : (ps : List Page) (d : ℕ) (path : List ℕ) (t : Item (suc d)) → Stands ps (suc d) t → Along d path t → Followed ps d t.no path (leaf_at d path t).no
unfolding leaf_at page_of
follow ps zero path t s al = refl
follow ps (suc d) [] t s al = absurd al
follow ps (suc d) (i ∷ path) t s al =
    rw (s.0, number_is d t.items i, length-map t.items (place (suc d)))
    (al.0, follow ps d path (get_or t.items i no_node) (head_of (all_reordered (picked t.items i no_node al.0) s.1)) al.1)

-- ---- the theorem
pub record ToClean (s : Store) (q : PageNo) : Type 0 where
  pub leaf : (page_at s.pages q).kind ≡ 1
  pub mark : (page_at s.pages q).mark ≡ smallest_mark s.pages
  pub smallest : All (λ m. (smallest_mark s.pages).0 ≤ m.0) (leaf_marks s.pages)
  pub reached_once : count (λ p. eqb q.0 p.0) (reached s) ≡ 1
  pub path : Followed s.pages (s.levels - 1) s.root (path_to s.pages (s.levels - 1) s.root q) q

-- so is the leaf that a clean takes
pub to_clean : (s : Store) → TreeSound s → Limited s.pages → ToClean s (leaf_to_clean s.pages)
unfolding leaf_to_clean is_marked
to_clean s R a =
    let ps = s.pages in
    let q = leaf_to_clean ps in
    let I = from-sound s R in
    let T = I.top in
    let L = I.laid in
    let top : Rooted 1 T = record { least = omega (arith, one_two T.depth, I.rooted.least); most = I.rooted.most; each = I.rooted.each } in
    let hit = marked-hit ps a (omega (arith, length_reordered (marks_laid ps T L), some_leaf T.depth no_mark T.tree top)) in
    let passes : is_marked (smallest_mark ps) (page_at ps q) ≡ true = unfold page_at in hit.passes in
    let leaf : (page_at ps q).kind ≡ 1 = eqb-true _ _ (and_left _ _ passes) in
    let used : is_free (page_at ps q) ≡ false = ne_eqb _ _ (λ (z : (page_at ps q).kind ≡ 0). omega arith) in
    let once = laid_used ps T q L used in
    let lead = path_leads ps q leaf T.depth T.tree L.stands (omega arith) in
    let depth : s.levels - 1 ≡ T.depth = omega (arith, I.level) in
    record {
      leaf = leaf;
      mark = ap stamp (eqb-true _ _ (and_right (eqb (page_at ps q).kind 1) _ passes));
      smallest = smallest_least ps;
      reached_once = reached-count s T I.root I.level L.stands q.0 ∙ once;
      path = rw (I.root, depth) (rw lead.to at (follow ps T.depth (path_to ps T.depth T.tree.no q) T.tree L.stands lead.along));
    }
  where
    one_two : (l : ℕ) → root_least 1 l ≤ root_least 2 l
    one_two zero = omega arith
    one_two (suc l) = omega arith
