-- A clean on the tree and in the pages together: taking out along the path, putting back, and the root giving way.
use Rattle.std.specs.Prelude.{ℕ, zero, suc, ◌+◌, ◌*◌, ◌≤◌, ◌≡◌, refl}
use native.Mathlib.Omega.{arith}
use Rattle.std.proofs.Math.Path.{sym, ap}
use Rattle.std.proofs.Common.{subst, ◌∙◌, ap₂}
use mathlib.Core.List.{List, [], ◌∷◌, ◌++◌, map, flat_map, append-nil, append_assoc, map-append}
use mathlib.Core.List.Memᴰ
use mathlib.Core.List.Permᴰ
use Rattle.std.proofs.Math.ListN.{length, length-append, length-map}
use Rattle.rules.specs.declared.Stamp.{Stamp}
use Rattle.rules.specs.declared.Entry.{Entry}
use Rattle.rules.specs.Store.{Page}
use Rattle.rules.specs.Tree.{Tree}
use Rattle.rules.specs.Cleaning.{Trimmed, trimmed_below, put_back, given_way}
use Rattle.rules.specs.laws.All.{All, none, more, head_of, tail_of, all_map, all_zip, all_append, all_front, all_back, all_flat, flat_all, all_mapped, map_back, Mem, always}
use Rattle.rules.specs.laws.Order.{◌~◌, ◌then◌, back, same, both, rear, forth, swapped, all_reordered, length_reordered, flat_both}
use Rattle.theorems.specs.Leaves.{MarkedEntry, with_mark}
use Rattle.theorems.specs.tree.Numbers.{distinct_front}
use Rattle.theorems.specs.tree.Items.{Item, no_mark, Atom, page, entry, entry_of, entries, atoms, atoms_of, numbers, Thick, Full}
use Rattle.theorems.specs.tree.Budget.{weight, weight_append, root_least}
use Rattle.theorems.specs.tree.Pages.{frees}
use Rattle.theorems.specs.tree.Laid.{Top, Rooted, atoms_top, Laid, laid_distinct}
use Rattle.theorems.specs.tree.Stands.{place}
use Rattle.theorems.specs.tree.Descent.{entries_leaf}
use Rattle.theorems.specs.tree.LeafAtoms.{marked_of, leaf_mark_of, marked_leaf, unmarked, Says, stands_says, SaysLeaf, says_leaf}
use Rattle.theorems.specs.tree.Trim.{Loose, loose, loose_entry, loose_page, Along, leaf_at, Cut, cut, Loses, Ready, CutGood, cut-good, cut_number, cut_whole}
use Rattle.theorems.specs.tree.TrimAtoms.{CutAtoms, cut-atoms}
use Rattle.theorems.specs.tree.TrimPages.{loose_atoms, orphan, StandsLoose, cut-numbers, Trims}
use Rattle.theorems.specs.tree.TrimStands.{cut_trims}
use Rattle.theorems.specs.tree.PutBack.{Waits, EntryIn, Returned, put_all}
use Rattle.theorems.specs.tree.LeafMarks.{LeafIn, own_marks, leaf_in_more}
use Rattle.theorems.specs.tree.CleanAtoms.{steps_marked, steps_says, lost_says, all_stay}
use Rattle.theorems.specs.tree.GiveWay.{GivenWay, gives_way}

-- ---- what waits
ready_waits : (qs : List Page) (d : ℕ) (w : Loose) → Ready d w → StandsLoose qs w → Waits qs d w
ready_waits qs d (loose k x) a s = (omega (arith, a.0), a.1, s)

loose_weight : (ws : List Loose) → weight (flat_map loose_atoms ws) ≡ length (flat_map loose_entry ws) + weight (flat_map loose_page ws)
unfolding flat_map atoms
loose_weight [] = refl
loose_weight (loose zero e ∷ ws) = omega (arith, loose_weight ws)
loose_weight (loose (suc k) x ∷ ws) =
    omega (arith, loose_weight ws, weight_append (atoms_of k x) (flat_map loose_atoms ws), weight_append (atoms_of k x) (flat_map loose_page ws))

-- ---- the tree that T, laid out in ps, has become by a clean of its leaf q: `up` is all that was never q's own, `kept` the entries that f leaves, each with its mark now
pub record CleanedTo (f : List Entry → List Entry) (m : Stamp) (ps : List Page) (T : Top) (q : Item 1) (F : Tree) : Type 0 where
  pub top : Top
  pub root : F.root ≡ top.tree.no
  pub level : F.levels ≡ suc top.depth
  pub laid : Laid F.pages top []
  pub rooted : Rooted 2 top
  pub long : length F.pages ≡ length ps
  pub up : List Atom
  pub kept : List MarkedEntry
  pub before : atoms_top T ~ (flat_map (atoms 0 q.mark) q.items ++ (page 0 q.no q.mark ∷ up))
  pub marked : flat_map marked_of (atoms_top top) ~ (kept ++ flat_map marked_of up)
  pub kept_entries : map (λ k. k.entry) kept ~ f q.items
  pub kept_in : All (λ k. Mem k.mark (m ∷ flat_map leaf_mark_of up)) kept
  pub leaves_in : All (LeafIn (λ k. Mem k (m ∷ flat_map leaf_mark_of up))) (atoms_top top)
  pub says : All (SaysLeaf F.pages (λ n. n ≡ q.no.0 → ⊥)) up
  -- a leaf that isn't thin, or is the root, stays and has the mark m
  pub stays : (1 ≤ T.depth → 4 ≤ length (f q.items)) → (kept ≡ map (with_mark m) (f q.items)) × Says F.pages (page 0 q.no m)

-- ---- the clean of the leaf q at the path's end, which f leaves some of its entries and m is the mark of
module _ (f : List Entry → List Entry) (m : Stamp) (shrinks : (es : List Entry) → length (f es) ≤ length es) (ps : List Page) (T : Top) (path : List ℕ)
    (al : Along T.depth path T.tree) (h : Rooted 2 T) (L : Laid ps T []) (few : weight (atoms_top T) ≤ 3 * length ps) where
  abbrev q : Item 1
  q = leaf_at T.depth path T.tree

  abbrev r : Cut T.depth
  r = cut f m T.depth path T.tree

  abbrev flat : Trimmed
  flat = trimmed_below f m T.depth ps path T.tree.no

  abbrev left : Top
  left = record { depth = T.depth; tree = (cut f m T.depth path T.tree).page }

  C : CutAtoms f m T.depth T.tree q r
  C = cut-atoms f m T.depth path T.tree al

  good : CutGood T.depth T.tree r
  good = cut-good f m shrinks T.depth path T.tree al h.most h.each

  trims : Trims T.depth ps T.tree r flat
  trims = cut_trims f m T.depth ps path T.tree al L.stands (distinct_front (numbers (atoms_top T)) [] (laid_distinct ps T [] L))

  left_laid : Laid flat.pages left (numbers (flat_map loose_atoms r.loose))
  left_laid =
      let N = numbers r.lost in
      let R = numbers (atoms_of T.depth r.page) ++ numbers (flat_map loose_atoms r.loose) in
      let ch = trims.changed in
      record {
        stands = trims.stand;
        once =
            rw ch.long
            (both ch.free (Permᴰ.refl R)
            then same (append_assoc N (frees ps) R)
            then forth N (frees ps) R
            then rear (frees ps) (back (cut-numbers f m T.depth T.tree q r C) then same (sym (append-nil (numbers (atoms_top T)))))
            then L.once);
        clear = ch.clear L.clear;
      }

  left-rooted : Rooted 1 left
  left-rooted = go T.depth T.tree r.page h.least good.loses good.most good.each
    where
      go : (d : ℕ) (t u : Item (suc d)) → root_least 2 d ≤ length t.items → Loses d t u → length u.items ≤ 8 → All (Full d) u.items → Thick (root_least 1 d) (Full d) u
      go zero t u k l most each = record { least = omega arith; most = most; each = each }
      go (suc d) t u k l most each = record { least = omega arith; most = most; each = each }

  left-weight : weight (flat_map loose_atoms r.loose) + weight (atoms_top left) ≤ 3 * length ps
  unfolding flat_map
  left-weight =
      let E = flat_map (atoms 0 q.mark) q.items in
      let S = flat_map (atoms 0 m) C.stays in
      let LP = flat_map loose_page r.loose in
      let held : weight E ≡ length q.items = sym (ap length (entries_leaf q.mark q.items)) ∙ length-map q.items (place 0) in
      let kept : weight S ≡ length C.stays = sym (ap length (entries_leaf m C.stays)) ∙ length-map C.stays (place 0) in
      omega (
        arith,
        loose_weight r.loose,
        held,
        kept,
        shrinks q.items,
        ap length C.kept,
        length-append C.stays (flat_map loose_entry r.loose),
        length_reordered (flat_both entry_of E (page 0 q.no q.mark ∷ C.up) C.before),
        length-append (entries E) (entries C.up),
        length_reordered (flat_both entry_of S (page 0 q.no m ∷ C.up) C.after),
        length-append (entries S) (entries C.up),
        weight_append (atoms_top left) (r.lost ++ LP),
        weight_append r.lost LP,
      )

  -- the marks after it: m, and those of the other leaves
  abbrev Marks : Stamp → Type 0
  Marks k = Mem k (m ∷ flat_map leaf_mark_of C.up)

  after_in : All (LeafIn Marks) (atoms_top left ++ (r.lost ++ flat_map loose_page r.loose))
  unfolding atoms
  after_in =
      all_reordered (back C.after)
      (all_append (flat_all (atoms 0 m) (always (λ e. more tt none) C.stays))
      (more (Memᴰ.head refl) (all_map (own_marks C.up) (leaf_in_more (λ k. Mem k (flat_map leaf_mark_of C.up)) Marks λ k h. Memᴰ.tail h))))

  abbrev start : Tree
  start = record { root = T.tree.no; levels = suc T.depth; pages = flat.pages }

  returned : Returned Marks r.loose left (length flat.pages) (put_back (map orphan r.loose) start)
  returned =
      put_all Marks r.loose left start (sym (cut_number f m T.depth path T.tree)) refl left_laid left-rooted
      (all_zip good.waits trims.loose (ready_waits flat.pages T.depth))
      (rw trims.changed.long left-weight)
      (all_flat loose_page r.loose (all_back r.lost _ (all_back (atoms_top left) _ after_in)))
      (all_front (atoms_top left) _ after_in)

  gave_way : GivenWay returned.top (given_way (put_back (map orphan r.loose) start)) (length (put_back (map orphan r.loose) start).pages)
  gave_way = gives_way returned.top (put_back (map orphan r.loose) start) returned.root returned.level returned.laid returned.rooted

  -- all three steps together
  pub cleaned_to : CleanedTo f m ps T q (given_way (put_back flat.orphans start))
  cleaned_to =
      let B = returned.came_back in
      let W = gave_way in
      let own = flat_map (atoms 0 m) C.stays in
      let LP = flat_map loose_page r.loose in
      let S = map (with_mark m) C.stays in
      let ML = flat_map marked_of B.landed in
      let F = given_way (put_back (map orphan r.loose) start) in
      let said : (P : ℕ → Type 0) → All (SaysLeaf F.pages P) r.lost → All (SaysLeaf F.pages P) (page 0 q.no m ∷ C.up) =
      λ P l.
      steps_says (atoms_top left) r.lost LP own C.up B.new B.landed (atoms_top returned.top) W.gone (atoms_top W.top) q.no m
      C.after C.lost_pages B.made B.pages_new W.made W.inner F.pages P l
      (all_map (stands_says F.pages (suc W.top.depth) no_mark W.top.tree W.laid.stands) (says_leaf F.pages P)) in
      subst (λ z. CleanedTo f m ps T q (given_way (put_back z start))) (sym trims.waiting)
      (record {
        top = W.top;
        root = W.root;
        level = W.level;
        laid = W.laid;
        rooted = W.rooted;
        long = W.same_length ∙ returned.same_length ∙ trims.changed.long;
        up = C.up;
        kept = ML ++ S;
        before = C.before;
        marked =
            steps_marked (atoms_top left) r.lost LP own C.up B.new B.landed (atoms_top returned.top) W.gone (atoms_top W.top) q.no m
            C.after C.lost_pages B.made B.pages_new W.made W.inner
            then same (ap (λ z. ML ++ (z ++ flat_map marked_of C.up)) (sym (marked_leaf m C.stays)) ∙ sym (append_assoc ML S (flat_map marked_of C.up)));
        kept_entries =
            same
            (map-append (λ k. k.entry) ML S
            ∙ ap₂ (λ u v. u ++ v) (unmarked B.landed ∙ B.landed_entries) (map_back (λ k. k.entry) (with_mark m) (always (λ e. refl) C.stays)))
            then swapped (flat_map loose_entry r.loose) C.stays
            then same C.kept;
        kept_in = all_append (flat_all marked_of (all_map B.landed_in of_landed)) (all_mapped (with_mark m) (always (λ e. Memᴰ.head refl) C.stays));
        leaves_in = all_back W.gone _ (all_reordered W.made B.leaves_in);
        says =
            tail_of
            (said (λ n. n ≡ q.no.0 → ⊥) (all_map C.lost_pages (lost_says F.pages q.no)));
        stays =
            λ thick.
            (let w = cut_whole f m T.depth path T.tree al h.each thick in (
              all_stay Marks m r.loose B.landed C.stays (f q.items) w.0 B.landed_in B.landed_entries C.kept,
              head_of (said (λ n. Unit {0}) (rw w.1 none)) tt,
            ));
      })
    where
      of_landed : (a : Atom) → EntryIn Marks a → All (λ k. Marks k.mark) (marked_of a)
      of_landed (page l p k) h = none
      of_landed (entry k e) h = more h none
