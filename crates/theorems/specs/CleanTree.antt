-- A clean keeps the tree sound: of the leaf's entries those go that the test fails, the others stand in some leaf, and no other leaf's mark changes.
use Prim.Native.Nat.{ℕ, zero, suc, ◌-◌, ◌*◌, ◌≤◌}
use native.Mathlib.Omega.{arith}
use Rattle.std.proofs.Math.Path.{◌≡◌, sym, ap}
use Rattle.std.specs.Prelude.{refl, Bool, true, false, length, get_or}
use Rattle.std.proofs.Common.{subst, ◌∙◌, ap₂, ne_eqb}
use Rattle.std.proofs.Math.Bool.{not}
use mathlib.Core.List.Permᴰ
use mathlib.Core.List.{List, [], ◌∷◌, ◌++◌, map, flat_map, map-append, append_assoc}
use Rattle.std.proofs.Math.ListN.{length-append}
use Rattle.rules.specs.declared.PageNo.{PageNo}
use Rattle.rules.specs.declared.Stamp.{Stamp}
use Rattle.rules.specs.declared.Entry.{Entry}
use Rattle.rules.specs.Lists.{keep}
use Rattle.rules.specs.Store.{Page, Store, page_no, page_at}
use Rattle.rules.specs.Memo.{is_latest}
use Rattle.rules.specs.Live.{held}
use Rattle.rules.specs.Tree.{tree_of}
use Rattle.rules.specs.Cleaning.{leaf_to_clean, path_to, trimmed_below, put_back, given_way, cleaned}
use Rattle.rules.specs.Sound.{is_free, sound}
use Rattle.rules.specs.Steps.{clean}
use Rattle.rules.specs.Views.{sound-holds}
use Rattle.rules.specs.laws.All.{All, none, more, head_of, all_append, always, flat_all, map_back, Mem}
use Rattle.rules.specs.laws.Order.{◌~◌, ◌then◌, same, back, rear, all_reordered, map_reordered, length_reordered, flat_both, keep-parts, picked}
use Rattle.theorems.specs.TreeSound.{TreeSound, tree_of-sound}
use Rattle.theorems.specs.Leaves.{MarkedEntry, with_mark, marked, leaf_marks}
use Rattle.theorems.specs.LeafToClean.{marks_limited, to_clean}
use Rattle.theorems.specs.tree.Items.{Item, no_node, page, atoms, entries}
use Rattle.theorems.specs.tree.Stands.{page_of, same_places, Stands}
use Rattle.theorems.specs.tree.Laid.{atoms_top, laid_used}
use Rattle.theorems.specs.tree.Descent.{held_all}
use Rattle.theorems.specs.tree.ToRules.{TreeIn, to_sound}
use Rattle.theorems.specs.tree.FromRules.{from-sound}
use Rattle.theorems.specs.tree.LeafAtoms.{marked_of, leaf_mark_of, marked_leaf, marks_leaf, unmarked, marked_laid, marks_laid, SaysLeaf, leaf_kept}
use Rattle.theorems.specs.tree.Trim.{Along, leaf_at}
use Rattle.theorems.specs.tree.LeafMarks.{leaf_marks_in}
use Rattle.theorems.specs.tree.Path.{path_leads}
use Rattle.theorems.specs.tree.Clean.{CleanedTo, cleaned_to}

-- what a store u, whose tree is that of s with the leaf q cleaned, owes to s; q keeps the places that pass g, and m is its mark if it stays
pub record Cleaned (s : Store) (g : Entry → Bool) (m : Stamp) (q : PageNo) (u : Store) : Type 0 where
  pub sound : TreeSound u
  pub long : length u.pages ≡ length s.pages
  pub held : held s ~ (keep (λ e. not (g e)) (page_at s.pages q).places ++ held u)
  -- the entries of the other leaves stand as they did; those that q keeps stand each under some mark
  pub others : List MarkedEntry
  pub kept : List MarkedEntry
  pub marked_before : marked s.pages ~ (map (with_mark (page_at s.pages q).mark) (page_at s.pages q).places ++ others)
  pub marked : marked u.pages ~ (kept ++ others)
  pub kept_entries : map (λ k. k.entry) kept ~ keep g (page_at s.pages q).places
  -- every mark is m or that of another leaf, and each other leaf is one still, with its mark
  pub other_marks : List Stamp
  pub marks_before : leaf_marks s.pages ~ ((page_at s.pages q).mark ∷ other_marks)
  pub kept_marks : All (λ k. Mem k.mark (m ∷ other_marks)) kept
  pub marks : All (λ k. Mem k (m ∷ other_marks)) (leaf_marks u.pages)
  pub leaves_kept : (p : PageNo) → (p.0 ≡ q.0 → ⊥) → (page_at s.pages p).kind ≡ 1
      → ((page_at u.pages p).kind ≡ 1) × ((page_at u.pages p).mark ≡ (page_at s.pages p).mark)
  -- the leaf itself stays where it is the root or keeps at least 4: its mark is m, and so is that of what it keeps
  pub stays : ((q.0 ≡ s.root.0 → ⊥) → 4 ≤ length (keep g (page_at s.pages q).places))
      → ((page_at u.pages q).kind ≡ 1) × ((page_at u.pages q).mark ≡ m) × (kept ≡ map (with_mark m) (keep g (page_at s.pages q).places))

-- the leaf at the end of a path stands too
leaf_stands : (ps : List Page) (d : ℕ) (path : List ℕ) (t : Item (suc d)) → Stands ps (suc d) t → Along d path t → Stands ps 1 (leaf_at d path t)
unfolding leaf_at
leaf_stands ps zero path t s al = s
leaf_stands ps (suc d) [] t s al = absurd al
leaf_stands ps (suc d) (i ∷ path) t s al =
    leaf_stands ps d path (get_or t.items i no_node) (head_of (all_reordered (picked t.items i no_node al.0) s.1)) al.1

shrinks : (g : Entry → Bool) (es : List Entry) → length (keep g es) ≤ length es
shrinks g es = omega (arith, length_reordered (keep-parts g es), length-append (keep (λ e. not (g e)) es) (keep g es))

cleaned_is : (f : List Entry → List Entry) (m : Stamp) (q : PageNo) (s : Store) (d : ℕ) (p : PageNo) → s.root ≡ p → s.levels ≡ suc d →
    let F = trimmed_below f m d s.pages (path_to s.pages d p q) p in
    cleaned f m q (tree_of s) ≡ given_way (put_back F.orphans (record { root = p; levels = suc d; pages = F.pages }))
unfolding cleaned
cleaned_is f m q s d p er el = rw (er, el, let z : suc d - 1 ≡ d = omega arith in z)

-- ---- from the trees to the stores
module _ (s u : Store) (g : Entry → Bool) (m : Stamp) (q : PageNo) (n : Item 1) (I : TreeIn s) (to : n.no ≡ q) (its-page : page_at s.pages n.no ≡ page_of 0 n)
    (K : CleanedTo (keep g) m s.pages I.top n (tree_of u)) where
  abbrev the_page : Page
  the_page = page_at s.pages q

  places_are : the_page.places ≡ n.items
  unfolding page_of
  places_are = ap (λ z. (page_at s.pages z).places) (sym to) ∙ ap (λ z. z.places) its-page ∙ same_places n.items

  mark_is : the_page.mark ≡ n.mark
  unfolding page_of
  mark_is = ap (λ z. (page_at s.pages z).mark) (sym to) ∙ ap (λ z. z.mark) its-page

  before-marked : marked s.pages ~ (map (with_mark the_page.mark) the_page.places ++ flat_map marked_of K.up)
  unfolding flat_map
  before-marked =
      marked_laid s.pages I.top I.laid
      then flat_both marked_of (flat_map (atoms 0 n.mark) n.items) (page 0 n.no n.mark ∷ K.up) K.before
      then same (ap (λ z. z ++ flat_map marked_of K.up) (sym (ap₂ (λ a b. map (with_mark a) b) mark_is places_are ∙ marked_leaf n.mark n.items)))

  before_marks : leaf_marks s.pages ~ (the_page.mark ∷ flat_map leaf_mark_of K.up)
  unfolding flat_map
  before_marks =
      marks_laid s.pages I.top I.laid
      then flat_both leaf_mark_of (flat_map (atoms 0 n.mark) n.items) (page 0 n.no n.mark ∷ K.up) K.before
      then same (ap₂ (λ a b. a ++ (b ∷ flat_map leaf_mark_of K.up)) (marks_leaf n.mark n.items) (sym mark_is))

  tree_after : TreeIn u
  tree_after = record { top = K.top; root = K.root; level = K.level; laid = K.laid; rooted = K.rooted }

  -- what is held goes by the marked entries, without their marks
  unmarked_held : (v : Store) (J : TreeIn v) → held v ~ map (λ k. k.entry) (flat_map marked_of (atoms_top J.top))
  unmarked_held v J = same (held_all v J.top J.root J.level J.laid.stands ∙ sym (unmarked (atoms_top J.top)))

  held_after : held s ~ (keep (λ e. not (g e)) the_page.places ++ held u)
  unfolding tree_after
  held_after =
      let E : List MarkedEntry → List Entry = map (λ k. k.entry) in
      let mu = flat_map marked_of K.up in
      let es = the_page.places in
      let gone = keep (λ e. not (g e)) es in
      let kept-is : E K.kept ~ keep g es = K.kept_entries then same (ap (keep g) (sym places_are)) in
      let after : (keep g es ++ E mu) ~ held u =
      Permᴰ.append_right (E mu) (back kept-is)
      then same (sym (map-append (λ k. k.entry) K.kept mu))
      then map_reordered (λ k. k.entry) (back K.marked)
      then back (unmarked_held u tree_after) in
      unmarked_held s I
      then map_reordered (λ k. k.entry) (back (marked_laid s.pages I.top I.laid) then before-marked)
      then same (map-append (λ k. k.entry) (map (with_mark the_page.mark) es) mu ∙ ap (λ z. z ++ E mu) (map_back (λ k. k.entry) (with_mark the_page.mark) (always (λ e. refl) es)))
      then Permᴰ.append_right (E mu) (keep-parts g es)
      then same (append_assoc gone (keep g es) (E mu))
      then rear gone after

  -- a leaf under an inner root is not the root
  not_root : 1 ≤ I.top.depth → q.0 ≡ s.root.0 → ⊥
  unfolding page_of
  not_root deep e = go I.top.depth I.top.tree deep I.laid.stands.0 (e ∙ ap (λ p. p.0) I.root)
    where
      go : (d : ℕ) (t : Item (suc d)) → 1 ≤ d → page_at s.pages t.no ≡ page_of d t → q.0 ≡ t.no.0 → ⊥
      go zero t h e z = omega arith
      go (suc d) t h e z =
          let k : ◌≡◌ {A = ℕ} 1 2 = sym (ap (λ p. (page_at s.pages p).kind) (sym to) ∙ ap (λ g. g.kind) its-page) ∙ ap (λ n. (page_at s.pages (page_no n)).kind) z ∙ ap (λ g. g.kind) e in
          omega arith

  stays_so : ((q.0 ≡ s.root.0 → ⊥) → 4 ≤ length (keep g the_page.places))
      → ((page_at u.pages q).kind ≡ 1) × ((page_at u.pages q).mark ≡ m) × (K.kept ≡ map (with_mark m) (keep g the_page.places))
  stays_so thick =
      let w = K.stays (λ deep. rw (← places_are) (thick (not_root deep))) in (
        ap (λ p. (page_at u.pages p).kind) (sym to) ∙ w.1.0,
        ap (λ p. (page_at u.pages p).mark) (sym to) ∙ w.1.1,
        w.0 ∙ ap (λ z. map (with_mark m) (keep g z)) (sym places_are),
      )

  from_trees : length s.pages ≤ 192 → length (held s) ≤ 3 * length s.pages → Cleaned s g m q u
  unfolding flat_map atoms
  from_trees small few =
      let other : ℕ → Type 0 = λ k. k ≡ n.no.0 → ⊥ in
      let said : All (SaysLeaf u.pages other) (atoms_top I.top) =
      all_reordered (back K.before) (all_append (flat_all (atoms 0 n.mark) (always (λ e. more tt none) n.items)) (more (λ o. absurd (o refl)) K.says)) in
      record {
        sound = to_sound u tree_after (omega (arith, K.long)) (omega (arith, K.long, length_reordered held_after, length-append (keep (λ e. not (g e)) the_page.places) (held u)));
        long = K.long;
        held = held_after;
        others = flat_map marked_of K.up;
        kept = K.kept;
        marked_before = before-marked;
        marked = marked_laid u.pages K.top K.laid then K.marked;
        kept_entries = K.kept_entries then same (ap (keep g) (sym places_are));
        other_marks = flat_map leaf_mark_of K.up;
        marks_before = before_marks;
        kept_marks = K.kept_in;
        marks = all_reordered (back (marks_laid u.pages K.top K.laid)) (leaf_marks_in _ K.leaves_in);
        leaves_kept = λ p o k. leaf_kept s.pages u.pages I.top other I.laid said p (λ z. o (z ∙ ap (λ i. i.0) to)) k;
        stays = stays_so;
      }

-- ---- the theorem
pub clean_tree : (s : Store) (g : Entry → Bool) (m : Stamp) (q : PageNo) (u : Store) → TreeSound s → (page_at s.pages q).kind ≡ 1
    → length (held s) ≤ 3 * length s.pages → tree_of u ≡ cleaned (keep g) m q (tree_of s) → Cleaned s g m q u
clean_tree s g m q u R leaf few eq =
    let ps = s.pages in
    let I = from-sound s R in
    let T = I.top in
    let t = T.tree in
    let L = I.laid in
    let used : is_free (page_at ps q) ≡ false = ne_eqb _ _ (λ (z : (page_at ps q).kind ≡ 0). omega arith) in
    let path = path_to ps T.depth t.no q in
    let lead = path_leads ps q leaf T.depth t L.stands (omega (arith, laid_used ps T q L used)) in
    let n = leaf_at T.depth path t in
    let hs : held s ≡ entries (atoms_top T) = held_all s T I.root I.level L.stands in
    let K = cleaned_to (keep g) m (shrinks g) ps T path lead.along I.rooted L (omega (arith, ap length hs)) in
    let e = eq ∙ cleaned_is (keep g) m q s T.depth t.no I.root I.level in
    from_trees s u g m q n I lead.to (leaf_stands ps T.depth path t L.stands lead.along).0
    (subst (CleanedTo (keep g) m ps T n) (sym e) K) R.pages_most few

-- the clean step: the leaf is the one it takes, the entries that go are the obsolete ones, and the mark is the next stamp
pub clean_step_tree : (s : Store) → sound s ≡ true → Cleaned s (is_latest s.memo) s.next (leaf_to_clean s.pages) (clean s).store
unfolding clean
clean_step_tree s h =
    let R = tree_of-sound s h in
    clean_tree s (is_latest s.memo) s.next (leaf_to_clean s.pages) (clean s).store R (to_clean s R (marks_limited s h)).leaf (sound-holds s h).rule4.held_most refl
