-- A report keeps the tree sound: the entries held are the new one and those held before, and no leaf's mark changes.
use Rattle.std.specs.Prelude.{suc, ◌*◌, ◌≤◌, ◌≡◌, refl, true, length}
use Rattle.std.proofs.Common.{arith, sym, ◌∙◌}
use Rattle.std.proofs.Math.Path.{ap}
use mathlib.Core.List.Permᴰ
use mathlib.Core.List.{List, [], ◌∷◌, ◌++◌, flat_map}
use Rattle.rules.specs.declared.PageNo.{PageNo}
use Rattle.rules.specs.declared.Stamp.{Stamp}
use Rattle.rules.specs.declared.Entry.{Entry}
use Rattle.rules.specs.Store.{Store, page_at}
use Rattle.rules.specs.Live.{held}
use Rattle.rules.specs.Tree.{tree_of, put_at}
use Rattle.rules.specs.Sound.{sound}
use Rattle.rules.specs.declared.Step.{Step}
use Rattle.rules.specs.Steps.{its_train, reported_box, report}
use Rattle.rules.specs.laws.All.{All, none, tail_of, all_map, all_back, Mem, flat_append}
use Rattle.rules.specs.laws.Order.{◌~◌, ◌then◌, same, back, all_reordered, mem_reordered, length_reordered, flat_reordered}
use Rattle.theorems.specs.TreeSound.{TreeSound, tree_of-sound}
use Rattle.theorems.specs.Leaves.{with_mark, marked, leaf_marks}
use Rattle.theorems.specs.tree.Items.{no_mark, Atom, entry, atoms, entries}
use Rattle.theorems.specs.tree.Stands.{place}
use Rattle.theorems.specs.tree.PutAtoms.{New, pages_only}
use Rattle.theorems.specs.tree.Laid.{Top, atoms_top, Laid}
use Rattle.theorems.specs.tree.PutTop.{Joined}
use Rattle.theorems.specs.tree.PutAt.{put_at_laid, joined_entries}
use Rattle.theorems.specs.tree.Descent.{held_all}
use Rattle.theorems.specs.tree.ToRules.{TreeIn, to_sound}
use Rattle.theorems.specs.tree.FromRules.{from-sound}
use Rattle.theorems.specs.tree.LeafMarks.{LeafIn, leaf_marks_in, own_marks, leaf_in_more, joined_mark, joined_leaves}
use Rattle.theorems.specs.tree.LeafAtoms.{marked_of, leaf_mark_of, marked_laid, marks_laid, stands_says, says_leaf, leaf_kept}

-- what a store u, whose tree is that of s with the entry e put in, owes to s
pub record Reported (s : Store) (e : Entry) (u : Store) : Type 0 where
  pub sound : TreeSound u
  pub long : length u.pages ≡ length s.pages
  pub held : held u ~ (e ∷ held s)
  -- the mark of the leaf that e has come to stand in, which is that of a leaf before
  pub mark : Stamp
  pub mark_before : Mem mark (leaf_marks s.pages)
  pub marked : marked u.pages ~ (with_mark mark e ∷ marked s.pages)
  -- every page that was a leaf is one still, with its mark; and no leaf has a mark that no leaf had before
  pub leaves_kept : (p : PageNo) → (page_at s.pages p).kind ≡ 1 → ((page_at u.pages p).kind ≡ 1) × ((page_at u.pages p).mark ≡ (page_at s.pages p).mark)
  pub marks_before : All (λ m. Mem m (leaf_marks s.pages)) (leaf_marks u.pages)

-- ---- the marks of an entry that has joined
module _ (e : Entry) (old : List Atom) (T : Top) (J : Joined 0 e old T) where
  marked_joined : flat_map marked_of (atoms_top T) ~ (with_mark J.mark e ∷ flat_map marked_of old)
  unfolding atoms flat_map
  marked_joined =
      flat_reordered marked_of J.made
      then same (flat_append marked_of J.new (entry J.mark e ∷ old) ∙ ap (λ z. z ++ (with_mark J.mark e ∷ flat_map marked_of old)) (pages_only marked_of (λ l p m. refl) (New 0 J.mark) (λ m e h. h) J.fresh))

-- ---- the theorem
-- the entry that a report adds
abbrev pub reported : Store → Step → Entry
reported s x = record { bounds = reported_box x; key = (its_train x).0; stamp = s.next }

-- whatever else u holds, where there is room for one entry more
pub report_tree : (s : Store) (e : Entry) (u : Store) → TreeSound s → suc (length (held s)) ≤ 3 * length s.pages
    → tree_of u ≡ put_at 1 e (tree_of s) → Reported s e u
unfolding place atoms flat_map
report_tree s e u R few eq =
    let I = from-sound s R in
    let T = I.top in
    let hs : held s ≡ entries (atoms_top T) = held_all s T I.root I.level I.laid.stands in
    let P = put_at_laid 2 (omega arith) (omega arith) 0 e T (tree_of s) [] 0 (omega arith) I.root I.level tt tt I.rooted I.laid (omega (arith, ap length hs)) (omega arith) in
    let J = P.joined in
    let ep : u.pages ≡ (put_at 1 e (tree_of s)).pages = ap (λ z. z.pages) eq in
    let L : Laid u.pages P.top [] = rw ep P.laid in
    let I' : TreeIn u = record { top = P.top; root = ap (λ z. z.root) eq ∙ P.root; level = ap (λ z. z.levels) eq ∙ P.level; laid = L; rooted = P.rooted } in
    let hu = held_all u P.top I'.root I'.level L.stands in
    let held_after : held u ~ (e ∷ held s) = same hu then joined_entries 0 e (atoms_top T) P.top J then same (ap (λ z. e ∷ z) (sym hs)) in
    let long : length u.pages ≡ length s.pages = ap length ep ∙ P.long in
    let Before : Stamp → Type 0 = λ m. Mem m (leaf_marks s.pages) in
    let old_in : All (LeafIn Before) (atoms_top T) =
    all_map (own_marks (atoms_top T)) (leaf_in_more (λ m. Mem m (flat_map leaf_mark_of (atoms_top T))) Before λ m h. mem_reordered (back (marks_laid s.pages T I.laid)) h) in
    let said = tail_of (all_back J.new (entry J.mark e ∷ atoms_top T) (all_reordered J.made (stands_says u.pages (suc P.top.depth) no_mark P.top.tree L.stands))) in
    record {
      sound = to_sound u I' (omega (arith, R.pages_most)) (omega (arith, length_reordered held_after));
      long = long;
      held = held_after;
      mark = J.mark;
      mark_before = joined_mark Before e (atoms_top T) P.top J old_in;
      marked =
          marked_laid u.pages P.top L
          then marked_joined e (atoms_top T) P.top J
          then Permᴰ.cons refl (back (marked_laid s.pages T I.laid));
      leaves_kept = λ p k. leaf_kept s.pages u.pages T (λ n. Unit {0}) I.laid (all_map said (says_leaf u.pages (λ n. Unit {0}))) p tt k;
      marks_before =
          all_reordered (back (marks_laid u.pages P.top L)) (leaf_marks_in Before (joined_leaves Before 0 e (atoms_top T) P.top J none old_in));
    }

-- the report step
pub report-step_tree : (s : Store) (x : Step) → sound s ≡ true → suc (length (held s)) ≤ 3 * length s.pages → Reported s (reported s x) (report s x).store
unfolding report
report-step_tree s x h few = report_tree s (reported s x) (report s x).store (tree_of-sound s h) few refl
