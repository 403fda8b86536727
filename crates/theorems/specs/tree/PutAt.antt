-- An item put into a tree of any depth, at its level.
use Prim.Native.Nat.{ℕ, zero, suc, ◌+◌, ◌*◌, ◌-◌, ◌≤◌, min}
use native.Mathlib.Omega.{arith}
use Rattle.std.specs.Prelude.{◌≡◌, refl, false, length}
use Rattle.std.proofs.Common.{sym, ◌∙◌, ap, ap₂, length-append}
use mathlib.Core.List.{List, ◌++◌, flat_map}
use Rattle.rules.specs.declared.PageNo.{PageNo}
use Rattle.rules.specs.declared.Stamp.{Stamp}
use Rattle.rules.specs.Store.{Page, page_no, page_at}
use Rattle.rules.specs.Tree.{Tree, rooted, put_below, put_at}
use Rattle.rules.specs.Sound.{is_free}
use Rattle.rules.specs.laws.All.{none, more, flat_append}
use Rattle.rules.specs.laws.Order.{◌~◌, ◌then◌, same, length_reordered, flat_reordered}
use Rattle.theorems.specs.tree.Numbers.{Off}
use Rattle.theorems.specs.tree.Items.{Item, no_mark, Atom, atoms, numbers, entry_of, entries, Full, Grown, single, double, above, put}
use Rattle.theorems.specs.tree.PutAtoms.{New, pages_only}
use Rattle.theorems.specs.tree.PutFull.{Good, put-good}
use Rattle.theorems.specs.tree.Budget.{weight, root_least, room-waiting, pages_entries}
use Rattle.theorems.specs.tree.Pages.{frees}
use Rattle.theorems.specs.tree.Stands.{place, Stands}
use Rattle.theorems.specs.tree.Laid.{Top, Rooted, atoms_top, Laid}
use Rattle.theorems.specs.tree.PutTop.{topped, Joined, before, after, flat_after, gathered, put_in}

-- ---- what has become of the root
topped-good : (n l : ℕ) (q : PageNo) (g : Grown (Item (suc l))) → n ≤ 2 → Good (root_least n l) (Full l) g → Rooted n (topped l q g)
unfolding topped
topped-good n l q (single t) most h = h
topped-good n l q (double a b) most h = record { least = omega arith; most = omega arith; each = more h.0 (more h.1 none) }

topped_deep : (l : ℕ) (q : PageNo) (g : Grown (Item (suc l))) → l ≤ (topped l q g).depth
unfolding topped
topped_deep l q (single t) = omega arith
topped_deep l q (double a b) = omega arith

least_enough : (n k d : ℕ) → 1 ≤ n → min 1 d ≤ root_least n (above k d)
least_enough n k zero low = omega arith
least_enough n k (suc d) low = omega arith

above_sub : (k n : ℕ) → k ≤ n → above k (n - k) ≡ n
above_sub k n h = go (n - k) n (omega arith)
  where
    go : (d m : ℕ) → m ≡ d + k → above k d ≡ m
    go zero m e = omega arith
    go (suc d) m e = ap suc (go d (d + k) refl) ∙ omega arith

-- of the entries the mark given says nothing
entries_mark : (l : ℕ) (m m' : Stamp) (x : Item l) → entries (atoms l m x) ≡ entries (atoms l m' x)
unfolding atoms flat_map
entries_mark zero m m' x = refl
entries_mark (suc l) m m' x = refl

-- the entries held are the item's and the old ones
pub joined_entries : (k : ℕ) (x : Item k) (old : List Atom) (T : Top) → Joined k x old T → entries (atoms_top T) ~ (entries (atoms k no_mark x) ++ entries old)
joined_entries k x old T J =
    flat_reordered entry_of J.made
    then same
    (flat_append entry_of J.new (atoms k J.mark x ++ old)
    ∙ ap₂ (λ a b. a ++ b) (pages_only entry_of (λ l p m. refl) (New k J.mark) (λ m e h. h) J.fresh)
    (flat_append entry_of (atoms k J.mark x) old ∙ ap (λ z. z ++ entries old) (entries_mark k J.mark no_mark x)))

-- x put into the tree T, laid out in ps, has given the tree `top`, laid out in F; other pages than the free ones and T's are as they were
pub record PutAt (n k : ℕ) (x : Item k) (T : Top) (ps : List Page) (rest : List ℕ) (F : Tree) : Type 0 where
  pub top : Top
  pub root : F.root ≡ top.tree.no
  pub level : F.levels ≡ suc top.depth
  pub laid : Laid F.pages top rest
  pub rooted : Rooted n top
  pub deep : T.depth ≤ top.depth
  pub joined : Joined k x (atoms_top T) top
  pub others : (z : ℕ) → Off z (numbers (atoms_top T)) → is_free (page_at ps (page_no z)) ≡ false → page_at F.pages (page_no z) ≡ page_at ps (page_no z)
  pub long : length F.pages ≡ length ps

module _ (n : ℕ) (low : 1 ≤ n) (high : n ≤ 2) where
  put_one : (k d : ℕ) (x : Item k) (t : Item (above k (suc d))) (ps : List Page) (rest : List ℕ) (W : ℕ)
      → Full k x → Stands ps k x → Rooted n (before k d ps x t) → Laid ps (before k d ps x t) (numbers (atoms k no_mark x) ++ rest)
      → weight (atoms k no_mark x) + weight (atoms_top (before k d ps x t)) + W ≤ 3 * length ps → 3 * length rest ≤ W
      → PutAt n k x (before k d ps x t) ps rest (flat_after k d ps x t)
  put_one k d x t ps rest W hx sx h L w r =
      let T = after k d ps x t in
      let old = atoms_top (before k d ps x t) in
      let enough = least_enough n k d low in
      let J = (gathered k d ps x t (root_least n (above k d)) enough hx h).joined in
      let th = topped-good n (above k d) _ (put k d (frees ps) x t) high (put-good k d (frees ps) x t (root_least n (above k d)) enough hx h) in
      let wl = length_reordered (joined_entries k x old T J) ∙ length-append (entries (atoms k no_mark x)) (entries old) in
      let room = room-waiting n T.depth no_mark T.tree (length ps) (length rest) W low th (omega arith) r (omega (arith, pages_entries k no_mark x hx)) in
      let K = put_in k d ps x t (root_least n (above k d)) enough hx h rest sx L room in
      record {
        top = T;
        root = K.root;
        level = K.level;
        laid = K.laid;
        rooted = th;
        deep = topped_deep (above k d) _ (put k d (frees ps) x t);
        joined = J;
        others = K.others;
        long = K.long;
      }

  put_deep : (k d l : ℕ) → l ≡ above k d → (x : Item k) (t : Item (suc l)) (ps : List Page) (rest : List ℕ) (W : ℕ) →
      let T : Top = record { depth = l; tree = t } in
      Full k x → Stands ps k x → Rooted n T → Laid ps T (numbers (atoms k no_mark x) ++ rest)
      → weight (atoms k no_mark x) + weight (atoms_top T) + W ≤ 3 * length ps → 3 * length rest ≤ W
      → PutAt n k x T ps rest (rooted t.no (suc l) (put_below d ps t.no (place k x)))
  put_deep k d l e = rw e (λ x t ps rest W. put_one k d x t ps rest W)

  -- an item of level k, put at the level above it into a tree F; where R = length rest pages wait with W entries, and 3P entries are the most
  pub put_at_laid : (k : ℕ) (x : Item k) (T : Top) (F : Tree) (rest : List ℕ) (W : ℕ) → k ≤ T.depth → F.root ≡ T.tree.no → F.levels ≡ suc T.depth
      → Full k x → Stands F.pages k x → Rooted n T → Laid F.pages T (numbers (atoms k no_mark x) ++ rest)
      → weight (atoms k no_mark x) + weight (atoms_top T) + W ≤ 3 * length F.pages → 3 * length rest ≤ W
      → PutAt n k x T F.pages rest (put_at (suc k) (place k x) F)
  unfolding put_at
  put_at_laid k x T F rest W deep er el hx sx h L w r =
      rw (er, el, let z : suc T.depth - suc k ≡ T.depth - k = omega arith in z)
      (put_deep k (T.depth - k) T.depth (sym (above_sub k T.depth deep)) x T.tree F.pages rest W hx sx h L w r)
