-- One clean: while entries stand in leaves whose mark is at most T, it leaves fewer of them.
use Rattle.std.specs.Prelude.{ℕ, zero, suc, ◌<◌, ◌≤◌, ◌+◌, ◌≡◌, refl, Bool, true, false, List, ◌∷◌, map, eqb, leb, length}
use Rattle.std.proofs.Common.{arith, sym, subst, ◌∙◌, ap, leb-true, leb-false, eqb-true, ne_eqb}
use Rattle.std.proofs.lemmas.List.{length-map}
use Rattle.std.proofs.lemmas.Bool.{lt-leb, eqb-false}
use Rattle.rules.specs.declared.Stamp.{Stamp}
use Rattle.rules.specs.declared.PageNo.{PageNo}
use Rattle.rules.specs.declared.Entry.{Entry}
use Rattle.rules.specs.Lists.{count, keep, one_if}
use Rattle.rules.specs.Store.{Store, page_at}
use Rattle.rules.specs.Memo.{is_latest}
use Rattle.rules.specs.Live.{held, held_under}
use Rattle.rules.specs.Cleaning.{leaf_to_clean, reached_under}
use Rattle.rules.specs.Sound.{is_free, reached, sound}
use Rattle.rules.specs.Steps.{clean}
use Rattle.rules.specs.Views.{Levelled, Rule1, Filled, sound-holds}
use Rattle.rules.specs.laws.All.{All, none, more, all_mapped, always, tail_of, all_map, all_member}
use Rattle.rules.specs.laws.Order.{all_reordered, count_reordered, length_reordered}
use Rattle.rules.specs.laws.Counts.{count_none, count_append, count_all, count_left}
use Rattle.theorems.specs.TreeSound.{tree_of-sound}
use Rattle.theorems.specs.Leaves.{MarkedEntry, with_mark, marked}
use Rattle.theorems.specs.HeldLeaves.{held-marked}
use Rattle.theorems.specs.LeafToClean.{ToClean, marks_limited, to_clean}
use Rattle.theorems.specs.CleanTree.{Cleaned, clean_step_tree}
use Rattle.theorems.specs.Clean.{clean-sound}
use Rattle.theorems.specs.tree.Pages.{used_inside}
use Rattle.theorems.specs.Garbage.{Past}

-- ---- a root that is a leaf
one_level : (s : Store) → Rule1 s → (page_at s.pages s.root).kind ≡ 1 → s.levels ≡ 1
one_level s r k = go s.levels r.leaves
  where
    go : (l : ℕ) → Levelled s.pages l s.root → l ≡ 1
    go zero e = absurd e
    go (suc zero) e = refl
    go (suc (suc l)) e = absurd (omega (arith, e.0))

-- holds all there is
root_holds : (s : Store) → Rule1 s → (page_at s.pages s.root).kind ≡ 1 → held s ≡ (page_at s.pages s.root).places
unfolding held held_under
root_holds s r k = rw (one_level s r k)

-- and is the only leaf
root_only : (s : Store) → Rule1 s → (page_at s.pages s.root).kind ≡ 1 → (p : PageNo) → (page_at s.pages p).kind ≡ 1 → p.0 ≡ s.root.0
unfolding reached reached_under count
root_only s r k p z =
    let used : is_free (page_at s.pages p) ≡ false = ne_eqb _ _ (λ (n : (page_at s.pages p).kind ≡ 0). omega arith) in
    let once = r.once p.0 (used_inside s.pages p used) in
    go (eqb p.0 s.root.0) refl (rw (one_level s r k, used) at once)
  where
    go : (b : Bool) → eqb p.0 s.root.0 ≡ b → one_if b + 0 ≡ 1 → p.0 ≡ s.root.0
    go true e n = eqb-true _ _ e
    go false e n = absurd (omega arith)

-- a leaf to clean that is not the root has at least 4 entries
found : {A : Type 0} {P : A → Type 0} {G : Type 0} (f : A → Bool) {xs : List A} → All P xs → 1 ≤ count f xs → ((x : A) → f x ≡ true → P x → G) → G
unfolding count
found f none n k = absurd (omega arith)
found {G = G} f (more {x = x} {xs = xs} p a) n k = go (f x) refl n (λ m. found f a m k)
  where
    go : (b : Bool) → f x ≡ b → 1 ≤ one_if b + count f xs → (1 ≤ count f xs → G) → G
    go true e n later = k x e p
    go false e n later = later (omega arith)

filled_leaf : (s : Store) → sound s ≡ true → ((leaf_to_clean s.pages).0 ≡ s.root.0 → ⊥) → 4 ≤ length (page_at s.pages (leaf_to_clean s.pages)).places
filled_leaf s h =
    let q = leaf_to_clean s.pages in
    let D = to_clean s (tree_of-sound s h) (marks_limited s h) in
    found (λ p. eqb q.0 p.0) (sound-holds s h).rule2.all_filled (omega (arith, D.reached_once))
    λ p e f. let same : p ≡ q = λ i. record { 0 = sym (eqb-true q.0 p.0 e) i } in (subst (Filled s) same f).least

-- ---- how many entries stand in leaves whose mark is at most T
unfoldable pub behind : ℕ → Store → ℕ
behind T s = count (λ k. leb k.mark.0 T) (marked s.pages)

-- at most all that are held
pub behind-most : (T : ℕ) (s : Store) → sound s ≡ true → behind T s ≤ length (held s)
unfolding behind
behind-most T s h =
    omega
    (arith, count_left (λ (k : MarkedEntry). leb k.mark.0 T) (marked s.pages), length_reordered (held-marked s (tree_of-sound s h)), length-map (marked s.pages) (λ (k : MarkedEntry). k.entry))

module _ (T : ℕ) (m : Stamp) where
  all_behind : leb m.0 T ≡ true → (es : List Entry) → count (λ k. leb k.mark.0 T) (map (with_mark m) es) ≡ length es
  all_behind z es = count_all _ (all_mapped (with_mark m) (always (λ e. z) es)) ∙ length-map es (with_mark m)

  none_behind : leb m.0 T ≡ false → (es : List Entry) → count (λ k. leb k.mark.0 T) (map (with_mark m) es) ≡ 0
  none_behind z es = count_none _ (all_mapped (with_mark m) (always (λ e. z) es))

-- ---- one clean
module _ (s : Store) (h : sound s ≡ true) (T : ℕ) (given : T < s.next.0) where
  abbrev u : Store
  u = (clean s).store

  abbrev q : PageNo
  q = leaf_to_clean s.pages

  abbrev its : List Entry
  its = (page_at s.pages q).places

  abbrev left : List Entry
  left = keep (is_latest s.memo) its

  abbrev old : MarkedEntry → Bool
  old k = leb k.mark.0 T

  C : Cleaned s (is_latest s.memo) s.next q u
  C = clean_step_tree s h

  D : ToClean s q
  D = to_clean s (tree_of-sound s h) (marks_limited s h)

  -- the next stamp stays
  pub given_after : T < u.next.0
  unfolding clean
  given_after = given

  -- a mark that is above T stays so
  pub clean_past : Past T s → Past T u
  clean_past a =
      let b : All (λ m. T < m.0) (s.next ∷ C.other_marks) = more {x = s.next} given (tail_of (all_reordered C.marks_before a)) in
      all_map C.marks λ m i. all_member b i

  -- where the leaf to clean has a mark above T all have
  past_all : leb (page_at s.pages q).mark.0 T ≡ false → Past T s
  past_all z = all_map D.smallest λ m l. omega (arith, leb-false (page_at s.pages q).mark.0 T z, ap (λ k. k.0) D.mark)

  behind-before : leb (page_at s.pages q).mark.0 T ≡ true → behind T s ≡ length its + count old C.others
  unfolding behind
  behind-before z =
      omega
      (arith, count_reordered old C.marked_before, count_append old (map (with_mark (page_at s.pages q).mark) its) C.others, all_behind T (page_at s.pages q).mark z its)

  behind_after : behind T u ≡ count old C.kept + count old C.others
  unfolding behind
  behind_after = omega (arith, count_reordered old C.marked, count_append old C.kept C.others)

  -- what stays in a leaf that stays is no longer behind
  stays_ahead : ((q.0 ≡ s.root.0 → ⊥) → 4 ≤ length left) → count old C.kept ≡ 0
  stays_ahead thick = ap (count old) (C.stays thick).2 ∙ none_behind T s.next (lt-leb s.next.0 T (omega arith)) left

  -- and of a leaf that goes fewer are put back than stood in it
  put_back_few : count old C.kept ≤ length left
  put_back_few = omega (arith, count_left old C.kept, length_reordered C.kept_entries, length-map C.kept (λ (k : MarkedEntry). k.entry))

  root_has_all : q.0 ≡ s.root.0 → behind T s ≤ length its
  root_has_all r =
      let e : q ≡ s.root = λ i. record { 0 = r i } in
      let holds = root_holds s (sound-holds s h).rule1 (ap (λ p. (page_at s.pages p).kind) (sym e) ∙ D.leaf) in
      omega (arith, behind-most T s h, ap length (holds ∙ ap (λ p. (page_at s.pages p).places) (sym e)))

  -- so while entries are behind, all leaves are past T already or a clean leaves fewer behind
  pub clean_progress : {G : Type 0} → 1 ≤ behind T s → (Past T s → G) → (behind T u < behind T s → G) → G
  clean_progress {G} some past fewer = go (leb (page_at s.pages q).mark.0 T) refl (eqb q.0 s.root.0) refl (leb 4 (length left)) refl
    where
      go : (b : Bool) → leb (page_at s.pages q).mark.0 T ≡ b → (r : Bool) → eqb q.0 s.root.0 ≡ r → (c : Bool) → leb 4 (length left) ≡ c → G
      go false z r e c f = past (past_all z)
      go true z true e c f =
          let root = eqb-true q.0 s.root.0 e in
          fewer (omega (arith, behind-before z, behind_after, stays_ahead (λ n. absurd (n root)), root_has_all root))
      go true z false e true f =
          fewer (omega (arith, behind-before z, behind_after, stays_ahead (λ n. leb-true 4 (length left) f), filled_leaf s h (eqb-false _ _ e)))
      go true z false e false f =
          fewer (omega (arith, behind-before z, behind_after, put_back_few, leb-false 4 (length left) f, filled_leaf s h (eqb-false _ _ e)))

  -- where none are, a leaf with a mark up to T can only be an empty root
  empty_root : leb (page_at s.pages q).mark.0 T ≡ true → behind T s ≡ 0 → q.0 ≡ s.root.0
  empty_root z zero-behind = go (eqb q.0 s.root.0) refl
    where
      go : (r : Bool) → eqb q.0 s.root.0 ≡ r → q.0 ≡ s.root.0
      go true e = eqb-true _ _ e
      go false e = absurd (omega (arith, behind-before z, filled_leaf s h (eqb-false _ _ e)))

-- and then one clean makes all leaves past T
pub clean_arrives : (s : Store) → sound s ≡ true → (T : ℕ) → T < s.next.0 → behind T s ≡ 0 → Past T (clean s).store
clean_arrives s h T given none_left = go (leb (page_at s.pages p).mark.0 T) refl (leb (page_at v.pages r).mark.0 T) refl
  where
    v : Store
    v = (clean s).store

    p : PageNo
    p = leaf_to_clean s.pages

    r : PageNo
    r = leaf_to_clean v.pages

    sound_after : sound v ≡ true
    sound_after = clean-sound s h

    go : (b : Bool) → leb (page_at s.pages p).mark.0 T ≡ b → (c : Bool) → leb (page_at v.pages r).mark.0 T ≡ c → Past T v
    go false z c f = clean_past s h T given (past_all s h T given z)
    go true z false f = past_all v sound_after T (given_after s h T given) f
    go true z true f =
        let root = empty_root s h T given z none_left in
        let stays = (clean_step_tree s h).stays (λ n. absurd (n root)) in
        let none_after : behind T v ≡ 0 = omega (arith, behind-before s h T given z, behind_after s h T given, stays_ahead s h T given (λ n. absurd (n root))) in
        let R = tree_of-sound v sound_after in
        let to-root : r ≡ v.root = λ i. record { 0 = empty_root v sound_after T (given_after s h T given) f none_after i } in
        let leaf = ap (λ n. (page_at v.pages n).kind) (sym to-root) ∙ (to_clean v R (marks_limited v sound_after)).leaf in
        let from_root : p ≡ v.root = λ i. record { 0 = root_only v R.rule1 leaf p stays.0 i } in
        let its_mark : (page_at v.pages r).mark.0 ≡ s.next.0 = ap (λ n. (page_at v.pages n).mark.0) (to-root ∙ sym from_root) ∙ ap (λ m. m.0) stays.1 in
        absurd (omega (arith, leb-true (page_at v.pages r).mark.0 T f))
