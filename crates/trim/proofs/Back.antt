-- Putting back what waits, in turn, and the levels meanwhile. Assumes nothing.
use Prim.Native.Nat.{ℕ, ◌+◌, ◌-◌, ◌≤◌, ◌<◌}
use native.Mathlib.Omega.{arith}
use mathlib.Core.Path.{◌≡◌, refl, sym, subst, ◌∙◌, ap}
use mathlib.Core.List.{List, [], ◌∷◌, ◌++◌}
use Rattle.std.proofs.lemmas.List.{map_more}
use lib.ListN.{length, get_or, take, length-map}
use lib.Seq.{take_all, length-take-le}
use Rattle.rules.specs.declared.PageNo.{PageNo}
use Rattle.rules.specs.Store.{limit, store_of}
use Rattle.rules.specs.Tree.{Tree, Written, whole, parted, tree_of, rooted, put_below, put_at}
use Rattle.rules.specs.Cleaning.{Orphan as Waiting, put_back}
use Rattle.rules.specs.Views.{ProperBox}
use Rattle.rules.specs.laws.All.{all_at}
use Rattle.tree.specs.Putting.{Ready, Grown}
use Rattle.tree.specs.Laws.{grown_then, grown_tree, grown_same}
use Rattle.trim.specs.declared.Orphan.{Orphan}
use Rattle.trim.specs.Trimming.{waiting, held_by, Placeable, Waits}

-- ---- the levels
rooted_levels : (root : PageNo) (n : ℕ) (r : Written) → (n ≤ (rooted root n r).levels) × ((rooted root n r).levels ≤ n + 1)
unfolding rooted
rooted_levels root n (whole ps) = (omega arith, omega arith)
rooted_levels root n (parted ps q) = (omega arith, omega arith)

pub back_levels : (os : List Waiting) (t : Tree) → (t.levels ≤ (put_back os t).levels) × ((put_back os t).levels ≤ t.levels + length os)
unfolding put_back put_at
back_levels [] t = (omega arith, omega arith)
back_levels (o ∷ os) t =
    let one = rooted_levels t.root t.levels (put_below (t.levels - o.level) t.pages t.root o.place) in
    let all = back_levels os (put_at o.level o.place t) in
    (omega (arith, one.0, all.0), omega (arith, one.1, all.1))

back_last : (os : List Waiting) (o : Waiting) (t : Tree) → put_back (os ++ (o ∷ [])) t ≡ put_at o.level o.place (put_back os t)
unfolding put_back
back_last [] o t = refl
back_last (x ∷ os) o t = back_last os o (put_at x.level x.place t)

-- ---- put back so far
abbrev pub PutBack : List ℕ → List Orphan → List ℕ → ℕ → Type 0
PutBack w os w' i = Grown (length (store_of w).pages) w (put_back (held_by (take i os)) (tree_of (store_of w))) w'

pub back_start : (w : List ℕ) (os : List Orphan) → Ready (length (store_of w).pages) w → PutBack w os w 0
unfolding put_back
back_start w os h = grown_same h

module _ (w : List ℕ) (os : List Orphan) (most : (store_of w).levels ≤ 5) (waits : Waits ((store_of w).levels - 1) os) (w' : List ℕ) (i : ℕ) (so_far : PutBack w os w' i) where
  pub back_ready : Ready (length (store_of w').pages) w'
  back_ready = rw so_far.ready.counted so_far.ready

  levels_now : ((store_of w).levels ≤ (store_of w').levels) × ((store_of w').levels ≤ (store_of w).levels + length (held_by (take i os)))
  levels_now = rw (ap (λ (t : Tree). t.levels) (grown_tree so_far)) (back_levels (held_by (take i os)) (tree_of (store_of w)))

  module _ (inside : i < length os) (d : Orphan) where
    pub back_limit : (store_of w').levels < limit
    back_limit = omega (arith, levels_now.1, length-map (take i os) waiting, length-take-le i os (omega arith), waits.few)

    placeable : Placeable ((store_of w).levels - 1) (waiting (get_or os i d))
    placeable = all_at waits.placeable i d inside

    pub back_proper : ProperBox (get_or os i d).place.bounds
    back_proper = placeable.proper

    pub back_level : (get_or os i d).level ≤ (store_of w').levels
    back_level = omega (arith, placeable.level_most, levels_now.0)

    pub back_turn : (w'' : List ℕ) → Grown (length (store_of w').pages) w' (put_at (get_or os i d).level (get_or os i d).place (tree_of (store_of w'))) w'' → PutBack w os w'' (i + 1)
    back_turn w'' g =
        let x = get_or os i d in
        let more : held_by (take (i + 1) os) ≡ held_by (take i os) ++ (waiting x ∷ []) = map_more waiting os i d inside in
        let last : put_back (held_by (take (i + 1) os)) (tree_of (store_of w)) ≡ put_at x.level x.place (tree_of (store_of w')) =
        ap (λ z. put_back z (tree_of (store_of w))) more ∙ back_last (held_by (take i os)) (waiting x) (tree_of (store_of w)) ∙ ap (put_at x.level x.place) (sym (grown_tree so_far)) in
        rw last (grown_then so_far (subst (λ n. Grown n w' (put_at x.level x.place (tree_of (store_of w'))) w'') so_far.ready.counted g))

  pub back_all : length os ≤ i → Grown (length (store_of w).pages) w (put_back (held_by os) (tree_of (store_of w))) w'
  back_all k = subst (λ os. Grown (length (store_of w).pages) w (put_back (held_by os) (tree_of (store_of w))) w') (take_all i os k) so_far
