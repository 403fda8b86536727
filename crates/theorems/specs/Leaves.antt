-- The leaves among the pages: the entries in them, each with its leaf's mark, and the marks.
use Rattle.std.specs.Prelude.{◌+◌, ◌≡◌, refl, Bool, true, false, cond, length}
use Rattle.std.proofs.Common.{zero-add, sym, ◌∙◌, ap, ap₂, length-append, eqb-true, eq-eqb}
use mathlib.Core.List.{List, [], ◌∷◌, ◌++◌, map, flat_map, map-append}
use Rattle.rules.specs.declared.Stamp.{Stamp}
use Rattle.rules.specs.declared.Entry.{Entry}
use Rattle.rules.specs.Live.{held_in, held_count}
use Rattle.rules.specs.Lists.{keep, put_if}
use Rattle.rules.specs.Store.{Page}
use Rattle.rules.specs.Sound.{is_leaf}
use Rattle.rules.specs.laws.All.{All, always, map_back, flat_all, all_flat, all_kept, all_map, all_member, all_members}
use Rattle.rules.specs.laws.Kept.{keeps}

-- an entry, with the mark of the leaf that it stands in
pub record MarkedEntry : Type 0 where
  pub mark : Stamp
  pub entry : Entry

abbrev pub with_mark : Stamp → Entry → MarkedEntry
with_mark m e = record { mark = m; entry = e }

-- the pages that are leaves
abbrev pub leaves : List Page → List Page
leaves ps = keep is_leaf ps

-- the entries in the leaves, page after page
unfoldable pub leaf_entries : List Page → List Entry
leaf_entries ps = flat_map (λ g. g.places) (leaves ps)

-- the same with their marks
unfoldable pub marked : List Page → List MarkedEntry
marked ps = flat_map (λ g. map (with_mark g.mark) g.places) (leaves ps)

-- the mark of each leaf
unfoldable pub leaf_marks : List Page → List Stamp
leaf_marks ps = flat_map (λ g. g.mark ∷ []) (leaves ps)

-- as many as the leaves hold
pub leaf_entries-count : (ps : List Page) → length (leaf_entries ps) ≡ held_count ps
unfolding leaf_entries held_in held_count keep flat_map
leaf_entries-count [] = refl
leaf_entries-count (g ∷ gs) = go (is_leaf g) (leaf_entries-count gs)
  where
    go : (b : Bool) → length (leaf_entries gs) ≡ held_count gs
        → length (flat_map (λ g. g.places) (put_if b g (leaves gs))) ≡ cond b (length g.places) 0 + held_count gs
    go true ih = length-append g.places (leaf_entries gs) ∙ ap (λ n. length g.places + n) ih
    go false ih = ih ∙ sym (zero-add (held_count gs))

-- the entries without their marks
pub marked-entries : (ps : List Page) → map (λ k. k.entry) (marked ps) ≡ leaf_entries ps
unfolding marked leaf_entries flat_map
marked-entries ps = go (leaves ps)
  where
    go : (gs : List Page) → map (λ k. k.entry) (flat_map (λ g. map (with_mark g.mark) g.places) gs) ≡ flat_map (λ g. g.places) gs
    go [] = refl
    go (g ∷ gs) =
        map-append (λ k. k.entry) (map (with_mark g.mark) g.places) (flat_map (λ g. map (with_mark g.mark) g.places) gs)
        ∙ ap₂ (λ u v. u ++ v) (map_back (λ k. k.entry) (with_mark g.mark) (always (λ e. refl) g.places)) (go gs)

-- ---- what holds of all that is gathered from the leaves, said of each page that is one; and back
pub leaves_all : {B : Type 0} {P : B → Type 0} (h : Page → List B) {ps : List Page} → All (λ g. g.kind ≡ 1 → All P (h g)) ps → All P (flat_map h (leaves ps))
leaves_all h a = flat_all h (all_kept is_leaf (all_map a λ g k e. k (eqb-true _ _ e)))

-- the way back
pub all_leaves : {B : Type 0} {P : B → Type 0} (h : Page → List B) (ps : List Page) → All P (flat_map h (leaves ps)) → All (λ g. g.kind ≡ 1 → All P (h g)) ps
all_leaves h ps a = all_members ps λ g m k. all_member (all_flat h (leaves ps) a) (keeps is_leaf m (eq-eqb _ _ k))
