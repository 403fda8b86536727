-- Taking out along a path to a leaf, on the tree: every page stays within its bounds, and nothing is lost but pages.
use Prim.Native.Nat.{ℕ, zero, suc, ◌<◌, ◌≤◌}
use Rattle.std.proofs.Common.{arith, length-set, ltb-true, ltb-false}
use Rattle.std.specs.Prelude.{◌≡◌, cond, ltb, length, set}
use Rattle.std.proofs.Math.Path.{refl}
use mathlib.Core.List.{List, [], ◌∷◌, ◌++◌, map}
use Rattle.std.proofs.Math.ListN.{get_or}
use Rattle.rules.specs.declared.Stamp.{Stamp}
use Rattle.rules.specs.declared.Entry.{Entry}
use Rattle.rules.specs.Lists.{without}
use Rattle.rules.specs.laws.Tests.{either}
use Rattle.rules.specs.laws.All.{All, none, more, head_of, tail_of, all_map, all_append, always}
use Rattle.rules.specs.laws.Order.{back, all_reordered, length_reordered, picked, placed}
use Rattle.theorems.specs.tree.Items.{Item, with_items, no_node, Atom, page, mark_at, atoms_of, Full}

-- ---- what waits to be put back: an item of any level
pub data Loose : Type 0 where
  loose : (k : ℕ) → Item k → Loose

-- the entries that wait by themselves, and what the pages that wait are made of
abbrev pub loose_entry : Loose → List Entry
loose_entry (loose zero e) = e ∷ []
loose_entry (loose (suc k) x) = []

abbrev pub loose_page : Loose → List Atom
loose_page (loose zero e) = []
loose_page (loose (suc k) x) = atoms_of k x

-- ---- the path, and the leaf at its end
abbrev pub Along : (d : ℕ) → List ℕ → Item (suc d) → Type 0
Along zero path t = Unit {0}
Along (suc d) [] t = ⊥
Along (suc d) (i ∷ path) t = (i < length t.items) × Along d path (get_or t.items i no_node)

-- that leaf
unfoldable pub leaf_at : (d : ℕ) → List ℕ → Item (suc d) → Item 1
leaf_at zero path t = t
leaf_at (suc d) [] t = no_node
leaf_at (suc d) (i ∷ path) t = leaf_at d path (get_or t.items i no_node)

-- the page after it, what waits, and the pages lost
pub record Cut (l : ℕ) : Type 0 where
  pub page : Item (suc l)
  pub loose : List Loose
  pub lost : List Atom

-- a child taken out, or kept as it has become
module _ (d : ℕ) (t : Item (suc (suc d))) (i : ℕ) (r : Cut d) where
  abbrev pub cut_out : Cut (suc d)
  cut_out =
      record {
        page = with_items t (without t.items i);
        loose = r.loose ++ map (loose d) r.page.items;
        lost = page d r.page.no (mark_at d r.page.mark) ∷ r.lost;
      }

  abbrev pub cut_stay : Cut (suc d)
  cut_stay = record { page = with_items t (set t.items i r.page); loose = r.loose; lost = r.lost }

-- ---- bounds
-- an inner page loses at most one place
abbrev pub Loses : (d : ℕ) → Item (suc d) → Item (suc d) → Type 0
Loses zero t u = Unit {0}
Loses (suc d) t u = length t.items ≤ suc (length u.items)

-- what waits is full, and of a level below d
abbrev pub Ready : ℕ → Loose → Type 0
Ready d (loose k x) = (suc k ≤ d) × Full k x

-- what is left of a page, and what waits
pub record CutGood (d : ℕ) (t : Item (suc d)) (r : Cut d) : Type 0 where
  pub most : length r.page.items ≤ 8
  pub each : All (Full d) r.page.items
  pub loses : Loses d t r.page
  pub waits : All (Ready d) r.loose

ready_up : (d : ℕ) (w : Loose) → Ready d w → Ready (suc d) w
ready_up d (loose k x) h = (omega (arith, h.0), h.1)

ready_items : (d : ℕ) {xs : List (Item d)} → All (Full d) xs → All (Ready (suc d)) (map (loose d) xs)
ready_items d none = none
ready_items d (more {x = x} h a) = let p : Ready (suc d) (loose d x) = (omega arith, h) in more p (ready_items d a)

next_good : (d i : ℕ) (t : Item (suc (suc d))) (r : Cut d) → i < length t.items → length t.items ≤ 8 → All (Full (suc d)) t.items
    → CutGood d (get_or t.items i no_node) r → CutGood (suc d) t (cond (ltb (length r.page.items) 4) (cut_out d t i r) (cut_stay d t i r))
next_good d i t r h most each ih =
    let w = without t.items i in
    let p = picked t.items i no_node h in
    let q = placed t.items i r.page h in
    let a = all_reordered p each in
    let up = all_map ih.waits λ z b. ready_up d z b in
    let lp = length_reordered p in
    let lq = length_reordered q in
    either (CutGood (suc d) t) (ltb (length r.page.items) 4)
    (λ e. record { most = omega arith; each = tail_of a; loses = omega arith; waits = all_append up (ready_items d ih.each) })
    λ e.
    (let full : Full (suc d) r.page = record { least = ltb-false _ _ e; most = ih.most; each = ih.each } in
    record { most = omega arith; each = all_reordered (back q) (more full (tail_of a)); loses = omega arith; waits = up })

module _ (f : List Entry → List Entry) (m : Stamp) where
  -- the leaf keeps what f leaves and gets the mark m; a thin child is taken out, another stays
  unfoldable pub cut : (d : ℕ) → List ℕ → Item (suc d) → Cut d
  cut zero path t = record { page = record { no = t.no; mark = m; items = f t.items }; loose = []; lost = [] }
  cut (suc d) [] t = record { page = t; loose = []; lost = [] }
  cut (suc d) (i ∷ path) t =
      let r = cut d path (get_or t.items i no_node) in
      let out = cut_out d t i r in
      let stay = cut_stay d t i r in
      cond (ltb (length r.page.items) 4) out stay

  -- where f leaves no more entries than there were
  pub cut-good : ((es : List Entry) → length (f es) ≤ length es) → (d : ℕ) (path : List ℕ) (t : Item (suc d)) → Along d path t
      → length t.items ≤ 8 → All (Full d) t.items → CutGood d t (cut d path t)
  unfolding cut
  cut-good shrinks zero path t al most each =
      record { most = omega (arith, shrinks t.items); each = always (λ e. tt) (f t.items); loses = tt; waits = none }
  cut-good shrinks (suc d) [] t al most each = absurd al
  cut-good shrinks (suc d) (i ∷ path) t al most each =
      let c = head_of (all_reordered (picked t.items i no_node al.0) each) in
      next_good d i t (cut d path (get_or t.items i no_node)) al.0 most each
      (cut-good shrinks d path (get_or t.items i no_node) al.1 c.most c.each)

  -- it is the same page
  pub cut_number : (d : ℕ) (path : List ℕ) (t : Item (suc d)) → (cut d path t).page.no ≡ t.no
  unfolding cut
  cut_number zero path t = refl
  cut_number (suc d) [] t = refl
  cut_number (suc d) (i ∷ path) t =
      let r = cut d path (get_or t.items i no_node) in
      either (λ (z : Cut (suc d)). z.page.no ≡ t.no) (ltb (length r.page.items) 4) {x = cut_out d t i r} {y = cut_stay d t i r} (λ e. refl) (λ e. refl)

  -- ---- a leaf that isn't thin stays, and then nothing waits or is lost
  record CutWhole (d : ℕ) (t : Item (suc d)) (r : Cut d) : Type 0 where
    none_loose : r.loose ≡ []
    none_lost : r.lost ≡ []
    thick : 4 ≤ length t.items → 4 ≤ length r.page.items

  whole_next : (d i : ℕ) (t : Item (suc (suc d))) (r : Cut d) → 4 ≤ length r.page.items → r.loose ≡ [] → r.lost ≡ []
      → CutWhole (suc d) t (cond (ltb (length r.page.items) 4) (cut_out d t i r) (cut_stay d t i r))
  whole_next d i t r h lo ls =
      either (CutWhole (suc d) t) (ltb (length r.page.items) 4)
      (λ e. absurd (omega (arith, ltb-true (length r.page.items) 4 e)))
      (λ e. record { none_loose = lo; none_lost = ls; thick = λ k. omega (arith, length-set t.items i r.page) })

  thick_whole : (d : ℕ) (path : List ℕ) (t : Item (suc d)) → Along d path t → All (Full d) t.items → 4 ≤ length (f (leaf_at d path t).items) → CutWhole d t (cut d path t)
  unfolding cut leaf_at
  thick_whole zero path t al each h = record { none_loose = refl; none_lost = refl; thick = λ k. h }
  thick_whole (suc d) [] t al each h = absurd al
  thick_whole (suc d) (i ∷ path) t al each h =
      let c = get_or t.items i no_node in
      let full : Full (suc d) c = head_of (all_reordered (picked t.items i no_node al.0) each) in
      let ih = thick_whole d path c al.1 full.each h in
      whole_next d i t (cut d path c) (ih.thick full.least) ih.none_loose ih.none_lost

  -- a root that is the leaf itself stays too
  pub cut_whole : (d : ℕ) (path : List ℕ) (t : Item (suc d)) → Along d path t → All (Full d) t.items → (1 ≤ d → 4 ≤ length (f (leaf_at d path t).items))
      → ((cut d path t).loose ≡ []) × ((cut d path t).lost ≡ [])
  unfolding cut
  cut_whole zero path t al each h = (refl, refl)
  cut_whole (suc d) path t al each h = let w = thick_whole (suc d) path t al each (h (omega arith)) in (w.none_loose, w.none_lost)
