-- The path to a leaf, found by looking under each place, leads to it.
use Rattle.std.specs.Prelude.{ℕ, zero, suc, ◌+◌, ◌<◌, ◌≤◌, cond, ◌||◌, leb, length}
use native.Mathlib.Omega.{arith}
use Rattle.std.proofs.Common.{zero-add, ◌∙◌, eqb-true, eq-eqb, ne_eqb, leb-true, leb-false, le-leb}
use Rattle.std.proofs.Math.Path.{◌≡◌, refl, sym, ap}
use Rattle.std.proofs.Math.Bool.{Bool, true, false}
use mathlib.Core.List.{List, [], ◌∷◌, map, flat_map}
use Rattle.std.proofs.Math.Dec.{eqb}
use Rattle.std.proofs.Math.ListN.{get_or}
use Rattle.std.proofs.lemmas.Bool.{eqb-false}
use Rattle.rules.specs.declared.PageNo.{PageNo}
use Rattle.rules.specs.Lists.{first, some_one, count, one_if}
use Rattle.rules.specs.Store.{Page, page_no, child_of, no_place, page_at}
use Rattle.rules.specs.Cleaning.{reached_under, among, path_to}
use Rattle.rules.specs.laws.All.{All, none, more, head_of, all_map, flat_append}
use Rattle.rules.specs.laws.Order.{all_reordered, picked}
use Rattle.rules.specs.laws.Counts.{count_append}
use Rattle.theorems.specs.tree.Items.{Item, no_mark, no_node, Atom, number_of, atoms, atoms_of, numbers}
use Rattle.theorems.specs.tree.Stands.{place, page_of, Stands, number_is}
use Rattle.theorems.specs.tree.Descent.{reached_is, numbers_leaf}
use Rattle.theorems.specs.tree.Trim.{Along, leaf_at}

-- ---- the first that passes a test, where one does
pub record Hit {X : Type 0} (f : X → Bool) (xs : List X) (d : X) : Type 0 where
  pub inside : first f xs < length xs
  pub passes : f (get_or xs (first f xs) d) ≡ true

-- the first, or one after it
pub hit_later : {X : Type 0} (f : X → Bool) (d x : X) (xs : List X) → (f x ≡ false → Hit f xs d) → Hit f (x ∷ xs) d
unfolding first
hit_later f d x xs g = let r = go (f x) refl in record { inside = r.0; passes = r.1 }
  where
    go : (b : Bool) → f x ≡ b → (cond b 0 (suc (first f xs)) < suc (length xs)) × (f (get_or (x ∷ xs) (cond b 0 (suc (first f xs))) d) ≡ true)
    go true e = (omega arith, e)
    go false e = let h = g e in (omega (arith, h.inside), h.passes)

first-map : {X Y : Type 0} (f : X → Bool) (g : Y → Bool) (pl : X → Y) {xs : List X} → All (λ x. g (pl x) ≡ f x) xs → first g (map pl xs) ≡ first f xs
unfolding first
first-map f g pl none = refl
first-map f g pl (more h a) = rw (h, first-map f g pl a)

-- ---- the first item that has page q
abbrev has : PageNo → List ℕ → Bool
has q ns = leb 1 (count (eqb q.0) ns)

among-has : (q : PageNo) (ns : List ℕ) → among q (map page_no ns) ≡ has q ns
unfolding among count
among-has q [] = refl
among-has q (n ∷ ns) = go (eqb q.0 n) refl (among-has q ns)
  where
    go : (b : Bool) → eqb q.0 n ≡ b → among q (map page_no ns) ≡ has q ns
        → (eqb n q.0 || among q (map page_no ns)) ≡ leb 1 (one_if b + count (eqb q.0) ns)
    go true e ih = rw (eq-eqb n q.0 (sym (eqb-true q.0 n e))) (sym (le-leb 1 (1 + count (eqb q.0) ns) (omega arith)))
    go false e ih = rw (ne_eqb n q.0 (λ z. eqb-false q.0 n e (sym z)), zero-add (count (eqb q.0) ns)) ih

first-has : {X : Type 0} (q : PageNo) (A : X → List Atom) (d : X) (xs : List X) → 1 ≤ count (eqb q.0) (numbers (flat_map A xs)) → Hit (λ x. has q (numbers (A x))) xs d
unfolding flat_map count
first-has q A d [] h = absurd (omega arith)
first-has q A d (x ∷ xs) h =
    let c = ap (count (eqb q.0)) (flat_append number_of (A x) (flat_map A xs)) ∙ count_append (eqb q.0) (numbers (A x)) (numbers (flat_map A xs)) in
    hit_later (λ y. has q (numbers (A y))) d x xs λ e. first-has q A d xs (omega (arith, c, leb-false 1 (count (eqb q.0) (numbers (A x))) e))

-- ---- down to a leaf
module _ (ps : List Page) (q : PageNo) (leaf : (page_at ps q).kind ≡ 1) where
  -- the path leads down to q
  pub record Leads (d : ℕ) (path : List ℕ) (t : Item (suc d)) : Type 0 where
    pub along : Along d path t
    pub to : (leaf_at d path t).no ≡ q

  leads_leaf : (t : Item 1) → 1 ≤ count (eqb q.0) (numbers (atoms_of 0 t)) → Leads 0 [] t
  unfolding leaf_at atoms flat_map count
  leads_leaf t h = record { along = tt; to = ap page_no (go (eqb q.0 t.no.0) refl (rw (numbers_leaf t.mark t.items) at h)) }
    where
      go : (b : Bool) → eqb q.0 t.no.0 ≡ b → 1 ≤ one_if b + 0 → t.no.0 ≡ q.0
      go true e k = sym (eqb-true _ _ e)
      go false e k = absurd (omega arith)

  leads_next : (d : ℕ) (t : Item (suc (suc d))) (i : ℕ) (path : List ℕ) → i < length t.items → Leads d path (get_or t.items i no_node) → Leads (suc d) (i ∷ path) t
  unfolding leaf_at
  leads_next d t i path h f = record { along = (h, f.along); to = f.to }

  -- an inner page is not the leaf, so the leaf is below it
  below : (d : ℕ) (t : Item (suc (suc d))) → Stands ps (suc (suc d)) t → 1 ≤ count (eqb q.0) (numbers (atoms_of (suc d) t))
      → 1 ≤ count (eqb q.0) (numbers (flat_map (atoms (suc d) no_mark) t.items))
  unfolding atoms flat_map count page_of
  below d t s h =
      let other : q.0 ≡ t.no.0 → ⊥ = λ e. (let k : ◌≡◌ {A = ℕ} 1 2 = sym leaf ∙ ap (λ z. (page_at ps (page_no z)).kind) e ∙ ap (λ g. g.kind) s.0 in omega arith) in
      let h' : 1 ≤ 0 + count (eqb q.0) (numbers (flat_map (atoms (suc d) no_mark) t.items)) = rw (ne_eqb q.0 t.no.0 other) at h in
      omega arith

  path_suc : (d : ℕ) (t : Item (suc (suc d))) → Stands ps (suc (suc d)) t →
      let i = first (λ c. has q (numbers (atoms_of d c))) t.items in
      path_to ps (suc d) t.no q ≡ i ∷ path_to ps d (get_or t.items i no_node).no q
  unfolding path_to page_of place
  path_suc d t s =
      let f : Item (suc d) → Bool = λ c. has q (numbers (atoms_of d c)) in
      let i = first f t.items in
      let e = first-map f (λ e. among q (reached_under ps (suc d) (child_of e))) (place (suc d)) (all_map s.1 λ c r. ap (among q) (reached_is ps d no_mark c r) ∙ among-has q (numbers (atoms_of d c))) in
      path_of t.no (page_of (suc d) t) i (get_or t.items i no_node).no s.0 e (number_is d t.items i)
    where
      path_of : (p : PageNo) (g : Page) (i : ℕ) (c : PageNo) → page_at ps p ≡ g
          → first (λ e. among q (reached_under ps (suc d) (child_of e))) g.places ≡ i → child_of (get_or g.places i no_place) ≡ c
          → path_to ps (suc d) p q ≡ i ∷ path_to ps d c q
      path_of p g i c e j k = rw (e, j, k)

  -- the path found does
  pub path_leads : (d : ℕ) (t : Item (suc d)) → Stands ps (suc d) t → 1 ≤ count (eqb q.0) (numbers (atoms_of d t)) → Leads d (path_to ps d t.no q) t
  path_leads zero t s h = unfold path_to in leads_leaf t h
  path_leads (suc d) t s h =
      let hit = first-has q (atoms (suc d) no_mark) no_node t.items (below d t s h) in
      let i = first (λ c. has q (numbers (atoms_of d c))) t.items in
      let c = get_or t.items i no_node in
      rw (path_suc d t s)
      (leads_next d t i (path_to ps d c.no q) hit.inside
      (path_leads d c (head_of (all_reordered (picked t.items i no_node hit.inside) s.1)) (leb-true 1 _ hit.passes)))
