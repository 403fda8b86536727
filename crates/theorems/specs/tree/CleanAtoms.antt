-- A clean's three steps as one, on what a tree is made of: marked entries, leaf marks, and which leaves stay.
use Rattle.std.specs.Prelude.{ℕ, zero, suc, ◌≡◌, refl, length}
use Rattle.std.proofs.Common.{arith, ◌∙◌, ap₂}
use Rattle.std.proofs.Math.Path.{sym, ap}
use mathlib.Core.List.{List, [], ◌∷◌, ◌++◌, map, flat_map, append-nil}
use Rattle.rules.specs.declared.PageNo.{PageNo}
use Rattle.rules.specs.declared.Stamp.{Stamp}
use Rattle.rules.specs.declared.Entry.{Entry}
use Rattle.rules.specs.Store.{Page}
use Rattle.rules.specs.laws.All.{All, head_of, all_map, all_append, all_front, all_back, flat_append}
use Rattle.rules.specs.laws.Order.{◌~◌, ◌then◌, back, same, rear, swapped, all_reordered, flat_reordered, flat_both}
use Rattle.theorems.specs.Leaves.{MarkedEntry, with_mark}
use Rattle.theorems.specs.tree.Items.{Atom, page, entry, entries}
use Rattle.theorems.specs.tree.PutAtoms.{pages_only}
use Rattle.theorems.specs.tree.LeafAtoms.{marked_of, SaysLeaf}
use Rattle.theorems.specs.tree.Trim.{Loose, loose_entry}
use Rattle.theorems.specs.tree.TrimAtoms.{IsLost}
use Rattle.theorems.specs.tree.PutBack.{EntryIn, IsPage}
use Rattle.theorems.specs.tree.GiveWay.{IsInner}

-- ---- the three steps as one, on what the tree is made of: `own` and the page y are what the leaf has become, `other` all that was never its own
module _ (cut lost waits own other new landed whole gone final : List Atom) (y : PageNo) (m : Stamp)
    (taken_out : (cut ++ (lost ++ waits)) ~ (own ++ (page 0 y m ∷ other))) (lost_pages : All (IsLost y) lost)
    (put-back-in : whole ~ (new ++ (landed ++ (waits ++ cut)))) (new-pages : All IsPage new)
    (gives : whole ~ (gone ++ final)) (inner-gone : All IsInner gone) where
  -- the marked entries that come out
  pub steps_marked : flat_map marked_of final ~ (flat_map marked_of landed ++ (flat_map marked_of own ++ flat_map marked_of other))
  unfolding flat_map
  steps_marked =
      let M : List Atom → List MarkedEntry = flat_map marked_of in
      back (flat_both marked_of gone final gives then same (ap (λ z. z ++ M final) (pages_only marked_of (λ l p k. refl) IsInner (λ k e h. h) inner-gone)))
      then flat_both marked_of new (landed ++ (waits ++ cut)) put-back-in
      then same (ap (λ z. z ++ M (landed ++ (waits ++ cut))) (pages_only marked_of (λ l p k. refl) IsPage (λ k e h. h) new-pages) ∙ flat_append marked_of landed (waits ++ cut))
      then rear (M landed)
      (flat_reordered marked_of (swapped waits cut)
      then same (flat_append marked_of cut waits ∙ ap (λ z. M cut ++ (z ++ M waits)) (sym (pages_only marked_of (λ l p k. refl) (IsLost y) (λ k e h. h) lost_pages)))
      then same (ap (λ z. M cut ++ z) (sym (flat_append marked_of lost waits)) ∙ sym (flat_append marked_of cut (lost ++ waits)))
      then flat_both marked_of own (page 0 y m ∷ other) taken_out)

  -- a leaf of other pages that is said of what came out, and of what was lost, is said of the leaf's page and of what was never its own
  pub steps_says : (qs : List Page) (P : ℕ → Type 0) → All (SaysLeaf qs P) lost → All (SaysLeaf qs P) final → All (SaysLeaf qs P) (page 0 y m ∷ other)
  steps_says qs P l a =
      let both = all_back landed _ (all_back new _ (all_reordered put-back-in (all_reordered (back gives) (all_append (all_map inner-gone of_inner) a)))) in
      all_back own _ (all_reordered taken_out (all_append (all_back waits cut both) (all_append l (all_front waits cut both))))
    where
      of_inner : (a : Atom) → IsInner a → SaysLeaf qs P a
      of_inner (page zero p k) h = absurd h
      of_inner (page (suc l) p k) h = tt
      of_inner (entry k e) h = absurd h

-- a page lost is not said to stay
pub lost_says : (qs : List Page) (y : PageNo) (a : Atom) → IsLost y a → SaysLeaf qs (λ n. n ≡ y.0 → ⊥) a
lost_says qs y (page zero p k) h = λ other. absurd (other (ap (λ z. z.0) h))
lost_says qs y (page (suc l) p k) h = tt
lost_says qs y (entry k e) h = absurd h

-- entries come back only where entries wait
none_landed : (S : Stamp → Type 0) (xs : List Atom) → All (EntryIn S) xs → entries xs ≡ [] → xs ≡ []
unfolding flat_map
none_landed S [] a e = refl
none_landed S (page l p k ∷ xs) a e = absurd (head_of a)
none_landed S (entry k x ∷ xs) a e = absurd (omega (arith, ap length e))

-- where none waits, all that the leaf keeps stays in it
pub all_stay : (S : Stamp → Type 0) (m : Stamp) (ws : List Loose) (landed : List Atom) (stays es : List Entry) → ws ≡ []
    → All (EntryIn S) landed → entries landed ≡ flat_map loose_entry ws → stays ++ flat_map loose_entry ws ≡ es
    → flat_map marked_of landed ++ map (with_mark m) stays ≡ map (with_mark m) es
unfolding flat_map
all_stay S m ws landed stays es w a e k =
    let no-entry : flat_map loose_entry ws ≡ [] = ap (flat_map loose_entry) w in
    ap₂ (λ x y. flat_map marked_of x ++ map (with_mark m) y) (none_landed S landed a (e ∙ no-entry))
    (sym (append-nil stays) ∙ ap (λ z. stays ++ z) (sym no-entry) ∙ k)
