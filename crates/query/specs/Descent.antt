-- What a descent passes by: no box that it doesn't go below covers an entry that a query lists; and a key reads back.
use Prim.Native.Nat.{ℕ, zero, suc, ◌+◌, ◌*◌, ◌/◌, ◌%◌, ◌≤◌, ◌<◌}
use Rattle.std.proofs.Common.{add-one, arith, ◌∙◌, drop-drop, ltb-true, ltb-false}
use Rattle.std.specs.Prelude.{◌≡◌, Bool, ltb, drop}
use Rattle.std.proofs.Math.Path.{refl, sym, ap, ap₂}
use Rattle.std.proofs.Math.Bool.{true, false}
use mathlib.Core.List.{List, [], ◌∷◌, ◌++◌, map, flat_map, map-append}
use Rattle.std.proofs.Math.ListN.{length, get_or, get_or-eq_default}
use Rattle.rules.specs.declared.PageNo.{PageNo}
use Rattle.rules.specs.declared.Window.{Window}
use Rattle.rules.specs.declared.Slot.{Slot}
use Rattle.rules.specs.declared.Row.{Row}
use Rattle.rules.specs.Lists.{keep, put_if}
use Rattle.rules.specs.Boxes.{meets}
use Rattle.rules.specs.Store.{Page, free_page, child_of, page_at}
use Rattle.rules.specs.Memo.{is_latest}
use Rattle.rules.specs.Live.{held_under}
use Rattle.rules.specs.Tree.{its_box, cover_page}
use Rattle.rules.specs.Views.{Levelled}
use Rattle.rules.specs.laws.Tests.{and_right, not_fails, not_both}
use Rattle.rules.specs.laws.All.{All, none, more, all_map, all_at, all_zip, flat_all}
use Rattle.rules.specs.laws.Kept.{keep_append}
use Rattle.rules.specs.laws.Boxes.{Within, within_both, within_cover_of}
use Rattle.rules.proofs.Boxes.{meets_wider}
use Rattle.query.specs.Keys.{train_unit, hit}

-- ---- lists
fails : (b : Bool) → (b ≡ true → ⊥) → b ≡ false
fails true h = absurd (h refl)
fails false h = refl

pub next_drop : {A : Type 0} (i : ℕ) (xs : List A) {y : A} {ys : List A} → drop i xs ≡ y ∷ ys → drop (suc i) xs ≡ ys
next_drop i xs e = rw (← add-one i, ← drop-drop 1 i xs) (ap (drop 1) e)

keep_none : {A : Type 0} (f : A → Bool) {xs : List A} → All (λ x. f x ≡ false) xs → keep f xs ≡ []
unfolding keep
keep_none f none = refl
keep_none f (more h a) = rw (h, keep_none f a)

pub all_put : {A : Type 0} {P : A → Type 0} (b : Bool) (x : A) {xs : List A} → P x → All P xs → All P (put_if b x xs)
all_put true x h a = more h a
all_put false x h a = a

-- what is gathered from several lists, of each of which it holds
pub gathered : {A B C D : Type 0} (f : B → D) (g : C → D) (t : C → Bool) (bs : A → List B) (cs : A → List C) {xs : List A}
    → All (λ x. map f (bs x) ≡ map g (keep t (cs x))) xs → map f (flat_map bs xs) ≡ map g (keep t (flat_map cs xs))
unfolding flat_map keep
gathered f g t bs cs none = refl
gathered f g t bs cs (more {x = x} {xs = xs} h a) =
    map-append f (bs x) (flat_map bs xs)
    ∙ ap₂ (λ u v. u ++ v) h (gathered f g t bs cs a)
    ∙ sym (ap (map g) (keep_append t (cs x) (flat_map cs xs)) ∙ map-append g (keep t (cs x)) (keep t (flat_map cs xs)))

-- ---- a key is read back
-- the page, the place and the train in a key
pub numbers_back : (t p i : ℕ) → p < 192 → i < 8
    → let k = t * train_unit + (8 * p + i) in (k / 8 % 536_870_912 ≡ p) × (k % 8 ≡ i) × (k / train_unit ≡ t)
numbers_back t p i h j = (omega arith, omega arith, omega arith)

-- a key begins with the train of its row
abbrev pub ByTrain : (ℕ → Row) → ℕ → Type 0
ByTrain f k = k / train_unit ≡ (f k).train.0

-- ---- the pages
-- what holds of every page, and of a free one, holds of the page read at any number
pub page_holds : {P : Page → Type 0} {ps : List Page} → All P ps → P free_page → (p : PageNo) → P (page_at ps p)
unfolding page_at
page_holds {P = P} {ps = ps} a h p = go (ltb p.0 (length ps)) refl
  where
    go : (b : Bool) → ltb p.0 (length ps) ≡ b → P (get_or ps p.0 free_page)
    go true e = all_at a p.0 free_page (ltb-true _ _ e)
    go false e = rw (get_or-eq_default ps free_page (ltb-false _ _ e)) h

-- a page that has a place is one of the pages
pub page_inside : (ps : List Page) (p : PageNo) (i : ℕ) → i < length (page_at ps p).places → p.0 < length ps
unfolding page_at
page_inside ps p i h =
    ltb-true _ _ (not_fails _ λ e. omega (arith, ap (λ g. length g.places) (get_or-eq_default ps free_page (ltb-false _ _ e))))

-- what a search needs of them: they are at most 192, each with at most eight places, and each inner box the smallest that covers its child's places
pub record Searched (ps : List Page) : Type 0 where
  pub most : length ps ≤ 192
  pub fit : All (λ g. length g.places ≤ 8) ps
  pub smallest : All (λ g. g.kind ≡ 2 → All (λ e. e.bounds ≡ cover_page ps (child_of e)) g.places) ps

module _ (ps : List Page) (good : Searched ps) where
  -- every held entry lies within the cover of the page that it is held under
  held_within : (l : ℕ) (p : PageNo) → Levelled ps l p → All (λ e. Within e.bounds (cover_page ps p)) (held_under ps l p)
  unfolding held_under cover_page
  held_within zero p h = none
  held_within (suc zero) p h = within_cover_of its_box (page_at ps p).places
  held_within (suc (suc l)) p h =
      flat_all _
      (all_zip {P = λ e. All (λ x. Within x.bounds e.bounds) (held_under ps (suc l) (child_of e))}
      (all_zip h.1 (page_holds good.smallest (λ k. none) p h.0) λ e k b. rw b (held_within (suc l) (child_of e) k))
      (within_cover_of its_box (page_at ps p).places)
      λ e k c. all_map k λ x m. within_both m c)

  module _ (memo : List Slot) (w : Window) where
    -- where a page's cover doesn't meet the window, no entry under it is listed
    pub none_hit : (l : ℕ) (p : PageNo) → Levelled ps l p → meets (cover_page ps p) w ≡ false → keep (hit memo w) (held_under ps l p) ≡ []
    unfolding hit
    none_hit l p h f =
        keep_none _ (all_map (held_within l p h) λ e k. fails _ λ t. not_both _ (meets_wider _ _ w k (and_right (is_latest memo e) _ t)) f)
