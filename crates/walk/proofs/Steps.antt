-- What each way out of a walk, and each turn of it, comes to. Assumes nothing.
use Rattle.std.proofs.Common.{ℕ, ◌+◌, ◌-◌, ◌≤◌, ◌<◌, arith, ◌≡◌, refl, sym, ◌∙◌, ap, Bool, true, false, not, List, eqb, length, get_or, set}
use Rattle.std.proofs.lemmas.Bool.{not-true, not-false}
use Rattle.std.proofs.Math.Bool.{false≢true}
use Rattle.std.proofs.Math.ListN.{length-set}
use Rattle.rules.specs.declared.PageNo.{PageNo}
use Rattle.rules.specs.declared.Entry.{Entry}
use Rattle.rules.specs.Store.{no_place, child_of, page_at, store_of, free_page}
use Rattle.rules.specs.Views.{PageInRange}
use Rattle.rules.specs.Cleaning.{reached_under}
use Rattle.rules.specs.laws.All.{all_at}
use Rattle.page.specs.declared.Page.{Page}
use Rattle.page.specs.Struct.{contents, laid_page}
use Rattle.tidy.specs.Tidy.{TidyWords}
use Rattle.tidy.specs.Laws.{pages_many}
use Rattle.walk.specs.Walk.{flagged, ToWalk, Walked, Walking, walks, walks_all}
use Rattle.walk.specs.Laws.{seen_before, leaf_walks, other_walks, inner_walks, inner_flags, child_passes, child_fails, all_walked, all_flagged}
use Rattle.walk.proofs.Pages.{places_read}

module _ (w : List ℕ) (l : ℕ) (p : PageNo) (fs : List Bool) (tidy : TidyWords w) (to : ToWalk w l p fs) where
  -- each page has a flag
  pub flag_there : p.0 < length fs
  flag_there = omega (arith, to.inside, to.flags, pages_many w, tidy.given.sizes.pages_most)

  module _ (one : List Bool) (set-one : one ≡ set fs p.0 true) where
    long : length one ≡ 192
    long = ap length set-one ∙ length-set fs p.0 true ∙ to.flags

    -- a page that was flagged before
    pub page_seen : not (get_or fs p.0 false) ≡ false → Walked (store_of w).pages l p fs false one
    page_seen e =
        record {
          told = seen_before _ p fs l to.level (not-false _ e);
          marked = λ f. absurd (false≢true f);
          flags = long;
        }

    module _ (new : not (get_or fs p.0 false) ≡ true) (g : Page) (read : g ≡ laid_page (page_at (store_of w).pages p)) where
      unseen : get_or fs p.0 false ≡ false
      unseen = not-true _ new

      kind_read : g.kind ≡ (page_at (store_of w).pages p).kind
      unfolding laid_page
      kind_read = ap (λ (h : Page). h.kind) read

      -- a page at the leaves' level
      pub page_low : l ≡ 1 → Walked (store_of w).pages l p fs (eqb g.kind 1) one
      unfolding reached_under flagged
      page_low f =
          record {
            told = rw (f, kind_read) (leaf_walks (store_of w).pages p fs unseen);
            marked = λ _. rw f set-one;
            flags = long;
          }

      -- a page above it that isn't inner
      pub page_other : (l ≡ 1 → ⊥) → (g.kind ≡ 2 → ⊥) → Walked (store_of w).pages l p fs false one
      page_other f k =
          record {
            told = other_walks _ p fs l (let h = to.level in omega arith) (λ q. k (kind_read ∙ q));
            marked = λ f. absurd (false≢true f);
            flags = long;
          }

      module _ (high : l ≡ 1 → ⊥) (inner : g.kind ≡ 2) (places : List Entry) (used : places ≡ (contents g).places) where
        level_2 : 2 ≤ l
        level_2 = let h = to.level in omega arith

        page_range : PageInRange (length (store_of w).pages) (page_at (store_of w).pages p)
        unfolding page_at
        page_range = all_at tidy.pages p.0 free_page to.inside

        same : places ≡ (page_at (store_of w).pages p).places
        same = places_read w tidy p g read places used

        inner_so : walks (store_of w).pages l p fs ≡ walks_all (store_of w).pages (l - 1) places one
        inner_so = rw (same, set-one) (inner_walks (store_of w).pages p fs l level_2 unseen (sym kind_read ∙ inner))

        module _ (i : ℕ) (now : List Bool) (walking : Walking (store_of w).pages (l - 1) places one (length places) i now) where
          pub walk_ends : length places ≤ i → Walked (store_of w).pages l p fs true now
          walk_ends h =
              record {
                told = all_walked _ _ _ one (length places) i now walking refl h ∙ sym inner_so;
                marked = λ _. all_flagged _ _ _ one (length places) i now walking refl h ∙ sym (rw (same, set-one) (inner_flags (store_of w).pages p fs l level_2));
                flags = walking.flags;
              }

          module _ (inside : i < length places) where
            pub child_to_walk : ToWalk w (l - 1) (child_of (get_or places i no_place)) now
            child_to_walk =
                let this = all_at (page_range.inner (sym kind_read ∙ inner)) i no_place (rw same at inside) in
                record { level = (let h = level_2 in omega arith); inside = rw same this.child; flags = walking.flags }

            module _ (r : Bool) (after : List Bool) (child : Walked (store_of w).pages (l - 1) (child_of (get_or places i no_place)) now r after) where
              pub child_good : r ≡ true → Walking (store_of w).pages (l - 1) places one (length places) (i + 1) after
              child_good f = child_passes _ _ _ one (length places) i now walking refl r after child inside (ap not f)

              pub child_bad : r ≡ false → Walked (store_of w).pages l p fs false after
              child_bad f =
                  record {
                    told = child_fails _ _ _ one (length places) i now walking refl r after child inside (ap not f) ∙ sym inner_so;
                    marked = λ f. absurd (false≢true f);
                    flags = child.flags;
                  }
