-- Laws of walks: one page, its places in turn, and all of them.
use Prim.Native.Nat.{ℕ, zero, suc, ◌+◌, ◌-◌, ◌≤◌, ◌<◌}
use native.Mathlib.Omega.{arith}
use Rattle.std.proofs.Common.{add-one, ◌∙◌, drop_of_length-le, drop-cons}
use Rattle.std.specs.Prelude.{◌≡◌, refl, Bool, true, false, not, ◌&&◌, eqb, length, get_or, set, drop}
use Rattle.std.proofs.Math.Path.{sym}
use Rattle.std.proofs.Math.Bool.{and-true, and-false, and_assoc}
use mathlib.Core.List.{List, [], ◌∷◌, ◌++◌, flat_map}
use borrow.Author.Tests.{eq-eqb, ne_eqb, not-true, not-false}
use Rattle.rules.specs.declared.PageNo.{PageNo}
use Rattle.rules.specs.declared.Entry.{Entry}
use Rattle.rules.specs.Lists.{every}
use Rattle.rules.specs.Store.{Page as Contents, child_of, no_place, page_at}
use Rattle.rules.specs.Cleaning.{reached_under}
use Rattle.rules.specs.Sound.{levelled}
use Rattle.tidy.specs.Passes.{regrouped}
use Rattle.walk.specs.Walk.{flagged, all_new, walks, reached_all, walks_all, Walked, Walking}

-- ---- flags
pub new_append : (a b : List PageNo) (fs : List Bool) → all_new (a ++ b) fs ≡ (all_new a fs && all_new b (flagged a fs))
unfolding all_new flagged
new_append [] b fs = refl
new_append (p ∷ a) b fs = rw (new_append a b (set fs p.0 true), and_assoc)

pub flagged_append : (a b : List PageNo) (fs : List Bool) → flagged (a ++ b) fs ≡ flagged b (flagged a fs)
unfolding flagged
flagged_append [] b fs = refl
flagged_append (p ∷ a) b fs = flagged_append a b (set fs p.0 true)

-- ---- one page
module _ (ps : List Contents) (p : PageNo) (fs : List Bool) where
  pub seen_before : (l : ℕ) → 1 ≤ l → get_or fs p.0 false ≡ true → false ≡ walks ps l p fs
  unfolding walks reached_under all_new
  seen_before zero h e = absurd (omega arith)
  seen_before (suc zero) h e = rw (e, and-false)
  seen_before (suc (suc l)) h e = rw (e, and-false)

  pub leaf_walks : get_or fs p.0 false ≡ false → eqb (page_at ps p).kind 1 ≡ walks ps 1 p fs
  unfolding walks levelled reached_under all_new
  leaf_walks e = rw (e, and-true)

  pub other_walks : (l : ℕ) → 2 ≤ l → ((page_at ps p).kind ≡ 2 → ⊥) → false ≡ walks ps l p fs
  unfolding walks levelled
  other_walks zero h e = absurd (omega arith)
  other_walks (suc zero) h e = absurd (omega arith)
  other_walks (suc (suc l)) h e = rw (ne_eqb (page_at ps p).kind 2 e)

  -- an inner page: what is left is the walk under its places
  pub inner_walks : (l : ℕ) → 2 ≤ l → get_or fs p.0 false ≡ false → (page_at ps p).kind ≡ 2 → walks ps l p fs ≡ walks_all ps (l - 1) (page_at ps p).places (set fs p.0 true)
  unfolding walks levelled reached_under all_new walks_all reached_all
  inner_walks zero h e k = absurd (omega arith)
  inner_walks (suc zero) h e k = absurd (omega arith)
  inner_walks (suc (suc l)) h e k =
      let n : suc (suc l) - 1 ≡ suc l = omega arith in
      rw (n, e, eq-eqb (page_at ps p).kind 2 k)

  pub inner_flags : (l : ℕ) → 2 ≤ l → flagged (reached_under ps l p) fs ≡ flagged (reached_all ps (l - 1) (page_at ps p).places) (set fs p.0 true)
  unfolding reached_under flagged reached_all
  inner_flags zero h = absurd (omega arith)
  inner_flags (suc zero) h = absurd (omega arith)
  inner_flags (suc (suc l)) h = let n : suc (suc l) - 1 ≡ suc l = omega arith in rw n

-- ---- several places
module _ (ps : List Contents) (l : ℕ) (e : Entry) (es : List Entry) (fs : List Bool) where
  walks_more : walks_all ps l (e ∷ es) fs ≡ (walks ps l (child_of e) fs && walks_all ps l es (flagged (reached_under ps l (child_of e)) fs))
  unfolding walks_all walks reached_all flat_map
  walks_more =
      rw (new_append (reached_under ps l (child_of e)) (flat_map (λ e. reached_under ps l (child_of e)) es) fs)
      (regrouped (levelled ps l (child_of e)) (every (λ e. levelled ps l (child_of e)) es) _ _)

  flags_more : flagged (reached_all ps l (e ∷ es)) fs ≡ flagged (reached_all ps l es) (flagged (reached_under ps l (child_of e)) fs)
  unfolding reached_all flat_map
  flags_more = flagged_append (reached_under ps l (child_of e)) (flat_map (λ e. reached_under ps l (child_of e)) es) fs

module _ (ps : List Contents) (l : ℕ) (es : List Entry) (before : List Bool) (n i : ℕ) (fs : List Bool) (w : Walking ps l es before n i fs) (many : n ≡ length es) where
  split : i < n → drop i es ≡ get_or es i no_place ∷ drop (i + 1) es
  split h = drop-cons es i no_place (omega arith) ∙ rw (add-one i)

  module _ (r : Bool) (after : List Bool) (child : Walked ps l (child_of (get_or es i no_place)) fs r after) where
    pub child_passes : i < n → not r ≡ false → Walking ps l es before n (i + 1) after
    child_passes h e =
        let t = not-false r e in
        let m = child.marked t in
        record {
          few = omega arith;
          so_far = w.so_far ∙ rw (split h, walks_more ps l (get_or es i no_place) (drop (i + 1) es) fs, ← child.told, t, m);
          marks = w.marks ∙ rw (split h, flags_more ps l (get_or es i no_place) (drop (i + 1) es) fs, m);
          flags = child.flags;
        }

    pub child_fails : i < n → not r ≡ true → false ≡ walks_all ps l es before
    child_fails h e = sym (w.so_far ∙ rw (split h, walks_more ps l (get_or es i no_place) (drop (i + 1) es) fs, ← child.told, not-true r e))

  none_left : n ≤ i → drop i es ≡ []
  none_left h = drop_of_length-le es {i = i} (omega arith)

  pub all_walked : n ≤ i → true ≡ walks_all ps l es before
  unfolding walks_all reached_all flat_map all_new
  all_walked h = sym (w.so_far ∙ rw (none_left h))

  pub all_flagged : n ≤ i → fs ≡ flagged (reached_all ps l es) before
  unfolding reached_all flat_map flagged
  all_flagged h = sym (w.marks ∙ rw (none_left h))
