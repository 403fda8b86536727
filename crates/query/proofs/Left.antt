-- What a descent has still to write: the keys from a place of a page on, written from here on, give what all of them give from the start.
use Rattle.std.proofs.Common.{◌≡◌, ℕ, zero, suc, ◌+◌, ◌-◌, ◌≤◌, Bool, true, false, List, [], ◌∷◌, ◌++◌, length, set, drop, refl, sym, ◌∙◌, ap, arith, add-one, add-zero}
use Rattle.std.proofs.Math.ListN.{drop_of_length-le, length-append}
use Rattle.std.proofs.Math.Seq.{sets}
use mathlib.Core.List.{flat_map}
use Rattle.rules.specs.declared.PageNo.{PageNo}
use Rattle.rules.specs.declared.Window.{Window}
use Rattle.rules.specs.declared.Entry.{Entry}
use Rattle.rules.specs.Lists.{put_if}
use Rattle.rules.specs.Boxes.{meets}
use Rattle.rules.specs.Store.{child_of, page_at, store_of}
use Rattle.query.specs.Keys.{key_of, hit, leaf_keys, keys_at, keys_below, keys_under, Written}

module _ (v : List ℕ) (w : Window) where
  -- ---- the keys of a place, in place i of a page at a level
  abbrev hit_key : PageNo → ℕ → Entry → List ℕ
  hit_key at i e = put_if (hit (store_of v).memo w e) (key_of at i e) []

  abbrev under : ℕ → Entry → List ℕ
  under l e = keys_below (store_of v).pages (store_of v).memo w l e

  place_keys : ℕ → PageNo → ℕ → Entry → List ℕ
  place_keys zero at i e = []
  place_keys (suc zero) at i e = hit_key at i e
  place_keys (suc (suc l)) at i e = under (suc l) e

  inner_place : (level : ℕ) (at : PageNo) (i : ℕ) (e : Entry) → 1 ≤ level → (level ≡ 1 → ⊥) → place_keys level at i e ≡ under (level - 1) e
  unfolding place_keys
  inner_place zero at i e o k = absurd (omega arith)
  inner_place (suc zero) at i e o k = absurd (k refl)
  inner_place (suc (suc l)) at i e o k = let down : suc l ≡ suc (suc l) - 1 = omega arith in ap (λ l. under l e) down

  -- ---- and of the places from i on
  pub places_keys : ℕ → PageNo → ℕ → List Entry → List ℕ
  places_keys level at i [] = []
  places_keys level at i (e ∷ es) = place_keys level at i e ++ places_keys level at (i + 1) es

  put_front : (b : Bool) (x : ℕ) (xs : List ℕ) → put_if b x xs ≡ put_if b x [] ++ xs
  put_front true x xs = refl
  put_front false x xs = refl

  leaf_all : (at : PageNo) (i : ℕ) (es : List Entry) → leaf_keys (store_of v).memo w at i es ≡ places_keys 1 at i es
  unfolding leaf_keys places_keys place_keys
  leaf_all at i [] = refl
  leaf_all at i (e ∷ es) =
      put_front (hit (store_of v).memo w e) (key_of at i e) _ ∙ rw (← add-one i, leaf_all at (i + 1) es)

  inner_all : (l : ℕ) (at : PageNo) (i : ℕ) (es : List Entry) → flat_map (under (suc l)) es ≡ places_keys (suc (suc l)) at i es
  unfolding flat_map places_keys place_keys
  inner_all l at i [] = refl
  inner_all l at i (e ∷ es) = rw (inner_all l at (i + 1) es)

  -- all keys under a page
  all_keys : (level : ℕ) (at : PageNo) → 1 ≤ level → places_keys level at 0 (page_at (store_of v).pages at).places ≡ keys_at v w level at
  unfolding keys_under
  all_keys zero at o = absurd (omega arith)
  all_keys (suc zero) at o = sym (leaf_all at 0 _)
  all_keys (suc (suc l)) at o = sym (inner_all l at 0 _)

  -- ---- those from place i on, written from m on, give the same as those of all places, written from n on
  module _ (level : ℕ) (at : PageNo) (es : List Entry) where
    abbrev keys_from : ℕ → List ℕ
    keys_from i = places_keys level at i (drop i es)

    pub record Left (keys : List ℕ) (n i : ℕ) (keys' : List ℕ) (m : ℕ) : Type 0 where
      pub counted : m + length (keys_from i) ≡ n + length (keys_from 0)
      pub wrote : sets keys' m (keys_from i) ≡ sets keys n (keys_from 0)

  sets_append : (l : List ℕ) (i : ℕ) (a b : List ℕ) → sets l i (a ++ b) ≡ sets (sets l i a) (i + length a) b
  sets_append l i [] b = rw (add-zero i)
  sets_append l i (x ∷ a) b = let e : suc i + length a ≡ i + suc (length a) = omega arith in sets_append (set l i x) (suc i) a b ∙ rw e

  pub none_written : (level : ℕ) (at : PageNo) (es : List Entry) (keys : List ℕ) (n : ℕ) → Left level at es keys n 0 keys n
  none_written level at es keys n = record { counted = refl; wrote = refl }

  module _ {level : ℕ} {at : PageNo} {es : List Entry} {keys : List ℕ} {n i : ℕ} {keys' : List ℕ} {m : ℕ} (least : 1 ≤ level) (left : Left level at es keys n i keys' m) where
    -- ---- a place more
    module _ {e : Entry} (next : drop i es ≡ e ∷ drop (i + 1) es) where
      from_place : keys_from level at es i ≡ place_keys level at i e ++ keys_from level at es (i + 1)
      unfolding places_keys
      from_place = ap (places_keys level at i) next

      place_written : {keys'' : List ℕ} {r : ℕ} → Written keys' m (place_keys level at i e) r keys'' → Left level at es keys n (i + 1) keys'' r
      place_written {keys''} {r} t =
          record {
            counted = omega (arith, left.counted, ap length from_place, length-append (place_keys level at i e) (keys_from level at es (i + 1)), t.counted);
            wrote = rw (t.wrote, t.counted, ← sets_append keys' m (place_keys level at i e) (keys_from level at es (i + 1)), ← from_place) left.wrote;
          }

      -- of a leaf
      pub hit_written : {keys'' : List ℕ} {r : ℕ} → level ≡ 1 → Written keys' m (hit_key at i e) r keys'' → Left level at es keys n (i + 1) keys'' r
      unfolding place_keys
      hit_written one t = place_written (rw one t)

      -- of an inner page
      module _ (inner : level ≡ 1 → ⊥) where
        pub under_written : {keys'' : List ℕ} {r : ℕ} → meets e.bounds w ≡ true → Written keys' m (keys_at v w (level - 1) (child_of e)) r keys'' → Left level at es keys n (i + 1) keys'' r
        under_written t u = place_written (rw (inner_place level at i e least inner, t) u)

        pub none_under : meets e.bounds w ≡ false → Left level at es keys n (i + 1) keys' m
        none_under f = place_written (rw (inner_place level at i e least inner, f) (record { counted = omega arith; wrote = refl }))

    -- ---- in terms of all keys under the page
    module _ (same : es ≡ (page_at (store_of v).pages at).places) where
      all : places_keys level at 0 es ≡ keys_at v w level at
      all = ap (places_keys level at 0) same ∙ all_keys level at least

      pub all_written : length es ≤ i → Written keys n (keys_at v w level at) m keys'
      unfolding places_keys
      all_written h =
          let none : keys_from level at es i ≡ [] = ap (places_keys level at i) (drop_of_length-le es h) in
          record { counted = omega (arith, left.counted, ap length none, ap length all); wrote = rw none at left.wrote ∙ rw all }

      module _ (room : n + length (keys_at v w level at) ≤ 576) where
        pub hit_room : m ≤ 576
        hit_room = omega (arith, left.counted, ap length all)

        pub under_room : {e : Entry} → drop i es ≡ e ∷ drop (i + 1) es → (level ≡ 1 → ⊥) → meets e.bounds w ≡ true
            → m + length (keys_at v w (level - 1) (child_of e)) ≤ 576
        under_room {e} next inner t =
            let here : place_keys level at i e ≡ keys_at v w (level - 1) (child_of e) = rw (inner_place level at i e least inner, t) in
            omega (arith, left.counted, ap length all, ap length (from_place next), ap length here, length-append (place_keys level at i e) (keys_from level at es (i + 1)))
