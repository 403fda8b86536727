-- The keys that a descent finds name, in turn, the held entries that a query lists.
use Prim.Native.Nat.{ℕ, zero, suc, ◌-◌, ◌/◌, ◌≤◌, ◌<◌}
use Rattle.std.proofs.Math.Nat.{add-zero}
use Rattle.std.proofs.Common.{arith, ◌∙◌, length-drop, get_or-drop}
use Rattle.std.specs.Prelude.{◌≡◌, Bool, drop}
use Rattle.std.proofs.Math.Path.{refl, sym, ap, ap₂}
use Rattle.std.proofs.Math.Bool.{true, false}
use mathlib.Core.List.{List, [], ◌∷◌, map}
use Rattle.std.proofs.Math.ListN.{length, get_or}
use Rattle.rules.specs.declared.PageNo.{PageNo}
use Rattle.rules.specs.declared.Window.{Window}
use Rattle.rules.specs.declared.Entry.{Entry}
use Rattle.rules.specs.declared.Slot.{Slot}
use Rattle.rules.specs.Lists.{keep, put_if}
use Rattle.rules.specs.Boxes.{meets}
use Rattle.rules.specs.Store.{Page, no_place, child_of, page_at}
use Rattle.rules.specs.Live.{row_for, held_under}
use Rattle.rules.specs.Views.{Levelled}
use Rattle.rules.specs.laws.Tests.{either}
use Rattle.rules.specs.laws.All.{All, none, all_zip, flat_all, always}
use Rattle.query.specs.Keys.{train_unit, key_of, entry_named, row_of_key, hit, leaf_keys, keys_under}
use Rattle.query.specs.Descent.{next_drop, all_put, gathered, numbers_back, ByTrain, page_holds, page_inside, Searched, none_hit}

module _ (ps : List Page) (good : Searched ps) where
  -- what is read from the key of the first of the places from i on
  key_read : (p : PageNo) (i : ℕ) (e : Entry) (es : List Entry) → drop i (page_at ps p).places ≡ e ∷ es
      → (row_of_key ps (key_of p i e) ≡ row_for e) × (key_of p i e / train_unit ≡ e.key)
  unfolding row_of_key entry_named key_of
  key_read p i e es d =
      let n : length (page_at ps p).places - i ≡ suc (length es) = sym (length-drop i _) ∙ ap length d in
      let h : p.0 < length ps = page_inside ps p i (omega arith) in
      let f : length (page_at ps p).places ≤ 8 = page_holds good.fit (omega arith) p in
      let k = numbers_back e.key p.0 i (omega arith) (omega arith) in
      let at : get_or (page_at ps p).places i no_place ≡ e = rw (get_or-drop i (page_at ps p).places 0 no_place, add-zero i) at (ap (λ l. get_or l 0 no_place) d) in
      (rw (k.0, k.1, at), k.2)

  module _ (memo : List Slot) (w : Window) where
    -- ---- the rows of the keys, in turn, are those of the listed entries
    leaf_rows : (p : PageNo) (i : ℕ) (es : List Entry) → drop i (page_at ps p).places ≡ es
        → map (row_of_key ps) (leaf_keys memo w p i es) ≡ map row_for (keep (hit memo w) es)
    unfolding leaf_keys keep
    leaf_rows p i [] d = refl
    leaf_rows p i (e ∷ es) d = go (hit memo w e) (leaf_rows p (suc i) es (next_drop i (page_at ps p).places d))
      where
        go : (b : Bool) → map (row_of_key ps) (leaf_keys memo w p (suc i) es) ≡ map row_for (keep (hit memo w) es)
            → map (row_of_key ps) (put_if b (key_of p i e) (leaf_keys memo w p (suc i) es)) ≡ map row_for (put_if b e (keep (hit memo w) es))
        go true ih = ap₂ (λ u v. u ∷ v) (key_read p i e es d).0 ih
        go false ih = ih

    pub rows_under : (l : ℕ) (p : PageNo) → Levelled ps l p
        → map (row_of_key ps) (keys_under ps memo w l p) ≡ map row_for (keep (hit memo w) (held_under ps l p))
    unfolding keys_under held_under keep
    rows_under zero p h = refl
    rows_under (suc zero) p h = leaf_rows p 0 (page_at ps p).places refl
    rows_under (suc (suc l)) p h =
        gathered _ _ _ _ _
        (all_zip h.1 (page_holds good.smallest (λ k. none) p h.0) λ e k b.
        either (λ ks. map (row_of_key ps) ks ≡ map row_for (keep (hit memo w) (held_under ps (suc l) (child_of e)))) (meets e.bounds w)
        (λ t. rows_under (suc l) (child_of e) k)
        (λ f. ap (map row_for) (sym (none_hit ps good memo w (suc l) (child_of e) k (rw b at f)))))

    -- ---- each begins with the train of its row
    leaf_trains : (p : PageNo) (i : ℕ) (es : List Entry) → drop i (page_at ps p).places ≡ es
        → All (ByTrain (row_of_key ps)) (leaf_keys memo w p i es)
    unfolding leaf_keys
    leaf_trains p i [] d = none
    leaf_trains p i (e ∷ es) d =
        let k = key_read p i e es d in
        all_put (hit memo w e) _ (k.1 ∙ sym (ap (λ r. r.train.0) k.0)) (leaf_trains p (suc i) es (next_drop i (page_at ps p).places d))

    pub trains_under : (l : ℕ) (p : PageNo) → All (ByTrain (row_of_key ps)) (keys_under ps memo w l p)
    unfolding keys_under
    trains_under zero p = none
    trains_under (suc zero) p = leaf_trains p 0 (page_at ps p).places refl
    trains_under (suc (suc l)) p =
        flat_all _
        (always
        (λ e. either (All (ByTrain (row_of_key ps))) (meets e.bounds w) (λ t. trains_under (suc l) (child_of e)) (λ f. none))
        (page_at ps p).places)
