-- The pass over the entries: one more entry, and what is gathered then.
use Rattle.std.proofs.Common.{◌≡◌, ℕ, zero, suc, ◌+◌, ◌≤◌, ◌<◌, Bool, true, false, cond, Option, None, Some, List, [], ◌∷◌, ◌++◌, eqb, length, get_or, take, set, map, refl, sym, ◌∙◌, ap, arith, add-one, append_assoc, not-suc-le-zero, le_of_suc-le-suc, inl, inr, true≢false, eqb-true, eq-eqb, ne_eqb}
use Rattle.std.proofs.Math.ListN.{length-append, length-set, length-map, get_or-eq_default}
use Rattle.std.proofs.Math.Seq.{take-suc, take_all, length-take-le, get_or-set_same, get_or-set_other}
use Rattle.std.proofs.lemmas.Bool.{eqb-false, cases_lt}
use Rattle.std.proofs.lemmas.List.Folds.{list_all-append}
use mathlib.Core.List.{flat_map, map-append, append-nil}
use Rattle.rules.specs.declared.Train.{Train}
use Rattle.rules.specs.declared.Stamp.{Stamp}
use Rattle.rules.specs.declared.Slot.{Slot}
use Rattle.rules.specs.declared.LookUp.{LookUp}
use Rattle.rules.specs.declared.LookUp.TheVariants.{Absent, Found}
use Rattle.rules.specs.Lists.{every, count, one_if, keep}
use Rattle.rules.specs.Store.{Page, Store, free_page, no_place}
use Rattle.rules.specs.Live.{held_in, held_count}
use Rattle.rules.specs.Memo.{look_up}
use Rattle.rules.specs.laws.All.{flat_append, all_at, all_unmapped, every_all}
use Rattle.rules.specs.laws.Kept.{keep_append}
use Rattle.rules.specs.laws.Memo.{Says, look_up-says}
use Rattle.theorems.specs.Leaves.{MarkedEntry, with_mark, marked, marked-entries, leaf_entries-count, all_leaves}
use Rattle.entries.specs.declared.Noted.{Noted}
use Rattle.entries.specs.Decided.{both_ways}
use Rattle.entries.specs.Passes.{most, entry_fine, old_place, counter_of, is_at, counters, counted}
use Rattle.entries.specs.State.{Gathered, OneMore, Room, Counts, one_up}

-- ---- one entry
-- its counter is at the place of a slot
place_inside : (t : Train) (ms : List Slot) (l : LookUp) (st : Stamp) (i : ℕ) → Says t ms l → old_place l st ≡ Some i → i < length ms
unfolding old_place
place_inside t ms Absent st i a e = absurd (cc)
place_inside t ms (Found place latest old) st i a e = go (eqb st.0 latest.0) e
  where
    go : (b : Bool) → cond b None (Some place) ≡ Some i → i < length ms
    go true q = absurd (cc)
    go false q = let same : place ≡ i = cc in omega (arith, a.0)

pub counter_there : (t : Train) (ms : List Slot) (l : LookUp) (st : Stamp) (at : Option ℕ) (noted : Noted) → Room noted → length ms ≤ counters
    → l ≡ look_up t ms → at ≡ old_place l st → Counts noted.counts at
counter_there t ms l st None noted r h found place = tt
counter_there t ms l st (Some i) noted r h found place =
    let inside = place_inside t ms l st i (rw (← found) at (look_up-says t ms)) (sym place) in
    (omega (arith, r.counts_long), r.counts_small i)

-- ---- what is gathered then
count_snoc : {A : Type 0} (f : A → Bool) (xs : List A) (x : A) → count f (xs ++ (x ∷ [])) ≡ count f xs + one_if (f x)
unfolding count
count_snoc f [] x = omega arith
count_snoc f (y ∷ xs) x = omega (arith, count_snoc f xs x)

count_most : {A : Type 0} (f : A → Bool) (xs : List A) → count f xs ≤ length xs
unfolding count
count_most f [] = omega arith
count_most f (x ∷ xs) = go (f x) (count_most f xs)
  where
    go : (b : Bool) → count f xs ≤ length xs → one_if b + count f xs ≤ suc (length xs)
    go true h = omega arith
    go false h = omega arith

-- a counter one up, and the others as they were
one_up-at : (counts : List ℕ) (at : Option ℕ) (i n : ℕ) → i < length counts → get_or counts i 0 ≡ n → get_or (one_up counts at) i 0 ≡ n + one_if (is_at at i)
one_up-at counts None i n h e = omega arith
one_up-at counts (Some at) i n h e = go (eqb at i) refl
  where
    go : (b : Bool) → eqb at i ≡ b → get_or (set counts at (get_or counts at 0 + 1)) i 0 ≡ n + one_if b
    go true q = rw (eqb-true at i q) (get_or-set_same counts i (get_or counts i 0 + 1) 0 h ∙ ap (λ m. m + 1) e)
    go false q = get_or-set_other counts at i (get_or counts at 0 + 1) 0 (λ d. eqb-false at i q (sym d)) ∙ omega arith

one_up-length : (counts : List ℕ) (at : Option ℕ) → length (one_up counts at) ≡ length counts
one_up-length counts None = refl
one_up-length counts (Some at) = length-set counts at _

module _ {s : Store} {ks : List MarkedEntry} {noted : Noted} (G : Gathered s ks noted) where
  counts_most : (i : ℕ) → get_or noted.counts i 0 ≤ length ks
  unfolding counted
  counts_most i =
      elim (cases_lt i counters) [
        | inl h ↦ rw (G.counts_so_far i h) (count_most _ ks)
        | inr h ↦ rw (get_or-eq_default noted.counts 0 {n = i} (omega (arith, G.counts_long))) (omega arith)
      ]

  pub room_here : length ks < most → Room noted
  room_here h =
      record {
        stamps_room = rw (G.stamps_so_far, length-map) h;
        keys_room = rw (G.keys_so_far, length-map) h;
        counts_long = G.counts_long;
        counts_small = λ i. omega (arith, counts_most i);
      }

  pub gathered_more : {k : MarkedEntry} {new : Noted} → OneMore s.next s.memo k noted true new → Gathered s (ks ++ (k ∷ [])) new
  unfolding counted
  gathered_more {k} o =
      record {
        fine = list_all-append (entry_fine s.next s.memo) ks (k ∷ []) ∙ rw (G.fine, ← o.sound) refl;
        stamps_so_far = rw (o.stamps_more, G.stamps_so_far, map-append) refl;
        keys_so_far = rw (o.keys_more, G.keys_so_far, map-append) refl;
        counts_long = ap length o.counts_set ∙ one_up-length noted.counts (counter_of s.memo k) ∙ G.counts_long;
        counts_so_far = λ i l.
            ap (λ c. get_or c i 0) o.counts_set
            ∙ one_up-at noted.counts (counter_of s.memo k) i _ (omega (arith, G.counts_long)) (G.counts_so_far i l)
            ∙ sym (count_snoc (λ k. is_at (counter_of s.memo k) i) ks k);
      }

-- ---- page by page
-- the entries before page i, and of that page those before place j
abbrev pub passed : List Page → ℕ → ℕ → List MarkedEntry
passed ps i j = marked (take i ps) ++ map (with_mark (get_or ps i free_page).mark) (take j (get_or ps i free_page).places)

pub marked-length : (ps : List Page) → length (marked ps) ≡ held_count ps
marked-length ps = sym (length-map (marked ps) (λ k. k.entry)) ∙ ap length (marked-entries ps) ∙ leaf_entries-count ps

held-before : (ps : List Page) (i : ℕ) → i < length ps → held_count (take i ps) + held_in (get_or ps i free_page) ≤ held_count ps
unfolding held_count
held-before [] i h = absurd (not-suc-le-zero h)
held-before (g ∷ ps) zero h = omega arith
held-before (g ∷ ps) (suc i) h = omega (arith, held-before ps i (le_of_suc-le-suc h))

module _ (ps : List Page) (i : ℕ) (inside : i < length ps) where
  -- one page more
  marked_more : marked (take (suc i) ps) ≡ marked (take i ps) ++ marked (get_or ps i free_page ∷ [])
  unfolding marked
  marked_more = rw (take-suc ps i free_page inside, keep_append, flat_append)

  pub passed_other : ((get_or ps i free_page).kind ≡ 1 → ⊥) → marked (take i ps) ≡ marked (take (i + 1) ps)
  unfolding marked keep flat_map
  passed_other d = rw (add-one i, marked_more, ne_eqb (get_or ps i free_page).kind 1 d, append-nil)

  module _ (leaf : (get_or ps i free_page).kind ≡ 1) where
    pub passed_all : (j : ℕ) → length (get_or ps i free_page).places ≤ j → passed ps i j ≡ marked (take (i + 1) ps)
    unfolding marked keep flat_map
    passed_all j h = rw (add-one i, marked_more, eq-eqb (get_or ps i free_page).kind 1 leaf, append-nil, take_all j (get_or ps i free_page).places h)

    pub passed_few : (j : ℕ) → j < length (get_or ps i free_page).places → length (passed ps i j) < held_count ps
    unfolding held_in
    passed_few j h =
        let m = marked-length (take i ps) in
        let b = rw (eq-eqb (get_or ps i free_page).kind 1 leaf) at (held-before ps i inside) in
        rw (length-append, length-map, length-take-le j (get_or ps i free_page).places (omega arith)) (omega arith)

    -- an entry that fails there fails among all
    pub one_fails : (f : MarkedEntry → Bool) (j : ℕ) → j < length (get_or ps i free_page).places
        → f (with_mark (get_or ps i free_page).mark (get_or (get_or ps i free_page).places j no_place)) ≡ false → every f (marked ps) ≡ false
    unfolding marked
    one_fails f j h e =
        sym (both_ways false (every f (marked ps)) (λ q. absurd (true≢false (sym q)))
        (λ q. sym e ∙ all_at (all_unmapped _ (get_or ps i free_page).places (all_at (all_leaves _ ps (every_all f (marked ps) q)) i free_page inside leaf)) j no_place h))

  pub passed_more : (j : ℕ) → j < length (get_or ps i free_page).places
      → passed ps i (j + 1) ≡ passed ps i j ++ (with_mark (get_or ps i free_page).mark (get_or (get_or ps i free_page).places j no_place) ∷ [])
  passed_more j h = rw (add-one j, take-suc (get_or ps i free_page).places j no_place h, map-append, append_assoc)
