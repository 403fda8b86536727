-- The passes decide: what they test is true exactly if held entries are in range and rules 4 to 7 hold.
use Rattle.std.specs.Prelude.{ℕ, ◌*◌, ◌≡◌, refl, Bool, true, false, not, List, [], ◌∷◌, map, leb}
use Rattle.std.proofs.Common.{arith, sym, ◌∙◌}
use Rattle.std.proofs.Math.Path.{ap, fun_ext}
use Rattle.std.proofs.Math.ListN.{length}
use borrow.Author.Tests.{leb-true, ltb-true, eqb-true, eq-eqb, le-leb, lt-ltb, not-true}
use Rattle.rules.specs.declared.Stamp.{Stamp}
use Rattle.rules.specs.declared.Slot.{Slot}
use Rattle.rules.specs.declared.Entry.{Entry}
use Rattle.rules.specs.Lists.{every, count, keep}
use Rattle.rules.specs.Store.{Page, Store, train_of}
use Rattle.rules.specs.Memo.{look_up, latest_by, is_latest, is_obsolete}
use Rattle.rules.specs.Live.{held, held_count}
use Rattle.rules.specs.Sound.{not_above, obsolete_of, rule6}
use Rattle.rules.specs.Views.{EntryInRange, Given, NotAbove, proper_box-holds, proper_box_test, entry_in_range-holds, entry_in_range_test, not_above-holds, not_above_test, rule4-holds, rule4_test, rule5-holds, rule5_test, rule7-holds, rule7_test}
use Rattle.rules.specs.laws.Tests.{and_left, and_right, and_both, or_else, else_or, equal_then, then_equal, each, each_all_of, ◌also◌}
use Rattle.rules.specs.laws.All.{All, none, more, all_map, all_zip, all_mapped, all_unmapped, every_holds, every_test, head_of}
use Rattle.rules.specs.laws.Lists.{Distinct, distinct-holds, distinct_test}
use Rattle.rules.specs.laws.Order.{◌~◌, back, all_reordered, map_reordered, distinct_reordered, keep_reordered, count_reordered}
use Rattle.theorems.specs.TreeSound.{TreeSound}
use Rattle.theorems.specs.Leaves.{MarkedEntry, marked, leaf_marks, leaves_all, all_leaves}
use Rattle.theorems.specs.HeldLeaves.{held-counted, held-marked}
use Rattle.theorems.specs.Marks.{MarkGiven, ObsoleteBelow, leaves-marked, marked-leaves}
use Rattle.entries.specs.Passes.{mark_fine, held_fine, noted_fine, entry_fine, slot_fine, obsolete_in, stamp_of, key_of, noted_test, entries_test, entries_rules}
use Rattle.entries.specs.Given.{TreeGiven, given_tree}
use Rattle.entries.specs.Keys.{key_if, key_is, keys_then, then_keys}

-- ---- each test as facts
record MarkFine (next : Stamp) (g : Page) : Type 0 where
  leaf : g.kind ≡ 1 → MarkGiven next g.mark
  inner : g.kind ≡ 2 → g.mark.0 ≡ 0

mark_fine-holds : (next : Stamp) (g : Page) → mark_fine next g ≡ true → MarkFine next g
unfolding mark_fine
mark_fine-holds next g e =
    let t = each _ e in
    record {
      leaf = λ k. let h = equal_then _ t.0 k in record { least = leb-true _ _ (and_left _ _ h); most = leb-true _ _ (and_right (leb 1 g.mark.0) _ h) };
      inner = λ k. eqb-true _ _ (equal_then _ t.1.0 k);
    }

mark_fine_test : (next : Stamp) (g : Page) → MarkFine next g → mark_fine next g ≡ true
unfolding mark_fine
mark_fine_test next g m =
    each_all_of _
    (then_equal _ _ (λ k. and_both (le-leb _ _ (m.leaf k).least) (le-leb _ _ (m.leaf k).most))
    also then_equal _ _ (λ k. eq-eqb _ _ (m.inner k))
    also tt)

record EntryFine (next : Stamp) (memo : List Slot) (k : MarkedEntry) : Type 0 where
  in_range : EntryInRange k.entry
  given : Given next k.entry.stamp
  not_over : NotAbove (look_up (train_of k.entry) memo) k.entry.stamp
  obsolete : ObsoleteBelow memo k

entry_fine-holds : (next : Stamp) (memo : List Slot) (k : MarkedEntry) → entry_fine next memo k ≡ true → EntryFine next memo k
unfolding entry_fine held_fine noted_fine is_obsolete is_latest
entry_fine-holds next memo k e =
    let st = k.entry.stamp in
    let l = look_up (train_of k.entry) memo in
    let h = each _ (and_left (held_fine next k.entry) _ e) in
    let n = and_right (held_fine next k.entry) _ e in
    record {
      in_range = record { proper = proper_box-holds _ h.0; a_train = leb-true _ _ h.1.0 };
      given = record { least = leb-true _ _ h.1.1.0; below = ltb-true _ _ h.1.1.1.0 };
      not_over = not_above-holds _ _ (and_left (not_above l st) _ n);
      obsolete = λ o. not_above-holds _ _ (or_else (latest_by l st) _ (not-true _ o) (and_right (not_above l st) _ n));
    }

entry_fine_test : (next : Stamp) (memo : List Slot) (k : MarkedEntry) → EntryFine next memo k → entry_fine next memo k ≡ true
unfolding entry_fine held_fine noted_fine is_obsolete is_latest
entry_fine_test next memo k h =
    let st = k.entry.stamp in
    let l = look_up (train_of k.entry) memo in
    and_both
    (each_all_of _
    (proper_box_test _ h.in_range.proper
    also le-leb _ _ h.in_range.a_train
    also le-leb _ _ h.given.least
    also lt-ltb _ _ h.given.below
    also tt))
    (and_both (not_above_test _ _ h.not_over) (else_or (latest_by l st) _ λ f. not_above_test _ _ (h.obsolete (ap not f))))

-- ---- what is gathered with marks, said of the entries alone
maps_once : {A B C : Type 0} (f : B → C) (g : A → B) (h : A → C) → ((x : A) → h x ≡ f (g x)) → (xs : List A) → map h xs ≡ map f (map g xs)
maps_once f g h e [] = refl
maps_once f g h e (x ∷ xs) = rw (e x, maps_once f g h e xs)

count_once : {A B : Type 0} (f : B → Bool) (g : A → B) (xs : List A) → count (λ x. f (g x)) xs ≡ count f (map g xs)
unfolding count
count_once f g [] = refl
count_once f g (x ∷ xs) = rw (count_once f g xs)

-- two tests that pass together are one
pub both_ways : (a b : Bool) → (a ≡ true → b ≡ true) → (b ≡ true → a ≡ true) → a ≡ b
both_ways true b h k = sym (h refl)
both_ways false true h k = k refl
both_ways false false h k = refl

module _ (s : Store) (T : TreeGiven s) where
  es : List Entry
  es = map (λ k. k.entry) (marked s.pages)

  stamps_are : map stamp_of (marked s.pages) ≡ map (λ e. e.stamp.0) es
  unfolding es
  stamps_are = maps_once _ _ _ (λ k. refl) (marked s.pages)

  keys_are : map (key_of s.memo) (marked s.pages) ≡ map (λ e. key_if (is_latest s.memo e) (train_of e).0 e.stamp.0) es
  unfolding es
  keys_are = maps_once _ _ _ (key_is s.memo) (marked s.pages)

  -- given a sound tree, the entries are those held
  module _ (R : TreeSound s) where
    moved : es ~ held s
    unfolding es
    moved = held-marked s R

    all_held : {Q : Entry → Type 0} → All (λ k. Q k.entry) (marked s.pages) → All Q (held s)
    unfolding es
    all_held a = all_reordered moved (all_mapped _ a)

    held_all : {Q : Entry → Type 0} → All Q (held s) → All (λ k. Q k.entry) (marked s.pages)
    unfolding es
    held_all a = all_unmapped _ (marked s.pages) (all_reordered (back moved) a)

    counts_are : (m : Slot) → obsolete_in s.memo (marked s.pages) m ≡ obsolete_of s m
    unfolding obsolete_in obsolete_of es
    counts_are m = count_once _ _ (marked s.pages) ∙ count_reordered _ moved

    slots_are : every (λ m. slot_fine s.next (obsolete_in s.memo (marked s.pages) m) m) s.memo ≡ rule6 s
    unfolding rule6 slot_fine
    slots_are = ap (λ (h : Slot → ℕ). every (λ m. slot_fine s.next (h m) m) s.memo) (fun_ext counts_are)

  test_then : entries_test s ≡ true → entries_rules s ≡ true
  unfolding entries_test noted_test leaf_marks
  test_then e =
      let t = each _ e in
      let u = each _ t.1.1.0 in
      let marks = every_holds _ _ (mark_fine-holds s.next) t.0 in
      let inner = all_map marks λ g m. m.inner in
      let R = given_tree s T inner in
      let fine = every_holds _ _ (entry_fine-holds s.next s.memo) u.0 in
      let apart : Distinct (map (λ e. e.stamp.0) es) = rw stamps_are at (distinct-holds _ u.1.0) in
      let keys = rw keys_are at (distinct-holds _ u.1.1.0) in
      each_all_of _
      (every_test _ entry_in_range_test (all_held R (all_map fine λ k h. h.in_range))
      also rule4_test s (record {
        held_most = omega (arith, held-counted s R, leb-true (held_count s.pages) (3 * length s.pages) t.1.0);
        apart = distinct_reordered (map_reordered _ (moved R)) apart;
        stamps = all_held R (all_map fine λ k h. h.given);
      })
      also rule5_test s (record {
        one_latest = distinct_reordered (map_reordered _ (keep_reordered _ (moved R))) (keys_then _ _ _ es keys);
        none_above = all_held R (all_map fine λ k h. h.not_over);
      })
      also (sym (slots_are R) ∙ u.1.1.1.0)
      also rule7_test s (marked-leaves s inner (leaves_all _ (all_map marks λ g m k. more (m.leaf k) none)) (all_map fine λ k h. h.obsolete))
      also tt)

  then_test : entries_rules s ≡ true → entries_test s ≡ true
  unfolding entries_test noted_test leaf_marks
  then_test e =
      let t = each _ e in
      let four = rule4-holds s t.1.0 in
      let five = rule5-holds s t.1.1.0 in
      let seven = rule7-holds s t.1.1.1.1.0 in
      let L = leaves-marked s seven in
      let inner = all_map seven.marks λ g m. m.inner in
      let R = given_tree s T inner in
      let apart : Distinct (map (λ e. e.stamp.0) es) = distinct_reordered (map_reordered _ (back (moved R))) four.apart in
      let trains : Distinct (map (λ e. (train_of e).0) (keep (is_latest s.memo) es)) = distinct_reordered (map_reordered _ (keep_reordered _ (back (moved R)))) five.one_latest in
      let held-so : All (λ k. EntryInRange k.entry × Given s.next k.entry.stamp) (marked s.pages) =
      all_zip (held_all R (every_holds _ _ entry_in_range-holds t.0)) (held_all R four.stamps) λ k a b. (a, b) in
      let noted-so : All (λ k. NotAbove (look_up (train_of k.entry) s.memo) k.entry.stamp × ObsoleteBelow s.memo k) (marked s.pages) =
      all_zip (held_all R five.none_above) L.obsolete λ k a b. (a, b) in
      each_all_of _
      (every_test _ (mark_fine_test s.next) (all_zip (all_leaves _ s.pages L.marks) inner λ g m i. record { leaf = λ k. head_of (m k); inner = i })
      also le-leb (held_count s.pages) (3 * length s.pages) (omega (arith, held-counted s R, four.held_most))
      also each_all_of _
      (every_test _ (entry_fine_test s.next s.memo) (all_zip held-so noted-so λ k a b. record { in_range = a.0; given = a.1; not_over = b.0; obsolete = b.1 })
      also distinct_test (rw stamps_are apart)
      also distinct_test (rw keys_are (then_keys (is_latest s.memo) (λ e. (train_of e).0) (λ e. e.stamp.0) es apart trains))
      also (slots_are R ∙ t.1.1.1.0)
      also tt)
      also tt)

  pub entries_decided : entries_test s ≡ entries_rules s
  entries_decided = both_ways _ _ test_then then_test
