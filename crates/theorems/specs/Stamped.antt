-- A step that takes a stamp: rules 4 to 7 and the live list after it, whether it adds an entry (a report) or not (a withdrawal).
use Rattle.std.specs.Prelude.{suc, ◌≤◌, ◌<◌, ◌*◌, ◌≡◌, refl, Bool, true, false, cond, List, map, eqb, length}
use Rattle.std.proofs.Common.{arith, sym, ◌∙◌, eqb-true, eq-eqb}
use Rattle.std.proofs.Math.Path.{ap}
use Rattle.std.proofs.Math.Bool.{not, and-false}
use Rattle.std.proofs.lemmas.Bool.{eqb-false, not-true}
use Rattle.rules.specs.declared.Train.{Train}
use Rattle.rules.specs.declared.Stamp.{Stamp}
use Rattle.rules.specs.declared.Box.{Box}
use Rattle.rules.specs.declared.Entry.{Entry}
use Rattle.rules.specs.declared.Slot.{Slot}
use Rattle.rules.specs.Lists.{keep, put_if}
use Rattle.rules.specs.Store.{Board, Store, train_of}
use Rattle.rules.specs.Memo.{look_up, is_latest, is_obsolete, noted}
use Rattle.rules.specs.Live.{held, live, row_for, row_inserted, row_removed, rows_of}
use Rattle.rules.specs.Tree.{Tree}
use Rattle.rules.specs.Sound.{obsolete_of, sound}
use Rattle.rules.specs.Steps.{with_parts, following}
use Rattle.rules.specs.Views.{ProperBox, NotAbove, InRange, BoardInRange, OpenBoard, sound_test, Rule4, Rule5, SlotSound, Rule6, Rule7, Sound, not_above-holds, not_above_test}
use Rattle.rules.specs.laws.Tests.{not_both}
use Rattle.rules.specs.laws.All.{always, all_mapped, All, all_map, all_put, all_zip, all_member, all_kept, Mem}
use Rattle.rules.specs.laws.Lists.{Distinct, d_more}
use Rattle.rules.specs.laws.Order.{◌~◌, back, all_reordered, keep_reordered, count_reordered, length_reordered, distinct_reordered, map_reordered}
use Rattle.rules.specs.laws.Kept.{keep-put}
use Rattle.rules.specs.laws.Counts.{count-put}
use Rattle.rules.specs.laws.Rows.{Apart, apart_kept, apart_reordered, rows_of-keep, rows_of_reordered, rows_of_ascend, inserted-removed}
use Rattle.rules.specs.laws.Memo.{InOrder, in_order, all_noted, noted-in_range, known, old_in}
use Rattle.rules.specs.laws.Noting.{latest_own, latest_other, not_above_own, not_above_other, keep_latest_noted, obsolete_among, obsolete_other, obsolete_own, old_known}
use Rattle.theorems.specs.TreeSound.{TreeSound}
use Rattle.theorems.specs.Accepted.{TakesStamp}
use Rattle.theorems.specs.Leaves.{with_mark, marked, leaf_marks}
use Rattle.theorems.specs.Marks.{leaves-marked, marked-leaves}

-- the entry that a report of the train adds
abbrev pub entry_of : Store → Train → Box → Entry
entry_of s t box = record { bounds = box; key = t.0; stamp = s.next }

-- the store after a step that takes a stamp for the train, with this tree and these boards
abbrev pub stamped : Store → Train → Tree → List Board → Store
stamped s t tree boards = with_parts s (following s.next) tree (noted t s.next s.memo) boards

-- what the tree of u owes to that of s: the entry e is put in where `adds`, and otherwise nothing
pub record Put (adds : Bool) (s : Store) (e : Entry) (u : Store) : Type 0 where
  pub sound : TreeSound u
  pub long : length u.pages ≡ length s.pages
  pub held : held u ~ put_if adds e (held s)
  pub mark : Stamp
  pub marked : marked u.pages ~ put_if adds (with_mark mark e) (marked s.pages)
  pub marks_before : All (λ m. Mem m (leaf_marks s.pages)) (leaf_marks u.pages)

-- what the step meets: that it may take a stamp, and for an entry a proper box and room
pub record Allowed (adds : Bool) (s : Store) (t : Train) (box : Box) : Type 0 where
  pub stamped : TakesStamp s t
  pub proper : adds ≡ true → ProperBox box
  pub entry_room : adds ≡ true → length (held s) < 3 * length s.pages

module _ (adds : Bool) (s : Store) (t : Train) (box : Box) (tree : Tree) (boards : List Board) (S : Sound s) (M : Allowed adds s t box)
    (P : Put adds s (entry_of s t box) (stamped s t tree boards)) where
  abbrev e : Entry
  e = entry_of s t box

  abbrev u : Store
  u = stamped s t tree boards

  abbrev memo_order : InOrder s.memo
  memo_order = in_order s.memo S.ranges.memo.ascends

  -- ---- latest entries: the new one, and those of other trains that were latest
  latest_new : is_latest u.memo e ≡ true
  latest_new = latest_own t s.next memo_order e refl ∙ eq-eqb s.next.0 s.next.0 refl

  others : List Entry
  others = keep (λ x. not (eqb (train_of x).0 t.0)) (keep (is_latest s.memo) (held s))

  latest_after : keep (is_latest u.memo) (put_if adds e (held s)) ≡ put_if adds e others
  unfolding others
  latest_after =
      keep-put _ adds e (held s) latest_new
      ∙ ap (put_if adds e) (keep_latest_noted t s.next memo_order (all_map S.rule4.stamps λ x h. h.below))

  apart_after : Apart (put_if adds e others)
  unfolding others
  apart_after = go adds
    where
      rest : Apart others
      rest = apart_kept _ _ S.rule5.one_latest

      go : (b : Bool) → Apart (put_if b e others)
      go true = d_more (all_mapped _ (all_kept _ (always (λ x h. eqb-false _ _ (not-true _ h)) (keep (is_latest s.memo) (held s))))) rest
      go false = rest

  apart-held : Apart (keep (is_latest u.memo) (held u))
  apart-held = apart_reordered (back (keep_reordered (is_latest u.memo) P.held)) (rw latest_after apart_after)

  -- the live list: the train's row inserted, or removed
  pub live_after : live u ≡ cond adds (row_inserted (row_for e) (live s)) (row_removed t (live s))
  unfolding live others row_removed rows_of
  live_after = rows_of_reordered (keep_reordered (is_latest u.memo) P.held) apart-held ∙ ap rows_of latest_after ∙ go adds
    where
      removed : rows_of others ≡ row_removed t (live s)
      removed = rows_of-keep (λ r. not (eqb r.train.0 t.0)) (keep (is_latest s.memo) (held s)) S.rule5.one_latest

      go : (b : Bool) → rows_of (put_if b e others) ≡ cond b (row_inserted (row_for e) (live s)) (row_removed t (live s))
      go true = ap (row_inserted (row_for e)) removed ∙ inserted-removed (row_for e) (rows_of_ascend (keep (is_latest s.memo) (held s)))
      go false = removed

  -- ---- the rules
  -- rule 4: the new entry has the stamp that was next, above those of all others
  rule4_after : Rule4 u
  rule4_after =
      record {
        held_most = omega (arith, length_reordered P.held, P.long, most adds refl);
        apart = distinct_reordered (map_reordered (λ x. x.stamp.0) (back P.held)) (apart adds);
        stamps =
            all_reordered (back P.held)
            (all_put adds e
            (λ q. record { least = S.ranges.header.next_least; below = omega arith })
            (all_map S.rule4.stamps λ x h. record { least = h.least; below = omega (arith, h.below) }));
      }
    where
      most : (b : Bool) → adds ≡ b → length (put_if b e (held s)) ≤ 3 * length s.pages
      most true q = M.entry_room q
      most false q = S.rule4.held_most

      apart : (b : Bool) → Distinct (map (λ x. x.stamp.0) (put_if b e (held s)))
      apart true = d_more (all_mapped _ (all_map S.rule4.stamps λ x h (q : x.stamp.0 ≡ s.next.0). omega (arith, h.below))) S.rule4.apart
      apart false = S.rule4.apart

  -- what is at most the stamp noted is not above the slot of an entry's train, if it wasn't where the train is another
  above_after : (x : Entry) (m : Stamp) → m.0 ≤ s.next.0 → (((train_of x).0 ≡ t.0 → ⊥) → NotAbove (look_up (train_of x) s.memo) m)
      → NotAbove (look_up (train_of x) u.memo) m
  above_after x m h other = go (eqb (train_of x).0 t.0) refl
    where
      go : (b : Bool) → eqb (train_of x).0 t.0 ≡ b → NotAbove (look_up (train_of x) u.memo) m
      go true q = not_above-holds _ _ (not_above_own t s.next memo_order x (eqb-true _ _ q) m h)
      go false q = let d = eqb-false (train_of x).0 t.0 q in not_above-holds _ _ (not_above_other t s.next memo_order x d m ∙ not_above_test _ _ (other d))

  -- rule 5: of the train only the new entry is latest, and its slot has the new stamp
  pub rule5_after : Rule5 u
  rule5_after =
      record {
        one_latest = apart-held;
        none_above =
            all_reordered (back P.held)
            (all_put adds e
            (λ q. above_after e s.next (omega arith) (λ d. absurd (d refl)))
            (all_zip S.rule4.stamps S.rule5.none_above λ x h k. above_after x x.stamp (omega (arith, h.below)) (λ d. k)));
      }

  -- the obsolete entries of a train are among those held before
  obsolete_before : (m : Slot) → obsolete_of u m ≡ obsolete_among u.memo (held s) m.train.0
  unfolding obsolete_of obsolete_among is_obsolete
  obsolete_before m = count_reordered _ P.held ∙ count-put _ adds e (held s) (rw latest_new (and-false (eqb t.0 m.train.0)))

  -- rule 6: the train's old count rises by one, while at most one more of its entries is obsolete, the one that was latest
  rule6_after : Rule6 u
  unfolding obsolete_of obsolete_among
  rule6_after = record { slots = all_noted t other s.next memo_order S.rule6.slots own }
    where
      other : (m : Slot) → (m.train.0 ≡ t.0 → ⊥) → SlotSound s m → SlotSound u m
      other m d h =
          record {
            stamp_least = h.stamp_least;
            stamp_below = omega (arith, h.stamp_below);
            old_least = h.old_least;
            old_counts = omega (arith, obsolete_before m, obsolete_other t s.next memo_order (held s) m.train.0 d, h.old_counts);
            old_most = h.old_most;
          }

      slot : Slot
      slot = record { train = t; latest = s.next; old = suc (old_in (known t s.memo)) }

      own : SlotSound u slot
      own =
          record {
            stamp_least = S.ranges.header.next_least;
            stamp_below = omega arith;
            old_least = omega arith;
            old_counts = omega (arith, obsolete_before slot, obsolete_own t s.next memo_order (held s) S.rule5.one_latest (all_map S.rule6.slots λ m h. h.old_counts));
            old_most =
                old_known (λ n. n < s.next.0) t (λ a. S.ranges.header.next_least) (all_map S.rule6.slots λ m h q. omega (arith, h.old_most, h.stamp_below));
          }

  -- rule 7: no mark is above the stamp that the train's slot has now; other trains' entries stand under the same marks as before
  rule7_after : Rule7 u
  unfolding is_obsolete
  rule7_after =
      let L = leaves-marked s S.rule7 in
      marked-leaves u P.sound.inner_marks
      (all_map P.marks_before λ m h. let g = all_member L.marks h in record { least = g.least; most = omega (arith, g.most) })
      (all_reordered (back P.marked)
      (all_put adds (with_mark P.mark e)
      (λ q o. absurd (not_both (is_latest u.memo e) latest_new (not-true _ o)))
      (all_zip L.within L.obsolete λ k w h o.
      above_after k.entry k.mark w.most (λ d. h (ap not (sym (latest_other t s.next memo_order k.entry d)) ∙ o)))))

  ranges_after : length boards ≡ length s.boards → All BoardInRange boards → InRange u
  ranges_after b a =
      record {
        sizes = omega (arith, P.long, S.ranges.sizes);
        header = omega (arith, P.sound, S.ranges.header, M.stamped.stamp_left);
        pages = P.sound.pages;
        entries = all_reordered (back P.held) (all_put adds e (λ q. record { proper = M.proper q; a_train = M.stamped.a_train }) S.ranges.entries);
        memo = noted-in_range s.slots S.ranges.memo t s.next M.stamped.a_train M.stamped.slot_room;
        boards = a;
      }

  -- sound, if the boards are in range and show what they should
  pub sound_after : length boards ≡ length s.boards → All BoardInRange boards → All (λ b. b.isopen ≡ 1 → OpenBoard u b) boards → sound u ≡ true
  sound_after b a o =
      sound_test u
      (record {
        ranges = ranges_after b a;
        rule1 = P.sound.rule1;
        rule2 = P.sound.rule2;
        rule3 = P.sound.rule3;
        rule4 = rule4_after;
        rule5 = rule5_after;
        rule6 = rule6_after;
        rule7 = rule7_after;
        rule8 = record { boards = o };
      })
