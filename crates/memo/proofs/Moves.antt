-- Slots that move up for a new one, and down for one that goes.
use Rattle.std.proofs.Common.{ℕ, suc, ◌≡◌, ◌+◌, ◌-◌, ◌*◌, ◌<◌, ◌≤◌, List, [], ◌∷◌, ◌++◌, length, get_or, take, drop, set, replicate, append_assoc, length-append, length-drop, add-one, append-nil, take-suc, length-take-le, refl, sym, ap, ◌∙◌, arith}
use Rattle.std.specs.List.{copy_within}
use Rattle.std.proofs.lemmas.List.{length-replicate, drop_all, set_at, take_at, take-append-le, drop-append-le, replicate-append-replicate}
use borrow.Author.Tests.{lt-ltb, le-ltb}
use Rattle.rules.specs.declared.Slot.{Slot}
use Rattle.rules.specs.declared.LookUp.TheVariants.{Absent}
use Rattle.rules.specs.Lists.{without, first}
use Rattle.rules.specs.Memo.{slot_inserted, look_up}
use Rattle.rules.specs.laws.All.{All, none, more}
use Rattle.rules.specs.laws.Memo.{inserted-length, look_up-says}
use Rattle.rules.specs.laws.Places.{without-length, without_front, gap_closed}
use Rattle.rules.specs.laws.Words.{no_slot, all_slots}
use Rattle.rules.specs.Store.{memo_words}
use Rattle.memo.specs.Slots.{place_for, room, slots_in, MemoWords, with_slot}
use Rattle.memo.specs.Laws.{memo_table}
use Rattle.memo.proofs.Words.{moved_written}
use Rattle.memo.proofs.Places.{place-case, place-most}

-- ---- up by one from place i on, where the last one goes
pushed : (xs : List Slot) (z new : Slot) (i : ℕ) → i ≤ length xs
    → set (copy_within (xs ++ z ∷ []) i (length xs) (i + 1)) i new ≡ take i xs ++ new ∷ drop i xs
pushed xs z new i h =
    let none : drop (i + 1 + (length xs - i)) (xs ++ z ∷ []) ≡ [] = drop_all (i + 1 + (length xs - i)) (xs ++ z ∷ []) (simp length-append (omega arith)) in
    let behind : take (length xs - i) (drop i (xs ++ z ∷ [])) ≡ drop i xs = rw (drop-append-le i xs (z ∷ []) h) (take_at (drop i xs) (z ∷ []) _ (length-drop i xs)) in
    let ahead : take (i + 1) (xs ++ z ∷ []) ≡ take i xs ++ get_or (xs ++ z ∷ []) i z ∷ [] =
    rw (add-one i, take-suc (xs ++ z ∷ []) i z (simp length-append (omega arith)), take-append-le i xs (z ∷ []) h) in
    rw (none, behind, ahead, append-nil, append_assoc) (set_at (take i xs) (get_or (xs ++ z ∷ []) i z) (drop i xs) new i (length-take-le i xs h))

-- a new slot stands between those before its place and those behind it
inserted_at : (new : Slot) {ms : List Slot} → All (λ m. m.train.0 ≡ new.train.0 → ⊥) ms
    → slot_inserted new ms ≡ take (place_for new.train ms) ms ++ new ∷ drop (place_for new.train ms) ms
unfolding slot_inserted place_for first
inserted_at new none = refl
inserted_at new (more {x = m} {xs = ms} d a) =
    place-case (λ p. slot_inserted new (m ∷ ms) ≡ take p (m ∷ ms) ++ new ∷ drop p (m ∷ ms)) new.train m ms
    (λ h. rw (lt-ltb new.train.0 m.train.0 (omega arith)))
    (λ h. rw (le-ltb new.train.0 m.train.0 (omega arith)) (ap (λ r. m ∷ r) (inserted_at new a)))

pushed_in : (new : Slot) (k i : ℕ) (ms : List Slot) → i ≡ place_for new.train ms → look_up new.train ms ≡ Absent → length ms < k
    → set (copy_within (all_slots k ms) i (k - 1) (i + 1)) i new ≡ all_slots k (slot_inserted new ms)
unfolding all_slots
pushed_in new k i ms p e h =
    let j = k - suc (length ms) in
    let front : List Slot = ms ++ replicate j no_slot in
    let inside : i ≤ length ms = omega (arith, place-most new.train ms) in
    let most : k - 1 ≡ length front = simp (length-append, length-replicate) (omega arith) in
    let more : k - length ms ≡ j + 1 = omega arith in
    let whole : ms ++ replicate (k - length ms) no_slot ≡ front ++ no_slot ∷ [] = rw (more, ← replicate-append-replicate, ← append_assoc) in
    let stands : slot_inserted new ms ≡ take i ms ++ new ∷ drop i ms = rw p (inserted_at new (rw e at (look_up-says new.train ms))) in
    rw (whole, most)
    (pushed front no_slot new i (omega (arith, inside))
    ∙ rw (take-append-le i ms (replicate j no_slot) inside, drop-append-le i ms (replicate j no_slot) inside, inserted-length, stands, append_assoc))

-- ---- down by one to place i, where an unused one comes last
pulled_out : (k i : ℕ) (ms : List Slot) → i < length ms → length ms ≤ k
    → set (copy_within (all_slots k ms) (i + 1) k i) (k - 1) no_slot ≡ all_slots k (without ms i)
unfolding all_slots
pulled_out k i ms h f =
    let unused : List Slot = replicate (k - length ms) no_slot in
    let n : k - length (without ms i) ≡ k - length ms + 1 = omega (arith, without-length ms i h) in
    gap_closed (ms ++ unused) k (k - 1) i no_slot (simp (length-append, length-replicate) (omega arith)) (omega arith) (omega arith)
    ∙ rw (without_front ms unused i h, n, ← replicate-append-replicate, append_assoc)

-- ---- in the memo's words
module _ (m m₁ m₂ : List ℕ) (w : MemoWords m) (i : ℕ) where
  pub all_pushed : (new : Slot) → m₁ ≡ copy_within m (3 * i) (length m - 3) (3 * i + 3) → m₂ ≡ with_slot m₁ i new → i ≡ place_for new.train (slots_in m)
      → look_up new.train (slots_in m) ≡ Absent → length (slots_in m) < room m → m₂ ≡ memo_words (room m) (slot_inserted new (slots_in m))
  all_pushed new moved put p e h =
      let whole = w.whole in
      let stop : length m - 3 ≡ 3 * (room m - 1) = omega arith in
      let next : 3 * i + 3 ≡ 3 * (i + 1) = omega arith in
      moved_written m m₁ m₂ whole i (room m - 1) (i + 1) i new (rw (stop, next) at moved) put (slot_inserted new (slots_in m)) (rw inserted-length h)
      (rw (memo_table m w) (pushed_in new (room m) i (slots_in m) p e h))

  pub all_pulled : (j : ℕ) (s : Slot) → m₁ ≡ copy_within m (3 * i + 3) (length m) (3 * i) → m₂ ≡ with_slot m₁ j s → j ≡ room m - 1 → s ≡ no_slot
      → i < length (slots_in m) → m₂ ≡ memo_words (room m) (without (slots_in m) i)
  all_pulled j s moved put last unused h =
      let stop : length m ≡ 3 * room m = sym w.whole in
      let next : 3 * i + 3 ≡ 3 * (i + 1) = omega arith in
      moved_written m m₁ m₂ w.whole (i + 1) (room m) i j s (moved ∙ ap (λ b. copy_within m (3 * i + 3) b (3 * i)) stop ∙ ap (λ a. copy_within m a (3 * room m) (3 * i)) next) put (without (slots_in m) i)
      (omega (arith, without-length (slots_in m) i h, w.in_range.used_most))
      (rw (memo_table m w, last, unused) (pulled_out (room m) i (slots_in m) h w.in_range.used_most))
