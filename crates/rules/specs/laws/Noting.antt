-- Laws of a stamp noted: which entries are latest afterwards, and how many of a train are obsolete.
use Rattle.std.specs.Prelude.{ℕ, suc, ◌<◌, ◌≤◌, ◌≡◌, ◌&&◌, List}
use Rattle.std.proofs.Common.{arith, sym, ◌∙◌}
use Rattle.std.proofs.Math.Path.{refl, ap}
use Rattle.std.proofs.Math.Bool.{Bool, true, false, not, and-false, and-true}
use Rattle.std.proofs.Math.Dec.{eqb}
use borrow.Author.Tests.{ne_eqb, eqb-true, eqb-false, le-leb}
use Rattle.rules.specs.declared.Train.{Train}
use Rattle.rules.specs.declared.Stamp.{Stamp}
use Rattle.rules.specs.declared.Entry.{Entry}
use Rattle.rules.specs.declared.Slot.{Slot}
use Rattle.rules.specs.declared.LookUp.TheVariants.{Absent}
use Rattle.rules.specs.laws.Counts.{count_same, count_none, count_fewer, count-parts, count-apart}
use Rattle.rules.specs.laws.Rows.{Apart}
use Rattle.rules.specs.Lists.{keep, count}
use Rattle.rules.specs.Store.{train_of}
use Rattle.rules.specs.Memo.{look_up, latest_by, is_latest, is_obsolete, noted}
use Rattle.rules.specs.Sound.{not_above}
use Rattle.rules.specs.laws.Kept.{keep_same, keep_both}
use Rattle.rules.specs.laws.All.{All, none, more, all_map, always}
use Rattle.rules.specs.laws.Memo.{InOrder, known, known-noted, known-noted_other, latest_known, not_above-known, old_in, known-case}

-- an old count that is known: that of the train's slot, or 0 where there is none
pub old_known : (Q : ℕ → Type 0) (t : Train) {ms : List Slot} → (known t ms ≡ Absent → Q 0) → All (λ m. m.train.0 ≡ t.0 → Q m.old) ms → Q (old_in (known t ms))
unfolding known
old_known Q t absent none = absent refl
old_known Q t absent (more {x = m} {xs = ms} h a) =
    known-case (λ l. (l ≡ Absent → Q 0) → Q (old_in l)) t m ms (λ e f. h e) (λ d f. old_known Q t f a) absent

-- ---- the train's own entries, and those of others
module _ (t : Train) (now : Stamp) {ms : List Slot} (o : InOrder ms) (e : Entry) where
  known_own : (train_of e).0 ≡ t.0 → known (train_of e) (noted t now ms) ≡ known t (noted t now ms)
  known_own q = ap (λ (n : ℕ). known (record { 0 = n }) (noted t now ms)) q

  -- of the train only the entry with this stamp is latest
  pub latest_own : (train_of e).0 ≡ t.0 → is_latest (noted t now ms) e ≡ eqb e.stamp.0 now.0
  unfolding latest_by
  latest_own q = latest_known (noted t now ms) e ∙ ap (λ l. latest_by l e.stamp) (known_own q ∙ known-noted t now o)

  -- and what is not above the stamp noted is not above its slot's
  pub not_above_own : (train_of e).0 ≡ t.0 → (m : Stamp) → m.0 ≤ now.0 → not_above (look_up (train_of e) (noted t now ms)) m ≡ true
  unfolding not_above
  not_above_own q m h =
      not_above-known m (train_of e) (noted t now ms) ∙ ap (λ l. not_above l m) (known_own q ∙ known-noted t now o) ∙ le-leb _ _ h

  -- of other trains nothing changes
  pub latest_other : ((train_of e).0 ≡ t.0 → ⊥) → is_latest (noted t now ms) e ≡ is_latest ms e
  latest_other d =
      latest_known (noted t now ms) e ∙ ap (λ l. latest_by l e.stamp) (known-noted_other (train_of e) t d now o) ∙ sym (latest_known ms e)

  pub not_above_other : ((train_of e).0 ≡ t.0 → ⊥) → (m : Stamp) → not_above (look_up (train_of e) (noted t now ms)) m ≡ not_above (look_up (train_of e) ms) m
  not_above_other d m =
      not_above-known m (train_of e) (noted t now ms) ∙ ap (λ l. not_above l m) (known-noted_other (train_of e) t d now o) ∙ sym (not_above-known m (train_of e) ms)

-- ---- entries from before, whose stamps are below the one noted
module _ (t : Train) (now : Stamp) {ms : List Slot} (o : InOrder ms) where
  -- are latest if they were and are of another train
  pub latest_noted : (e : Entry) → e.stamp.0 < now.0 → is_latest (noted t now ms) e ≡ (is_latest ms e && not (eqb (train_of e).0 t.0))
  latest_noted e h = go (eqb (train_of e).0 t.0) refl
    where
      go : (b : Bool) → eqb (train_of e).0 t.0 ≡ b → is_latest (noted t now ms) e ≡ (is_latest ms e && not b)
      go true q = latest_own t now o e (eqb-true _ _ q) ∙ ne_eqb e.stamp.0 now.0 (omega arith) ∙ sym (and-false (is_latest ms e))
      go false q = latest_other t now o e (eqb-false _ _ q) ∙ sym (and-true (is_latest ms e))

  pub keep_latest_noted : {es : List Entry} → All (λ e. e.stamp.0 < now.0) es
      → keep (is_latest (noted t now ms)) es ≡ keep (λ e. not (eqb (train_of e).0 t.0)) (keep (is_latest ms) es)
  keep_latest_noted {es = es} a = keep_same _ _ (all_map a λ e h. latest_noted e h) ∙ keep_both (is_latest ms) (λ e. not (eqb (train_of e).0 t.0)) es

-- ---- how many obsolete entries of a train there are
unfoldable pub obsolete_among : List Slot → List Entry → ℕ → ℕ
obsolete_among ms es n = count (λ e. eqb (train_of e).0 n && is_obsolete ms e) es

-- none of a train that has no slot
none_unknown : (t : Train) (ms : List Slot) (es : List Entry) → known t ms ≡ Absent → obsolete_among ms es t.0 ≡ 0
unfolding obsolete_among is_obsolete latest_by
none_unknown t ms es a = count_none _ (always of es)
  where
    of : (e : Entry) → (eqb (train_of e).0 t.0 && is_obsolete ms e) ≡ false
    of e = go (eqb (train_of e).0 t.0) refl
      where
        go : (b : Bool) → eqb (train_of e).0 t.0 ≡ b → (b && is_obsolete ms e) ≡ false
        go true q = ap not (latest_known ms e ∙ ap (λ (n : ℕ). latest_by (known (record { 0 = n }) ms) e.stamp) (eqb-true _ _ q) ∙ ap (λ l. latest_by l e.stamp) a)
        go false q = refl

module _ (t : Train) (now : Stamp) {ms : List Slot} (o : InOrder ms) (es : List Entry) where
  -- of another train as many as before
  pub obsolete_other : (n : ℕ) → (n ≡ t.0 → ⊥) → obsolete_among (noted t now ms) es n ≡ obsolete_among ms es n
  unfolding obsolete_among is_obsolete
  obsolete_other n d = count_same _ _ (always of es)
    where
      of : (e : Entry) → (eqb (train_of e).0 n && is_obsolete (noted t now ms) e) ≡ (eqb (train_of e).0 n && is_obsolete ms e)
      of e = go (eqb (train_of e).0 n) refl
        where
          go : (b : Bool) → eqb (train_of e).0 n ≡ b → (b && is_obsolete (noted t now ms) e) ≡ (b && is_obsolete ms e)
          go true q = let r : (train_of e).0 ≡ n = eqb-true _ _ q in ap not (latest_other t now o e λ p. d (sym r ∙ p))
          go false q = refl

  -- of the train itself at most one more, the one that was latest, so that its count of old entries is kept
  pub obsolete_own : Apart (keep (is_latest ms) es) → All (λ m. obsolete_among ms es m.train.0 ≤ m.old) ms
      → obsolete_among (noted t now ms) es t.0 ≤ suc (old_in (known t ms))
  unfolding obsolete_among is_obsolete
  obsolete_own d a =
      let own : Entry → Bool = λ e. eqb (train_of e).0 t.0 in
      let few : obsolete_among ms es t.0 ≤ old_in (known t ms) =
      old_known (λ n. obsolete_among ms es t.0 ≤ n) t (λ u. omega (arith, none_unknown t ms es u)) (all_map a λ m h q. rw (sym q) h) in
      omega (arith, few, count_fewer own (λ e. not (is_latest (noted t now ms) e)) es, count-parts own (is_latest ms) es, count-apart t.0 (keep (is_latest ms) es) d)
