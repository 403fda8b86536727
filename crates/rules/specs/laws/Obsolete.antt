-- Laws of obsolete entries that go: how many are left, and what a memo that has lost old counts and slots still says.
use Rattle.std.specs.Prelude.{ℕ, zero, suc, ◌<◌, ◌≤◌, ◌-◌, ◌+◌, ◌≡◌, refl, Bool, true, ◌&&◌, List, ◌++◌, eqb, ltb}
use Rattle.std.proofs.Common.{arith, sym, ◌∙◌, ap, eqb-true, leb-true, le-ltb}
use Rattle.std.proofs.Math.Bool.{and-true}
use Rattle.std.proofs.lemmas.Bool.{false≢true, eqb-false}
use Rattle.rules.specs.declared.Train.{Train}
use Rattle.rules.specs.declared.Stamp.{Stamp}
use Rattle.rules.specs.declared.Entry.{Entry}
use Rattle.rules.specs.declared.Slot.{Slot}
use Rattle.rules.specs.declared.LookUp.{LookUp}
use Rattle.rules.specs.declared.LookUp.TheVariants.{Absent, Found}
use Rattle.rules.specs.Lists.{count}
use Rattle.rules.specs.Store.{Store, train_of}
use Rattle.rules.specs.Memo.{is_absent, latest_by, is_obsolete}
use Rattle.rules.specs.Live.{held}
use Rattle.rules.specs.Sound.{not_above, obsolete_of}
use Rattle.rules.specs.Views.{SlotSound, Rule6}
use Rattle.rules.specs.laws.Tests.{either}
use Rattle.rules.specs.laws.All.{All, none, more, all_map}
use Rattle.rules.specs.laws.Order.{◌~◌, count_reordered}
use Rattle.rules.specs.laws.Counts.{count_append, count_same}
use Rattle.rules.specs.laws.Memo.{known, known-case, slot, unless_below, one_less, times_less}

-- ---- what is known of a train
-- what holds where nothing is known and by each slot of the train, holds of what is known
pub known_by : (Q : LookUp → Type 0) (t : Train) {ms : List Slot} → Q Absent → All (λ m. m.train.0 ≡ t.0 → Q (Found 0 m.latest m.old)) ms → Q (known t ms)
unfolding known
known_by Q t absent none = absent
known_by Q t absent (more {x = m} {xs = ms} h a) = known-case Q t m ms h (λ d. known_by Q t absent a)

-- rule 6 of what is known
abbrev pub SlotSaid : Store → Train → LookUp → Type 0
SlotSaid s t Absent = Unit {0}
SlotSaid s t (Found place latest old) = SlotSound s (slot t latest old)

pub slot_said : (s : Store) → Rule6 s → (t : Train) → SlotSaid s t (known t s.memo)
slot_said s r t = known_by (SlotSaid s t) t tt (all_map r.slots λ m h e. rw (← (own m e)) h)
  where
    own : (m : Slot) → m.train.0 ≡ t.0 → m ≡ slot t m.latest m.old
    own m e = λ i. record { train = record { 0 = e i }; latest = m.latest; old = m.old }

-- the count of the train's slot is at least the number of its obsolete entries: of those that go, and of those that stay
pub room-left : (s : Store) (gone stay : List Entry) → held s ~ (gone ++ stay) → All (λ e. is_obsolete s.memo e ≡ true) gone
    → (t : Train) (place : ℕ) (latest : Stamp) (old : ℕ) → SlotSaid s t (Found place latest old)
    → count (λ e. eqb (train_of e).0 t.0) gone + count (λ e. eqb (train_of e).0 t.0 && is_obsolete s.memo e) stay ≤ old
unfolding obsolete_of
room-left s gone stay p a t place latest old h =
    let its : Entry → Bool = λ e. eqb (train_of e).0 t.0 in
    let both : Entry → Bool = λ e. its e && is_obsolete s.memo e in
    omega
    (arith, h.old_counts, count_reordered both p, count_append both gone stay, count_same both its (all_map a λ e k. ap (λ b. its e && b) k ∙ and-true (its e)))

-- ---- what is known of a train before, and after c of its old entries are no longer counted: nothing, or the same stamp with a count that is c less
abbrev pub Fades : ℕ → LookUp → LookUp → Type 0
Fades c l Absent = Unit {0}
Fades c Absent (Found q b m) = ⊥
Fades c (Found p a n) (Found q b m) = (a ≡ b) × (1 ≤ m) × (m + c ≡ n)

-- a stamp stays latest or obsolete, unless it was obsolete and nothing is known any more
pub latest_fades : (c : ℕ) (l k : LookUp) (st : Stamp) → Fades c l k → (k ≡ Absent → latest_by l st ≡ true) → latest_by k st ≡ latest_by l st
unfolding latest_by
latest_fades c l Absent st f h = sym (h refl)
latest_fades c Absent (Found q b m) st f h = absurd f
latest_fades c (Found p a n) (Found q b m) st f h = ap (λ z. eqb st.0 z.0) (sym f.0)

-- and what was not above is not above
pub not_above_fades : (c : ℕ) (l k : LookUp) (st : Stamp) → Fades c l k → not_above l st ≡ true → not_above k st ≡ true
unfolding not_above
not_above_fades c l Absent st f h = refl
not_above_fades c Absent (Found q b m) st f h = absurd f
not_above_fades c (Found p a n) (Found q b m) st f h = rw f.0 at h

-- an old count that is known is at least 1
abbrev pub SomeOld : LookUp → Type 0
SomeOld Absent = Unit {0}
SomeOld (Found place latest old) = 1 ≤ old

pub some_old : (s : Store) (t : Train) (l : LookUp) → SlotSaid s t l → SomeOld l
some_old s t Absent h = tt
some_old s t (Found place latest old) h = h.old_least

-- ---- inspected
pub fades_inspected : (mark : Stamp) (l : LookUp) → SomeOld l → Fades 0 l (unless_below mark l)
unfolding unless_below
fades_inspected mark Absent h = tt
fades_inspected mark (Found p a n) h = either (Fades 0 (Found p a n)) (ltb a.0 mark.0) (λ e. tt) (λ e. (refl, h, omega arith))

-- a slot whose stamp is not below some mark, which the mark inspected by isn't above, stays
pub unless_stays : (mark m : Stamp) (l : LookUp) → mark.0 ≤ m.0 → not_above l m ≡ true → unless_below mark l ≡ l
unfolding unless_below not_above
unless_stays mark m Absent h k = refl
unless_stays mark m (Found p a n) h k = rw (le-ltb a.0 mark.0 (omega (arith, leb-true m.0 a.0 k)))

-- ---- lowered
less_none : (c : ℕ) → times_less c Absent ≡ Absent
unfolding times_less one_less
less_none zero = refl
less_none (suc c) = less_none c

one_more : (c : ℕ) (p : ℕ) (a : Stamp) (n : ℕ) (k : LookUp) → 1 ≤ n → Fades c (Found p a (n - 1)) k → Fades (suc c) (Found p a n) k
one_more c p a n Absent h f = tt
one_more c p a n (Found q b m) h f = (f.0, f.1, omega (arith, f.2))

pub fades_lowered : (c : ℕ) (l : LookUp) → SomeOld l → Fades c l (times_less c l)
unfolding times_less one_less
fades_lowered c Absent h = rw (less_none c) tt
fades_lowered zero (Found p a n) h = (refl, h, omega arith)
fades_lowered (suc c) (Found p a n) h =
    either (λ l. Fades (suc c) (Found p a n) (times_less c l)) (eqb (n - 1) 0)
    (λ e. rw (less_none c) tt)
    (λ e. one_more c p a n (times_less c (Found p a (n - 1))) h (fades_lowered c (Found p a (n - 1)) (omega (arith, eqb-false (n - 1) 0 e))))

-- a slot with a greater count is not freed
pub not_freed : (c p : ℕ) (a : Stamp) (n : ℕ) → c < n → times_less c (Found p a n) ≡ Absent → ⊥
unfolding times_less one_less
not_freed zero p a n h = λ e. false≢true (ap is_absent e)
not_freed (suc c) p a n h =
    either (λ l. times_less c l ≡ Absent → ⊥) (eqb (n - 1) 0) (λ e. absurd (omega (arith, eqb-true (n - 1) 0 e))) (λ e. not_freed c p a (n - 1) (omega arith))
