-- Laws of lowering and inspecting: what they change in the memo's slots, and what is noted of a train afterwards.
use Rattle.std.specs.Prelude.{ℕ, suc, ◌<◌, ◌≤◌, ◌-◌, ◌+◌, ◌≡◌, Bool, eqb, length}
use Rattle.std.proofs.Common.{arith, suc-add, zero-add, ◌∙◌, subst}
use Rattle.std.proofs.Math.Path.{refl, ap, sym}
use Rattle.std.proofs.Math.Bool.{true, false}
use mathlib.Core.List.{List, [], ◌∷◌}
use borrow.Author.Tests.{ne_eqb, eqb-true, eqb-false, lt-ltb, le-ltb, eq-eqb}
use Rattle.rules.specs.declared.Train.{Train}
use Rattle.rules.specs.declared.Stamp.{Stamp}
use Rattle.rules.specs.declared.Entry.{Entry}
use Rattle.rules.specs.declared.Slot.{Slot}
use Rattle.rules.specs.declared.LookUp.TheVariants.{Found}
use Rattle.rules.specs.Lists.{count, one_if, keep}
use Rattle.rules.specs.Store.{train_of}
use Rattle.rules.specs.Memo.{look_up, lowered_by, lowered, inspected, lowered_all}
use Rattle.rules.specs.Views.{MemoInRange}
use Rattle.rules.specs.laws.All.{All, none, more, all_map}
use Rattle.rules.specs.laws.Memo.{InOrder, o_none, o_more, in_order, ascends, slot, known, lowered-case, inspected-case, known-case, known_none, known_here, known_on, known_either, others, one_less, unless_below, times_less}

-- ---- what holds of every slot afterwards, by what held of every slot before
module _ {P Q : Slot → Type 0} (t : Train) (other : (m : Slot) → (m.train.0 ≡ t.0 → ⊥) → P m → Q m) where
  pub all_lowered : {ms : List Slot} → InOrder ms → All P ms
      → ((m : Slot) → m.train.0 ≡ t.0 → 1 < m.old → P m → Q (slot t m.latest (m.old - 1))) → All Q (lowered t ms)
  unfolding lowered lowered_by look_up
  all_lowered o_none none same = none
  all_lowered (o_more {m = m} {ms = ms} a o) (more p b) same =
      lowered-case (All Q) t m ms
      (λ e h. others t other (omega arith) a b)
      (λ e h. more (same m e h p) (others t other (omega arith) a b))
      (λ d. more (other m d p) (all_lowered o b same))

pub all_inspected : {P Q : Slot → Type 0} (mark : Stamp) {ms : List Slot} → All P ms → ((m : Slot) → mark.0 ≤ m.latest.0 → P m → Q m) → All Q (inspected mark ms)
unfolding inspected keep
all_inspected mark none f = none
all_inspected {Q = Q} mark (more {x = m} {xs = ms} p b) f =
    inspected-case (All Q) mark m ms (λ h. more (f m h p) (all_inspected mark b f)) (λ h. all_inspected mark b f)

-- ---- the slots stay in ascending train
pub lowered_in_order : (t : Train) {ms : List Slot} → InOrder ms → InOrder (lowered t ms)
unfolding lowered lowered_by look_up
lowered_in_order t o_none = o_none
lowered_in_order t (o_more {m = m} {ms = ms} a o) =
    lowered-case InOrder t m ms
    (λ e h. o)
    (λ e h. o_more (all_map a λ n l. omega arith) o)
    (λ d. o_more (all_lowered t (λ n d l. l) o a (λ n e h l. omega arith)) (lowered_in_order t o))

pub inspected_in_order : (mark : Stamp) {ms : List Slot} → InOrder ms → InOrder (inspected mark ms)
unfolding inspected keep
inspected_in_order mark o_none = o_none
inspected_in_order mark (o_more {m = m} {ms = ms} a o) =
    inspected-case InOrder mark m ms (λ h. o_more (all_inspected mark a λ n k l. l) (inspected_in_order mark o)) (λ h. inspected_in_order mark o)

-- ---- and there is room for them
lowered-length : (t : Train) (ms : List Slot) → length (lowered t ms) ≤ length ms
unfolding lowered lowered_by look_up
lowered-length t [] = omega arith
lowered-length t (m ∷ ms) =
    lowered-case (λ l. length l ≤ suc (length ms)) t m ms (λ e h. omega arith) (λ e h. omega arith) (λ d. omega (arith, lowered-length t ms))

inspected-length : (mark : Stamp) (ms : List Slot) → length (inspected mark ms) ≤ length ms
unfolding inspected keep
inspected-length mark [] = omega arith
inspected-length mark (m ∷ ms) =
    inspected-case (λ l. length l ≤ suc (length ms)) mark m ms (λ h. omega (arith, inspected-length mark ms)) (λ h. omega (arith, inspected-length mark ms))

module _ (k : ℕ) {ms : List Slot} (r : MemoInRange k ms) where
  pub lowered-in_range : (t : Train) → MemoInRange k (lowered t ms)
  lowered-in_range t =
      let o = in_order ms r.ascends in
      record {
        used_most = omega (arith, lowered-length t ms, r.used_most);
        trains = all_lowered t (λ m d l. l) o r.trains (λ m e h l. omega arith);
        ascends = ascends (lowered_in_order t o);
      }

  pub inspected-in_range : (mark : Stamp) → MemoInRange k (inspected mark ms)
  inspected-in_range mark =
      record {
        used_most = omega (arith, inspected-length mark ms, r.used_most);
        trains = all_inspected mark r.trains λ m h l. l;
        ascends = ascends (inspected_in_order mark (in_order ms r.ascends));
      }

-- ---- what is noted of the train, and of others, afterwards
pub known-lowered : (t : Train) {ms : List Slot} → InOrder ms → known t (lowered t ms) ≡ one_less (known t ms)
unfolding lowered lowered_by look_up one_less
known-lowered t o_none = rw (known_none t none)
known-lowered t (o_more {m = m} {ms = ms} a o) =
    lowered-case (λ l. known t l ≡ one_less (known t (m ∷ ms))) t m ms
    (λ e h. rw (known_here t m ms e, eq-eqb (m.old - 1) 0 (omega arith)) (known_none t (all_map a λ n l. omega arith)))
    (λ e h. rw (known_here t m ms e, ne_eqb (m.old - 1) 0 (omega arith)) (known_here t (slot t m.latest (m.old - 1)) ms refl))
    (λ d. rw (known_on t m ms d) (known_on t m (lowered t ms) d ∙ known-lowered t o))

-- another train's slot stays
module _ (u t : Train) (d : u.0 ≡ t.0 → ⊥) where
  pub known-lowered_other : (ms : List Slot) → known u (lowered t ms) ≡ known u ms
  unfolding lowered lowered_by look_up
  known-lowered_other [] = refl
  known-lowered_other (m ∷ ms) =
      lowered-case (λ l. known u l ≡ known u (m ∷ ms)) t m ms
      (λ e h. sym (known_on u m ms (omega arith)))
      (λ e h. known_on u (slot t m.latest (m.old - 1)) ms (omega arith) ∙ sym (known_on u m ms (omega arith)))
      (λ n. known_either u t d m (lowered t ms) ms (known-lowered_other ms))

-- a slot stays as it is, or goes
pub known-inspected : (u : Train) (mark : Stamp) {ms : List Slot} → InOrder ms → known u (inspected mark ms) ≡ unless_below mark (known u ms)
unfolding inspected keep unless_below
known-inspected u mark o_none = rw (known_none u none)
known-inspected u mark (o_more {m = m} {ms = ms} a o) =
    let ih = known-inspected u mark o in
    known-case (λ l. known u (inspected mark (m ∷ ms)) ≡ unless_below mark l) u m ms
    (λ e.
    inspected-case (λ l. known u l ≡ unless_below mark (Found 0 m.latest m.old)) mark m ms
    (λ h. rw (le-ltb m.latest.0 mark.0 h) (known_here u m (inspected mark ms) e))
    (λ h. rw (lt-ltb m.latest.0 mark.0 h) (ih ∙ ap (unless_below mark) (known_none u (all_map a λ n l. omega arith)))))
    (λ d. inspected-case (λ l. known u l ≡ unless_below mark (known u ms)) mark m ms (λ h. known_on u m (inspected mark ms) d ∙ ih) (λ h. ih))

-- ---- each removed entry lowers its train's count
pub lowered_all_in_order : (es : List Entry) {ms : List Slot} → InOrder ms → InOrder (lowered_all es ms)
unfolding lowered_all
lowered_all_in_order [] o = o
lowered_all_in_order (e ∷ es) o = lowered_all_in_order es (lowered_in_order (train_of e) o)

pub lowered_all-in_range : (k : ℕ) (es : List Entry) {ms : List Slot} → MemoInRange k ms → MemoInRange k (lowered_all es ms)
unfolding lowered_all
lowered_all-in_range k [] r = r
lowered_all-in_range k (e ∷ es) r = lowered_all-in_range k es (lowered-in_range k r (train_of e))

lowered_once : (u t : Train) {ms : List Slot} → InOrder ms → (n : ℕ) (b : Bool) → eqb t.0 u.0 ≡ b
    → times_less n (known u (lowered t ms)) ≡ times_less (one_if b + n) (known u ms)
unfolding times_less
lowered_once u t {ms = ms} o n true q =
    let same : t ≡ u = λ i. record { 0 = eqb-true t.0 u.0 q i } in
    rw (suc-add, zero-add) (ap (times_less n) (subst (λ v. known v (lowered t ms) ≡ one_less (known v ms)) same (known-lowered t o)))
lowered_once u t {ms = ms} o n false q = rw zero-add (ap (times_less n) (known-lowered_other u t (λ f. eqb-false _ _ q (sym f)) ms))

pub known-lowered_all : (u : Train) (es : List Entry) {ms : List Slot} → InOrder ms
    → known u (lowered_all es ms) ≡ times_less (count (λ e. eqb (train_of e).0 u.0) es) (known u ms)
unfolding lowered_all times_less count
known-lowered_all u [] o = refl
known-lowered_all u (e ∷ es) o =
    known-lowered_all u es (lowered_in_order (train_of e) o) ∙ lowered_once u (train_of e) o (count _ es) (eqb (train_of e).0 u.0) refl
