-- The memo: which stamp of a train is the latest, and how many old entries of it may be held.
use Rattle.std.specs.Prelude.{suc, ◌-◌, Bool, true, false, not, cond, List, [], ◌∷◌, eqb, ltb, set}
use Rattle.rules.specs.declared.Train.{Train}
use Rattle.rules.specs.declared.Stamp.{Stamp}
use Rattle.rules.specs.declared.Entry.{Entry}
use Rattle.rules.specs.declared.Slot.{Slot}
use Rattle.rules.specs.declared.LookUp.{LookUp}
use Rattle.rules.specs.declared.LookUp.TheVariants.{Absent, Found}
use Rattle.rules.specs.Lists.{keep, without}
use Rattle.rules.specs.Store.{train_of}

-- ---- the look-up: no slot, or the slot's place, stamp and old count
unfoldable pub one_further : LookUp → LookUp
one_further Absent = Absent
one_further (Found place latest old) = Found (suc place) latest old

unfoldable pub look_up : Train → List Slot → LookUp
look_up t [] = Absent
look_up t (m ∷ ms) =
    let later = look_up t ms in
    cond (eqb m.train.0 t.0) (Found 0 m.latest m.old) (one_further later)

abbrev pub is_absent : LookUp → Bool
is_absent Absent = true
is_absent (Found place latest old) = false

-- an entry is latest if its train has no slot, or its stamp equals the slot's; otherwise obsolete
unfoldable pub latest_by : LookUp → Stamp → Bool
latest_by Absent s = true
latest_by (Found place latest old) s = eqb s.0 latest.0

unfoldable pub is_latest : List Slot → Entry → Bool
is_latest memo e = latest_by (look_up (train_of e) memo) e.stamp

unfoldable pub is_obsolete : List Slot → Entry → Bool
is_obsolete memo e = not (is_latest memo e)

-- ---- a stamp noted
-- a new slot at its ascending place
unfoldable pub slot_inserted : Slot → List Slot → List Slot
slot_inserted new [] = new ∷ []
slot_inserted new (m ∷ ms) =
    let later = slot_inserted new ms in
    cond (ltb new.train.0 m.train.0) (new ∷ m ∷ ms) (m ∷ later)

-- no slot: one is made with this stamp and old count 1; otherwise its stamp becomes this one and its count rises by 1
unfoldable pub noted_by : LookUp → Train → Stamp → List Slot → List Slot
noted_by Absent t now memo = slot_inserted (record { train = t; latest = now; old = 1 }) memo
noted_by (Found place latest old) t now memo = set memo place (record { train = t; latest = now; old = suc old })

unfoldable pub noted : Train → Stamp → List Slot → List Slot
noted t now memo = noted_by (look_up t memo) t now memo

-- ---- an old count lowered by 1; a slot that reaches 0 is freed and the gap closed
unfoldable pub lowered_by : LookUp → Train → List Slot → List Slot
lowered_by Absent t memo = memo
lowered_by (Found place latest old) t memo =
    let left = old - 1 in
    cond (eqb left 0) (without memo place) (set memo place (record { train = t; latest = latest; old = left }))

unfoldable pub lowered : Train → List Slot → List Slot
lowered t memo = lowered_by (look_up t memo) t memo

-- each removed entry lowers its train's count
unfoldable pub lowered_all : List Entry → List Slot → List Slot
lowered_all [] memo = memo
lowered_all (e ∷ es) memo = lowered_all es (lowered (train_of e) memo)

-- ---- inspect: each slot whose stamp is below the mark is freed
unfoldable pub inspected : Stamp → List Slot → List Slot
inspected mark memo = keep (λ m. not (ltb m.latest.0 mark.0)) memo

-- a proof that says `unfolding memo_open` sees through every definition of this file
unfoldable pub memo_open : Unit {0}
unfolding one_further look_up latest_by is_latest is_obsolete slot_inserted noted_by noted lowered_by lowered lowered_all inspected
memo_open = tt
