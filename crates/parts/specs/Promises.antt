-- What the functions on the memo and the boards ask for, leave and answer.
use Rattle.std.specs.Prelude.{ℕ, ◌-◌, ◌≡◌, Bool, ◌&&◌, ◌||◌, List, map, leb, length}
use Rattle.rules.specs.declared.Train.{Train}
use Rattle.rules.specs.declared.Stamp.{Stamp}
use Rattle.rules.specs.Lists.{one_if}
use Rattle.rules.specs.Store.{Board, Store, board_words}
use Rattle.rules.specs.Memo.{look_up, is_absent, inspected}
use Rattle.rules.specs.Boards.{is_open, lists, touched}
use Rattle.rules.specs.laws.Parts.{with_memo, with_boards}
use Rattle.parts.specs.InOrder.{Counted}

-- ---- the memo
-- the train has no slot and none is free, so that no stamp of it can be noted
abbrev pub no_slot_left : Store → Train → Bool
no_slot_left s t = is_absent (look_up t s.memo) && leb s.slots (length s.memo)

-- the slots below a mark are freed, and counted
abbrev pub Freed : Stamp → Store → List ℕ → ℕ → Type 0
Freed mark s w r =
    let left = inspected mark s.memo in
    Counted (with_memo s left) (length s.memo - length left) w r

-- ---- boards
-- 1 where board b, which becomes c, is open and lists the train before or after
abbrev pub touch : Train → Board → Board → ℕ
touch t b c = one_if (is_open b && (lists t b || lists t c))

-- the words w are those of the board c that b has become, and the answer says whether it is touched
pub record Told (t : Train) (b c : Board) (w : List ℕ) (r : ℕ) : Type 0 where
  pub wrote : w ≡ board_words c
  pub counted : r ≡ touch t b c

-- every board has been told by the same rule, and those that are touched are counted
abbrev pub ToldAll : (Board → Board) → Train → Store → List ℕ → ℕ → Type 0
ToldAll tell t s w r =
    let boards = map tell s.boards in
    Counted (with_boards s boards) (touched t s.boards boards) w r
