-- The steps: their words, what each is refused with, what it does and the count it writes.
use Rattle.std.specs.Prelude.{ℕ, zero, suc, ◌*◌, ◌-◌, Bool, not, ◌&&◌, ◌||◌, List, [], ◌∷◌, map, eqb, leb, ltb, length, get_or, set}
use Rattle.rules.specs.declared.Train.{Train}
use Rattle.rules.specs.declared.Stamp.{Stamp}
use Rattle.rules.specs.declared.Box.{Box}
use Rattle.rules.specs.declared.Window.{Window}
use Rattle.rules.specs.declared.Entry.{Entry}
use Rattle.rules.specs.declared.Slot.{Slot}
use Rattle.rules.specs.declared.Row.{Row}
use Rattle.rules.specs.declared.Step.{Step}
use Rattle.rules.specs.Lists.{all_of, one_of, keep, some_one}
use Rattle.rules.specs.Boxes.{proper_box, proper_window}
use Rattle.rules.specs.Store.{Board, Store, train, stamp, limit, row_limit, closed, page_at, board_at}
use Rattle.rules.specs.Memo.{look_up, is_absent, is_latest, is_obsolete, noted, lowered_all, inspected}
use Rattle.rules.specs.Live.{held, rows_in}
use Rattle.rules.specs.Tree.{Tree, tree_of, put_at}
use Rattle.rules.specs.Cleaning.{smallest_mark, leaf_to_clean, cleaned}
use Rattle.rules.specs.Boards.{is_open, told, untold, overfull, touched, opened}
use Rattle.rules.specs.Numbers.{◌when◌, first_met}

-- ---- a step's words: kind, a, then four more
unfoldable pub step_of : List ℕ → Step
step_of w =
    record { kind = get_or w 0 0; a = get_or w 1 0; x0 = get_or w 2 0; y0 = get_or w 3 0; x1 = get_or w 4 0; y1 = get_or w 5 0 }

abbrev pub step_words : Step → List ℕ
step_words x = x.kind ∷ x.a ∷ x.x0 ∷ x.y0 ∷ x.x1 ∷ x.y1 ∷ []

abbrev pub its_train : Step → Train
its_train x = train x.a

abbrev pub reported_box : Step → Box
reported_box x = record { x0 = x.x0; y0 = x.y0; x1 = x.x1; y1 = x.y1 }

abbrev pub its_window : Step → Window
its_window x = record { x0 = x.x0; y0 = x.y0; x1 = x.x1; y1 = x.y1 }

abbrev pub reported_row : Step → Row
reported_row x = record { train = its_train x; bounds = reported_box x }

-- ---- kinds
abbrev pub is_report : Step → Bool
is_report x = eqb x.kind 1

abbrev pub is_withdraw : Step → Bool
is_withdraw x = eqb x.kind 2

abbrev pub is_clean : Step → Bool
is_clean x = eqb x.kind 3

abbrev pub is_inspect : Step → Bool
is_inspect x = eqb x.kind 4

abbrev pub is_opening : Step → Bool
is_opening x = eqb x.kind 5

abbrev pub is_closing : Step → Bool
is_closing x = eqb x.kind 6

-- words not named must be 0
unfoldable pub four_zero : Step → Bool
four_zero x = all_of (eqb x.x0 0 ∷ eqb x.y0 0 ∷ eqb x.x1 0 ∷ eqb x.y1 0 ∷ [])

unfoldable pub in_form : Step → Bool
in_form x =
    one_of
    (is_report x
    ∷ (is_withdraw x && four_zero x)
    ∷ ((is_clean x || is_inspect x) && (eqb x.a 0 && four_zero x))
    ∷ is_opening x
    ∷ (is_closing x && four_zero x)
    ∷ [])

-- ---- refusals 6 to 14
unfoldable pub refusal : Store → Step → ℕ
refusal s x =
    let takes_stamp = is_report x || is_withdraw x in
    let on_board = is_opening x || is_closing x in
    let open-already = is_open (board_at s x.a) in
    first_met
    ((6 when not (in_form x))
    ∷ (7 when takes_stamp && eqb (its_train x).0 0)
    ∷ (8 when (is_report x && not (proper_box (reported_box x))) || (is_opening x && not (proper_window (its_window x))))
    ∷ (9 when on_board && leb (length s.boards) x.a)
    ∷ (10 when (is_opening x && open-already) || (is_closing x && not open-already))
    ∷ (11 when takes_stamp && eqb s.next.0 limit)
    ∷ (12 when is_report x && leb (3 * length s.pages) (length (held s)))
    ∷ (13 when takes_stamp && (is_absent (look_up (its_train x) s.memo) && leb s.slots (length s.memo)))
    ∷ (14 when
    (is_report x && some_one (overfull (reported_row x)) s.boards)
    || (is_opening x && ltb row_limit (length (rows_in s (its_window x)))))
    ∷ [])

-- ---- what an accepted step does: the store after it, and the count it writes
pub record Effect : Type 0 where
  pub store : Store
  pub count : ℕ

abbrev pub with_parts : Store → Stamp → Tree → List Slot → List Board → Store
with_parts s next t memo boards =
    record { next = next; root = t.root; levels = t.levels; slots = s.slots; pages = t.pages; memo = memo; boards = boards }

abbrev pub following : Stamp → Stamp
following s = stamp (suc s.0)

-- the next stamp is taken and noted, an entry with it goes into a leaf, and the boards are told
unfoldable pub report : Store → Step → Effect
report s x =
    let e : Entry = record { bounds = reported_box x; key = (its_train x).0; stamp = s.next } in
    let boards = map (told (reported_row x)) s.boards in
    record {
      store = with_parts s (following s.next) (put_at 1 e (tree_of s)) (noted (its_train x) s.next s.memo) boards;
      count = touched (its_train x) s.boards boards;
    }

-- the same without an entry
unfoldable pub withdraw : Store → Step → Effect
withdraw s x =
    let boards = map (untold (its_train x)) s.boards in
    record {
      store = with_parts s (following s.next) (tree_of s) (noted (its_train x) s.next s.memo) boards;
      count = touched (its_train x) s.boards boards;
    }

-- the leaf's obsolete entries go, each one's old count is lowered, and the leaf's mark becomes the next stamp
unfoldable pub clean : Store → Effect
clean s =
    let q = leaf_to_clean s.pages in
    let gone = keep (is_obsolete s.memo) (page_at s.pages q).places in
    record {
      store =
          with_parts s s.next (cleaned (keep (is_latest s.memo)) s.next q (tree_of s)) (lowered_all gone s.memo) s.boards;
      count = length gone;
    }

unfoldable pub inspect : Store → Effect
inspect s =
    let left = inspected (smallest_mark s.pages) s.memo in
    record { store = with_parts s s.next (tree_of s) left s.boards; count = length s.memo - length left }

-- the board gets the window and the rows of a query of it
unfoldable pub open_board : Store → Step → Effect
open_board s x =
    let rows = rows_in s (its_window x) in
    record {
      store = with_parts s s.next (tree_of s) s.memo (set s.boards x.a (opened (its_window x) rows));
      count = length rows;
    }

unfoldable pub close_board : Store → Step → Effect
close_board s x =
    record { store = with_parts s s.next (tree_of s) s.memo (set s.boards x.a closed); count = 0 }

-- by kind; what is in form has one of the kinds 1 to 6
unfoldable pub effect : ℕ → Store → Step → Effect
effect zero s x = record { store = s; count = 0 }
effect (suc zero) s x = report s x
effect (suc (suc zero)) s x = withdraw s x
effect (suc (suc (suc zero))) s x = clean s
effect (suc (suc (suc (suc zero)))) s x = inspect s
effect (suc (suc (suc (suc (suc zero))))) s x = open_board s x
effect (suc (suc (suc (suc (suc (suc k)))))) s x = close_board s x

-- ---- a step, and steps one after the other
pub record Done : Type 0 where
  pub store : Store
  pub number : ℕ
  pub count : ℕ

-- a refused step writes its number and count 0, and changes nothing
unfoldable pub done : Store → Step → ℕ → Done
done s x zero = let e = effect x.kind s x in record { store = e.store; number = 0; count = e.count }
done s x (suc n) = record { store = s; number = suc n; count = 0 }

unfoldable pub step : Store → Step → Done
step s x = done s x (refusal s x)

pub record Ran : Type 0 where
  pub store : Store
  pub answers : List ℕ

unfoldable pub run : Store → List Step → Ran
run s [] = record { store = s; answers = [] }
run s (x ∷ xs) =
    let d = step s x in
    let r = run d.store xs in
    record { store = r.store; answers = d.number ∷ d.count ∷ r.answers }

-- a proof that says `unfolding steps_open` sees through every definition of this file
unfoldable pub steps_open : Unit {0}
unfolding step_of four_zero in_form refusal report withdraw clean inspect open_board close_board effect done step run
steps_open = tt
