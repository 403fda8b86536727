-- What an accepted step meets: the facts that a refusal of number 0 says, for each kind of step.
use Rattle.std.specs.Prelude.{◌≤◌, ◌<◌, ◌*◌, ◌≡◌, true, false, ◌&&◌, eqb, leb, length}
use Rattle.std.proofs.Common.{arith}
use borrow.Author.Tests.{eqb-false, leb-false, ltb-false, not-false}
use Rattle.rules.specs.declared.Train.{Train}
use Rattle.rules.specs.Store.{Store, limit, row_limit, board_at}
use Rattle.rules.specs.declared.Step.{Step}
use Rattle.rules.specs.Steps.{its_train, reported_box, its_window, reported_row, in_form, refusal}
use Rattle.rules.specs.Memo.{look_up, is_absent}
use Rattle.rules.specs.Live.{held, rows_in}
use Rattle.rules.specs.Boards.{is_open, told, overfull}
use Rattle.rules.specs.Views.{ProperBox, ProperWindow, proper_box-holds, proper_window-holds}
use Rattle.rules.specs.laws.Numbers.{unmet}
use Rattle.rules.specs.laws.All.{All, all_map}
use Rattle.rules.specs.laws.Rows.{neither, no_one_all}
use Rattle.rules.specs.declared.LookUp.TheVariants.{Absent}

-- a step that takes a stamp: a train, a stamp that is left, and a slot of the train or room for one
pub record TakesStamp (s : Store) (t : Train) : Type 0 where
  pub a_train : 1 ≤ t.0
  pub stamp_left : s.next.0 ≡ limit → ⊥
  pub slot_room : look_up t s.memo ≡ Absent → length s.memo < s.slots

-- a report: a proper box besides, room for an entry, and no open board that would need a row too many
pub record AcceptedReport (s : Store) (x : Step) : Type 0 where
  pub form : in_form x ≡ true
  pub stamped : TakesStamp s (its_train x)
  pub proper : ProperBox (reported_box x)
  pub entry_room : length (held s) < 3 * length s.pages
  pub rows_room : All (λ b. length (told (reported_row x) b).rows ≤ row_limit) s.boards

pub record AcceptedWithdrawal (s : Store) (x : Step) : Type 0 where
  pub form : in_form x ≡ true
  pub stamped : TakesStamp s (its_train x)

-- an opening: a board that is closed, a proper window, and no more rows in it than a board takes
pub record AcceptedOpening (s : Store) (x : Step) : Type 0 where
  pub form : in_form x ≡ true
  pub board : x.a < length s.boards
  pub shut : is_open (board_at s x.a) ≡ false
  pub proper : ProperWindow (its_window x)
  pub rows_room : length (rows_in s (its_window x)) ≤ row_limit

-- a closing: a board that is open
pub record AcceptedClosing (s : Store) (x : Step) : Type 0 where
  pub form : in_form x ≡ true
  pub board : x.a < length s.boards
  pub opened : is_open (board_at s x.a) ≡ true

module _ (s : Store) (x : Step) (e : refusal s x ≡ 0) where
  pub in_its_form : in_form x ≡ true
  unfolding refusal
  in_its_form = not-false _ (unmet _ (omega arith) e).0

  takes_stamp : eqb x.a 0 ≡ false → eqb s.next.0 limit ≡ false
      → (is_absent (look_up (its_train x) s.memo) && leb s.slots (length s.memo)) ≡ false → TakesStamp s (its_train x)
  takes_stamp a n r =
      record {
        a_train = omega (arith, eqb-false x.a 0 a);
        stamp_left = eqb-false s.next.0 limit n;
        slot_room = λ (q : look_up (its_train x) s.memo ≡ Absent). leb-false s.slots (length s.memo) (rw q at r);
      }

  pub accepted_report : x.kind ≡ 1 → AcceptedReport s x
  unfolding refusal overfull
  accepted_report k =
      let u = rw k at (unmet _ (omega arith) e) in
      let w = u.1.1.1.1 in
      record {
        form = in_its_form;
        stamped = takes_stamp u.1.0 w.1.0 w.1.1.1.0;
        proper = proper_box-holds _ (not-false _ (neither _ _ u.1.1.0).0);
        entry_room = leb-false _ _ w.1.1.0;
        rows_room = all_map (no_one_all _ s.boards (neither _ _ w.1.1.1.1.0).0) λ b h. ltb-false _ _ h;
      }

  pub accepted_withdrawal : x.kind ≡ 2 → AcceptedWithdrawal s x
  unfolding refusal
  accepted_withdrawal k =
      let u = rw k at (unmet _ (omega arith) e) in
      let w = u.1.1.1.1 in
      record { form = in_its_form; stamped = takes_stamp u.1.0 w.1.0 w.1.1.1.0 }

  pub accepted_opening : x.kind ≡ 5 → AcceptedOpening s x
  unfolding refusal
  accepted_opening k =
      let u = rw k at (unmet _ (omega arith) e) in
      let w = u.1.1.1.1 in
      record {
        form = in_its_form;
        board = leb-false _ _ u.1.1.1.0;
        shut = (neither _ _ w.0).0;
        proper = proper_window-holds _ (not-false _ u.1.1.0);
        rows_room = ltb-false _ _ w.1.1.1.1.0;
      }

  pub accepted_closing : x.kind ≡ 6 → AcceptedClosing s x
  unfolding refusal
  accepted_closing k =
      let u = rw k at (unmet _ (omega arith) e) in
      record { form = in_its_form; board = leb-false _ _ u.1.1.1.0; opened = not-false _ u.1.1.1.1.0 }
