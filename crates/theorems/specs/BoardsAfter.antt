-- The boards after a report or a withdrawal: which of them change, how many the step counts, and what open ones show.
use Rattle.std.specs.Prelude.{ℕ, ◌≡◌, refl, true, false, ◌&&◌, ◌||◌, List, map, length, get_or}
use Rattle.std.proofs.Common.{arith, sym, ◌∙◌, ap, eqb-true}
use Rattle.std.proofs.Math.ListN.{length-map, get_or-map}
use Rattle.rules.specs.Lists.{keep, count}
use Rattle.rules.specs.Boxes.{meets}
use Rattle.rules.specs.Store.{Board, Store, closed, board_at}
use Rattle.rules.specs.Live.{live, rows_in}
use Rattle.rules.specs.Boards.{is_open, lists, told, untold}
use Rattle.rules.specs.Sound.{sound}
use Rattle.rules.specs.declared.Step.{Step}
use Rattle.rules.specs.Steps.{its_train, reported_row, report, withdraw}
use Rattle.rules.specs.Views.{OpenBoard, sound-holds}
use Rattle.rules.specs.laws.All.{all_anywhere}
use Rattle.rules.specs.laws.Rows.{told_same, untold_same}
use Rattle.rules.specs.laws.Boards.{told-closed, untold-closed, touched-told}
use Rattle.theorems.specs.Told.{rows_shown}

-- ---- in a sound store an open board has the rows of a query of its window, which are the rows of the live list that meet it
pub record Shown (s : Store) (b : Board) : Type 0 where
  pub rows : b.rows ≡ rows_in s b.window
  pub live : b.rows ≡ keep (λ r. meets r.bounds b.window) (live s)

pub open_shown : (s : Store) → sound s ≡ true → (j : ℕ) → is_open (board_at s j) ≡ true → Shown s (board_at s j)
unfolding board_at
open_shown s e j o =
    let S = sound-holds s e in
    let B : OpenBoard s (board_at s j) = all_anywhere S.rule8.boards j closed (λ (z : 0 ≡ 1). absurd (omega arith)) (eqb-true _ _ o) in
    record { rows = B.exact; live = B.exact ∙ rows_shown s S.rule5 (board_at s j).window }

-- a board after all have been told
told_at : (tell : Board → Board) → tell closed ≡ closed → (bs : List Board) (j : ℕ) → get_or (map tell bs) j closed ≡ tell (get_or bs j closed)
told_at tell e bs j = ap (get_or (map tell bs) j) (sym e) ∙ get_or-map tell bs j closed

module _ (s : Store) (x : Step) where
  -- ---- a report
  pub report_board : (j : ℕ) → board_at (report s x).store j ≡ told (reported_row x) (board_at s j)
  unfolding board_at report
  report_board j = told_at (told (reported_row x)) (told-closed (reported_row x) closed refl) s.boards j

  pub report_boards_long : length (report s x).store.boards ≡ length s.boards
  unfolding report
  report_boards_long = length-map s.boards (told (reported_row x))

  -- a board that lists the train neither before nor after is unchanged
  pub report_elsewhere : (j : ℕ) → lists (its_train x) (board_at s j) ≡ false → lists (its_train x) (board_at (report s x).store j) ≡ false
      → board_at (report s x).store j ≡ board_at s j
  report_elsewhere j h k =
      report_board j ∙ told_same (reported_row x) (board_at s j) h (ap (lists (its_train x)) (sym (report_board j)) ∙ k)

  -- the count is that of the open boards that list the train before or after
  pub report-count : (report s x).count ≡ count (λ b. is_open b && (lists (its_train x) b || lists (its_train x) (told (reported_row x) b))) s.boards
  unfolding report
  report-count = touched-told (its_train x) (told (reported_row x)) s.boards

  -- ---- a withdrawal
  pub withdraw_board : (j : ℕ) → board_at (withdraw s x).store j ≡ untold (its_train x) (board_at s j)
  unfolding board_at withdraw
  withdraw_board j = told_at (untold (its_train x)) (untold-closed (its_train x) closed refl) s.boards j

  pub withdraw_boards_long : length (withdraw s x).store.boards ≡ length s.boards
  unfolding withdraw
  withdraw_boards_long = length-map s.boards (untold (its_train x))

  -- a board that doesn't list the train is unchanged
  pub withdraw_elsewhere : (j : ℕ) → lists (its_train x) (board_at s j) ≡ false → board_at (withdraw s x).store j ≡ board_at s j
  withdraw_elsewhere j h = withdraw_board j ∙ untold_same (its_train x) (board_at s j) h

  pub withdraw-count : (withdraw s x).count ≡ count (λ b. is_open b && (lists (its_train x) b || lists (its_train x) (untold (its_train x) b))) s.boards
  unfolding withdraw
  withdraw-count = touched-told (its_train x) (untold (its_train x)) s.boards
