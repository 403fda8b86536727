-- The examples of document 01, shown from the definitions by one statement over their list.
use Rattle.std.specs.Prelude.{ℕ, ◌≡◌, refl, Bool, true, eqb, length, set, replicate}
use Prim.Native.String.{String}
use mathlib.Core.List.{List, [], ◌∷◌, flat_map}
use Rattle.rules.specs.Lists.{all_of, every, same_words}
use Rattle.rules.specs.Store.{window_of}
use Rattle.rules.specs.Calls.{start, run_call, query_call, board_test, board_rows, rules_open}
use Rattle.rules.specs.Text.{Case, Line, ◌gives◌, numbers, answers_in, holds, text_open}

abbrev pub everywhere : String
everywhere = "0 0 1048575 1048575"

abbrev pub clean : String
clean = "3 0 0 0 0 0"

abbrev pub inspect : String
inspect = "4 0 0 0 0 0"

-- train 7 reported at a point, and its row
abbrev pub report_7 : String
report_7 = "1 7 5 5 5 5"

abbrev pub row_7 : String
row_7 = "7 5 5 5 5"

abbrev pub case : String → List Line → List String → String → List String → Case
case sizes lines slots window rows = record { sizes = sizes; lines = lines; slots = slots; window = window; rows = rows }

-- ---- the marked ones
-- fresh: query empty
abbrev pub fresh_empty : Case
fresh_empty = case "4 8 1" [] [] everywhere []

-- report 7, inspect: 0 freed (stamp 1, mark 1)
abbrev pub nothing_freed : Case
nothing_freed = case "4 8 1" (report_7 gives "0 0" ∷ inspect gives "0 0" ∷ []) ("7 1 1" ∷ []) everywhere (row_7 ∷ [])

-- clean, inspect: 1 freed
abbrev pub one_freed : Case
one_freed =
    case "4 8 1" (report_7 gives "0 0" ∷ inspect gives "0 0" ∷ clean gives "0 0" ∷ inspect gives "0 1" ∷ []) [] everywhere (row_7 ∷ [])

-- withdraw 5 in a fresh store: 0 and slot (5, 1, 1)
abbrev pub unseen_withdrawn : Case
unseen_withdrawn = case "4 8 1" ("2 5 0 0 0 0" gives "0 0" ∷ []) ("5 1 1" ∷ []) everywhere []

-- report 7, withdraw 7: slot (7, 2, 2)
abbrev pub withdrawn : Case
withdrawn = case "4 8 1" (report_7 gives "0 0" ∷ "2 7 0 0 0 0" gives "0 0" ∷ []) ("7 2 2" ∷ []) everywhere []

-- clean removes 1, slot (7, 2, 1)
abbrev pub withdrawn_cleaned : Case
withdrawn_cleaned =
    case "4 8 1" (report_7 gives "0 0" ∷ "2 7 0 0 0 0" gives "0 0" ∷ clean gives "0 1" ∷ []) ("7 2 1" ∷ []) everywhere []

-- P = 1: report 7 three times, fourth gives 12
abbrev pub one_page_full : Case
one_page_full =
    case "1 8 0" (report_7 gives "0 0" ∷ report_7 gives "0 0" ∷ report_7 gives "0 0" ∷ report_7 gives "12 0" ∷ []) ("7 3 3" ∷ []) everywhere (row_7 ∷ [])

-- clean removes 2, slot (7, 3, 1)
abbrev pub one_page_cleaned : Case
one_page_cleaned =
    case "1 8 0" (report_7 gives "0 0" ∷ report_7 gives "0 0" ∷ report_7 gives "0 0" ∷ report_7 gives "12 0" ∷ clean gives "0 2" ∷ []) ("7 3 1" ∷ []) everywhere (row_7 ∷ [])

-- report accepted
abbrev pub one_page_again : Case
one_page_again =
    case "1 8 0" (report_7 gives "0 0" ∷ report_7 gives "0 0" ∷ report_7 gives "0 0" ∷ report_7 gives "12 0" ∷ clean gives "0 2" ∷ report_7 gives "0 0" ∷ []) ("7 4 2" ∷ []) everywhere (row_7 ∷ [])

-- K = 1: report 7, report 9 gives 13, report 7 gives 0
abbrev pub one_slot : Case
one_slot =
    case "4 1 0" (report_7 gives "0 0" ∷ "1 9 5 5 5 5" gives "13 0" ∷ report_7 gives "0 0" ∷ []) ("7 2 2" ∷ []) everywhere (row_7 ∷ [])

-- box 5, 5, 4, 5 gives 8
abbrev pub improper_box : Case
improper_box = case "4 8 1" ("1 7 5 5 4 5" gives "8 0" ∷ []) [] everywhere []

-- a point on a window's corner is listed: on each of the four, but not a metre off one
abbrev pub on_corners : Case
on_corners =
    case "4 8 1" ("1 1 100 100 100 100" gives "0 0" ∷ "1 2 200 100 200 100" gives "0 0" ∷ "1 3 100 200 100 200" gives "0 0" ∷ "1 4 200 200 200 200" gives "0 0" ∷ "1 5 201 200 201 200" gives "0 0" ∷ []) ("1 1 1" ∷ "2 2 1" ∷ "3 3 1" ∷ "4 4 1" ∷ "5 5 1" ∷ []) "100 100 200 200" ("1 100 100 100 100" ∷ "2 200 100 200 100" ∷ "3 100 200 100 200" ∷ "4 200 200 200 200" ∷ [])

-- train 0 with a bad box gives 7
abbrev pub train_0 : Case
train_0 = case "4 8 1" ("1 0 5 5 4 5" gives "7 0" ∷ []) [] everywhere []

unfoldable pub marked : List Case
marked =
    fresh_empty
    ∷ nothing_freed
    ∷ one_freed
    ∷ unseen_withdrawn
    ∷ withdrawn
    ∷ withdrawn_cleaned
    ∷ one_page_full
    ∷ one_page_cleaned
    ∷ one_page_again
    ∷ one_slot
    ∷ improper_box
    ∷ on_corners
    ∷ train_0
    ∷ []

pub marked_hold : every holds marked ≡ true
unfolding marked rules_open text_open
marked_hold = refl

-- ---- the others that are worked
-- P = 3: nine reports stand, a tenth gives 12
abbrev pub nine_stand : Case
nine_stand =
    case "3 16 0" ("1 1 10 0 10 0" gives "0 0" ∷ "1 2 20 0 20 0" gives "0 0" ∷ "1 3 30 0 30 0" gives "0 0" ∷ "1 4 40 0 40 0" gives "0 0" ∷ "1 5 50 0 50 0" gives "0 0" ∷ "1 6 60 0 60 0" gives "0 0" ∷ "1 7 70 0 70 0" gives "0 0" ∷ "1 8 80 0 80 0" gives "0 0" ∷ "1 9 90 0 90 0" gives "0 0" ∷ "1 10 5 5 5 5" gives "12 0" ∷ []) ("1 1 1" ∷ "2 2 1" ∷ "3 3 1" ∷ "4 4 1" ∷ "5 5 1" ∷ "6 6 1" ∷ "7 7 1" ∷ "8 8 1" ∷ "9 9 1" ∷ []) "35 0 55 9" ("4 40 0 40 0" ∷ "5 50 0 50 0" ∷ [])

-- a 16-row board takes a new box of a listed train, but not a seventeenth train
abbrev pub full_board : Case
full_board =
    case "9 20 1" ("5 0 0 0 100 100" gives "0 0" ∷ "1 1 1 1 1 1" gives "0 1" ∷ "1 2 2 2 2 2" gives "0 1" ∷ "1 3 3 3 3 3" gives "0 1" ∷ "1 4 4 4 4 4" gives "0 1" ∷ "1 5 5 5 5 5" gives "0 1" ∷ "1 6 6 6 6 6" gives "0 1" ∷ "1 7 7 7 7 7" gives "0 1" ∷ "1 8 8 8 8 8" gives "0 1" ∷ "1 9 9 9 9 9" gives "0 1" ∷ "1 10 10 10 10 10" gives "0 1" ∷ "1 11 11 11 11 11" gives "0 1" ∷ "1 12 12 12 12 12" gives "0 1" ∷ "1 13 13 13 13 13" gives "0 1" ∷ "1 14 14 14 14 14" gives "0 1" ∷ "1 15 15 15 15 15" gives "0 1" ∷ "1 16 16 16 16 16" gives "0 1" ∷ "1 17 50 50 50 50" gives "14 0" ∷ "1 3 60 60 70 70" gives "0 1" ∷ "1 17 101 50 101 50" gives "0 0" ∷ "1 3 101 101 101 101" gives "0 1" ∷ "1 17 50 50 50 50" gives "0 1" ∷ []) ("1 1 1" ∷ "2 2 1" ∷ "3 19 3" ∷ "4 4 1" ∷ "5 5 1" ∷ "6 6 1" ∷ "7 7 1" ∷ "8 8 1" ∷ "9 9 1" ∷ "10 10 1" ∷ "11 11 1" ∷ "12 12 1" ∷ "13 13 1" ∷ "14 14 1" ∷ "15 15 1" ∷ "16 16 1" ∷ "17 20 2" ∷ []) "0 0 100 100" ("1 1 1 1 1" ∷ "2 2 2 2 2" ∷ "4 4 4 4 4" ∷ "5 5 5 5 5" ∷ "6 6 6 6 6" ∷ "7 7 7 7 7" ∷ "8 8 8 8 8" ∷ "9 9 9 9 9" ∷ "10 10 10 10 10" ∷ "11 11 11 11 11" ∷ "12 12 12 12 12" ∷ "13 13 13 13 13" ∷ "14 14 14 14 14" ∷ "15 15 15 15 15" ∷ "16 16 16 16 16" ∷ "17 50 50 50 50" ∷ [])

-- the program's example
abbrev pub of_the_program : Case
of_the_program =
    case "4 8 1" ("5 0 100 100 200 200" gives "0 0" ∷ "1 7 150 150 160 150" gives "0 1" ∷ "1 9 300 300 300 300" gives "0 0" ∷ "1 7 210 150 220 150" gives "0 1" ∷ clean gives "0 1" ∷ inspect gives "0 2" ∷ "1 9 200 200 200 200" gives "0 1" ∷ []) ("9 4 1" ∷ []) "100 100 200 200" ("9 200 200 200 200" ∷ [])

-- ---- the shortcuts that bring old trains back: what is right where each of them goes wrong
-- inspect frees below the smallest mark only: report 7, clean, report 7, inspect
abbrev pub inspected_below : Case
inspected_below =
    case "4 8 1" (report_7 gives "0 0" ∷ clean gives "0 0" ∷ "1 7 9 9 9 9" gives "0 0" ∷ inspect gives "0 0" ∷ []) ("7 2 2" ∷ []) everywhere ("7 9 9 9 9" ∷ [])

-- the second half of a split keeps the mark: its obsolete entries still need their slots
abbrev pub split_keeps_mark : Case
split_keeps_mark =
    case "4 16 0" ("1 1 10 0 10 0" gives "0 0" ∷ "1 2 20 0 20 0" gives "0 0" ∷ "1 3 30 0 30 0" gives "0 0" ∷ "1 4 40 0 40 0" gives "0 0" ∷ "1 5 50 0 50 0" gives "0 0" ∷ "1 6 60 0 60 0" gives "0 0" ∷ "1 7 70 0 70 0" gives "0 0" ∷ "1 8 80 0 80 0" gives "0 0" ∷ "1 8 500 0 500 0" gives "0 0" ∷ clean gives "0 0" ∷ inspect gives "0 0" ∷ []) ("1 1 1" ∷ "2 2 1" ∷ "3 3 1" ∷ "4 4 1" ∷ "5 5 1" ∷ "6 6 1" ∷ "7 7 1" ∷ "8 9 2" ∷ []) everywhere ("1 10 0 10 0" ∷ "2 20 0 20 0" ∷ "3 30 0 30 0" ∷ "4 40 0 40 0" ∷ "5 50 0 50 0" ∷ "6 60 0 60 0" ∷ "7 70 0 70 0" ∷ "8 500 0 500 0" ∷ [])

-- a slot is freed at old count 0, not 1: the withdrawn train stays away
abbrev pub freed_at_0 : Case
freed_at_0 =
    case "4 8 0" (report_7 gives "0 0" ∷ "1 7 6 6 6 6" gives "0 0" ∷ clean gives "0 1" ∷ "2 7 0 0 0 0" gives "0 0" ∷ clean gives "0 1" ∷ []) ("7 3 1" ∷ []) everywhere []

-- a row is dropped wherever the new box is
abbrev pub dropped_anyway : Case
dropped_anyway =
    case "4 8 1" ("5 0 0 0 10 10" gives "0 0" ∷ report_7 gives "0 1" ∷ "1 7 90 90 90 90" gives "0 1" ∷ []) ("7 2 2" ∷ []) "0 0 10 10" []

unfoldable pub others : List Case
others =
    nine_stand ∷ full_board ∷ of_the_program ∷ inspected_below ∷ split_keeps_mark ∷ freed_at_0 ∷ dropped_anyway ∷ []

pub others_hold : every holds others ≡ true
unfolding others rules_open text_open
others_hold = refl

-- ---- the calls, on slices of sevens and the program's example: what each answers and leaves, done and refused
abbrev pub sevens : ℕ → List ℕ
sevens n = replicate n 7

unfoldable pub refused_with : ℕ → List ℕ → Bool
refused_with n store =
    let r = run_call store [] [] in
    all_of (eqb r.number n ∷ same_words r.store store ∷ eqb (board_test store 0) n ∷ eqb (length (board_rows store 0)) 0 ∷ [])

unfoldable pub calls_right : Bool
calls_right =
    let begun = start 4 8 1 (sevens 334) in
    let six = flat_map (λ l. numbers l.six) of_the_program.lines in
    let ran = run_call begun.store six (sevens 14) in
    let store = ran.store in
    let window = window_of (numbers "100 100 200 200") in
    let listed = query_call store window (sevens 7) in
    let unlisted = query_call store window (sevens 4) in
    all_of
    (same_words (start 193 8 1 (sevens 3)).store (sevens 3)
    ∷ eqb (start 193 8 1 (sevens 3)).number 1
    ∷ eqb (start 4 8 1 (sevens 333)).number 2
    ∷ eqb begun.number 0
    ∷ eqb ran.number 0
    ∷ same_words ran.answers (answers_in of_the_program.lines)
    ∷ eqb (run_call store (sevens 41) (sevens 14)).number 4
    ∷ eqb (run_call store six (sevens 13)).number 5
    ∷ same_words (run_call store six (sevens 13)).answers (sevens 13)
    ∷ eqb listed.number 0
    ∷ eqb listed.count 1
    ∷ same_words listed.rows (numbers "9 200 200 200 200 7 7")
    ∷ eqb unlisted.number 15
    ∷ same_words unlisted.rows (sevens 4)
    ∷ eqb (query_call store (window_of (numbers "5 5 4 5")) []).number 8
    ∷ eqb (board_test store 0) 0
    ∷ same_words (board_rows store 0) (numbers "9 200 200 200 200")
    ∷ eqb (board_test store 1) 9
    ∷ eqb (board_test begun.store 0) 10
    ∷ refused_with 2 (sevens 15)
    ∷ refused_with 1 (set store 5 0)
    ∷ refused_with 2 (set store 10 1)
    ∷ refused_with 3 (set store 1 0)
    ∷ refused_with 3 (set store 2 4)
    ∷ refused_with 3 (set store 3 2)
    ∷ refused_with 3 (set store 16 2)
    ∷ refused_with 3 (set store 17 9)
    ∷ refused_with 3 (set store 18 0)
    ∷ refused_with 3 (set store 19 1)
    ∷ refused_with 3 (set store 24 0)
    ∷ refused_with 3 (set store 25 99)
    ∷ refused_with 3 (set store 68 1)
    ∷ refused_with 3 (set store 225 99)
    ∷ refused_with 3 (set store 226 0)
    ∷ refused_with 3 (set store 227 1)
    ∷ refused_with 3 (set store 252 2)
    ∷ refused_with 3 (set store 253 0)
    ∷ refused_with 3 (set store 333 1)
    ∷ [])

pub calls_hold : calls_right ≡ true
unfolding calls_right refused_with rules_open text_open
calls_hold = refl
