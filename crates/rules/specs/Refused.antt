-- The table of numbers as an enum, and the number and the value of each answer that is a result.
use Rattle.std.specs.Prelude.{ℕ, Result, Ok, Err}
use Rattle.rules.specs.declared.refusal.Refusal.{Refusal}
use Rattle.rules.specs.declared.refusal.Refusal.TheVariants.{SizesOutOfRange, NotLaidOut, NotSound, StepCut, AnswersLength, OutOfForm, NoTrain, NotProper, NoSuchBoard, OpenOrClosed, NoStampLeft, TooManyEntries, NoSlotLeft, TooManyRows, RowsTooShort}

abbrev pub number_of : Refusal → ℕ
number_of SizesOutOfRange = 1
number_of NotLaidOut = 2
number_of NotSound = 3
number_of StepCut = 4
number_of AnswersLength = 5
number_of OutOfForm = 6
number_of NoTrain = 7
number_of NotProper = 8
number_of NoSuchBoard = 9
number_of OpenOrClosed = 10
number_of NoStampLeft = 11
number_of TooManyEntries = 12
number_of NoSlotLeft = 13
number_of TooManyRows = 14
number_of RowsTooShort = 15

-- what a caller reads for each case: 0 for what is done, and a count, which a refusal leaves at 0
abbrev pub answer_number : {A : Type 0} → Result A Refusal → ℕ
answer_number (Ok x) = 0
answer_number (Err refusal) = number_of refusal

abbrev pub answer_count : Result ℕ Refusal → ℕ
answer_count (Ok count) = count
answer_count (Err refusal) = 0
