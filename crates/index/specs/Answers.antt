-- What a query's answer says by the table of numbers, and that each call's promise settles its outcome.
use Rattle.std.specs.Prelude.{ℕ, zero, suc, ◌≡◌, refl, List, [], ◌∷◌, get_or, Result, Ok, Err}
use Rattle.std.proofs.Common.{arith, sym, ◌∙◌, ap}
use Rattle.rules.specs.declared.Window.{Window}
use Rattle.rules.specs.declared.refusal.Refusal.{Refusal}
use Rattle.rules.specs.declared.refusal.Refusal.TheVariants.{SizesOutOfRange, NotLaidOut, NotSound, StepCut, AnswersLength, OutOfForm, NoTrain, NotProper, NoSuchBoard, OpenOrClosed, NoStampLeft, TooManyEntries, NoSlotLeft, TooManyRows, RowsTooShort}
use Rattle.rules.specs.Refused.{number_of, answer_number, answer_count}
use Rattle.rules.specs.Calls.{Started, RunCall, QueryCall, start, run_call, query_call, board_test, board_rows}
use Rattle.steps.specs.Refusals.{numbered, number_settles}

-- the refusals in the order of the table, from number 1 on
abbrev pub table : List Refusal
table =
    SizesOutOfRange ∷ NotLaidOut ∷ NotSound ∷ StepCut ∷ AnswersLength ∷ OutOfForm ∷ NoTrain ∷ NotProper ∷ NoSuchBoard
    ∷ OpenOrClosed ∷ NoStampLeft ∷ TooManyEntries ∷ NoSlotLeft ∷ TooManyRows ∷ RowsTooShort ∷ []

-- the case for a number and a count: only what is not done is refused
abbrev pub answer_for : ℕ → ℕ → Result ℕ Refusal
answer_for zero n = Ok n
answer_for (suc m) n = Err (get_or table m RowsTooShort)

pub refused_for : (e : Refusal) (n : ℕ) → Err e ≡ answer_for (number_of e) n
refused_for e n = grind arith

-- what a query promises of its answer and of what the row slice holds after it
pub record Answered (call : QueryCall) (r : Result ℕ Refusal) (rows : List ℕ) : Type 0 where
  pub said : call ≡ record { number = answer_number r; count = answer_count r; rows = rows }
  pub by_case : r ≡ answer_for call.number call.count

-- ---- two outcomes that a promise allows are equal
abbrev Done : Type 0
Done = Result (Unit {0}) Refusal

same_answer : (r r' : Done) → answer_number r ≡ answer_number r' → r ≡ r'
same_answer (Ok x) (Ok y) e = refl
same_answer (Ok x) (Err f) e = absurd (numbered f (sym e))
same_answer (Err f) (Ok y) e = absurd (numbered f e)
same_answer (Err f) (Err g) e = ap Err (number_settles f g e)

pub start-settled : (p k b : ℕ) (w : List ℕ) (r r' : Done) (v v' : List ℕ) → start p k b w ≡ record { number = answer_number r; store = v }
    → start p k b w ≡ record { number = answer_number r'; store = v' } → (r ≡ r') × (v ≡ v')
start-settled p k b w r r' v v' e f =
    let g : ◌≡◌ {A = Started} (record { number = answer_number r; store = v }) (record { number = answer_number r'; store = v' }) = sym e ∙ f in
    (same_answer r r' (ap (λ c. c.number) g), ap (λ c. c.store) g)

pub run_settled : (w steps answers : List ℕ) (r r' : Done) (v v' a a' : List ℕ) → run_call w steps answers ≡ record { number = answer_number r; store = v; answers = a }
    → run_call w steps answers ≡ record { number = answer_number r'; store = v'; answers = a' } → (r ≡ r') × (v ≡ v') × (a ≡ a')
run_settled w steps answers r r' v v' a a' e f =
    let g : ◌≡◌ {A = RunCall} (record { number = answer_number r; store = v; answers = a }) (record { number = answer_number r'; store = v'; answers = a' }) = sym e ∙ f in
    (same_answer r r' (ap (λ c. c.number) g), ap (λ c. c.store) g, ap (λ c. c.answers) g)

pub query_settled : (w : List ℕ) (window : Window) (rows : List ℕ) (r r' : Result ℕ Refusal) (v v' : List ℕ)
    → Answered (query_call w window rows) r v → Answered (query_call w window rows) r' v' → (r ≡ r') × (v ≡ v')
query_settled w window rows r r' v v' a b = (a.by_case ∙ sym b.by_case, ap (λ c. c.rows) (sym a.said ∙ b.said))

pub test_settled : (w : List ℕ) (i : ℕ) (r r' : Done) → answer_number r ≡ board_test w i → answer_number r' ≡ board_test w i → r ≡ r'
test_settled w i r r' e f = same_answer r r' (e ∙ sym f)

pub rows_settled : (w : List ℕ) (i : ℕ) (v v' : List ℕ) → v ≡ board_rows w i → v' ≡ board_rows w i → v ≡ v'
rows_settled w i v v' e f = e ∙ sym f
