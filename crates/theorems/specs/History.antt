-- What a history says of each train: the steps of a run with the numbers that they were answered with, read from the steps and the answers
-- alone, and the last accepted report or withdrawal of a train among them.
use Rattle.std.specs.Prelude.{ℕ, Bool, cond, ◌&&◌, List, [], ◌∷◌, eqb, get_or, drop}
use Rattle.rules.specs.declared.Train.{Train}
use Rattle.rules.specs.declared.Box.{Box}
use Rattle.rules.specs.declared.Step.{Step}
use Rattle.rules.specs.Steps.{its_train, reported_box, is_report, is_withdraw}

-- a step and the number that it was answered with
pub record Answered : Type 0 where
  pub asked : Step
  pub number : ℕ

-- the answers have two words a step, of which the first is the number
unfoldable pub history : List Step → List ℕ → List Answered
history [] answers = []
history (x ∷ xs) answers = record { asked = x; number = get_or answers 0 0 } ∷ history xs (drop 2 answers)

-- ---- what is said of a train
pub data Said : Type 0 where
  nothing : Said
  withdrawn : Said
  reported : Box → Said

-- the step was accepted, and is of this train
unfoldable pub speaks_of : Train → Answered → Bool
speaks_of t a = eqb a.number 0 && eqb (its_train a.asked).0 t.0

-- by one step: only an accepted report or withdrawal of the train says anything of it
unfoldable pub says : Train → Answered → Said
says t a =
    cond (speaks_of t a && is_report a.asked) (reported (reported_box a.asked)) (cond (speaks_of t a && is_withdraw a.asked) withdrawn nothing)

-- what is said later stands
unfoldable pub unless_later : Said → Said → Said
unless_later nothing before = before
unless_later withdrawn before = withdrawn
unless_later (reported b) before = reported b

-- by all of them: what the last accepted report or withdrawal of the train says
unfoldable pub last_said : Train → List Answered → Said
last_said t [] = nothing
last_said t (a ∷ later) = unless_later (last_said t later) (says t a)
