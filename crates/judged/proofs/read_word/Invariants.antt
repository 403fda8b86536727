-- The bytes from b's place on lead on to the word.
use Rattle.std.proofs.Common.{◌≡◌, drop}
use Rattle.judged.specs.Text.{word_from, word_of}
use Rattle.judged.proofs.read_word.Given as goal

abbrev pub invariant-loop-b : goal.invariant-loop-b
invariant-loop-b l = word_from l.word (drop l.b-index l.field) ≡ word_of l.field
