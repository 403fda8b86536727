-- The fields that are left decide, and give the words that are left.
use Rattle.text.proofs.Lines.{Scanning, split_left}
use Rattle.text.proofs.numbers.Given as goal

abbrev pub invariant-loop-word : goal.invariant-loop-word
invariant-loop-word l = Scanning l.line l.initial.out l.out (split_left l.fields) l.word-index
