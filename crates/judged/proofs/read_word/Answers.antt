use Rattle.std.proofs.Common.{rules, arith, refl}
use Rattle.judged.specs.Text.{word_of}
use Rattle.judged.proofs.Laws.{word_turn, word_end}
use Rattle.judged.proofs.read_word.Goals as goal

pub loop-b-init : goal.loop-b-init
unfolding word_of
loop-b-init c = refl

pub loop-b-preserved : goal.loop-b-preserved
loop-b-preserved c = word_turn _ _ _ c.loop-b.invariant c.loop-b-test.true _ (omega (arith, c.from.ensures))

pub returns : goal.returns
returns c = search (rules, word_end)
