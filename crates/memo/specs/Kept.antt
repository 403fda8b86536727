-- What a view keeps of its words, as one fact.
use Rattle.rules.specs.Views.{memo_in_range-holds}
use Rattle.memo.specs.declared.view.Memo.{Memo}
use Rattle.memo.specs.Slots.{MemoWords}

pub its_words : (m : Memo) → MemoWords m.words.now
its_words m = record { whole = m.whole; in_range = memo_in_range-holds _ _ m.in_range; written = m.written }
