use Rattle.std.proofs.Common.{rules}
use Rattle.parts.proofs.Memo.{memo_lent, memo_noted}
use Rattle.parts.proofs.note.Goals as goal

pub note-requires-clause-memo_words : goal.note-requires-clause-memo_words
note-requires-clause-memo_words c = search (rules, memo_lent)

pub returns : goal.returns
returns c = search (rules, memo_noted)
