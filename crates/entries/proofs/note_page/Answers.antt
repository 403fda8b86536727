use Rattle.entries.proofs.Pages.{page_skipped, page_done, entry_room, entry_broken, entry_passed}
use Rattle.entries.proofs.note_page.Goals as goal

pub returns-then-g : goal.returns-then-g
returns-then-g c = page_skipped c.requires.passing.0 c.requires.passing.1 c.pages.ensures c.page_at-g.ensures c.requires.before c.if-g.true

pub note_entry-requires-clause-room : goal.note_entry-requires-clause-room
note_entry-requires-clause-room c = entry_room c.requires.passing.0 c.requires.passing.1 c.pages.ensures c.page_at-g.ensures c.if-g.false c.used-e-items.ensures c.loop-e.invariant c.loop-e-test.true

pub returns-then-not-note_entry : goal.returns-then-not-note_entry
returns-then-not-note_entry c =
    entry_broken c.requires.passing.0 c.requires.passing.1 c.pages.ensures c.page_at-g.ensures c.if-g.false c.used-e-items.ensures c.loop-e.invariant c.loop-e-test.true c.next_stamp-next.ensures c.note_entry.ensures c.if-not-note_entry.true

pub loop-e-preserved : goal.loop-e-preserved
loop-e-preserved c =
    entry_passed c.requires.passing.0 c.requires.passing.1 c.pages.ensures c.page_at-g.ensures c.if-g.false c.used-e-items.ensures c.loop-e.invariant c.loop-e-test.true c.next_stamp-next.ensures c.note_entry.ensures c.if-not-note_entry.false

pub returns : goal.returns
returns c = page_done c.requires.passing.0 c.requires.passing.1 c.pages.ensures c.page_at-g.ensures c.if-g.false c.used-e-items.ensures c.loop-e.invariant c.loop-e-test.false
