use Rattle.std.proofs.Common.{◌∙◌, sym, ap}
use Rattle.rules.specs.Lists.{distinct}
use Rattle.entries.proofs.Whole.{never, entry_broken, stamps_equal, keys_equal, by_slots}
use Rattle.entries.proofs.noted_sound.Goals as goal
use Rattle.entries.proofs.noted_sound.Goals.{then-note_pages, else-note_pages, then-are_distinct, else-are_distinct}

pub returns-then-are_distinct-2 : goal.returns-then-are_distinct-2
returns-then-are_distinct-2 c =
    elim c.if-are_distinct.branch [
      | then-are_distinct w ↦ elim c.if-note_pages.branch [
        | then-note_pages u ↦ by_slots c.requires c.note_pages.ensures u.if-note_pages.true
            (u.are_distinct.ensures ∙ ap distinct u.as_mut_slice.ensures.value) (sym u.value-is ∙ w.if-are_distinct.true)
            (rw u.noted-is at (w.are_distinct-then-are_distinct.ensures ∙ ap distinct w.as_mut_slice-then-are_distinct.ensures.value)) (sym w.value-is ∙ c.if-are_distinct-2.true) _ c.next_stamp.ensures
            (rw (w.noted-is, u.noted-is) at c.slots_fine.ensures)
        | else-note_pages u ↦ never w.if-are_distinct.true u.value-is u.if-note_pages.false
      ]
      | else-are_distinct w ↦ never c.if-are_distinct-2.true w.value-is w.if-are_distinct.false
    ]

pub returns-else-are_distinct-2 : goal.returns-else-are_distinct-2
returns-else-are_distinct-2 c =
    elim c.if-are_distinct.branch [
      | then-are_distinct w ↦ elim c.if-note_pages.branch [
        | then-note_pages u ↦ w.value-is ∙ keys_equal c.requires c.note_pages.ensures u.if-note_pages.true
            (u.are_distinct.ensures ∙ ap distinct u.as_mut_slice.ensures.value) (sym u.value-is ∙ w.if-are_distinct.true)
            (rw u.noted-is at (w.are_distinct-then-are_distinct.ensures ∙ ap distinct w.as_mut_slice-then-are_distinct.ensures.value)) (sym w.value-is ∙ c.if-are_distinct-2.false)
        | else-note_pages u ↦ never w.if-are_distinct.true u.value-is u.if-note_pages.false
      ]
      | else-are_distinct w ↦ elim c.if-note_pages.branch [
        | then-note_pages u ↦ w.value-is ∙ u.value-is ∙ stamps_equal c.requires c.note_pages.ensures u.if-note_pages.true
            (u.are_distinct.ensures ∙ ap distinct u.as_mut_slice.ensures.value) (sym u.value-is ∙ w.if-are_distinct.false)
        | else-note_pages u ↦ w.value-is ∙ u.value-is ∙ entry_broken c.requires c.note_pages.ensures u.if-note_pages.false
      ]
    ]
