use Rattle.std.proofs.Common.{◌∙◌, sym, leb-true, leb-false}
use Rattle.entries.proofs.Whole.{never, so_known, so_passing, marks_broken, too_many, by_noted}
use Rattle.entries.proofs.entries_sound.Goals as goal
use Rattle.entries.proofs.entries_sound.Goals.{then-marks_fine, else-marks_fine}

pub noted_sound-requires : goal.noted_sound-requires
noted_sound-requires c =
    let known = so_known _ c.requires _ c.pages-p.ensures _ c.next_stamp-next.ensures in
    elim c.if-marks_fine.branch [
      | then-marks_fine w ↦ so_passing known c.of.ensures w.held_entries.ensures (leb-true _ _ (sym w.value-is ∙ c.if-held_entries-p.true))
      | else-marks_fine w ↦ never c.if-held_entries-p.true w.value-is w.if-marks_fine.false
    ]

pub returns-then-held_entries-p : goal.returns-then-held_entries-p
returns-then-held_entries-p c =
    let known = so_known _ c.requires _ c.pages-p.ensures _ c.next_stamp-next.ensures in
    elim c.if-marks_fine.branch [
      | then-marks_fine w ↦ by_noted known c.marks_fine.ensures w.if-marks_fine.true w.held_entries.ensures (leb-true _ _ (sym w.value-is ∙ c.if-held_entries-p.true)) c.noted_sound.ensures
      | else-marks_fine w ↦ never c.if-held_entries-p.true w.value-is w.if-marks_fine.false
    ]

pub returns-else-held_entries-p : goal.returns-else-held_entries-p
returns-else-held_entries-p c =
    let known = so_known _ c.requires _ c.pages-p.ensures _ c.next_stamp-next.ensures in
    elim c.if-marks_fine.branch [
      | then-marks_fine w ↦ c.if-held_entries-p.false ∙ too_many known c.marks_fine.ensures w.if-marks_fine.true w.held_entries.ensures (leb-false _ _ (sym w.value-is ∙ c.if-held_entries-p.false))
      | else-marks_fine w ↦ w.value-is ∙ marks_broken known c.marks_fine.ensures w.if-marks_fine.false
    ]
