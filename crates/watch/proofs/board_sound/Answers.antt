use Rattle.std.proofs.Common.{◌∙◌, sym}
use Rattle.watch.proofs.Laws.{window_off}
use Rattle.watch.proofs.board_sound.Goals as goal

pub returns-then-not-proper_window : goal.returns-then-not-proper_window
returns-then-not-proper_window c =
    window_off _ _ (sym c.is_open.ensures ∙ c.if-not-is_open.false) (rw c.window-w.ensures at (sym c.proper_window.ensures ∙ c.if-not-proper_window.true))
