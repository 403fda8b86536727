-- Laws of boxes that meet a window.
use Rattle.std.specs.Prelude.{◌≡◌, true}
use native.Mathlib.Omega.{arith}
use Rattle.rules.specs.declared.Box.{Box}
use Rattle.rules.specs.declared.Window.{Window}
use Rattle.rules.specs.Boxes.{meets}
use Rattle.rules.specs.Views.{meets-holds, meets_test}
use Rattle.rules.specs.laws.Boxes.{Within}

-- what meets a box meets every wider one
pub meets_wider : (a b : Box) (w : Window) → Within a b → meets a w ≡ true → meets b w ≡ true
meets_wider a b w h e = let m = meets-holds a w e in meets_test b w (omega arith)
