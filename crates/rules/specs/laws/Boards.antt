-- Laws of boards that are told of a report or a withdrawal: closed ones, the number of rows, and how many are touched.
use Rattle.std.specs.Prelude.{◌≤◌, ◌+◌, ◌≡◌, refl, false, ◌&&◌, ◌||◌, List, [], ◌∷◌, map, length}
use Rattle.std.proofs.Common.{arith, ap}
use Rattle.rules.specs.declared.Train.{Train}
use Rattle.rules.specs.declared.Row.{Row}
use Rattle.rules.specs.Lists.{count, one_if}
use Rattle.rules.specs.Store.{Board}
use Rattle.rules.specs.Live.{row_removed}
use Rattle.rules.specs.Boards.{is_open, lists, told, untold, touched}
use Rattle.rules.specs.laws.Tests.{either}
use Rattle.rules.specs.laws.Kept.{keep_fewer}

-- a closed board is told nothing
pub told-closed : (r : Row) (b : Board) → is_open b ≡ false → told r b ≡ b
unfolding told
told-closed r b o = rw o

pub untold-closed : (t : Train) (b : Board) → is_open b ≡ false → untold t b ≡ b
unfolding untold
untold-closed t b o = rw o

-- and a withdrawal adds no row
pub untold_fewer : (t : Train) (b : Board) → length (untold t b).rows ≤ length b.rows
unfolding untold row_removed
untold_fewer t b = either (λ (c : Board). length c.rows ≤ length b.rows) (is_open b) (λ o. keep_fewer _ b.rows) (λ o. omega arith)

-- what `touched` counts, where each board is told by the same rule
pub touched-told : (t : Train) (tell : Board → Board) (bs : List Board) → touched t bs (map tell bs) ≡ count (λ b. is_open b && (lists t b || lists t (tell b))) bs
unfolding touched count
touched-told t tell [] = refl
touched-told t tell (b ∷ bs) = ap (λ n. one_if (is_open b && (lists t b || lists t (tell b))) + n) (touched-told t tell bs)
