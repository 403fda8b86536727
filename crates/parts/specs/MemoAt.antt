-- Where the memo's own words stand in the words of a store, to be read or written there.
use Rattle.std.specs.Prelude.{ℕ, ◌+◌, ◌*◌, ◌≤◌, ◌≡◌, List, length, get_or}
use Rattle.std.proofs.Common.{arith, refl}
use Rattle.rules.specs.Store.{memo_start, boards_start}
use Rattle.rules.specs.laws.Placed.{Placed, most_words, memo_room, pages_most, slots_most}

-- the words of the memo are those from word `from` up to word `to`; no store has more than 15,824 words
pub record MemoAt (v : List ℕ) (from to : ℕ) : Type 0 where
  pub starts : from ≡ memo_start (get_or v 5 0)
  pub ends : to ≡ from + 3 * get_or v 7 0
  pub room : to ≤ length v
  pub low : to ≤ most_words

pub memo_placed : (v : List ℕ) → Placed v → MemoAt v (memo_start (get_or v 5 0)) (boards_start (get_or v 5 0) (get_or v 7 0))
unfolding memo_start boards_start
memo_placed v h =
    record {
      starts = refl;
      ends = refl;
      room = memo_room v h (get_or v 5 0) refl (get_or v 7 0) refl (memo_start (get_or v 5 0)) refl;
      low = omega (arith, pages_most v h (get_or v 5 0) refl, slots_most v h (get_or v 5 0) refl (get_or v 7 0) refl);
    }
