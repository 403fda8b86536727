-- What a view of a tidy store keeps, as one fact; and its tests, of words that are tidy. Assumes nothing.
use Rattle.std.proofs.Common.{ℕ, ◌≤◌, arith, ◌≡◌, true, List, length}
use Rattle.rules.specs.Calls.{sizes_read}
use Rattle.rules.specs.Views.{sizes_in_range_test, header_in_range_test, page_in_range_test, memo_in_range_test, board_in_range_test}
use Rattle.rules.specs.laws.All.{every_test}
use Rattle.rules.specs.laws.Lists.{same_words_self}
use Rattle.rules.specs.laws.Tests.{and_both, each_all_of, ◌also◌}
use Rattle.rules.specs.Lists.{same_words}
use Rattle.rules.specs.Store.{store_of, words}
use Rattle.tidy.specs.Tidy.{TidyWords, tidy}
use Rattle.tidy.specs.Laws.{laid_holds, tidy-holds}
use Rattle.walk.specs.declared.tidy_store.Tidy.{Tidy}

pub its_words : (t : Tidy) → TidyWords t.words.now
its_words t = tidy-holds t.words.now (laid_holds t.words.now t.sizes t.laid) t.tidy

pub header_there : (t : Tidy) → 16 ≤ length t.words.now
header_there t = let h = (its_words t).given.long in omega arith

module _ (w : List ℕ) (t : TidyWords w) where
  pub sizes_shown : sizes_read w ≡ true
  unfolding sizes_read
  sizes_shown = sizes_in_range_test _ _ _ t.given.sizes

  same_shown : same_words (words (store_of w)) w ≡ true
  same_shown = rw t.same (same_words_self w)

  pub tidy_shown : tidy w ≡ true
  unfolding tidy
  tidy_shown =
      and_both same_shown
      (each_all_of _
      (header_in_range_test _ t.header
      also every_test _ (page_in_range_test _) t.pages
      also memo_in_range_test _ _ t.memo
      also every_test _ board_in_range_test t.boards
      also tt))
