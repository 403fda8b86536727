-- Words 0 to 15 of a store's words: what each of those that a call reads says of the store.
use Rattle.std.specs.Prelude.{◌≡◌, length, get_or}
use Rattle.std.proofs.Math.Path.{refl}
use Rattle.rules.specs.Lists.{padded}
use Rattle.rules.specs.Store.{Store, stamp, page_no, header_words, words}

module _ (s : Store) where
  pub next_there : stamp (get_or (words s) 1 0) ≡ s.next
  unfolding words header_words padded
  next_there = refl

  pub root_there : page_no (get_or (words s) 2 0) ≡ s.root
  unfolding words header_words padded
  root_there = refl

  pub levels_there : get_or (words s) 3 0 ≡ s.levels
  unfolding words header_words padded
  levels_there = refl

  pub pages_there : get_or (words s) 5 0 ≡ length s.pages
  unfolding words header_words padded
  pages_there = refl

  pub slots_there : get_or (words s) 7 0 ≡ s.slots
  unfolding words header_words padded
  slots_there = refl

  pub boards_there : get_or (words s) 9 0 ≡ length s.boards
  unfolding words header_words padded
  boards_there = refl
