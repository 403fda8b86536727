-- Opening and closing a board, where they are accepted: the store stays sound, and nothing but that board changes.
use Rattle.std.specs.Prelude.{ℕ, ◌<◌, ◌≡◌, true, length, set}
use Rattle.std.proofs.Common.{arith}
use Rattle.std.proofs.Math.Path.{refl}
use Rattle.std.proofs.Math.ListN.{length-set}
use Rattle.std.proofs.Math.Seq.{get_or-set_same, get_or-set_other}
use Rattle.rules.specs.Store.{Board, Store, closed, board_at}
use Rattle.rules.specs.Live.{held, live, rows_in}
use Rattle.rules.specs.Tree.{tree_of}
use Rattle.rules.specs.Boards.{opened}
use Rattle.rules.specs.Sound.{obsolete_of, sound}
use Rattle.rules.specs.declared.Step.{Step}
use Rattle.rules.specs.Steps.{its_window, with_parts, refusal, open_board, close_board}
use Rattle.rules.specs.Views.{BoardInRange, OpenBoard, sound-holds, sound_test}
use Rattle.rules.specs.laws.All.{all_map, all_set}
use Rattle.theorems.specs.TreeSound.{tree_of-sound, tree_kept}
use Rattle.theorems.specs.Accepted.{accepted_opening, accepted_closing}

-- u is s but for its board i, which is b
pub record OnlyBoard (s : Store) (i : ℕ) (b : Board) (u : Store) : Type 0 where
  pub next : u.next ≡ s.next
  pub tree : tree_of u ≡ tree_of s
  pub slots : u.slots ≡ s.slots
  pub memo : u.memo ≡ s.memo
  pub held : held u ≡ held s
  pub live : live u ≡ live s
  pub long : length u.boards ≡ length s.boards
  pub there : board_at u i ≡ b
  pub others : (j : ℕ) → (j ≡ i → ⊥) → board_at u j ≡ board_at s j

-- ---- another board in the place of one
module _ (s : Store) (i : ℕ) (b : Board) where
  -- the store with it
  abbrev replaced : Store
  replaced = with_parts s s.next (tree_of s) s.memo (set s.boards i b)

  only_board : i < length s.boards → OnlyBoard s i b replaced
  unfolding held live board_at
  only_board h =
      record {
        next = refl;
        tree = refl;
        slots = refl;
        memo = refl;
        held = refl;
        live = refl;
        long = length-set s.boards i b;
        there = get_or-set_same s.boards i b closed h;
        others = λ j d. get_or-set_other s.boards i j b closed d;
      }

  -- sound, if the board is in range and, where it is open, shows what a query gives
  replaced-sound : sound s ≡ true → BoardInRange b → (b.isopen ≡ 1 → OpenBoard s b) → sound replaced ≡ true
  unfolding held obsolete_of rows_in
  replaced-sound e r o =
      let S = sound-holds s e in
      let T = tree_kept s s.next s.memo (set s.boards i b) (tree_of-sound s e) in
      sound_test replaced
      (record {
        ranges =
            record {
              sizes = omega (arith, length-set s.boards i b, S.ranges.sizes);
              header = omega (arith, S.ranges.header);
              pages = S.ranges.pages;
              entries = S.ranges.entries;
              memo = S.ranges.memo;
              boards = all_set S.ranges.boards i r;
            };
        rule1 = T.rule1;
        rule2 = T.rule2;
        rule3 = T.rule3;
        rule4 = record { held_most = S.rule4.held_most; apart = S.rule4.apart; stamps = S.rule4.stamps };
        rule5 = record { one_latest = S.rule5.one_latest; none_above = S.rule5.none_above };
        rule6 =
            record {
              slots =
                  all_map S.rule6.slots λ m h.
                  record { stamp_least = h.stamp_least; stamp_below = h.stamp_below; old_least = h.old_least; old_counts = h.old_counts; old_most = h.old_most };
            };
        rule7 =
            record {
              marks =
                  all_map S.rule7.marks λ g m.
                  record {
                    leaf = λ k. let l = m.leaf k in record { mark_least = l.mark_least; mark_most = l.mark_most; obsolete = l.obsolete };
                    inner = m.inner;
                  };
            };
        rule8 = record { boards = all_map (all_set S.rule8.boards i o) λ c h q. let z = h q in record { proper = z.proper; exact = z.exact } };
      })

-- ---- opening: the board has the window and the rows of a query of it
module _ (s : Store) (x : Step) (k : x.kind ≡ 5) (a : refusal s x ≡ 0) where
  pub open_only : OnlyBoard s x.a (opened (its_window x) (rows_in s (its_window x))) (open_board s x).store
  unfolding open_board
  open_only = only_board s x.a (opened (its_window x) (rows_in s (its_window x))) (accepted_opening s x a k).board

  pub open_sound : sound s ≡ true → sound (open_board s x).store ≡ true
  unfolding open_board
  open_sound e =
      let w = accepted_opening s x a k in
      replaced-sound s x.a (opened (its_window x) (rows_in s (its_window x))) e
      (record { open_most = omega arith; rows_most = w.rows_room; shut = λ (z : 1 ≡ 0). absurd (omega arith) })
      (λ q. record { proper = w.proper; exact = refl })

-- ---- closing: the board is zero throughout
module _ (s : Store) (x : Step) (k : x.kind ≡ 6) (a : refusal s x ≡ 0) where
  pub close_only : OnlyBoard s x.a closed (close_board s x).store
  unfolding close_board
  close_only = only_board s x.a closed (accepted_closing s x a k).board

  pub close_sound : sound s ≡ true → sound (close_board s x).store ≡ true
  unfolding close_board
  close_sound e =
      replaced-sound s x.a closed e
      (record { open_most = omega arith; rows_most = omega arith; shut = λ z. refl })
      (λ (z : 0 ≡ 1). absurd (omega arith))

-- ---- the counts they write: the rows that the opened board has, and 0
pub open_count : (s : Store) (x : Step) → (open_board s x).count ≡ length (rows_in s (its_window x))
unfolding open_board
open_count s x = refl

pub close_count : (s : Store) (x : Step) → (close_board s x).count ≡ 0
unfolding close_board
close_count s x = refl
