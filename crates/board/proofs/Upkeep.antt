-- What a place, a report and a withdrawal come to in a board's words. Assumes nothing.
use Rattle.std.specs.Prelude.{Result, Ok, Err}
use Prim.Native.Nat.{ℕ, ◌≤◌, ◌<◌}
use native.Mathlib.Omega.{arith}
use mathlib.Core.Path.{◌≡◌, sym, ap, ◌∙◌}
use mathlib.Core.Bool.{Bool, true, false}
use mathlib.Core.List.{List}
use lib.ListN.{length, set}
use borrow.Author.Tests.{lt-ltb, le-ltb}
use Rattle.rules.specs.declared.Train.{Train}
use Rattle.rules.specs.declared.Window.{Window}
use Rattle.rules.specs.declared.Row.{Row}
use Rattle.rules.specs.Lists.{without}
use Rattle.rules.specs.Boxes.{meets}
use Rattle.rules.specs.Store.{row_limit, board_words, board_of}
use Rattle.rules.specs.Live.{row_inserted, row_removed}
use Rattle.rules.specs.Boards.{is_open, lists, with_rows, told, untold, overfull}
use Rattle.rules.specs.laws.Rows.{RowsAscend, told-closed, told_met, told_missed, untold-closed, untold_open, removed_fewer}
use Rattle.board.specs.Rows.{BoardWords, Became, put, row_place, is_listed, removed_at}
use Rattle.board.specs.Laws.{listed_there, removed_there, listed_inside, unlisted_inside, listed_set, unlisted_put, listed_length, unlisted_length, told-most}

-- ---- the place that was found
module _ (w : List ℕ) (t : Train) (p : Result ℕ ℕ) (its : p ≡ row_place t (board_of w).rows) (i : ℕ) where
  pub listed_here : p ≡ Ok i → i < length (board_of w).rows
  listed_here e = listed_inside t (board_of w).rows i (sym its ∙ e)

  pub unlisted_here : p ≡ Err i → i ≤ length (board_of w).rows
  unlisted_here e = unlisted_inside t (board_of w).rows i (sym its ∙ e)

  module _ (ascend : RowsAscend (board_of w).rows) where
    pub listed_true : p ≡ Ok i → true ≡ lists t (board_of w)
    unfolding is_listed
    listed_true e = ap is_listed (sym e ∙ its) ∙ sym (listed_there t (board_of w) ascend)

    pub unlisted_false : p ≡ Err i → false ≡ lists t (board_of w)
    unfolding is_listed
    unlisted_false e = ap is_listed (sym e ∙ its) ∙ sym (listed_there t (board_of w) ascend)

    removed : row_removed t (board_of w).rows ≡ removed_at p (board_of w).rows
    removed = removed_there t ascend ∙ ap (λ q. removed_at q (board_of w).rows) (sym its)

    pub listed_removed : (u : List ℕ) → p ≡ Ok i → Became w (without (board_of w).rows i) u → u ≡ board_words (with_rows (row_removed t (board_of w).rows) (board_of w))
    unfolding removed_at
    listed_removed u e new = rw (removed, e) new.written

    pub unlisted_removed : BoardWords w → p ≡ Err i → w ≡ board_words (with_rows (row_removed t (board_of w).rows) (board_of w))
    unfolding removed_at
    unlisted_removed is e = sym (rw (removed, e) is.same)

module _ (w : List ℕ) (r : Row) (p : Result ℕ ℕ) (its : p ≡ row_place r.train (board_of w).rows) (i : ℕ) where
  pub listed_inserted : (u : List ℕ) → p ≡ Ok i → Became w (set (board_of w).rows i r) u → u ≡ board_words (with_rows (row_inserted r (board_of w).rows) (board_of w))
  listed_inserted u e new = rw (listed_set r (board_of w).rows i (sym its ∙ e)) new.written

  pub unlisted_inserted : (u : List ℕ) → p ≡ Err i → Became w (put (board_of w).rows i r) u → u ≡ board_words (with_rows (row_inserted r (board_of w).rows) (board_of w))
  unlisted_inserted u e new = rw (unlisted_put r (board_of w).rows i (sym its ∙ e)) new.written

  pub unlisted_room : p ≡ Err i → length (row_inserted r (board_of w).rows) ≤ row_limit → length (board_of w).rows < row_limit
  unlisted_room e h = omega (arith, unlisted_length r (board_of w).rows i (sym its ∙ e))

-- ---- a report
module _ (w : List ℕ) (r : Row) where
  pub few_rows : (n : ℕ) → n ≡ length (board_of w).rows → n < row_limit → false ≡ overfull r (board_of w)
  unfolding overfull
  few_rows n e h = sym (le-ltb row_limit (length (told r (board_of w)).rows) (omega (arith, told-most r (board_of w))))

  module _ (o : Bool) (its : o ≡ is_open (board_of w)) where
    pub closed-told : BoardWords w → o ≡ false → w ≡ board_words (told r (board_of w))
    closed-told is e = sym (rw (told-closed r (board_of w) (sym its ∙ e)) is.same)

    pub closed_full : BoardWords w → o ≡ false → false ≡ overfull r (board_of w)
    unfolding overfull
    closed_full is e = rw (told-closed r (board_of w) (sym its ∙ e)) (sym (le-ltb row_limit _ is.few))

    module _ (e : o ≡ true) (v : Window) (sees : v ≡ (board_of w).window) (m : Bool) (met : m ≡ meets r.bounds v) where
      its_test : meets r.bounds (board_of w).window ≡ m
      its_test = sym (met ∙ ap (meets r.bounds) sees)

      inserts : m ≡ true → told r (board_of w) ≡ with_rows (row_inserted r (board_of w).rows) (board_of w)
      inserts q = told_met r (board_of w) (sym its ∙ e) (its_test ∙ q)

      removes : m ≡ false → told r (board_of w) ≡ with_rows (row_removed r.train (board_of w).rows) (board_of w)
      removes q = told_missed r (board_of w) (sym its ∙ e) (its_test ∙ q)

      pub met_fits : m ≡ true → length (told r (board_of w)).rows ≤ row_limit → length (row_inserted r (board_of w).rows) ≤ row_limit
      met_fits q h = rw (inserts q) at h

      pub met_told : (u : List ℕ) → m ≡ true → u ≡ board_words (with_rows (row_inserted r (board_of w).rows) (board_of w)) → u ≡ board_words (told r (board_of w))
      met_told u q h = rw (inserts q) h

      pub missed_told : (u : List ℕ) → m ≡ false → u ≡ board_words (with_rows (row_removed r.train (board_of w).rows) (board_of w)) → u ≡ board_words (told r (board_of w))
      missed_told u q h = rw (removes q) h

      pub missed_full : BoardWords w → m ≡ false → false ≡ overfull r (board_of w)
      unfolding overfull
      missed_full is q =
          let few = is.few in
          rw (removes q) (sym (le-ltb row_limit (length (row_removed r.train (board_of w).rows)) (omega (arith, removed_fewer r.train (board_of w).rows))))

      module _ (q : m ≡ true) (p : Result ℕ ℕ) (there : p ≡ row_place r.train (board_of w).rows) (i : ℕ) where
        pub listed_full : BoardWords w → p ≡ Ok i → false ≡ overfull r (board_of w)
        unfolding overfull
        listed_full is l =
            let few = is.few in
            rw (inserts q) (sym (le-ltb row_limit (length (row_inserted r (board_of w).rows)) (omega (arith, listed_length r (board_of w).rows i (sym there ∙ l)))))

        pub unlisted_full : (n : ℕ) → n ≡ length (board_of w).rows → row_limit ≤ n → p ≡ Err i → true ≡ overfull r (board_of w)
        unfolding overfull
        unlisted_full n k h l =
            rw (inserts q) (sym (lt-ltb row_limit (length (row_inserted r (board_of w).rows)) (omega (arith, unlisted_length r (board_of w).rows i (sym there ∙ l)))))

-- ---- a withdrawal
module _ (w : List ℕ) (t : Train) (o : Bool) (its : o ≡ is_open (board_of w)) where
  pub closed_untold : BoardWords w → o ≡ false → w ≡ board_words (untold t (board_of w))
  closed_untold is e = sym (rw (untold-closed t (board_of w) (sym its ∙ e)) is.same)

  pub open_untold : (u : List ℕ) → o ≡ true → u ≡ board_words (with_rows (row_removed t (board_of w).rows) (board_of w)) → u ≡ board_words (untold t (board_of w))
  open_untold u e h = rw (untold_open t (board_of w) (sym its ∙ e)) h
