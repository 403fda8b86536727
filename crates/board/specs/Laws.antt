-- Laws of a board's own words and of the place where a row stands among its rows.
use Rattle.std.specs.Prelude.{ℕ, Result, Ok, Err, suc, ◌+◌, ◌*◌, ◌≤◌, ◌<◌, ◌≡◌, refl, Bool, true, false, cond, List, [], ◌∷◌, eqb, ltb, length, take, drop, set}
use Rattle.std.proofs.Common.{arith, sym, ap, ◌∙◌, length-append, length-set, length-drop, length-take-le, ltb-true, ltb-false, eqb-true, lt-ltb, le-ltb, eq-eqb, ne_eqb}
use Rattle.std.proofs.lemmas.Bool.{eqb-false}
use Rattle.rules.specs.declared.Train.{Train}
use Rattle.rules.specs.declared.Row.{Row}
use Rattle.rules.specs.Lists.{without, keep, some_one}
use Rattle.rules.specs.Store.{Board, Store, row_limit, board_words, words, boards_start, board_at}
use Rattle.rules.specs.Live.{row_inserted, row_removed}
use Rattle.rules.specs.Boxes.{meets}
use Rattle.rules.specs.Boards.{is_open, lists, told}
use Rattle.rules.specs.laws.Tests.{either}
use Rattle.rules.specs.laws.All.{all_map}
use Rattle.rules.specs.laws.Kept.{keep_yes, keep_no}
use Rattle.rules.specs.laws.Words.{Fits, board_words-length, board_read}
use Rattle.rules.specs.laws.Parts.{board_words_there, board_fits}
use Rattle.rules.specs.laws.Rows.{RowsAscend, r_none, r_more, no_one, removed_absent, removed_fewer}
use Rattle.board.specs.Rows.{BoardWords, put, further, row_place, is_listed, inserted_at, removed_at}

-- ---- words
-- a board's words are such words (board-read says that they read back as the board), and so is its part of a store
pub board_is : (b : Board) → length b.rows ≤ row_limit → BoardWords (board_words b)
board_is b h =
    record { long = board_words-length b h; few = rw (board_read b h) h; same = ap board_words (board_read b h) }

pub board_lent : (s : Store) → Fits s → (i : ℕ) → i < length s.boards → BoardWords (take 86 (drop (boards_start (length s.pages) s.slots + 86 * i) (words s)))
board_lent s fits i h = rw (board_words_there s fits i h) (board_is (board_at s i) (board_fits s fits i h))

-- ---- the place
-- before the first row, at it, or further on
place-case : (P : Result ℕ ℕ → Type 0) (t : Train) (q : Row) (qs : List Row)
    → (t.0 < q.train.0 → P (Err 0)) → (t.0 ≡ q.train.0 → P (Ok 0))
    → (q.train.0 < t.0 → P (further (row_place t qs))) → P (row_place t (q ∷ qs))
unfolding row_place
place-case P t q qs below same above = go (ltb t.0 q.train.0) refl (eqb t.0 q.train.0) refl
  where
    go : (b : Bool) → ltb t.0 q.train.0 ≡ b → (c : Bool) → eqb t.0 q.train.0 ≡ c
        → P (cond b (Err 0) (cond c (Ok 0) (further (row_place t qs))))
    go true e c f = below (ltb-true _ _ e)
    go false e true f = same (eqb-true _ _ f)
    go false e false f = above (omega (arith, ltb-false, eqb-false))

-- inserting a row is putting it there
pub inserted_there : (r : Row) (rs : List Row) → row_inserted r rs ≡ inserted_at r (row_place r.train rs) rs
unfolding row_inserted row_place inserted_at put further
inserted_there r [] = refl
inserted_there r (q ∷ qs) =
    place-case (λ p. row_inserted r (q ∷ qs) ≡ inserted_at r p (q ∷ qs)) r.train q qs
    (λ e. rw (lt-ltb _ _ e))
    (λ e. rw (le-ltb r.train.0 q.train.0 (omega arith), eq-eqb _ _ e))
    (λ e. rw (le-ltb r.train.0 q.train.0 (omega arith), ne_eqb r.train.0 q.train.0 (omega arith)) (ap (λ l. q ∷ l) (inserted_there r qs) ∙ past (row_place r.train qs)))
  where
    past : (p : Result ℕ ℕ) → q ∷ inserted_at r p qs ≡ inserted_at r (further p) (q ∷ qs)
    past (Ok i) = refl
    past (Err i) = refl

-- removing a train's row, where rows ascend, is taking it from there
pub removed_there : (t : Train) {rs : List Row} → RowsAscend rs → row_removed t rs ≡ removed_at (row_place t rs) rs
unfolding row_place removed_at row_removed keep without further
removed_there t r_none = refl
removed_there t (r_more {r = q} {rs = qs} h a) =
    place-case (λ p. row_removed t (q ∷ qs) ≡ removed_at p (q ∷ qs)) t q qs
    (λ e. keep_yes _ q qs (rw (ne_eqb q.train.0 t.0 (omega arith))) ∙ ap (λ l. q ∷ l) (gone (omega arith)))
    (λ e. keep_no _ q qs (rw (eq-eqb q.train.0 t.0 (sym e))) ∙ gone (omega arith))
    (λ e. keep_yes _ q qs (rw (ne_eqb q.train.0 t.0 (omega arith))) ∙ ap (λ l. q ∷ l) (removed_there t a) ∙ past (row_place t qs))
  where
    gone : t.0 ≤ q.train.0 → row_removed t qs ≡ qs
    gone k = removed_absent t (all_map h λ r l. omega arith)

    past : (p : Result ℕ ℕ) → q ∷ removed_at p qs ≡ removed_at (further p) (q ∷ qs)
    past (Ok i) = refl
    past (Err i) = refl

-- and there it shows whether the train is listed
pub listed_there : (t : Train) (b : Board) → RowsAscend b.rows → lists t b ≡ is_listed (row_place t b.rows)
unfolding lists is_listed row_place further
listed_there t b a = go a
  where
    past : (p : Result ℕ ℕ) → is_listed p ≡ is_listed (further p)
    past (Ok i) = refl
    past (Err i) = refl

    go : {rs : List Row} → RowsAscend rs → some_one (λ r. eqb r.train.0 t.0) rs ≡ is_listed (row_place t rs)
    go r_none = refl
    go (r_more {r = q} {rs = qs} h a) =
        place-case (λ p. some_one (λ r. eqb r.train.0 t.0) (q ∷ qs) ≡ is_listed p) t q qs
        (λ e. rw (ne_eqb q.train.0 t.0 (omega arith)) (no_one _ (all_map h λ r l. ne_eqb r.train.0 t.0 (omega arith))))
        (λ e. rw (eq-eqb q.train.0 t.0 (sym e)))
        (λ e. rw (ne_eqb q.train.0 t.0 (omega arith)) (go a ∙ past (row_place t qs)))

-- it is no further than behind the last row
abbrev Within : Result ℕ ℕ → ℕ → Type 0
Within (Ok i) n = i < n
Within (Err i) n = i ≤ n

place_within : (t : Train) (rs : List Row) → Within (row_place t rs) (length rs)
unfolding row_place further
place_within t [] = omega arith
place_within t (q ∷ qs) =
    place-case (λ p. Within p (suc (length qs))) t q qs (λ e. omega arith) (λ e. omega arith) (λ e. past (row_place t qs) (place_within t qs))
  where
    past : (p : Result ℕ ℕ) → Within p (length qs) → Within (further p) (suc (length qs))
    past (Ok i) h = omega arith
    past (Err i) h = omega arith

pub put-length : {A : Type 0} (xs : List A) (i : ℕ) (x : A) → i ≤ length xs → length (put xs i x) ≡ length xs + 1
unfolding put
put-length xs i x h = let e = length-take-le i xs h in simp (length-append, length-drop) (omega arith)

-- the same of a place that was found
module _ (t : Train) (rs : List Row) (i : ℕ) where
  pub listed_inside : row_place t rs ≡ Ok i → i < length rs
  listed_inside e = rw e at (place_within t rs)

  pub unlisted_inside : row_place t rs ≡ Err i → i ≤ length rs
  unlisted_inside e = rw e at (place_within t rs)

module _ (r : Row) (rs : List Row) (i : ℕ) where
  pub listed_set : row_place r.train rs ≡ Ok i → row_inserted r rs ≡ set rs i r
  unfolding inserted_at
  listed_set e = rw e at (inserted_there r rs)

  pub unlisted_put : row_place r.train rs ≡ Err i → row_inserted r rs ≡ put rs i r
  unfolding inserted_at
  unlisted_put e = rw e at (inserted_there r rs)

  -- so a row more is needed only where the train has none
  pub listed_length : row_place r.train rs ≡ Ok i → length (row_inserted r rs) ≡ length rs
  listed_length e = rw (listed_set e) (length-set rs i r)

  pub unlisted_length : row_place r.train rs ≡ Err i → length (row_inserted r rs) ≡ length rs + 1
  unlisted_length e = rw (unlisted_put e) (put-length rs i r (unlisted_inside r.train rs i e))

-- a report needs at most one row more
inserted-most : (r : Row) (rs : List Row) → length (row_inserted r rs) ≤ length rs + 1
inserted-most r rs = go (row_place r.train rs) refl
  where
    go : (p : Result ℕ ℕ) → row_place r.train rs ≡ p → length (row_inserted r rs) ≤ length rs + 1
    go (Ok i) e = omega (arith, listed_length r rs i e)
    go (Err i) e = omega (arith, unlisted_length r rs i e)

pub told-most : (r : Row) (b : Board) → length (told r b).rows ≤ length b.rows + 1
unfolding told
told-most r b =
    either (λ (c : Board). length c.rows ≤ length b.rows + 1) (is_open b)
    (λ o. either (λ (rs : List Row). length rs ≤ length b.rows + 1) (meets r.bounds b.window) (λ m. inserted-most r b.rows) (λ m. omega (arith, removed_fewer r.train b.rows)))
    (λ o. omega arith)
