-- What an accepted step writes, one part after the other, is its effect. Assumes nothing.
use Prim.Native.Nat.{ℕ, ◌+◌, ◌≤◌, ◌<◌}
use native.Mathlib.Omega.{arith}
use native.Mathlib.Numerals.{add-one}
use mathlib.Core.Path.{◌≡◌, refl, sym, ◌∙◌, ap, subst}
use mathlib.Core.Bool.{true, false, ◌&&◌, ◌||◌}
use mathlib.Core.List.{List, map}
use mir.Syntax.{w32}
use mir.Val.{Fits as Number}
use lib.Dec.{leb}
use lib.ListN.{length, get_or, set, take}
use borrow.Author.Tests.{lt-leb, le-ltb}
use Rattle.rules.specs.declared.Train.{Train}
use Rattle.rules.specs.declared.Stamp.{Stamp}
use Rattle.rules.specs.declared.Box.{Box}
use Rattle.rules.specs.declared.Window.{Window}
use Rattle.rules.specs.declared.Entry.{Entry}
use Rattle.rules.specs.declared.Row.{Row}
use Rattle.rules.specs.declared.LookUp.{LookUp}
use Rattle.rules.specs.declared.LookUp.TheVariants.{Absent, Found as At}
use Rattle.rules.specs.Lists.{some_one}
use Rattle.rules.specs.Store.{Board, Store, limit, stamp, closed, store_of}
use Rattle.rules.specs.Memo.{look_up, is_absent, noted}
use Rattle.rules.specs.Tree.{Tree, tree_of, put_at}
use Rattle.rules.specs.Cleaning.{smallest_mark}
use Rattle.rules.specs.Boards.{is_open, lists, told, untold, overfull, touched, opened}
use Rattle.rules.specs.Sound.{sound, sound_words}
use Rattle.rules.specs.Steps.{report, withdraw, inspect, open_board, close_board}
use Rattle.rules.specs.Views.{ProperBox, sound-holds}
use Rattle.rules.specs.laws.All.{All, all_map}
use Rattle.rules.specs.laws.Counts.{count_left}
use Rattle.rules.specs.laws.Boards.{touched-told}
use Rattle.rules.specs.laws.Rows.{no_one}
use Rattle.rules.specs.laws.Parts.{with_memo, with_boards, with_header}
use Rattle.theorems.specs.Accepted.{TakesStamp, AcceptedReport}
use Rattle.theorems.specs.Stamped.{stamped}
use Rattle.tree.specs.Putting.{Grown, with_tree}
use Rattle.query.specs.Keys.{row_of_key, Found}
use Rattle.parts.specs.InOrder.{Lent, Became}
use Rattle.parts.specs.Promises.{no_slot_left, Freed, ToldAll}
use Rattle.parts.specs.Laws.{became_lent, became_then, next_became, grown_became}
use Rattle.steps.specs.Orders.{report_step, withdraw_step, open_step, close_step}
use Rattle.steps.specs.Stepping.{sound_given, Effected, StampTaken}

-- what is lent is sound
pub sound_lent_store : (w : List ℕ) → sound_words w ≡ true → sound (store_of w) ≡ true
sound_lent_store w e = (sound_given w e _ refl).sound

-- ---- the next stamp is taken and noted
module _ (w : List ℕ) (e : sound_words w ≡ true) where
  -- no old count is the largest number: a slot's is at most its stamp, which is below the next
  pub old_below : All (λ m. m.old < limit) (store_of w).memo
  old_below =
      let S = sound-holds (store_of w) (sound_lent_store w e) in
      all_map S.rule6.slots λ m k. omega (arith, k.old_most, k.stamp_below, S.ranges.header.next_most)

  module _ (t : Train) (h : TakesStamp (store_of w) t) where
    pub slot_there : no_slot_left (store_of w) t ≡ false
    slot_there = go (look_up t (store_of w).memo) refl
      where
        go : (f : LookUp) → look_up t (store_of w).memo ≡ f → (is_absent f && leb (store_of w).slots (length (store_of w).memo)) ≡ false
        go Absent q = lt-leb _ _ (h.slot_room q)
        go (At place latest old) q = refl

    module _ (r : Stamp) (read : r ≡ stamp (get_or w 1 0)) where
      next_read : r ≡ (store_of w).next
      unfolding store_of
      next_read = read

      pub next_fits : Number w32 (r.0 + 1)
      next_fits =
          let S = sound-holds (store_of w) (sound_lent_store w e) in
          let d : r.0 ≡ limit → ⊥ = λ q. h.stamp_left (ap (λ z. z.0) (sym next_read) ∙ q) in
          record { fits = omega (arith, S.ranges.header.next_most, ap (λ z. z.0) next_read) }

      pub stamp-taken : (w₁ w₂ : List ℕ) → Became (with_memo (store_of w) (noted t r (store_of w).memo)) w₁ → w₂ ≡ set w₁ 1 (r.0 + 1)
          → StampTaken (store_of w) t w₂ r
      stamp-taken w₁ w₂ b q =
          record {
            became = rw (← next_read, ← add-one r.0) (became_then (λ s. with_header s (stamp (r.0 + 1)) s.root s.levels) b (next_became (stamp (r.0 + 1)) (became_lent b) q));
            taken = next_read;
          }

-- ---- the boards told, and those counted that list the train
few_boards : (t : Train) (tell : Board → Board) (bs : List Board) → length bs ≤ 32 → (n : ℕ) → n ≡ touched t bs (map tell bs) → Number w32 n
few_boards t tell bs h n e =
    record { fits = omega (arith, touched-told t tell bs, count_left (λ b. is_open b && (lists t b || lists t (tell b))) bs) }

told_then : {s : Store} {w w' : List ℕ} {n : ℕ} (tell : Board → Board) (t : Train) → Became s w → ToldAll tell t (store_of w) w' n → ToldAll tell t s w' n
told_then tell t a b = rw a.stored at b

-- ---- a report
module _ (w : List ℕ) (t : Train) (b : Box) (e : sound_words w ≡ true) (allowed : AcceptedReport (store_of w) (report_step t b)) (w₁ : List ℕ) (r : Stamp) (h : StampTaken (store_of w) t w₁ r) where
  abbrev s : Store
  s = store_of w

  same_levels : (store_of w₁).levels ≡ s.levels
  same_levels = ap (λ u. u.levels) h.became.stored

  pub levels_least : 1 ≤ (store_of w₁).levels
  levels_least = omega (arith, same_levels, (sound-holds s (sound_lent_store w e)).ranges.header.levels_least)

  pub levels_most : (store_of w₁).levels < limit
  levels_most = omega (arith, same_levels, (sound-holds s (sound_lent_store w e)).ranges.header.levels_most)

  pub put_proper : ProperBox b
  put_proper = allowed.proper

  -- the entry that is put in, and the row that the boards are told of
  abbrev entry : Stamp → Entry
  entry z = record { bounds = b; key = t.0; stamp = z }

  abbrev row : Row
  row = record { train = t; bounds = b }

  -- the boards find the store in order, whatever was put in
  module _ (u : Tree) (w₂ : List ℕ) (g : Grown (length (store_of w₁).pages) w₁ u w₂) where
    grown : Became (with_tree (store_of w₁) u) w₂
    grown = grown_became (became_lent h.became) g

    pub put_lent : Lent w₂
    put_lent = became_lent grown

    pub none_overfull : some_one (overfull row) (store_of w₂).boards ≡ false
    unfolding overfull
    none_overfull =
        let q : (store_of w₂).boards ≡ s.boards = ap (λ u. u.boards) grown.stored ∙ ap (λ u. u.boards) h.became.stored in
        rw q (no_one _ (all_map allowed.rows_room λ b k. le-ltb _ _ k))

    pub report_fits : (w₃ : List ℕ) (n : ℕ) → ToldAll (told row) t (store_of w₂) w₃ n → Number w32 n
    report_fits w₃ n c = few_boards t (told row) (store_of w₂).boards put_lent.order.sizes.boards_most n c.counted

  module _ (w₂ : List ℕ) (g : Grown (length (store_of w₁).pages) w₁ (put_at 1 (entry r) (tree_of (store_of w₁))) w₂) where
    abbrev taken : Store
    taken = stamped s t (tree_of s) s.boards

    put_became : Became (with_tree taken (put_at 1 (entry s.next) (tree_of s))) w₂
    put_became =
        subst (λ z. Became (with_tree taken (put_at 1 (entry z) (tree_of s))) w₂) h.taken
        (became_then (λ u. with_tree u (put_at 1 (entry r) (tree_of u))) h.became (grown_became (became_lent h.became) g))

    pub report-effect : (w₃ : List ℕ) (n : ℕ) → ToldAll (told row) t (store_of w₂) w₃ n → Effected (report s (report_step t b)) w₃ n
    unfolding report
    report-effect w₃ n c = told_then (told row) t put_became c

-- ---- a withdrawal
module _ (w : List ℕ) (t : Train) (w₁ : List ℕ) (r : Stamp) (h : StampTaken (store_of w) t w₁ r) (w₂ : List ℕ) (n : ℕ) (c : ToldAll (untold t) t (store_of w₁) w₂ n) where
  pub withdraw_fits : Number w32 n
  withdraw_fits = few_boards t (untold t) (store_of w₁).boards (became_lent h.became).order.sizes.boards_most n c.counted

  pub withdraw-effect : Effected (withdraw (store_of w) (withdraw_step t)) w₂ n
  unfolding withdraw
  withdraw-effect = told_then (untold t) t h.became c

-- ---- inspecting
module _ (w : List ℕ) (l : Lent w) (w' : List ℕ) (r : ℕ) (h : Freed (smallest_mark (store_of w).pages) (store_of w) w' r) where
  pub inspect_fits : Number w32 r
  inspect_fits = record { fits = omega (arith, h.counted, l.order.memo.used_most, l.order.sizes.slots_most) }

  pub inspect-effect : Effected (inspect (store_of w)) w' r
  unfolding inspect
  inspect-effect = h

-- ---- a board opened or closed
pub close_effect : (w : List ℕ) (i : ℕ) (w' : List ℕ) → Became (with_boards (store_of w) (set (store_of w).boards i closed)) w' → Effected (close_board (store_of w) (close_step i)) w' 0
unfolding close_board
close_effect w i w' b = record { became = b; counted = refl }

module _ (w : List ℕ) (i : ℕ) (v : Window) (keys work : List ℕ) (n : ℕ) (keys' work' : List ℕ) (f : Found (store_of w) v keys work n keys' work') where
  pub open_effect : (w' : List ℕ) → Became (with_boards (store_of w) (set (store_of w).boards i (opened v (map (row_of_key (store_of w).pages) (take n keys'))))) w'
      → Effected (open_board (store_of w) (open_step i v)) w' n
  unfolding open_board
  open_effect w' b = record { became = rw f.rows at b; counted = f.many }
