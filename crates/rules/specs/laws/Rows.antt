-- Laws of rows: they ascend by train, so two lists of rows with the same members are the same list; and what inserting, removing and
-- keeping do to them.
use Rattle.std.specs.Prelude.{ℕ, ◌<◌, ◌≤◌, ◌≡◌, refl, Bool, true, false, cond, ◌&&◌, ◌||◌, List, [], ◌∷◌, map, eqb, ltb, length}
use Rattle.std.proofs.Common.{arith, sym, ◌∙◌, ap, ap₂, true≢false, ltb-true, ltb-false, eqb-true, eq-eqb, ne_eqb}
use Rattle.std.proofs.Math.Bool.{or-true}
use mathlib.Core.List.Memᴰ
use mathlib.Core.List.Permᴰ
use mathlib.Core.List.{Permᴰ}
use Rattle.std.proofs.lemmas.Bool.{eqb-false, not-true}
use Rattle.rules.specs.declared.Train.{Train}
use Rattle.rules.specs.declared.Entry.{Entry}
use Rattle.rules.specs.declared.Row.{Row}
use Rattle.rules.specs.Lists.{keep, put_if, some_one}
use Rattle.rules.specs.Boxes.{meets}
use Rattle.rules.specs.Store.{Board, train_of}
use Rattle.rules.specs.Live.{row_inserted, row_removed, row_for, rows_of}
use Rattle.rules.specs.Boards.{is_open, lists, with_rows, told, untold}
use Rattle.rules.specs.laws.Tests.{either}
use Rattle.rules.specs.laws.All.{All, none, more, all_map, all_kept, Mem, all_members, all_unmapped, all_member, all_mapped}
use Rattle.rules.specs.laws.Lists.{Distinct, d_more}
use Rattle.rules.specs.laws.Order.{distinct_reordered, map_reordered, mem_reordered}
use Rattle.rules.specs.laws.Kept.{keep_all, keep_fewer, keep_no, keep_swap, keep_yes}

-- ---- each train is below the next
abbrev pub Above : ℕ → List Row → Type 0
Above t rs = All (λ r. t < r.train.0) rs

lower : {t u : ℕ} {rs : List Row} → t ≤ u → Above u rs → Above t rs
lower h a = all_map a λ r k. omega arith

before : (r q : Row) {qs : List Row} → r.train.0 < q.train.0 → Above q.train.0 qs → Above r.train.0 (q ∷ qs)
before r q e h = more e (lower (omega arith) h)

above_kept : (f : Row → Bool) {t : ℕ} {rs : List Row} → Above t rs → Above t (keep f rs)
above_kept f a = all_kept f (all_map a λ r h e. h)

pub data RowsAscend : List Row → Type 0 where
  r_none : RowsAscend []
  r_more : {r : Row} {rs : List Row} → Above r.train.0 rs → RowsAscend rs → RowsAscend (r ∷ rs)

-- where a row is inserted: before the first, in its place, or further on
inserted-case : (P : List Row → Type 0) (r q : Row) (qs : List Row)
    → (r.train.0 < q.train.0 → P (r ∷ q ∷ qs)) → (r.train.0 ≡ q.train.0 → P (r ∷ qs))
    → (q.train.0 < r.train.0 → P (q ∷ row_inserted r qs)) → P (row_inserted r (q ∷ qs))
unfolding row_inserted
inserted-case P r q qs below same above = go (ltb r.train.0 q.train.0) refl (eqb r.train.0 q.train.0) refl
  where
    go : (b : Bool) → ltb r.train.0 q.train.0 ≡ b → (c : Bool) → eqb r.train.0 q.train.0 ≡ c
        → P (cond b (r ∷ q ∷ qs) (cond c (r ∷ qs) (q ∷ row_inserted r qs)))
    go true e c f = below (ltb-true _ _ e)
    go false e true f = same (eqb-true _ _ f)
    go false e false f = above (omega (arith, ltb-false, eqb-false))

pub all_inserted : {P : Row → Type 0} (r : Row) {rs : List Row} → P r → All P rs → All P (row_inserted r rs)
unfolding row_inserted
all_inserted r h none = more h none
all_inserted {P = P} r h (more {x = q} {xs = qs} g a) =
    inserted-case (All P) r q qs (λ e. more h (more g a)) (λ e. more h a) (λ e. more g (all_inserted r h a))

pub inserted_ascend : (r : Row) {rs : List Row} → RowsAscend rs → RowsAscend (row_inserted r rs)
unfolding row_inserted
inserted_ascend r r_none = r_more none r_none
inserted_ascend r (r_more {r = q} {rs = qs} h a) =
    inserted-case RowsAscend r q qs
    (λ e. r_more (before r q e h) (r_more h a))
    (λ e. r_more (lower (omega arith) h) a)
    (λ e. r_more (all_inserted r e h) (inserted_ascend r a))

pub kept_ascend : (f : Row → Bool) {rs : List Row} → RowsAscend rs → RowsAscend (keep f rs)
unfolding keep
kept_ascend f r_none = r_none
kept_ascend f (r_more {r = q} {rs = qs} h a) = go (f q) (kept_ascend f a)
  where
    go : (b : Bool) → RowsAscend (keep f qs) → RowsAscend (put_if b q (keep f qs))
    go true k = r_more (above_kept f h) k
    go false k = k

pub removed_ascend : (t : Train) {rs : List Row} → RowsAscend rs → RowsAscend (row_removed t rs)
unfolding row_removed
removed_ascend t a = kept_ascend _ a

pub rows_of_ascend : (es : List Entry) → RowsAscend (rows_of es)
unfolding rows_of
rows_of_ascend [] = r_none
rows_of_ascend (e ∷ es) = inserted_ascend (row_for e) (rows_of_ascend es)

-- ---- two ascending lists of rows with the same members are the same list
same_first : {x y : Row} {xs ys : List Row} → Above x.train.0 xs → Above y.train.0 ys → Mem x (y ∷ ys) → Mem y (x ∷ xs) → x ≡ y
same_first a b (Memᴰ.head e) n = e
same_first a b (Memᴰ.tail m) (Memᴰ.head e) = sym e
same_first a b (Memᴰ.tail m) (Memᴰ.tail n) = absurd (omega (arith, all_member a n, all_member b m))

past_first : {r y : Row} {ys : List Row} → y.train.0 < r.train.0 → Mem r (y ∷ ys) → Mem r ys
past_first h (Memᴰ.head e) = absurd (omega (arith, ap (λ r. r.train.0) e))
past_first h (Memᴰ.tail m) = m

pub same_members : {xs ys : List Row} → RowsAscend xs → RowsAscend ys
    → ((r : Row) → Mem r xs → Mem r ys) → ((r : Row) → Mem r ys → Mem r xs) → xs ≡ ys
same_members r_none r_none f g = refl
same_members r_none (r_more {r = y} b d) f g = absurd (Memᴰ.not-nil (g y (Memᴰ.head refl)))
same_members (r_more {r = x} a c) r_none f g = absurd (Memᴰ.not-nil (f x (Memᴰ.head refl)))
same_members (r_more {r = x} a c) (r_more {r = y} b d) f g =
    let e : x ≡ y = same_first a b (f x (Memᴰ.head refl)) (g y (Memᴰ.head refl)) in
    let n : x.train.0 ≡ y.train.0 = ap (λ r. r.train.0) e in
    ap₂ (λ u v. u ∷ v) e
    (same_members c d
    (λ r m. past_first (omega (arith, n, all_member a m)) (f r (Memᴰ.tail m)))
    (λ r m. past_first (omega (arith, n, all_member b m)) (g r (Memᴰ.tail m))))

-- ---- a row inserted into, or a train removed from, the rows that pass a test
inserted-first : (r : Row) {rs : List Row} → Above r.train.0 rs → row_inserted r rs ≡ r ∷ rs
unfolding row_inserted
inserted-first r none = refl
inserted-first r (more {x = q} {xs = qs} h a) =
    inserted-case (λ l. l ≡ r ∷ q ∷ qs) r q qs (λ e. refl) (λ e. absurd (omega arith)) (λ e. absurd (omega arith))

inserted_same : (r q : Row) {qs : List Row} → r.train.0 ≡ q.train.0 → row_inserted r (q ∷ qs) ≡ r ∷ qs
inserted_same r q {qs = qs} h = inserted-case (λ l. l ≡ r ∷ qs) r q qs (λ e. absurd (omega arith)) (λ e. refl) (λ e. absurd (omega arith))

inserted_after : (r q : Row) (qs : List Row) → q.train.0 < r.train.0 → row_inserted r (q ∷ qs) ≡ q ∷ row_inserted r qs
inserted_after r q qs h =
    inserted-case (λ l. l ≡ q ∷ row_inserted r qs) r q qs (λ e. absurd (omega arith)) (λ e. absurd (omega arith)) (λ e. refl)

-- a train that no row has
pub removed_absent : (t : Train) {rs : List Row} → All (λ r. r.train.0 ≡ t.0 → ⊥) rs → row_removed t rs ≡ rs
unfolding row_removed
removed_absent t a = keep_all _ (all_map a λ r h. rw (ne_eqb _ _ h))

removed-above : (r : Row) {rs : List Row} → Above r.train.0 rs → row_removed r.train rs ≡ rs
removed-above r a = removed_absent r.train (all_map a λ q h. omega arith)

removed_same : (r q : Row) (qs : List Row) → r.train.0 ≡ q.train.0 → row_removed r.train (q ∷ qs) ≡ row_removed r.train qs
unfolding row_removed
removed_same r q qs e = keep_no _ q qs (rw (eq-eqb _ _ (sym e)))

removed_after : (r q : Row) (qs : List Row) → q.train.0 < r.train.0 → row_removed r.train (q ∷ qs) ≡ q ∷ row_removed r.train qs
unfolding row_removed
removed_after r q qs e = keep_yes _ q qs (rw (ne_eqb q.train.0 r.train.0 (omega arith)))

-- where the row passes, it is inserted into those that pass
pub keep-inserted : (f : Row → Bool) (r : Row) {rs : List Row} → f r ≡ true → RowsAscend rs
    → keep f (row_inserted r rs) ≡ row_inserted r (keep f rs)
unfolding row_inserted keep
keep-inserted f r p r_none = rw p
keep-inserted f r p (r_more {r = q} {rs = qs} h a) =
    inserted-case (λ l. keep f l ≡ row_inserted r (keep f (q ∷ qs))) r q qs
    (λ e. keep_yes f r (q ∷ qs) p ∙ sym (inserted-first r (above_kept f (before r q e h))))
    (λ e. keep_yes f r qs p ∙ same (f q) e)
    (λ e. after (f q) e (keep-inserted f r p a))
  where
    same : (b : Bool) → r.train.0 ≡ q.train.0 → r ∷ keep f qs ≡ row_inserted r (put_if b q (keep f qs))
    same true e = sym (inserted_same r q e)
    same false e = sym (inserted-first r (above_kept f (lower (omega arith) h)))

    after : (b : Bool) → q.train.0 < r.train.0 → keep f (row_inserted r qs) ≡ row_inserted r (keep f qs)
        → put_if b q (keep f (row_inserted r qs)) ≡ row_inserted r (put_if b q (keep f qs))
    after true e ih = ap (λ l. q ∷ l) ih ∙ sym (inserted_after r q _ e)
    after false e ih = ih

-- where it does not, its train is removed from them
pub keep-inserted-not : (f : Row → Bool) (r : Row) {rs : List Row} → f r ≡ false → RowsAscend rs
    → keep f (row_inserted r rs) ≡ row_removed r.train (keep f rs)
unfolding row_inserted keep row_removed
keep-inserted-not f r p r_none = rw p
keep-inserted-not f r p (r_more {r = q} {rs = qs} h a) =
    inserted-case (λ l. keep f l ≡ row_removed r.train (keep f (q ∷ qs))) r q qs
    (λ e. keep_no f r (q ∷ qs) p ∙ sym (removed-above r (above_kept f (before r q e h))))
    (λ e. keep_no f r qs p ∙ same (f q) e)
    (λ e. after (f q) e (keep-inserted-not f r p a))
  where
    same : (b : Bool) → r.train.0 ≡ q.train.0 → keep f qs ≡ row_removed r.train (put_if b q (keep f qs))
    same true e = sym (removed_same r q (keep f qs) e ∙ removed-above r (above_kept f (lower (omega arith) h)))
    same false e = sym (removed-above r (above_kept f (lower (omega arith) h)))

    after : (b : Bool) → q.train.0 < r.train.0 → keep f (row_inserted r qs) ≡ row_removed r.train (keep f qs)
        → put_if b q (keep f (row_inserted r qs)) ≡ row_removed r.train (put_if b q (keep f qs))
    after true e ih = ap (λ l. q ∷ l) ih ∙ sym (removed_after r q (keep f qs) e)
    after false e ih = ih

pub keep-removed : (f : Row → Bool) (t : Train) (rs : List Row) → keep f (row_removed t rs) ≡ row_removed t (keep f rs)
unfolding row_removed
keep-removed f t rs = keep_swap f _ rs

-- a row that is removed first is inserted all the same
pub inserted-removed : (r : Row) {rs : List Row} → RowsAscend rs → row_inserted r (row_removed r.train rs) ≡ row_inserted r rs
unfolding row_removed keep
inserted-removed r r_none = refl
inserted-removed r (r_more {r = q} {rs = qs} h a) =
    inserted-case (λ l. row_inserted r (row_removed r.train (q ∷ qs)) ≡ l) r q qs
    (λ e. let u = before r q e h in ap (row_inserted r) (removed-above r u) ∙ inserted-first r u)
    (λ e. let u = lower (omega arith) h in ap (row_inserted r) (removed_same r q qs e ∙ removed-above r u) ∙ inserted-first r u)
    (λ e. ap (row_inserted r) (removed_after r q qs e) ∙ inserted_after r q _ e ∙ ap (λ l. q ∷ l) (inserted-removed r a))

-- ---- the rows of entries whose trains are distinct
abbrev pub Apart : List Entry → Type 0
Apart es = Distinct (map (λ e. (train_of e).0) es)

pub first-apart : {x : ℕ} {xs : List ℕ} → Distinct (x ∷ xs) → All (λ y. y ≡ x → ⊥) xs
first-apart (d_more h d) = h

pub rest-apart : {x : ℕ} {xs : List ℕ} → Distinct (x ∷ xs) → Distinct xs
rest-apart (d_more h d) = d

pub apart_kept : (f : Entry → Bool) (es : List Entry) → Apart es → Apart (keep f es)
unfolding keep
apart_kept f [] d = d
apart_kept f (e ∷ es) d = go (f e) (apart_kept f es (rest-apart d))
  where
    go : (b : Bool) → Apart (keep f es) → Apart (put_if b e (keep f es))
    go true a = d_more (all_mapped _ (all_kept f (all_map (all_unmapped _ es (first-apart d)) λ x h p. h))) a
    go false a = a

pub all_rows_of : {P : Row → Type 0} {es : List Entry} → All (λ e. P (row_for e)) es → All P (rows_of es)
unfolding rows_of
all_rows_of none = none
all_rows_of (more {x = e} h a) = all_inserted (row_for e) h (all_rows_of a)

-- each row is the row of an entry
pub row_has_entry : {r : Row} (es : List Entry) → Mem r (rows_of es) → (e : Entry) × Mem e es × (row_for e ≡ r)
row_has_entry es m = all_member {P = λ r. (e : Entry) × Mem e es × (row_for e ≡ r)} (all_rows_of (all_members es λ e n. (e, n, refl))) m

pub inserted_member : (r : Row) (rs : List Row) → Mem r (row_inserted r rs)
unfolding row_inserted
inserted_member r [] = Memᴰ.head refl
inserted_member r (q ∷ qs) =
    inserted-case (Mem r) r q qs (λ e. Memᴰ.head refl) (λ e. Memᴰ.head refl) (λ e. Memᴰ.tail (inserted_member r qs))

pub inserted_keeps : (r : Row) {p : Row} {rs : List Row} → (p.train.0 ≡ r.train.0 → ⊥) → Mem p rs → Mem p (row_inserted r rs)
inserted_keeps r {p = p} n (Memᴰ.head {x = q} {xs = qs} e) =
    inserted-case (Mem p) r q qs
    (λ k. Memᴰ.tail (Memᴰ.head e))
    (λ k. absurd (n (ap (λ z. z.train.0) e ∙ sym k)))
    (λ k. Memᴰ.head e)
inserted_keeps r {p = p} n (Memᴰ.tail {x = q} {xs = qs} m) =
    inserted-case (Mem p) r q qs
    (λ k. Memᴰ.tail (Memᴰ.tail m))
    (λ k. Memᴰ.tail m)
    (λ k. Memᴰ.tail (inserted_keeps r n m))

-- each entry has its row, where the trains are distinct
pub entry_has_row : {e : Entry} {es : List Entry} → Apart es → Mem e es → Mem (row_for e) (rows_of es)
unfolding rows_of
entry_has_row d (Memᴰ.head {x = x} {xs = xs} q) = Memᴰ.cast (ap row_for q) (inserted_member (row_for x) (rows_of xs))
entry_has_row d (Memᴰ.tail {x = x} {xs = xs} m) =
    inserted_keeps (row_for x) (all_member (all_unmapped _ xs (first-apart d)) m) (entry_has_row (rest-apart d) m)

-- to keep by a test of the row, before or after the rows are made, is the same
pub rows_of-keep : (f : Row → Bool) (es : List Entry) → Apart es → rows_of (keep (λ e. f (row_for e)) es) ≡ keep f (rows_of es)
unfolding rows_of keep
rows_of-keep f [] d = refl
rows_of-keep f (e ∷ es) d = go (f (row_for e)) refl (rows_of-keep f es (rest-apart d))
  where
    others : All (λ r. r.train.0 ≡ e.key → ⊥) (keep f (rows_of es))
    others = all_kept f (all_rows_of (all_map (all_unmapped _ es (first-apart d)) λ x h p. h))

    go : (b : Bool) → f (row_for e) ≡ b → rows_of (keep (λ x. f (row_for x)) es) ≡ keep f (rows_of es)
        → rows_of (put_if b e (keep (λ x. f (row_for x)) es)) ≡ keep f (row_inserted (row_for e) (rows_of es))
    go true p ih = ap (row_inserted (row_for e)) ih ∙ sym (keep-inserted f (row_for e) p (rows_of_ascend es))
    go false p ih = ih ∙ sym (keep-inserted-not f (row_for e) p (rows_of_ascend es) ∙ removed_absent (train_of e) others)

-- the order of the entries doesn't matter
pub apart_reordered : {es fs : List Entry} → Permᴰ es fs → Apart es → Apart fs
apart_reordered p d = distinct_reordered (map_reordered (λ e. (train_of e).0) p) d

members_reordered : {es fs : List Entry} → Permᴰ es fs → Apart fs → (r : Row) → Mem r (rows_of es) → Mem r (rows_of fs)
members_reordered {es = es} p d r m =
    let h : (e : Entry) × Mem e es × (row_for e ≡ r) = row_has_entry es m in
    Memᴰ.cast (sym h.2) (entry_has_row d (mem_reordered p h.1))

pub rows_of_reordered : {es fs : List Entry} → Permᴰ es fs → Apart es → rows_of es ≡ rows_of fs
rows_of_reordered {es = es} {fs = fs} p d =
    same_members (rows_of_ascend es) (rows_of_ascend fs) (members_reordered p (apart_reordered p d)) (members_reordered (Permᴰ.symm p) d)

-- ---- what a board lists
pub neither : (a b : Bool) → (a || b) ≡ false → (a ≡ false) × (b ≡ false)
neither true b e = absurd (true≢false e)
neither false b e = (refl, e)

some_one_at : {A : Type 0} (f : A → Bool) {x : A} {xs : List A} → Mem x xs → f x ≡ true → some_one f xs ≡ true
some_one_at f (Memᴰ.head {xs = ys} e) h = ap (λ b. b || some_one f ys) (rw e at h)
some_one_at f (Memᴰ.tail {x = y} m) h = ap (λ b. f y || b) (some_one_at f m h) ∙ or-true (f y)

pub no_one : {A : Type 0} (f : A → Bool) {xs : List A} → All (λ x. f x ≡ false) xs → some_one f xs ≡ false
no_one f none = refl
no_one f (more h a) = rw (h, no_one f a)

pub no_one_all : {A : Type 0} (f : A → Bool) (xs : List A) → some_one f xs ≡ false → All (λ x. f x ≡ false) xs
no_one_all f [] e = none
no_one_all f (x ∷ xs) e = let h = neither (f x) (some_one f xs) e in more h.0 (no_one_all f xs h.1)

-- a train that isn't listed has no row
pub unlisted_absent : (t : Train) (b : Board) → lists t b ≡ false → All (λ r. r.train.0 ≡ t.0 → ⊥) b.rows
unfolding lists
unlisted_absent t b e = all_map (no_one_all _ b.rows e) λ r h. eqb-false _ _ h

pub unlisted_removed : (t : Train) (b : Board) → lists t b ≡ false → row_removed t b.rows ≡ b.rows
unlisted_removed t b e = removed_absent t (unlisted_absent t b e)

pub inserted_listed : (r : Row) (rs : List Row) (b : Board) → lists r.train (with_rows (row_inserted r rs) b) ≡ true
unfolding lists
inserted_listed r rs b = some_one_at _ (inserted_member r rs) (eq-eqb r.train.0 _ refl)

pub removed_unlisted : (t : Train) (rs : List Row) (b : Board) → lists t (with_rows (row_removed t rs) b) ≡ false
unfolding lists row_removed
removed_unlisted t rs b = no_one _ (all_kept _ (all_members rs λ r m e. not-true _ e))

-- an open board lists the train of a report exactly if the box meets its window, and that of a withdrawal not
pub told-lists : (r : Row) (b : Board) → is_open b ≡ true → lists r.train (told r b) ≡ meets r.bounds b.window
unfolding told
told-lists r b o = rw o (go (meets r.bounds b.window))
  where
    go : (m : Bool) → lists r.train (with_rows (cond m (row_inserted r b.rows) (row_removed r.train b.rows)) b) ≡ m
    go true = inserted_listed r b.rows b
    go false = removed_unlisted r.train b.rows b

pub untold-lists : (t : Train) (b : Board) → is_open b ≡ true → lists t (untold t b) ≡ false
unfolding untold
untold-lists t b o = rw o (removed_unlisted t b.rows b)

-- a board that lists the train neither before nor after is unchanged (after a withdrawal no open one does)
pub told_same : (r : Row) (b : Board) → lists r.train b ≡ false → lists r.train (told r b) ≡ false → told r b ≡ b
unfolding told
told_same r b h k = either (λ c. c ≡ b) (is_open b) while_open (λ o. refl)
  where
    while_open : is_open b ≡ true
        → with_rows (cond (meets r.bounds b.window) (row_inserted r b.rows) (row_removed r.train b.rows)) b ≡ b
    while_open o = rw (sym (told-lists r b o) ∙ k, unlisted_removed r.train b h)

pub untold_same : (t : Train) (b : Board) → lists t b ≡ false → untold t b ≡ b
unfolding untold
untold_same t b h = either (λ c. c ≡ b) (is_open b) (λ o. rw (unlisted_removed t b h)) (λ o. refl)

-- the same by the test of `touched`: a board that it doesn't count is unchanged
pub told_untouched : (r : Row) (b : Board) → (is_open b && (lists r.train b || lists r.train (told r b))) ≡ false → told r b ≡ b
unfolding told
told_untouched r b h = go (is_open b) refl h
  where
    go : (o : Bool) → is_open b ≡ o → (o && (lists r.train b || lists r.train (told r b))) ≡ false → told r b ≡ b
    go true e k = let n = neither (lists r.train b) _ k in told_same r b n.0 n.1
    go false e k = rw e

pub untold_untouched : (t : Train) (b : Board) → (is_open b && (lists t b || lists t (untold t b))) ≡ false → untold t b ≡ b
unfolding untold
untold_untouched t b h = go (is_open b) refl h
  where
    go : (o : Bool) → is_open b ≡ o → (o && (lists t b || lists t (untold t b))) ≡ false → untold t b ≡ b
    go true e k = untold_same t b (neither (lists t b) _ k).0
    go false e k = rw e

-- ---- each case of a report and of a withdrawal
module _ (r : Row) (b : Board) where
  pub told-closed : is_open b ≡ false → told r b ≡ b
  unfolding told
  told-closed o = rw o

  pub told_met : is_open b ≡ true → meets r.bounds b.window ≡ true → told r b ≡ with_rows (row_inserted r b.rows) b
  unfolding told
  told_met o m = rw (o, m)

  pub told_missed : is_open b ≡ true → meets r.bounds b.window ≡ false → told r b ≡ with_rows (row_removed r.train b.rows) b
  unfolding told
  told_missed o m = rw (o, m)

pub untold-closed : (t : Train) (b : Board) → is_open b ≡ false → untold t b ≡ b
unfolding untold
untold-closed t b o = rw o

pub untold_open : (t : Train) (b : Board) → is_open b ≡ true → untold t b ≡ with_rows (row_removed t b.rows) b
unfolding untold
untold_open t b o = rw o

-- no more rows than before are left of a train's removal
pub removed_fewer : (t : Train) (rs : List Row) → length (row_removed t rs) ≤ length rs
unfolding row_removed
removed_fewer t rs = keep_fewer _ rs
