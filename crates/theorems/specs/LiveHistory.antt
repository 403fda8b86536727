-- The live list follows the history: each accepted report puts its row in, each accepted withdrawal takes one out, and nothing else
-- touches it; so a train is live with a box exactly if that is the last that was said of it.
use Rattle.std.proofs.Common.{arith, sym, ◌∙◌, inl, inr}
use Rattle.std.specs.Prelude.{◌≡◌, Bool, not, ◌&&◌, ◌⊎◌, List, [], ◌∷◌}
use Rattle.std.proofs.Math.Path.{refl, ap, subst}
use Rattle.std.proofs.Math.Bool.{true, false, cond}
use mathlib.Core.List.Memᴰ
use Rattle.std.proofs.Math.Dec.{eqb}
use borrow.Author.Tests.{eqb-true, eqb-false, eq-eqb, ne_eqb, not-true}
use Rattle.rules.specs.declared.Box.{Box}
use Rattle.rules.specs.declared.Row.{Row}
use Rattle.rules.specs.Store.{Store}
use Rattle.rules.specs.Live.{live, row_inserted, row_removed}
use Rattle.rules.specs.Sound.{sound}
use Rattle.rules.specs.declared.Step.{Step}
use Rattle.rules.specs.Steps.{its_train, reported_box, reported_row, is_report, is_withdraw, refusal, step, run}
use Rattle.rules.specs.laws.Tests.{either}
use Rattle.rules.specs.laws.All.{Mem, all_member, all_members}
use Rattle.rules.specs.laws.Kept.{kept, keeps}
use Rattle.rules.specs.laws.Rows.{RowsAscend, r_none, r_more, all_inserted, inserted_ascend, removed_ascend, inserted_member, inserted_keeps}
use Rattle.theorems.specs.History.{Answered, history, Said, nothing, withdrawn, reported, speaks_of, says, unless_later, last_said}
use Rattle.theorems.specs.Report.{report-live}
use Rattle.theorems.specs.Withdraw.{withdraw-live}
use Rattle.theorems.specs.Clean.{clean-live}
use Rattle.theorems.specs.Inspect.{inspect-live}
use Rattle.theorems.specs.OpenClose.{open_only, close_only}
use Rattle.theorems.specs.StepKept.{step_number}
use Rattle.theorems.specs.EveryStep.{by_kind, step-sound}

-- ---- the rows after a step, by its answer
unfoldable pub rows_after : Answered → List Row → List Row
rows_after a rows =
    let put = row_inserted (reported_row a.asked) rows in
    let out = row_removed (its_train a.asked) rows in
    cond (eqb a.number 0 && is_report a.asked) put (cond (eqb a.number 0 && is_withdraw a.asked) out rows)

unfoldable pub rows_after_all : List Answered → List Row → List Row
rows_after_all [] rows = rows
rows_after_all (a ∷ later) rows = rows_after_all later (rows_after a rows)

abbrev answer_of : Store → Step → Answered
answer_of s x = record { asked = x; number = (step s x).number }

module _ (s : Store) (x : Step) (rows : List Row) where
  -- a refused step says nothing
  after_refused : (refusal s x ≡ 0 → ⊥) → rows_after (answer_of s x) rows ≡ rows
  unfolding rows_after
  after_refused r = let e : eqb (step s x).number 0 ≡ false = ne_eqb _ _ (λ q. r (sym (step_number s x) ∙ q)) in rw e

  accepted : refusal s x ≡ 0 → eqb (step s x).number 0 ≡ true
  accepted a = eq-eqb _ _ (step_number s x ∙ a)

  after_report : x.kind ≡ 1 → refusal s x ≡ 0 → rows_after (answer_of s x) rows ≡ row_inserted (reported_row x) rows
  unfolding rows_after
  after_report k a = rw (accepted a, eq-eqb x.kind 1 k)

  after_withdrawal : x.kind ≡ 2 → refusal s x ≡ 0 → rows_after (answer_of s x) rows ≡ row_removed (its_train x) rows
  unfolding rows_after
  after_withdrawal k a = rw (accepted a, ne_eqb x.kind 1 (λ q. omega arith), eq-eqb x.kind 2 k)

  after_other : (x.kind ≡ 1 → ⊥) → (x.kind ≡ 2 → ⊥) → refusal s x ≡ 0 → rows_after (answer_of s x) rows ≡ rows
  unfolding rows_after
  after_other n m a = rw (accepted a, ne_eqb x.kind 1 n, ne_eqb x.kind 2 m)

-- ---- the live list after a step, and after a run
pub step-live : (s : Store) (x : Step) → sound s ≡ true → live (step s x).store ≡ rows_after (answer_of s x) (live s)
step-live s x h =
    by_kind (λ u. live u ≡ rows_after (answer_of s x) (live s)) s x
    (record {
      unchanged = λ r. sym (after_refused s x (live s) r);
      reported = λ k a. report-live s x h k a ∙ sym (after_report s x (live s) k a);
      withdrawn = λ k a. withdraw-live s x h k a ∙ sym (after_withdrawal s x (live s) k a);
      cleaned = λ k a. clean-live s h ∙ sym (after_other s x (live s) (λ q. omega arith) (λ q. omega arith) a);
      inspected = λ k a. inspect-live s h ∙ sym (after_other s x (live s) (λ q. omega arith) (λ q. omega arith) a);
      opened = λ k a. (open_only s x k a).live ∙ sym (after_other s x (live s) (λ q. omega arith) (λ q. omega arith) a);
      closed = λ k a. (close_only s x k a).live ∙ sym (after_other s x (live s) (λ q. omega arith) (λ q. omega arith) a);
    })

pub run-live : (s : Store) (xs : List Step) → sound s ≡ true → live (run s xs).store ≡ rows_after_all (history xs (run s xs).answers) (live s)
unfolding run history rows_after_all
run-live s [] h = refl
run-live s (x ∷ xs) h =
    run-live (step s x).store xs (step-sound s x h)
    ∙ ap (rows_after_all (history xs (run (step s x).store xs).answers)) (step-live s x h)

-- ---- a row is there exactly if its train was last said to be at its box, or nothing was said of it and it was there before
-- an ascending list has one row of a train
one_row : (q r : Row) {rs : List Row} → RowsAscend rs → Mem q rs → Mem r rs → q.train.0 ≡ r.train.0 → q ≡ r
one_row q r r_none m n e = absurd (Memᴰ.not-nil m)
one_row q r (r_more {r = p} {rs = ps} h a) m n e = go (Memᴰ.cases_cons m) (Memᴰ.cases_cons n) (λ k l. one_row q r a k l e)
  where
    go : (q ≡ p) ⊎ Mem q ps → (r ≡ p) ⊎ Mem r ps → (Mem q ps → Mem r ps → q ≡ r) → q ≡ r
    go (inl f) (inl g) ih = f ∙ sym g
    go (inl f) (inr l) ih = absurd (let k = all_member h l in let z = ap (λ w. w.train.0) f in omega arith)
    go (inr k) (inl g) ih = absurd (let l = all_member h k in let z = ap (λ w. w.train.0) g in omega arith)
    go (inr k) (inr l) ih = ih k l

-- a row of a list with a row put in is that row, or was there before
put_or_before : (q r : Row) (rs : List Row) → Mem r (row_inserted q rs) → (r ≡ q) ⊎ Mem r rs
put_or_before q r rs m = all_member {P = λ z. (z ≡ q) ⊎ Mem z rs} (all_inserted q (inl refl) (all_members rs λ z n. inr n)) m

-- the three things that can be said are different
abbrev IsReported : Said → Type 0
IsReported nothing = ⊥
IsReported withdrawn = ⊥
IsReported (reported b) = Unit {0}

not-reported : {b : Box} → nothing ≡ reported b → ⊥
not-reported q = subst IsReported (sym q) tt

not_said : {b : Box} → withdrawn ≡ reported b → ⊥
not_said q = subst IsReported (sym q) tt

abbrev IsWithdrawn : Said → Type 0
IsWithdrawn nothing = ⊥
IsWithdrawn withdrawn = Unit {0}
IsWithdrawn (reported b) = ⊥

not-withdrawn : withdrawn ≡ nothing → ⊥
not-withdrawn q = subst IsWithdrawn q tt

-- where a train was said to be
abbrev box_in : Box → Said → Box
box_in d nothing = d
box_in d withdrawn = d
box_in d (reported b) = b

-- what the row r is after a step: said to be there by it, or there before with nothing said
pub data Source (said : Said) (r : Row) (before : List Row) : Type 0 where
  now : said ≡ reported r.bounds → Source said r before
  earlier : said ≡ nothing → Mem r before → Source said r before

module _ (a : Answered) (r : Row) (rs : List Row) (asc : RowsAscend rs) where
  its_row : Row
  its_row = reported_row a.asked

  source : Mem r (rows_after a rs) → Source (says r.train a) r rs
  unfolding rows_after says speaks_of row_removed its_row
  source = go (eqb a.number 0) (is_report a.asked) (is_withdraw a.asked) (eqb a.asked.a r.train.0) refl
    where
      there : eqb a.asked.a r.train.0 ≡ true → Mem r (row_inserted its_row rs) → reported (reported_box a.asked) ≡ reported r.bounds
      there e m = ap (λ q. reported q.bounds) (one_row its_row r (inserted_ascend its_row asc) (inserted_member its_row rs) m (eqb-true _ _ e))

      other : eqb a.asked.a r.train.0 ≡ false → (r ≡ its_row) ⊎ Mem r rs → Mem r rs
      other e (inl q) = absurd (eqb-false _ _ e (sym (ap (λ z. z.train.0) q)))
      other e (inr m) = m

      gone : eqb a.asked.a r.train.0 ≡ true → Mem r (row_removed (its_train a.asked) rs) → ⊥
      gone e m =
          eqb-false r.train.0 a.asked.a (not-true _ (kept (λ q. not (eqb q.train.0 a.asked.a)) rs m).1) (sym (eqb-true a.asked.a r.train.0 e))

      go : (n k w same : Bool) → eqb a.asked.a r.train.0 ≡ same
          → Mem r (cond (n && k) (row_inserted its_row rs) (cond (n && w) (row_removed (its_train a.asked) rs) rs))
          → Source (cond ((n && same) && k) (reported (reported_box a.asked)) (cond ((n && same) && w) withdrawn nothing)) r rs
      go false k w same e m = earlier refl m
      go true true w true e m = now (there e m)
      go true true true false e m = earlier refl (other e (put_or_before its_row r rs m))
      go true true false false e m = earlier refl (other e (put_or_before its_row r rs m))
      go true false true true e m = absurd (gone e m)
      go true false true false e m = earlier refl (kept (λ q. not (eqb q.train.0 a.asked.a)) rs m).0
      go true false false true e m = earlier refl m
      go true false false false e m = earlier refl m

  same_row : a.asked.a ≡ r.train.0 → reported_box a.asked ≡ r.bounds → its_row ≡ r
  unfolding its_row
  same_row e q = λ i. record { train = record { 0 = e i }; bounds = q i }

  -- a row that the step says is there is there, and so is one of which it says nothing and that was there before
  said_there : says r.train a ≡ reported r.bounds → Mem r (rows_after a rs)
  unfolding rows_after says speaks_of its_row
  said_there = go (eqb a.number 0) (is_report a.asked) (is_withdraw a.asked) (eqb a.asked.a r.train.0) refl
    where
      go : (n k w same : Bool) → eqb a.asked.a r.train.0 ≡ same
          → cond ((n && same) && k) (reported (reported_box a.asked)) (cond ((n && same) && w) withdrawn nothing) ≡ reported r.bounds
          → Mem r (cond (n && k) (row_inserted its_row rs) (cond (n && w) (row_removed (its_train a.asked) rs) rs))
      go false k w same e q = absurd (not-reported q)
      go true true w true e q = subst (λ z. Mem z (row_inserted its_row rs)) (same_row (eqb-true _ _ e) (ap (box_in r.bounds) q)) (inserted_member its_row rs)
      go true true true false e q = absurd (not-reported q)
      go true true false false e q = absurd (not-reported q)
      go true false true true e q = absurd (not_said q)
      go true false true false e q = absurd (not-reported q)
      go true false false true e q = absurd (not-reported q)
      go true false false false e q = absurd (not-reported q)

  kept_there : says r.train a ≡ nothing → Mem r rs → Mem r (rows_after a rs)
  unfolding rows_after says speaks_of row_removed its_row
  kept_there = go (eqb a.number 0) (is_report a.asked) (is_withdraw a.asked) (eqb a.asked.a r.train.0) refl
    where
      stays : eqb a.asked.a r.train.0 ≡ false → r.train.0 ≡ its_row.train.0 → ⊥
      stays e q = eqb-false _ _ e (sym q)

      go : (n k w same : Bool) → eqb a.asked.a r.train.0 ≡ same
          → cond ((n && same) && k) (reported (reported_box a.asked)) (cond ((n && same) && w) withdrawn nothing) ≡ nothing
          → Mem r rs → Mem r (cond (n && k) (row_inserted its_row rs) (cond (n && w) (row_removed (its_train a.asked) rs) rs))
      go false k w same e q m = m
      go true true w true e q m = absurd (not-reported (sym q))
      go true true true false e q m = inserted_keeps its_row (stays e) m
      go true true false false e q m = inserted_keeps its_row (stays e) m
      go true false true true e q m = absurd (not-withdrawn q)
      go true false true false e q m = keeps _ m (ap not (ne_eqb _ _ (stays e)))
      go true false false true e q m = m
      go true false false false e q m = m

-- ---- the same for a whole history
rows_ascend_after : (a : Answered) (rs : List Row) → RowsAscend rs → RowsAscend (rows_after a rs)
unfolding rows_after
rows_ascend_after a rs asc =
    either RowsAscend (eqb a.number 0 && is_report a.asked) (λ e. inserted_ascend (reported_row a.asked) asc)
    λ e. either RowsAscend (eqb a.number 0 && is_withdraw a.asked) (λ f. removed_ascend (its_train a.asked) asc) (λ f. asc)

unless_nothing : (later before : Said) → later ≡ nothing → unless_later later before ≡ before
unfolding unless_later
unless_nothing later before e = rw e

unless_reported : (later before : Said) (b : Box) → later ≡ reported b → unless_later later before ≡ reported b
unfolding unless_later
unless_reported later before b e = rw e

-- where a row comes from: it is what was last said of its train, or it was there at the start and nothing was said
pub row_source : (hs : List Answered) (r : Row) (rs : List Row) → RowsAscend rs → Mem r (rows_after_all hs rs) → Source (last_said r.train hs) r rs
unfolding rows_after_all last_said
row_source [] r rs asc m = earlier refl m
row_source (a ∷ hs) r rs asc m = go (row_source hs r (rows_after a rs) (rows_ascend_after a rs asc) m)
  where
    before : last_said r.train hs ≡ nothing → Source (says r.train a) r rs → Source (unless_later (last_said r.train hs) (says r.train a)) r rs
    before e (now q) = now (unless_nothing _ _ e ∙ q)
    before e (earlier q n) = earlier (unless_nothing _ _ e ∙ q) n

    go : Source (last_said r.train hs) r (rows_after a rs) → Source (unless_later (last_said r.train hs) (says r.train a)) r rs
    go (now q) = now (unless_reported _ _ r.bounds q)
    go (earlier e n) = before e (source a r rs asc n)

-- and each row that has such a source is there
pub source_row : (hs : List Answered) (r : Row) (rs : List Row) → RowsAscend rs → Source (last_said r.train hs) r rs → Mem r (rows_after_all hs rs)
unfolding rows_after_all last_said unless_later
source_row [] r rs asc (now q) = absurd (not-reported q)
source_row [] r rs asc (earlier q m) = m
source_row (a ∷ hs) r rs asc h = go (last_said r.train hs) refl h (source_row hs r (rows_after a rs) (rows_ascend_after a rs asc))
  where
    now_there : Source (says r.train a) r rs → Mem r (rows_after a rs)
    now_there (now q) = said_there a r rs asc q
    now_there (earlier q m) = kept_there a r rs asc q m

    go : (said : Said) → last_said r.train hs ≡ said → Source (unless_later said (says r.train a)) r rs
        → (Source (last_said r.train hs) r (rows_after a rs) → Mem r (rows_after_all hs (rows_after a rs))) → Mem r (rows_after_all hs (rows_after a rs))
    go nothing e s ih = ih (earlier e (now_there s))
    go withdrawn e (now q) ih = absurd (not_said q)
    go withdrawn e (earlier q m) ih = absurd (not-withdrawn q)
    go (reported b) e (now q) ih = ih (now (e ∙ q))
    go (reported b) e (earlier q m) ih = absurd (not-reported (sym q))
