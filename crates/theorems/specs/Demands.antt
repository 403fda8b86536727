-- The owners' demands 2 and 3, as theorems about the definitions.
use Rattle.std.specs.Prelude.{ℕ, ◌≡◌, refl, Bool, true, List, []}
use Rattle.std.proofs.Common.{sym, ◌∙◌, ap, subst}
use mathlib.Core.List.Memᴰ
use Rattle.rules.specs.declared.Window.{Window}
use Rattle.rules.specs.declared.Row.{Row}
use Rattle.rules.specs.Boxes.{meets}
use Rattle.rules.specs.Store.{Store, page_at, board_at, fresh, words}
use Rattle.rules.specs.Live.{held_under, held, live, rows_of, rows_in}
use Rattle.rules.specs.Sound.{sizes_in_range, sound}
use Rattle.rules.specs.Boards.{is_open}
use Rattle.rules.specs.declared.Step.{Step}
use Rattle.rules.specs.Steps.{step, run}
use Rattle.rules.specs.Numbers.{first_met}
use Rattle.rules.specs.Calls.{store_tests}
use Rattle.rules.specs.laws.All.{Mem}
use Rattle.rules.specs.laws.Kept.{kept, keeps}
use Rattle.rules.specs.laws.Rows.{RowsAscend, same_members}
use Rattle.rules.specs.theorems.WordsAndBack.{words_accepted}
use Rattle.rules.specs.theorems.Fresh.{fresh-sound}
use Rattle.rules.specs.theorems.Query.{live_ascends, rows_ascend, rows_are_live}
use Rattle.rules.specs.Views.{sound-holds, rule5_test}
use Rattle.rules.specs.Lists.{keep}
use Rattle.theorems.specs.Upheld.{Upheld, upheld}
use Rattle.theorems.specs.History.{Answered, history, reported, last_said}
use Rattle.theorems.specs.LiveHistory.{Source, now, earlier, rows_after_all, run-live, row_source, source_row}
use Rattle.theorems.specs.EveryStep.{run_sound}
use Rattle.theorems.specs.BoardsAfter.{open_shown}

-- what was said of each train in a run, read from its steps and its answers
abbrev pub history_of : Store → List Step → List Answered
history_of s xs = history xs (run s xs).answers

-- rows are exactly the trains that were last reported, or live at the start with nothing said of them since, at a box that meets the
-- window: each once, with that box, in ascending number
pub record Exact (start : List Row) (said : List Answered) (w : Window) (rows : List Row) : Type 0 where
  pub ascending : RowsAscend rows
  pub only : (r : Row) → Mem r rows → Source (last_said r.train said) r start × (meets r.bounds w ≡ true)
  pub each : (r : Row) → Source (last_said r.train said) r start → meets r.bounds w ≡ true → Mem r rows

-- only one list of rows is exact
pub exact_unique : {start : List Row} {said : List Answered} {w : Window} {qs rs : List Row} → Exact start said w qs → Exact start said w rs → qs ≡ rs
exact_unique a b =
    same_members a.ascending b.ascending (λ r m. b.each r (a.only r m).0 (a.only r m).1) (λ r m. a.each r (b.only r m).0 (b.only r m).1)

-- ---- a query after any steps, from any sound store
pub query_exact : (s : Store) → sound s ≡ true → (xs : List Step) (w : Window) → Exact (live s) (history_of s xs) w (rows_in (run s xs).store w)
query_exact s h xs w =
    let u = (run s xs).store in
    let f : Row → Bool = λ r. meets r.bounds w in
    let hs = history_of s xs in
    let e : rows_in u w ≡ keep f (rows_after_all hs (live s)) = rows_are_live u w (rule5_test u (sound-holds u (run_sound s xs h)).rule5) ∙ ap (keep f) (run-live s xs h) in
    record {
      ascending = rows_ascend u w;
      only = λ r m.
          let k = kept f (rows_after_all hs (live s)) (subst (Mem r) e m) in
          (row_source hs r (live s) (live_ascends s) k.0, k.1);
      each = λ r src k. subst (Mem r) (sym e) (keeps f (source_row hs r (live s) (live_ascends s) src) k);
    }

-- ---- demand 2: from a fresh store of any size, after any steps, the rows of a query are exactly the trains whose last accepted report
-- or withdrawal was a report and whose reported box meets the window: once, with that box, in ascending number
pub record LastReported (said : List Answered) (w : Window) (rows : List Row) : Type 0 where
  pub ascending : RowsAscend rows
  pub only : (r : Row) → Mem r rows → (last_said r.train said ≡ reported r.bounds) × (meets r.bounds w ≡ true)
  pub each : (r : Row) → last_said r.train said ≡ reported r.bounds → meets r.bounds w ≡ true → Mem r rows

none_live : (p k b : ℕ) → live (fresh p k b) ≡ []
unfolding live held held_under fresh page_at keep rows_of
none_live p k b = refl

pub demand_2 : (p k b : ℕ) → sizes_in_range p k b ≡ true → (xs : List Step) (w : Window)
    → LastReported (history_of (fresh p k b) xs) w (rows_in (run (fresh p k b) xs).store w)
demand_2 p k b h xs w =
    let x = query_exact (fresh p k b) (fresh-sound p k b h) xs w in
    record {
      ascending = x.ascending;
      only = λ r m. (by_report r (x.only r m).0, (x.only r m).1);
      each = λ r q k. x.each r (now q) k;
    }
  where
    by_report : (r : Row) → Source (last_said r.train (history_of (fresh p k b) xs)) r (live (fresh p k b)) → last_said r.train (history_of (fresh p k b) xs) ≡ reported r.bounds
    by_report r (now q) = q
    by_report r (earlier q m) = absurd (Memᴰ.not-nil (subst (Mem r) (none_live p k b) m))

-- ---- demand 3: boards never go stale
-- after these steps: each open board holds exactly the rows that a fresh query of its window would list, trains live at the start counting as
-- reported before; the step after them, whatever it is, leaves alone what it must; and no test of a lent store refuses the words
pub record NeverStale (s : Store) (xs : List Step) : Type 0 where
  pub exact : (j : ℕ) → is_open (board_at (run s xs).store j) ≡ true
      → Exact (live s) (history_of s xs) (board_at (run s xs).store j).window (board_at (run s xs).store j).rows
  pub upheld : (x : Step) → Upheld (run s xs).store x (step (run s xs).store x).store
  pub accepted : first_met (store_tests (words (run s xs).store)) ≡ 0

-- so it is from any sound store, after any sequence of steps
pub demand_3 : (s : Store) → sound s ≡ true → (xs : List Step) → NeverStale s xs
demand_3 s h xs =
    let u = (run s xs).store in
    record {
      exact = λ j o.
          subst (Exact (live s) (history_of s xs) (board_at u j).window) (sym (open_shown u (run_sound s xs h) j o).rows) (query_exact s h xs (board_at u j).window);
      upheld = λ x. upheld u x (run_sound s xs h);
      accepted = words_accepted u (run_sound s xs h);
    }
