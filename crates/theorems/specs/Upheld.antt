-- What each step leaves alone, of whatever kind it is and whether it is accepted or refused.
use Rattle.std.specs.Prelude.{ℕ, ◌≤◌, ◌≡◌, Bool, List, [], ◌++◌}
use Rattle.std.proofs.Common.{arith, ap, ltb-true}
use Rattle.std.proofs.Math.Path.{refl}
use Rattle.std.proofs.Math.Bool.{true, false, not}
use Rattle.std.proofs.Math.Dec.{ltb}
use Rattle.rules.specs.declared.Window.{Window}
use Rattle.rules.specs.declared.Entry.{Entry}
use Rattle.rules.specs.declared.Slot.{Slot}
use Rattle.rules.specs.declared.Step.{Step}
use Rattle.rules.specs.Store.{Store, train_of, board_at}
use Rattle.rules.specs.Memo.{is_latest, is_obsolete, inspected}
use Rattle.rules.specs.Live.{held, rows_in}
use Rattle.rules.specs.Cleaning.{smallest_mark}
use Rattle.rules.specs.Sound.{sound}
use Rattle.rules.specs.Boards.{lists}
use Rattle.rules.specs.Steps.{its_train, report, withdraw, clean, inspect, open_board, close_board, step}
use Rattle.rules.specs.laws.All.{All, none, Mem}
use Rattle.rules.specs.laws.Kept.{keeps}
use Rattle.rules.specs.laws.Order.{◌~◌, same}
use Rattle.theorems.specs.EveryStep.{by_kind}
use Rattle.theorems.specs.BoardsAfter.{report_elsewhere, withdraw_elsewhere}
use Rattle.theorems.specs.OpenClose.{open_only, close_only}
use Rattle.theorems.specs.Clean.{cleaned_out, clean-held, clean_boards, clean_rows, clean_obsolete}
use Rattle.theorems.specs.Inspect.{inspect_boards, inspect_rows, inspect-frees}

-- the entries gone between two stores are obsolete in the first, and all others are held in both
pub record OnlyObsolete (s u : Store) : Type 0 where
  pub gone : List Entry
  pub obsolete : All (λ e. is_obsolete s.memo e ≡ true) gone
  pub rest : held s ~ (gone ++ held u)

-- a slot gone between them is one that no obsolete entry needs: all that is held of its train is latest without it
pub record OnlyUnneeded (s u : Store) : Type 0 where
  pub entries : held u ≡ held s
  pub unneeded : (m : Slot) → Mem m s.memo → (Mem m u.memo → ⊥) → All (λ e. (train_of e).0 ≡ m.train.0 → is_latest s.memo e ≡ true) (held s)

-- the step x leads from s to u; reports and withdrawals are the kinds 1 and 2, clean and inspect 3 and 4, open and close 5 and 6
pub record Upheld (s : Store) (x : Step) (u : Store) : Type 0 where
  pub elsewhere : 1 ≤ x.kind → x.kind ≤ 2 → (j : ℕ) → lists (its_train x) (board_at s j) ≡ false → lists (its_train x) (board_at u j) ≡ false
      → board_at u j ≡ board_at s j
  pub own_board : 5 ≤ x.kind → x.kind ≤ 6 → (j : ℕ) → (j ≡ x.a → ⊥) → board_at u j ≡ board_at s j
  pub boards : 3 ≤ x.kind → x.kind ≤ 4 → u.boards ≡ s.boards
  pub lists : 3 ≤ x.kind → x.kind ≤ 4 → (w : Window) → rows_in u w ≡ rows_in s w
  pub cleaned : x.kind ≡ 3 → OnlyObsolete s u
  pub inspected : x.kind ≡ 4 → OnlyUnneeded s u

module _ (s : Store) (x : Step) (h : sound s ≡ true) where
  unneeded : OnlyUnneeded s (inspect s).store
  unfolding inspect inspected held
  unneeded = record { entries = refl; unneeded = λ m i d. go m i d (ltb m.latest.0 (smallest_mark s.pages).0) refl }
    where
      go : (m : Slot) → Mem m s.memo → (Mem m (inspected (smallest_mark s.pages) s.memo) → ⊥) → (b : Bool) → ltb m.latest.0 (smallest_mark s.pages).0 ≡ b
          → All (λ e. (train_of e).0 ≡ m.train.0 → is_latest s.memo e ≡ true) (held s)
      go m i d true e = inspect-frees s h m i (ltb-true _ _ e)
      go m i d false e = absurd (d (keeps _ i (ap not e)))

  -- a step that is refused changes nothing
  nothing : Upheld s x s
  nothing =
      record {
        elsewhere = λ a b j p q. refl;
        own_board = λ a b j d. refl;
        boards = λ a b. refl;
        lists = λ a b w. refl;
        cleaned = λ k. record { gone = []; obsolete = none; rest = same refl };
        inspected = λ k. record { entries = refl; unneeded = λ m i d. absurd (d i) };
      }

  -- of each kind only what is said of it is to be shown
  stamping : (u : Store) → x.kind ≤ 2 → ((j : ℕ) → lists (its_train x) (board_at s j) ≡ false → lists (its_train x) (board_at u j) ≡ false → board_at u j ≡ board_at s j)
      → Upheld s x u
  stamping u k e =
      record {
        elsewhere = λ a b. e;
        own_board = λ a b. absurd (omega arith);
        boards = λ a b. absurd (omega arith);
        lists = λ a b. absurd (omega arith);
        cleaned = λ q. absurd (omega arith);
        inspected = λ q. absurd (omega arith);
      }

  on_board : (u : Store) → 5 ≤ x.kind → ((j : ℕ) → (j ≡ x.a → ⊥) → board_at u j ≡ board_at s j) → Upheld s x u
  on_board u k e =
      record {
        elsewhere = λ a b. absurd (omega arith);
        own_board = λ a b. e;
        boards = λ a b. absurd (omega arith);
        lists = λ a b. absurd (omega arith);
        cleaned = λ q. absurd (omega arith);
        inspected = λ q. absurd (omega arith);
      }

  after_clean : x.kind ≡ 3 → Upheld s x (clean s).store
  after_clean k =
      record {
        elsewhere = λ a b. absurd (omega arith);
        own_board = λ a b. absurd (omega arith);
        boards = λ a b. clean_boards s;
        lists = λ a b. clean_rows s h;
        cleaned = λ q. record { gone = cleaned_out s; obsolete = clean_obsolete s h; rest = clean-held s h };
        inspected = λ q. absurd (omega arith);
      }

  after_inspect : x.kind ≡ 4 → Upheld s x (inspect s).store
  after_inspect k =
      record {
        elsewhere = λ a b. absurd (omega arith);
        own_board = λ a b. absurd (omega arith);
        boards = λ a b. inspect_boards s;
        lists = λ a b. inspect_rows s h;
        cleaned = λ q. absurd (omega arith);
        inspected = λ q. unneeded;
      }

  -- so of every step
  pub upheld : Upheld s x (step s x).store
  upheld =
      by_kind (Upheld s x) s x
      (record {
        unchanged = λ n. nothing;
        reported = λ k a. stamping (report s x).store (omega arith) (report_elsewhere s x);
        withdrawn = λ k a. stamping (withdraw s x).store (omega arith) (λ j p q. withdraw_elsewhere s x j p);
        cleaned = λ k a. after_clean k;
        inspected = λ k a. after_inspect k;
        opened = λ k a. on_board (open_board s x).store (omega arith) (open_only s x k a).others;
        closed = λ k a. on_board (close_board s x).store (omega arith) (close_only s x k a).others;
      })
