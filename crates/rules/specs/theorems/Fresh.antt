-- A fresh store of any size is sound.
use Prim.Native.Nat.{ℕ, zero, suc, ◌-◌, ◌<◌}
use Rattle.std.proofs.Common.{arith}
use Rattle.std.specs.Prelude.{◌≡◌, true, not, [], eqb, length}
use Rattle.std.proofs.Math.Path.{refl}
use Rattle.std.proofs.Math.Dec.{eqb-suc-zero}
use Rattle.std.proofs.Math.ListN.{length-replicate, get_or-replicate}
use Rattle.rules.specs.declared.PageNo.{PageNo}
use Rattle.rules.specs.Lists.{keep, count, one_if}
use Rattle.rules.specs.Store.{Page, Board, stamp, page_no, free_page, closed, page_at, fresh}
use Rattle.rules.specs.Live.{held_under, held}
use Rattle.rules.specs.Cleaning.{reached_under}
use Rattle.rules.specs.Sound.{is_free, reached, sizes_in_range, sound}
use Rattle.rules.specs.laws.All.{All, none, more, all_replicate}
use Rattle.rules.specs.laws.Lists.{d_none, a_none}
use Rattle.rules.specs.Views.{Sizes, InRange, Sound, sizes_in_range-holds, sound_test}

module _ (p k b : ℕ) where
  -- ---- what a fresh store has: one empty leaf and free pages, of which only the leaf is reached, and closed boards
  all_pages : {P : Page → Type 0} → P (record { kind = 1; mark = stamp 1; places = [] }) → P free_page → All P (fresh p k b).pages
  unfolding fresh
  all_pages leaf free = more leaf (all_replicate (p - 1) free_page free)

  all_reached : {P : PageNo → Type 0} → P (page_no 0) → All P (reached (fresh p k b))
  unfolding fresh reached reached_under
  all_reached root = more root none

  all_boards : {P : Board → Type 0} → P closed → All P (fresh p k b).boards
  unfolding fresh
  all_boards shut = all_replicate b closed shut

  reached_once : (n : ℕ) → n < length (fresh p k b).pages → count (λ q. eqb n q.0) (reached (fresh p k b)) ≡ one_if (not (is_free (page_at (fresh p k b).pages (page_no n))))
  unfolding fresh reached reached_under page_at count
  reached_once zero h = refl
  reached_once (suc n) h =
      rw (eqb-suc-zero n, get_or-replicate (p - 1) n free_page free_page (omega (arith, length-replicate (p - 1) free_page))) refl

  -- ---- its ranges and rules
  in_ranges : Sizes p k b → InRange (fresh p k b)
  unfolding fresh held held_under page_at
  in_ranges sizes =
      record {
        sizes = rw (length-replicate (p - 1) free_page, length-replicate b closed) (omega arith);
        header = omega arith;
        pages =
            all_pages (record { kind_most = omega arith; places_most = omega arith; free = λ e. absurd (omega arith); inner = λ e. none })
            (record { kind_most = omega arith; places_most = omega arith; free = λ e. refl; inner = λ e. none });
        entries = none;
        memo = record { used_most = omega arith; trains = none; ascends = a_none };
        boards = all_boards (record { open_most = omega arith; rows_most = omega arith; shut = λ e. refl });
      }

  as_facts : Sizes p k b → Sound (fresh p k b)
  unfolding fresh held held_under page_at keep
  as_facts sizes =
      record {
        ranges = in_ranges sizes;
        rule1 = record { root_used = omega arith; leaves = refl; inside = all_reached (omega arith); once = reached_once };
        rule2 =
            record { all_filled = all_reached (record { most = omega arith; least = λ d. absurd (d refl); root_least = λ r d. absurd (d refl) }) };
        rule3 = record { smallest = all_pages (λ e. none) (λ e. none) };
        rule4 = record { held_most = omega arith; apart = d_none; stamps = none };
        rule5 = record { one_latest = d_none; none_above = none };
        rule6 = record { slots = none };
        rule7 =
            record {
              marks =
                  all_pages (record { leaf = λ e. record { mark_least = omega arith; mark_most = omega arith; obsolete = none }; inner = λ e. absurd (omega arith) })
                  (record { leaf = λ e. absurd (omega arith); inner = λ e. refl });
            };
        rule8 = record { boards = all_boards (λ e. absurd (omega arith)) };
      }

-- a fresh store of any size is sound
pub fresh-sound : (p k b : ℕ) → sizes_in_range p k b ≡ true → sound (fresh p k b) ≡ true
fresh-sound p k b e = sound_test _ (as_facts p k b (sizes_in_range-holds p k b e))
