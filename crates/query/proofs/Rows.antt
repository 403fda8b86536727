-- The keys that a descent from the root finds, sorted, name the rows of the query in turn; there are at most 576 of them.
use Rattle.std.specs.Prelude.{ℕ, ◌≤◌, ◌≡◌}
use Rattle.std.proofs.Common.{arith, sym, ◌∙◌}
use Rattle.std.proofs.Math.Path.{ap}
use mathlib.Core.List.Memᴰ
use mathlib.Core.List.{List, map, map-map}
use Rattle.std.proofs.Math.ListN.{length, length-map}
use Rattle.rules.specs.declared.Window.{Window}
use Rattle.rules.specs.declared.Entry.{Entry}
use Rattle.rules.specs.Lists.{keep}
use Rattle.rules.specs.Boxes.{meets}
use Rattle.rules.specs.Store.{Store, store_of}
use Rattle.rules.specs.Memo.{is_latest}
use Rattle.rules.specs.Live.{row_for, held, rows_of, rows_in}
use Rattle.rules.specs.laws.All.{all_map, all_mapped, Mem, all_member, all_members}
use Rattle.rules.specs.laws.Kept.{keep_both}
use Rattle.rules.specs.laws.Order.{◌~◌, ◌then◌, same, back, all_reordered, mem_reordered, map_reordered, distinct_reordered, length_reordered}
use Rattle.rules.specs.laws.Rows.{RowsAscend, Apart, same_members, rows_of_ascend, row_has_entry, entry_has_row}
use Rattle.sort.specs.Sorted.{sorted}
use Rattle.sort.specs.Laws.{sorted_moves, sorted_in_order}
use Rattle.query.specs.Keys.{row_of_key, hit, keys_in, Searchable}
use Rattle.query.specs.Descent.{Searched}
use Rattle.query.specs.Rows.{kept_most, kept_apart, mem_map, rows_ascend}
use Rattle.query.proofs.Descent.{rows_under, trains_under}

-- ---- the rows of a window
module _ (v : List ℕ) (h : Searchable v) (w : Window) where
  abbrev s : Store
  s = store_of v

  searched : Searched s.pages
  searched =
      record {
        most = h.ranges.sizes.pages_most;
        fit = all_map h.ranges.pages λ g r. r.places_most;
        smallest = h.rule3.smallest;
      }

  -- the entries that are listed
  hits : List Entry
  hits = keep (hit s.memo w) (held s)

  hits_apart : Apart hits
  unfolding hits hit
  hits_apart = rw (keep_both (is_latest s.memo) (λ e. meets e.bounds w)) (kept_apart (λ e. meets e.bounds w) (keep (is_latest s.memo) (held s)) h.rule5.one_latest)

  -- their rows are those of the keys, in turn
  keys_rows : map (row_of_key s.pages) (keys_in s w) ≡ map row_for hits
  unfolding hits keys_in held
  keys_rows = rows_under s.pages searched s.memo w s.levels s.root h.leaves

  pub keys_most : length (keys_in s w) ≤ 576
  unfolding hits
  keys_most =
      omega (arith, length-map (keys_in s w) (row_of_key s.pages), ap length keys_rows, length-map hits row_for, kept_most (hit s.memo w) (held s), h.rule4.held_most, h.ranges.sizes.pages_most)

  -- sorted, they name the same rows, which ascend
  sorted_rows : map (row_of_key s.pages) (sorted (keys_in s w)) ~ map row_for hits
  sorted_rows = map_reordered (row_of_key s.pages) (sorted_moves (keys_in s w)) then same keys_rows

  sorted_ascend : RowsAscend (map (row_of_key s.pages) (sorted (keys_in s w)))
  unfolding keys_in
  sorted_ascend =
      rows_ascend (row_of_key s.pages) (sorted_in_order (keys_in s w))
      (all_reordered (back (sorted_moves (keys_in s w))) (trains_under s.pages searched s.memo w s.levels s.root))
      (distinct_reordered (same (sym (map-map (λ r. r.train.0) row_for hits)) then back (map_reordered (λ r. r.train.0) sorted_rows) then same (map-map (λ r. r.train.0) (row_of_key s.pages) (sorted (keys_in s w)))) hits_apart)

  pub rows_found : map (row_of_key s.pages) (sorted (keys_in s w)) ≡ rows_in s w
  unfolding hits hit rows_in
  rows_found =
      same_members sorted_ascend (rows_of_ascend hits)
      (λ r m. all_member {P = λ r. Mem r (rows_of hits)} (all_mapped row_for (all_members hits λ e n. entry_has_row hits_apart n)) (mem_reordered sorted_rows m))
      (λ r m. let (e, n, q) = row_has_entry hits m in mem_reordered (back sorted_rows) (Memᴰ.cast (sym q) (mem_map row_for n)))

  pub rows_many : length (keys_in s w) ≡ length (rows_in s w)
  rows_many =
      sym (length_reordered (sorted_moves (keys_in s w))) ∙ sym (length-map (sorted (keys_in s w)) (row_of_key s.pages)) ∙ ap length rows_found
