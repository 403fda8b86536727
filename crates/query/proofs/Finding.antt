-- From the root all keys of the window are found, and they are sorted in their part of the lent slice.
use Rattle.std.proofs.Common.{◌≡◌, ℕ, ◌+◌, ◌≤◌, List, ◌++◌, length, get_or, take, drop, map, sym, ◌∙◌, ap, ap₂, arith}
use Rattle.std.proofs.Math.ListN.{length-append}
use Rattle.std.proofs.Math.Seq.{sets, sets-eq, take_at, drop_at}
use Rattle.rules.specs.declared.PageNo.{PageNo}
use Rattle.rules.specs.declared.Window.{Window}
use Rattle.rules.specs.Store.{page_no, store_of}
use Rattle.rules.specs.laws.Header.{root_there, levels_there}
use Rattle.rules.specs.laws.Order.{length_reordered}
use Rattle.sort.specs.Sorted.{sorted, worked}
use Rattle.sort.specs.Laws.{sorted_moves}
use Rattle.query.specs.Keys.{row_of_key, keys_at, keys_in, Searchable, Written, Found}
use Rattle.query.proofs.Rows.{keys_most, rows_many, rows_found}

module _ (v : List ℕ) (h : Searchable v) (level : ℕ) (levels : level ≡ get_or v 3 0) where
  level_read : level ≡ (store_of v).levels
  level_read = levels ∙ rw h.written at (levels_there (store_of v))

  pub level_least : 1 ≤ level
  level_least = omega (arith, level_read, h.ranges.header.levels_least)

  module _ (root : PageNo) (starts : root ≡ page_no (get_or v 2 0)) (w : Window) where
    from_root : keys_at v w level root ≡ keys_in (store_of v) w
    unfolding keys_in
    from_root =
        ap₂ (keys_at v w) level_read (starts ∙ rw h.written at (root_there (store_of v)))

    pub root_room : 0 + length (keys_at v w level root) ≤ 576
    root_room = omega (arith, ap length from_root, keys_most v h w)

    module _ (keys : List ℕ) (r : ℕ) (keys' : List ℕ) (t : Written keys 0 (keys_at v w level root) r keys') (long : length keys ≡ 576) where
      count_found : r ≡ length (keys_in (store_of v) w)
      count_found = omega (arith, t.counted, ap length from_root)

      -- the keys stand in front of what was there
      in_front : keys' ≡ keys_in (store_of v) w ++ drop r keys
      in_front =
          let S = keys_in (store_of v) w in
          let n : 0 + length S ≡ r = omega (arith, count_found) in
          t.wrote ∙ ap (sets keys 0) from_root ∙ sets-eq S keys 0 (omega (arith, keys_most v h w)) ∙ ap (λ n. S ++ drop n keys) n

      pub found_inside : r ≤ length keys'
      found_inside = omega (arith, ap length in_front, length-append (keys_in (store_of v) w) (drop r keys), count_found)

      pub found_within : (work : List ℕ) → length work ≡ 576 → r ≤ length work
      found_within work e = omega (arith, count_found, keys_most v h w)

      pub all_found : (work ks ws : List ℕ) → ks ≡ sorted (take r keys') → ws ≡ worked (take r keys') (take r work)
          → Found (store_of v) w keys work r (ks ++ drop r keys') (ws ++ drop r work)
      all_found work ks ws p q =
          let S = keys_in (store_of v) w in
          let here : take r keys' ≡ S = ap (take r) in_front ∙ take_at S (drop r keys) r (sym count_found) in
          let rest : drop r keys' ≡ drop r keys = ap (drop r) in_front ∙ drop_at S (drop r keys) r (sym count_found) in
          let order : ks ≡ sorted S = p ∙ rw here in
          let long : length ks ≡ r = ap length order ∙ length_reordered (sorted_moves S) ∙ sym count_found in
          record {
            listed = rw (order, rest);
            worked_in = rw (q, here);
            many = count_found ∙ rows_many v h w;
            most = omega (arith, count_found, keys_most v h w);
            rows = ap (map (row_of_key (store_of v).pages)) (take_at ks (drop r keys') r long ∙ order) ∙ rows_found v h w;
          }
