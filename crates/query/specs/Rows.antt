-- Rows that are kept, and rows in the order of their keys; what stands in a slice where a query's rows are written.
use Rattle.std.specs.Prelude.{ℕ, ◌*◌, ◌≤◌, ◌≡◌, Bool, true, false, take, drop}
use Rattle.std.proofs.Common.{arith, le_refl, sym, ◌∙◌}
use Rattle.std.proofs.Math.Path.{ap}
use mathlib.Core.List.Memᴰ
use mathlib.Core.List.{List, [], ◌∷◌, ◌++◌, map, flat_map}
use Rattle.std.proofs.Math.ListN.{length, length-map}
use Rattle.rules.specs.declared.Window.{Window}
use Rattle.rules.specs.declared.Entry.{Entry}
use Rattle.rules.specs.declared.Row.{Row}
use Rattle.rules.specs.Lists.{keep, put_if}
use Rattle.rules.specs.Store.{Store, row_words}
use Rattle.rules.specs.Live.{rows_in}
use Rattle.rules.specs.laws.All.{All, more, all_map, all_mapped, all_kept, all_zip, all_unmapped, Mem}
use Rattle.rules.specs.laws.Lists.{Distinct, d_more}
use Rattle.rules.specs.laws.Rows.{RowsAscend, r_none, r_more, Apart}
use Rattle.sort.specs.Laws.{InOrder, o_none, o_more}
use Rattle.query.specs.Keys.{row_of_key, Found}
use Rattle.query.specs.Descent.{ByTrain}

-- ---- keeping leaves no more, and no two alike where there were none
pub kept_most : {A : Type 0} (f : A → Bool) (xs : List A) → length (keep f xs) ≤ length xs
unfolding keep
kept_most f [] = le_refl 0
kept_most f (x ∷ xs) = go (f x) (kept_most f xs)
  where
    go : (b : Bool) → length (keep f xs) ≤ length xs → length (put_if b x (keep f xs)) ≤ length (x ∷ xs)
    go true h = omega arith
    go false h = omega arith

pub kept_apart : (f : Entry → Bool) (es : List Entry) → Apart es → Apart (keep f es)
unfolding keep
kept_apart f [] d = d
kept_apart f (e ∷ es) (d_more h d) = go (f e) (kept_apart f es d)
  where
    go : (b : Bool) → Apart (keep f es) → Apart (put_if b e (keep f es))
    go true k = d_more (all_mapped _ (all_kept f (all_map (all_unmapped _ es h) λ x n t. n))) k
    go false k = k

pub mem_map : {A B : Type 0} (f : A → B) {x : A} {xs : List A} → Mem x xs → Mem (f x) (map f xs)
mem_map f (Memᴰ.head e) = Memᴰ.head (ap f e)
mem_map f (Memᴰ.tail m) = Memᴰ.tail (mem_map f m)

-- ---- keys in order, whose first parts are the trains of their rows, no two alike, name ascending rows
pub rows_ascend : (f : ℕ → Row) {ks : List ℕ} → InOrder ks → All (ByTrain f) ks → Distinct (map (λ k. (f k).train.0) ks)
    → RowsAscend (map f ks)
rows_ascend f o_none a d = r_none
rows_ascend f (o_more {x = k} {xs = ks} least o) (more h a) (d_more n d) =
    r_more {r = f k}
    (all_mapped f (all_zip {P = λ j. (f k).train.0 ≤ (f j).train.0} (all_zip least a λ j l e. omega arith) (all_unmapped _ ks n) λ j l m. omega arith))
    (rows_ascend f o a d)

-- the rows of the keys found, written in front of a slice, are the query's answer in it
pub answer-written : {s : Store} {w : Window} {keys work : List ℕ} {n : ℕ} {keys' work' : List ℕ} (out out' : List ℕ) → Found s w keys work n keys' work'
    → out' ≡ flat_map row_words (map (row_of_key s.pages) (take n keys')) ++ drop (5 * length (take n keys')) out
    → out' ≡ flat_map row_words (rows_in s w) ++ drop (5 * length (rows_in s w)) out
answer-written {s} {w} {n = n} {keys' = keys'} out out' f e =
    let many : length (take n keys') ≡ length (rows_in s w) = sym (length-map (take n keys') (row_of_key s.pages)) ∙ ap length f.rows in
    e ∙ rw (f.rows, many)
