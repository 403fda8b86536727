-- Putting an item into a tree keeps every page within its bounds.
use Rattle.std.specs.Prelude.{ℕ, zero, suc, ◌<◌, ◌≤◌, min, ◌≡◌, Bool, cond, List, [], ◌∷◌, ◌++◌, length, get_or, set}
use Rattle.std.proofs.Common.{arith, ◌∙◌, append-nil, length-append}
use Rattle.std.proofs.Math.Path.{refl}
use Rattle.std.proofs.Math.Bool.{true, false}
use mathlib.Core.List.Permᴰ
use Rattle.std.proofs.Math.Dec.{leb}
use borrow.Author.Tests.{leb-true, leb-false}
use Rattle.rules.specs.declared.PageNo.{PageNo}
use Rattle.rules.specs.declared.Box.{Box}
use Rattle.rules.specs.Lists.{without}
use Rattle.rules.specs.Tree.{choose, split}
use Rattle.rules.specs.laws.All.{All, none, more, head_of, tail_of, all_append, all_front, all_back}
use Rattle.rules.specs.laws.Order.{◌~◌, ◌then◌, same, back, all_reordered, length_reordered, picked, placed}
use Rattle.rules.specs.laws.Split.{choose_lt, split_parted}
use Rattle.theorems.specs.tree.Items.{Node, Item, extent, with_items, no_node, Thick, Full, Grown, single, double, parts, settle, replaced, above, put}

-- what has become of a page is within bounds: one that stays has at least n places, the parts of a split at least 4
abbrev pub Good : (n : ℕ) {A : Type 0} → (A → Type 0) → Grown (Node A) → Type 0
Good n Fit (single t) = Thick n Fit t
Good n Fit (double a b) = Thick 4 Fit a × Thick 4 Fit b

good-parts : {A : Type 0} {Fit : A → Type 0} (g : Grown (Node A)) → Good 4 Fit g → All (Thick 4 Fit) (parts g)
good-parts (single t) h = more h none
good-parts (double a b) h = more h.0 (more h.1 none)

module _ {A : Type 0} (Fit : A → Type 0) (f : A → Box) (q : PageNo) (t : Node A) (xs : List A) where
  settle-good : (n : ℕ) → n ≤ length xs → length xs ≤ 9 → All Fit xs → Good n Fit (settle f q t xs)
  unfolding settle
  settle-good n least most a = go (leb (length xs) 8) refl
    where
      go : (b : Bool) → leb (length xs) 8 ≡ b
          → Good n Fit (cond b (single (with_items t xs)) (double (with_items t (split f xs).first) (record { no = q; mark = t.mark; items = (split f xs).second })))
      go true e = record { least = least; most = leb-true _ _ e; each = a }
      go false e =
          let p = split_parted f xs (omega (arith, leb-false (length xs) 8 e)) in
          let a' = all_reordered (back p.order) a in (
            record { least = p.first_least; most = omega (arith, p.first_most); each = all_front _ (split f xs).second a' },
            record { least = p.second_least; most = omega (arith, p.second_most); each = all_back (split f xs).first _ a' },
          )

-- the items of a page after one of them has grown are its parts and the rest
pub replaced-parts : {A : Type 0} (xs : List A) (i : ℕ) (g : Grown A) → i < length xs → replaced xs i g ~ (parts g ++ without xs i)
unfolding replaced
replaced-parts xs i (single y) h = placed xs i y h
replaced-parts xs i (double y z) h =
    Permᴰ.middle z (set xs i y) []
    then Permᴰ.cons refl (same (append-nil (set xs i y)) then placed xs i y h)
    then Permᴰ.swap refl refl

-- which are one or two
pub parts_few : {A : Type 0} (g : Grown A) → (1 ≤ length (parts g)) × (length (parts g) ≤ 2)
parts_few (single a) = omega arith
parts_few (double a b) = omega arith

-- a full item put into a page with at least n places, all full; where it goes deeper, n is at least 1
pub put-good : (k d : ℕ) (fs : List ℕ) (x : Item k) (t : Item (above k (suc d))) (n : ℕ) → min 1 d ≤ n
    → Full k x → Thick n (Full (above k d)) t → Good n (Full (above k d)) (put k d fs x t)
unfolding put
put-good k zero fs x t n m hx h =
    let l = length-append t.items (x ∷ []) in
    settle-good (Full k) (extent k) _ t (t.items ++ (x ∷ [])) n (omega (arith, h.least)) (omega (arith, h.most)) (all_append h.each (more hx none))
put-good k (suc d) fs x t n m hx h =
    let i = choose (extent (above k (suc d))) (extent k x) t.items in
    let c = get_or t.items i no_node in
    let w = without t.items i in
    let g = put k d fs x c in
    let hi : i < length t.items = choose_lt (extent (above k (suc d))) (extent k x) t.items (omega (arith, h.least)) in
    let p : t.items ~ (c ∷ w) = picked t.items i no_node hi in
    let a : All (Full (above k (suc d))) (c ∷ w) = all_reordered p h.each in
    let r : replaced t.items i g ~ (parts g ++ w) = replaced-parts t.items i g hi in
    let ih = good-parts g (put-good k d fs x c 4 (omega arith) hx (head_of a)) in
    let lp = length_reordered p in
    let lr = length_reordered r ∙ length-append (parts g) w in
    let few = parts_few g in
    settle-good (Full (above k (suc d))) _ _ t (replaced t.items i g) n (omega (arith, h.least)) (omega (arith, h.most))
    (all_reordered (back r) (all_append ih (tail_of a)))
