-- The way to a page: which pages lead to it, and by which place. Assumes nothing.
use Prim.Native.Nat.compare
use Prim.Native.Nat.{ℕ, zero, suc, ◌-◌, ◌≤◌, ◌<◌}
use native.Mathlib.Omega.{arith}
use mathlib.Core.Path.{◌≡◌, refl, sym, ◌∙◌, ap}
use mathlib.Core.Bool.{Bool, true, false, cond, ◌||◌, or_assoc}
use mathlib.Core.List.{List, [], ◌∷◌, ◌++◌, flat_map}
use lib.Dec.{eqb, ltb}
use lib.ListN.{length, get_or}
use Rattle.std.specs.Prelude.{Option, Some, None, IsSome, nat_eq, nat_lt}
use Rattle.std.specs.Option.{is_some}
use Rattle.std.specs.List.{position, position_or_len}
use Rattle.std.proofs.lemmas.List.Recursion.{is_position_or_len}
use Rattle.std.proofs.lemmas.List.Sums.{position_or_len_is}
use Rattle.std.proofs.lemmas.Bool.{le-ltb}
use borrow.Author.Tests.{lt-ltb}
use Rattle.rules.specs.declared.PageNo.{PageNo}
use Rattle.rules.specs.declared.Entry.{Entry}
use Rattle.rules.specs.Lists.{some_one, first}
use Rattle.rules.specs.Store.{Page as Contents, no_place, child_of, page_at, store_of}
use Rattle.rules.specs.Cleaning.{reached_under, among}
use Rattle.page.specs.declared.Page.{Page}
use Rattle.page.specs.Struct.{contents, struct_at}
use Rattle.tree.specs.Putting.{Ready}
use Rattle.tree.specs.Laws.{read-contents}
use Rattle.trim.specs.Trimming.{leads_to, way}

-- ---- one of several pages
module _ (q : PageNo) where
  among_append : (xs ys : List PageNo) → among q (xs ++ ys) ≡ (among q xs || among q ys)
  unfolding among
  among_append [] ys = refl
  among_append (x ∷ xs) ys = ap (λ b. eqb x.0 q.0 || b) (among_append xs ys) ∙ sym (or_assoc (eqb x.0 q.0) (among q xs) (among q ys))

  among_flat : (f : Entry → List PageNo) (es : List Entry) → among q (flat_map f es) ≡ some_one (λ e. among q (f e)) es
  unfolding among flat_map
  among_flat f [] = refl
  among_flat f (e ∷ es) = among_append (f e) (flat_map f es) ∙ ap (λ b. among q (f e) || b) (among_flat f es)

-- the place that the rules find is the one that std finds
pub first_is : {A : Type 0} (f : A → Bool) (xs : List A) → first f xs ≡ position_or_len f xs
unfolding first
first_is f xs = is_position_or_len (first f) f refl (λ x xs. ap (cond (f x) 0) (omega arith)) xs

-- a test that some element passes, by the place of the first that does
some_first : {A : Type 0} (f : A → Bool) (xs : List A) → ltb (first f xs) (length xs) ≡ some_one f xs
unfolding first
some_first f [] = refl
some_first f (x ∷ xs) = go (f x) (some_first f xs)
  where
    go : (b : Bool) → ltb (first f xs) (length xs) ≡ some_one f xs → ltb (cond b 0 (suc (first f xs))) (suc (length xs)) ≡ (b || some_one f xs)
    go true h = lt-ltb 0 (suc (length xs)) (omega arith)
    go false h = rw compare.suc-suc h

some_position : {A : Type 0} (f : A → Bool) (xs : List A) → is_some (position f xs) ≡ some_one f xs
some_position f xs = go (nat_lt (position_or_len f xs) (length xs)) ∙ rw first_is at (some_first f xs)
  where
    go : (b : Bool) → is_some (cond b (Some (position_or_len f xs)) None) ≡ b
    go true = refl
    go false = refl

-- where std finds a place it is that one
pub place_found : {A : Type 0} (f : A → Bool) (xs : List A) (i : ℕ) → position f xs ≡ Some i → i ≡ first f xs
place_found f xs i = go (nat_lt (position_or_len f xs) (length xs))
  where
    go : (b : Bool) → cond b (Some (position_or_len f xs)) None ≡ Some i → i ≡ first f xs
    go true e = let k : position_or_len f xs ≡ i = cc e in sym k ∙ sym (first_is f xs)
    go false e = let z : ◌≡◌ {A = ℕ} 0 1 = cc e in absurd (omega arith)

pub some_found : {A : Type 0} (f : A → Bool) (xs : List A) → first f xs < length xs → IsSome (position f xs)
some_found f xs h = rw (lt-ltb (position_or_len f xs) (length xs) (omega (arith, first_is f xs))) refl

-- ---- a page at a level
module _ (p : ℕ) (w : List ℕ) (level : ℕ) (at q : PageNo) (b : Bool) (same : b ≡ nat_eq at.0 q.0) where
  pub leads_itself : 1 ≤ level → b ≡ true → b ≡ leads_to (store_of w).pages level q at
  unfolding reached_under among
  leads_itself h t = go level h
    where
      go : (l : ℕ) → 1 ≤ l → b ≡ leads_to (store_of w).pages l q at
      go zero h = absurd (omega arith)
      go (suc zero) h = rw (← same, t)
      go (suc (suc l)) h = rw (← same, t)

  module _ (other : b ≡ false) where
    pub leads_nowhere : 1 ≤ level → level ≤ 1 → nat_lt 1 level ≡ leads_to (store_of w).pages level q at
    unfolding reached_under among
    leads_nowhere h k = let e : level ≡ 1 = omega arith in rw (e, ← same, other)

    inner_leads : (l : ℕ) → 1 ≤ l → leads_to (store_of w).pages (suc l) q at ≡ some_one (λ e. leads_to (store_of w).pages l q (child_of e)) (page_at (store_of w).pages at).places
    unfolding reached_under among
    inner_leads zero h = absurd (omega arith)
    inner_leads (suc l) h = rw (← same, other) (among_flat q (λ e. reached_under (store_of w).pages (suc l) (child_of e)) (page_at (store_of w).pages at).places)

    pub leads_further : Ready p w → (g : Page) (i : Option ℕ) → 1 < level → g ≡ struct_at w p at → i ≡ way (store_of w).pages (level - 1) q (contents g).places
        → is_some i ≡ leads_to (store_of w).pages level q at
    leads_further h g i k read e =
        let s : level ≡ suc (level - 1) = omega arith in
        ap is_some e
        ∙ some_position (λ e. leads_to (store_of w).pages (level - 1) q (child_of e)) (contents g).places
        ∙ ap (λ (c : Contents). some_one (λ e. leads_to (store_of w).pages (level - 1) q (child_of e)) c.places) (read-contents p w h at g read)
        ∙ sym (ap (λ l. leads_to (store_of w).pages l q at) s ∙ inner_leads (level - 1) (omega arith))

-- ---- the places of a page, one by one
module _ {A : Type 0} (f : A → Bool) (xs : List A) (i : ℕ) (d : A) (before : (k : ℕ) → k < i → f (get_or xs k d) ≡ false) where
  found_here : i < length xs → f (get_or xs i d) ≡ true → Some i ≡ position f xs
  found_here h t = rw (position_or_len_is f xs i d (omega arith) before (λ k. t), lt-ltb i (length xs) h) refl

  found_nowhere : i ≡ length xs → None ≡ position f xs
  found_nowhere h = rw (position_or_len_is f xs i d (omega arith) before (λ k. absurd (omega arith)), le-ltb i (length xs) (omega arith)) refl

module _ (w : List ℕ) (level : ℕ) (q : PageNo) (g : Page) (used : List Entry) (so : used ≡ (contents g).places) (i : ℕ)
    (before : (k : ℕ) → k < i → leads_to (store_of w).pages level q (child_of (get_or used k no_place)) ≡ false) where
  pub way_here : i < length used → leads_to (store_of w).pages level q (child_of (get_or used i no_place)) ≡ true
      → Some i ≡ way (store_of w).pages level q (contents g).places
  way_here h t = rw (← so) (found_here (λ e. leads_to (store_of w).pages level q (child_of e)) used i no_place before h t)

  pub way_nowhere : i ≡ length used → None ≡ way (store_of w).pages level q (contents g).places
  way_nowhere h = rw (← so) (found_nowhere (λ e. leads_to (store_of w).pages level q (child_of e)) used i no_place before h)
