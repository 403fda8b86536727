-- Pages read and written, and the numbers of the free ones among them in order.
use Prim.Native.Nat.{ℕ, zero, suc, ◌<◌, ◌≤◌}
use Rattle.std.proofs.Common.{arith, not-suc-le-zero, le_of_suc-le-suc, add-zero, zero-add, sym, ◌∙◌, length-set, length-drop, get_or-set_other, get_or-set_same, get_or-drop, leb-true, leb-false}
use Rattle.std.specs.Prelude.{◌≡◌, Bool, cond, eqb, leb, set}
use Rattle.std.proofs.Math.Path.{refl, ap}
use Rattle.std.proofs.Math.Bool.{true, false}
use mathlib.Core.List.{List, [], ◌∷◌, map}
use mathlib.Core.List.Permᴰ
use Rattle.std.proofs.Math.Dec.{eqb-suc-suc, eqb-suc-zero}
use Rattle.std.proofs.Math.ListN.{length, get_or, drop, get_or-eq_default}
use Rattle.std.proofs.lemmas.List.{length-map}
use Rattle.rules.specs.declared.PageNo.{PageNo}
use Rattle.rules.specs.Lists.{put_if, first, count, one_if}
use Rattle.rules.specs.Store.{Page, page_no, free_page, page_at, put_page}
use Rattle.rules.specs.Tree.{lowest_free}
use Rattle.rules.specs.Sound.{is_free}
use Rattle.rules.specs.laws.Tests.{not_both}
use Rattle.rules.specs.laws.All.{All, none, more, all_map, all_mapped, always}
use Rattle.rules.specs.laws.Order.{◌~◌, ◌then◌, map_reordered}
use Rattle.theorems.specs.tree.Numbers.{Off, off_count, picks, picks_all}

-- ---- the places of those that pass a test, ascending
unfoldable pub passing : {A : Type 0} → (A → Bool) → List A → List ℕ
passing f [] = []
passing f (x ∷ xs) = put_if (f x) 0 (map suc (passing f xs))

module _ {A : Type 0} (f : A → Bool) (d : A) where
  -- one that fares alike is written over
  passing_alike : (xs : List A) (n : ℕ) (y : A) → f (get_or xs n d) ≡ f y → passing f (set xs n y) ≡ passing f xs
  unfolding passing
  passing_alike [] n y e = refl
  passing_alike (x ∷ xs) zero y e = rw e
  passing_alike (x ∷ xs) (suc n) y e = ap (λ r. put_if (f x) 0 (map suc r)) (passing_alike xs n y e)

  -- the first that passes is written over by one that fails
  passing-first_gone : (xs : List A) (y : A) → f y ≡ false → passing f (set xs (first f xs) y) ≡ drop 1 (passing f xs)
  unfolding passing first
  passing-first_gone [] y e = refl
  passing-first_gone (x ∷ xs) y e = go (f x) refl (passing-first_gone xs y e)
    where
      drop-map : (ns : List ℕ) → map suc (drop 1 ns) ≡ drop 1 (map suc ns)
      drop-map [] = refl
      drop-map (n ∷ ns) = refl

      go : (b : Bool) → f x ≡ b → passing f (set xs (first f xs) y) ≡ drop 1 (passing f xs)
          → passing f (set (x ∷ xs) (cond b 0 (suc (first f xs))) y) ≡ drop 1 (put_if b 0 (map suc (passing f xs)))
      go true b ih = rw e
      go false b ih = rw b (ap (map suc) ih ∙ drop-map (passing f xs))

  -- the first of the places is that of the first that passes, within the list
  passing-first : (xs : List A) → 1 ≤ length (passing f xs) → (get_or (passing f xs) 0 0 ≡ first f xs) × (first f xs < length xs)
  unfolding passing first
  passing-first [] h = absurd (not-suc-le-zero h)
  passing-first (x ∷ xs) h = go (f x) h (λ k. passing-first xs k)
    where
      shifted : (ns : List ℕ) → 1 ≤ length ns → get_or (map suc ns) 0 0 ≡ suc (get_or ns 0 0)
      shifted [] h = absurd (not-suc-le-zero h)
      shifted (n ∷ ns) h = refl

      go : (b : Bool) → 1 ≤ length (put_if b 0 (map suc (passing f xs)))
          → (1 ≤ length (passing f xs) → (get_or (passing f xs) 0 0 ≡ first f xs) × (first f xs < length xs))
          → (get_or (put_if b 0 (map suc (passing f xs))) 0 0 ≡ cond b 0 (suc (first f xs))) × (cond b 0 (suc (first f xs)) < suc (length xs))
      go true h ih = (refl, omega arith)
      go false h ih =
          let k : 1 ≤ length (passing f xs) = omega (arith, length-map (passing f xs) suc) in
          (shifted (passing f xs) k ∙ ap suc (ih k).0, omega (arith, (ih k).1))

  first_passes : (xs : List A) → f d ≡ true → f (get_or xs (first f xs) d) ≡ true
  unfolding first
  first_passes [] e = e
  first_passes (x ∷ xs) e = go (f x) refl (first_passes xs e)
    where
      go : (b : Bool) → f x ≡ b → f (get_or xs (first f xs) d) ≡ true → f (get_or (x ∷ xs) (cond b 0 (suc (first f xs))) d) ≡ true
      go true e ih = e
      go false e ih = ih

  all_passing : {P : ℕ → Type 0} (xs : List A) → ((n : ℕ) → f (get_or xs n d) ≡ true → n < length xs → P n) → All P (passing f xs)
  unfolding passing
  all_passing [] h = none
  all_passing {P = P} (x ∷ xs) h = go (f x) refl (all_mapped suc (all_passing xs λ n e k. h (suc n) e (omega arith)))
    where
      go : (b : Bool) → f x ≡ b → All P (map suc (passing f xs)) → All P (put_if b 0 (map suc (passing f xs)))
      go true e r = more (h 0 e (omega arith)) r
      go false e r = r

  -- a place is among them once, or not at all
  count-passing : (xs : List A) (n : ℕ) → n < length xs → count (eqb n) (passing f xs) ≡ one_if (f (get_or xs n d))
  unfolding passing count
  count-passing [] n h = absurd (not-suc-le-zero h)
  count-passing (x ∷ xs) zero h = go (f x)
    where
      none_zero : count (eqb 0) (map suc (passing f xs)) ≡ 0
      none_zero = off_count 0 (all_mapped suc (always (λ n e. omega arith) (passing f xs)))

      go : (b : Bool) → count (eqb 0) (put_if b 0 (map suc (passing f xs))) ≡ one_if b
      go true = rw none_zero
      go false = none_zero
  count-passing (x ∷ xs) (suc n) h = go (f x) (shifted (passing f xs) ∙ count-passing xs n (le_of_suc-le-suc h))
    where
      shifted : (ns : List ℕ) → count (eqb (suc n)) (map suc ns) ≡ count (eqb n) ns
      shifted [] = refl
      shifted (m ∷ ns) = rw (shifted ns, eqb-suc-suc n m)

      go : (b : Bool) → count (eqb (suc n)) (map suc (passing f xs)) ≡ one_if (f (get_or xs n d))
          → count (eqb (suc n)) (put_if b 0 (map suc (passing f xs))) ≡ one_if (f (get_or xs n d))
      go true r = rw (eqb-suc-zero n, r) (zero-add _)
      go false r = r

  -- one that passes is written over one that fails
  passing_more : (xs : List A) (n : ℕ) (y : A) → n < length xs → f (get_or xs n d) ≡ false → f y ≡ true → passing f (set xs n y) ~ (n ∷ passing f xs)
  unfolding passing
  passing_more [] n y h e k = absurd (not-suc-le-zero h)
  passing_more (x ∷ xs) zero y h e k = rw (e, k) (Permᴰ.refl _)
  passing_more (x ∷ xs) (suc n) y h e k = go (f x) (map_reordered suc (passing_more xs n y (le_of_suc-le-suc h) e k))
    where
      go : (b : Bool) → map suc (passing f (set xs n y)) ~ (suc n ∷ map suc (passing f xs))
          → put_if b 0 (map suc (passing f (set xs n y))) ~ (suc n ∷ put_if b 0 (map suc (passing f xs)))
      go true r = Permᴰ.cons refl r then Permᴰ.swap refl refl
      go false r = r

-- ---- a page written
pub page_other : (ps : List Page) (p : PageNo) (g : Page) (n : ℕ) → (n ≡ p.0 → ⊥) → page_at (put_page ps p g) (page_no n) ≡ page_at ps (page_no n)
unfolding page_at put_page
page_other ps p g n h = get_or-set_other ps p.0 n g free_page h

pub page_same : (ps : List Page) (p : PageNo) (g : Page) → p.0 < length ps → page_at (put_page ps p g) p ≡ g
unfolding page_at put_page
page_same ps p g h = get_or-set_same ps p.0 g free_page h

pub put-length : (ps : List Page) (p : PageNo) (g : Page) → length (put_page ps p g) ≡ length ps
unfolding put_page
put-length ps p g = length-set ps p.0 g

-- past the last page all are free
pub used_inside : (ps : List Page) (p : PageNo) → is_free (page_at ps p) ≡ false → p.0 < length ps
unfolding page_at
used_inside ps p e = go (leb (length ps) p.0) refl
  where
    go : (b : Bool) → leb (length ps) p.0 ≡ b → p.0 < length ps
    go false f = leb-false _ _ f
    go true f = absurd (not_both true refl (sym (ap is_free (get_or-eq_default ps free_page (leb-true _ _ f))) ∙ e))

-- ---- the free pages
abbrev pub frees : List Page → List ℕ
frees ps = passing is_free ps

-- a used page written over a used one
pub frees-used : (ps : List Page) (p : PageNo) (g : Page) → is_free (page_at ps p) ≡ false → is_free g ≡ false → frees (put_page ps p g) ≡ frees ps
unfolding page_at put_page
frees-used ps p g h k = passing_alike is_free free_page ps p.0 g (h ∙ sym k)

-- the lowest free page taken
pub frees-taken : (ps : List Page) (g : Page) → is_free g ≡ false → frees (put_page ps (lowest_free ps) g) ≡ drop 1 (frees ps)
unfolding put_page lowest_free
frees-taken ps g k = passing-first_gone is_free free_page ps g k

-- a used page freed
pub frees_freed : (ps : List Page) (p : PageNo) → is_free (page_at ps p) ≡ false → frees (put_page ps p free_page) ~ (p.0 ∷ frees ps)
unfolding page_at put_page
frees_freed ps p u = passing_more is_free free_page ps p.0 free_page (used_inside ps p u) u refl

-- the lowest free page is the first of them
pub lowest_is : (ps : List Page) → 1 ≤ length (frees ps) → (get_or (frees ps) 0 0 ≡ (lowest_free ps).0) × ((lowest_free ps).0 < length ps)
unfolding lowest_free
lowest_is ps h = passing-first is_free free_page ps h

-- it is free
pub lowest_is_free : (ps : List Page) → is_free (page_at ps (lowest_free ps)) ≡ true
unfolding page_at lowest_free
lowest_is_free ps = first_passes is_free free_page ps refl

-- so are all of them, and they are pages
pub frees_inside : (ps : List Page) → All (λ n. (is_free (page_at ps (page_no n)) ≡ true) × (n < length ps)) (frees ps)
unfolding page_at
frees_inside ps = all_passing is_free free_page ps λ n e k. (e, k)

-- each free page is there once
pub count-frees : (ps : List Page) (n : ℕ) → n < length ps → count (eqb n) (frees ps) ≡ one_if (is_free (page_at ps (page_no n)))
unfolding page_at
count-frees ps n h = count-passing is_free free_page ps n h

-- a used page is none of the free ones
pub used_off : (ps : List Page) (m n : ℕ) → is_free (page_at ps (page_no m)) ≡ false → n ≤ length (frees ps) → Off m (picks (frees ps) n)
used_off ps m n u h = picks_all n (all_map (frees_inside ps) λ f k e. not_both (is_free (page_at ps (page_no f))) k.0 (rw (← e) at u)) h

-- the free page that comes after the first n
pub next_free : (n : ℕ) (fs : List ℕ) (qs : List Page) → suc n ≤ length fs → frees qs ≡ drop n fs → (1 ≤ length (frees qs)) × (get_or fs n 0 ≡ (lowest_free qs).0)
next_free n fs qs h f =
    let a : 1 ≤ length (frees qs) = rw f (omega (arith, length-drop n fs)) in
    (a, sym (rw (add-zero n) at (get_or-drop n fs 0 0)) ∙ ap (λ z. get_or z 0 0) (sym f) ∙ (lowest_is qs a).0)
