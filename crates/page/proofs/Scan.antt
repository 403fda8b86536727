-- Searches over all pages, each seen as its words.
use Rattle.std.proofs.Common.{ℕ, ◌≡◌, ◌+◌, ◌*◌, ◌≤◌, min, Bool, true, false, cond, ◌&&◌, eqb, ltb, leb, List, [], ◌∷◌, map, length, get_or, sum, Option, Some, None, Fits, w32, refl, sym, ap, ◌∙◌, arith}
use Rattle.std.specs.List.{position, position_or_len, filter, fold}
use Rattle.std.specs.Option.{unwrap_or}
use Rattle.std.proofs.lemmas.List.{length-map}
use Rattle.std.proofs.lemmas.List.Recursion.{is_position_or_len}
use Rattle.std.proofs.lemmas.List.Sums.{prefix_len-le-length, sum_by-cons}
use borrow.Author.Tests.{ltb-false, leb-true, leb-false}
use Rattle.rules.specs.declared.Stamp.{Stamp}
use Rattle.rules.specs.Lists.{first}
use Rattle.rules.specs.Store.{Page as Contents, stamp, page_no, limit, page_of}
use Rattle.rules.specs.Tree.{lowest_free}
use Rattle.rules.specs.Cleaning.{smallest_mark, leaf_to_clean}
use Rattle.rules.specs.Live.{held_in, held_count}
use Rattle.rules.specs.laws.Tests.{either, and_right}
use Rattle.rules.specs.laws.Places.{cut-length}

-- what tells of a page that it is free, and that it is a leaf
abbrev pub free : List ℕ → Bool
free w = eqb (get_or w 0 0) 0

abbrev pub leaf : List ℕ → Bool
leaf w = eqb (get_or w 0 0) 1

-- ---- the first page that passes a test of its words
or_else : (k n : ℕ) → k ≤ n → unwrap_or (cond (ltb k n) (Some k) None) n ≡ k
or_else k n h = either (λ (o : Option ℕ). unwrap_or o n ≡ k) (ltb k n) (λ t. refl) (λ f. omega (arith, ltb-false k n f))

module _ (test : List ℕ → Bool) (ws : List (List ℕ)) (n : ℕ) (long : length ws ≡ n) where
  position_is : unwrap_or (position test ws) n ≡ position_or_len test ws
  position_is = rw (← long) (or_else _ _ (prefix_len-le-length _ ws))

  pub position_fits : n ≤ 192 → (k : ℕ) → k ≡ unwrap_or (position test ws) n → Fits w32 k
  position_fits h k e = let most : position_or_len test ws ≤ length ws = prefix_len-le-length _ ws in record { fits = omega (arith, e ∙ position_is) }

  first_found : (f : Contents → Bool) → ((w : List ℕ) → f (page_of w) ≡ test w) → unwrap_or (position test ws) n ≡ first f (map page_of ws)
  unfolding first
  first_found f same =
      position_is ∙ sym (is_position_or_len (λ ws. first f (map page_of ws)) test refl (λ w ws. rw (same w) (ap (λ n. cond (test w) 0 n) (omega arith))) ws)

module _ (ws : List (List ℕ)) (n : ℕ) (long : length ws ≡ n) where
  pub free_found : (k : ℕ) → k ≡ unwrap_or (position free ws) n → page_no k ≡ lowest_free (map page_of ws)
  unfolding lowest_free page_of
  free_found k e = ap page_no (e ∙ first_found free ws n long (λ g. eqb g.kind 0) (λ w. refl))

  pub leaf_found : (mark : Stamp) (k : ℕ) → mark ≡ smallest_mark (map page_of ws) → k ≡ unwrap_or (position (λ w. leaf w && eqb (get_or w 2 0) mark.0) ws) n
      → page_no k ≡ leaf_to_clean (map page_of ws)
  unfolding leaf_to_clean page_of
  leaf_found mark k q e =
      rw (← q) (ap page_no (e ∙ first_found (λ w. leaf w && eqb (get_or w 2 0) mark.0) ws n long (λ g. eqb g.kind 1 && eqb g.mark.0 mark.0) (λ w. refl)))

-- ---- what the leaves come to
map_kept : {A B : Type 0} (f : A → B) (b : Bool) (x : A) (xs : List A) → map f (cond b (x ∷ xs) xs) ≡ cond b (f x ∷ map f xs) (map f xs)
map_kept f true x xs = refl
map_kept f false x xs = refl

abbrev pub mark_of : List ℕ → ℕ
mark_of w = get_or w 2 0

lower : (a m : ℕ) (s : Stamp) → min (min a m) s.0 ≡ min a (cond (leb m s.0) (stamp m) s).0
lower a m s = either (λ (r : Stamp). min (min a m) s.0 ≡ min a r.0) (leb m s.0) (λ t. omega (arith, leb-true m s.0 t)) (λ f. omega (arith, leb-false m s.0 f))

marks_more : (a : ℕ) (b : Bool) (m : ℕ) (ms : List ℕ) (s : Stamp) → fold min a ms ≡ min a s.0 → fold min (min a m) ms ≡ min (min a m) s.0
    → fold min a (cond b (m ∷ ms) ms) ≡ min a (cond (b && leb m s.0) (stamp m) s).0
marks_more a true m ms s h k = k ∙ lower a m s
marks_more a false m ms s h k = h

marks : (a : ℕ) (ws : List (List ℕ)) → a ≤ limit → fold min a (map mark_of (filter leaf ws)) ≡ min a (smallest_mark (map page_of ws)).0
unfolding smallest_mark page_of
marks a [] h = omega arith
marks a (w ∷ ws) h =
    ap (fold min a) (map_kept mark_of (leaf w) w (filter leaf ws))
    ∙ marks_more a (leaf w) (mark_of w) (map mark_of (filter leaf ws)) _ (marks a ws h) (marks (min a (mark_of w)) ws (omega arith))

smallest-most : (gs : List Contents) → (smallest_mark gs).0 ≤ limit
unfolding smallest_mark
smallest-most [] = omega arith
smallest-most (g ∷ gs) =
    let later = smallest-most gs in
    either (λ (s : Stamp). s.0 ≤ limit) (eqb g.kind 1 && leb g.mark.0 (smallest_mark gs).0) (λ t. omega (arith, leb-true _ _ (and_right (eqb g.kind 1) (leb g.mark.0 (smallest_mark gs).0) t))) (λ f. later)

pub marks_lowest : (ws : List (List ℕ)) (m : ℕ) → m ≡ fold min limit (map mark_of (filter leaf ws)) → stamp m ≡ smallest_mark (map page_of ws)
marks_lowest ws m e = ap stamp (omega (arith, marks limit ws (omega arith), smallest-most (map page_of ws)))

-- how many entries a leaf holds
abbrev pub held_of : List ℕ → ℕ
held_of w = min (get_or w 1 0) 8

held_there : (w : List ℕ) → held_of w ≡ length (page_of w).places
unfolding page_of
held_there w = rw (length-map, cut-length) (omega arith)

sum_kept : (b : Bool) (m n : ℕ) (ms : List ℕ) → m ≡ n → sum (cond b (m ∷ ms) ms) ≡ cond b n 0 + sum ms
sum_kept true m n ms e = sum_by-cons (λ k. k) m ms ∙ ap (λ k. k + sum ms) e
sum_kept false m n ms e = omega arith

pub held_counted : (ws : List (List ℕ)) → sum (map held_of (filter leaf ws)) ≡ held_count (map page_of ws)
unfolding held_count held_in page_of
held_counted [] = refl
held_counted (w ∷ ws) =
    let later = held_counted ws in
    ap sum (map_kept held_of (leaf w) w (filter leaf ws)) ∙ sum_kept (leaf w) (held_of w) _ (map held_of (filter leaf ws)) (held_there w) ∙ omega arith

held_few : (g : Contents) → length g.places ≤ 8 → held_in g ≤ 8
unfolding held_in
held_few g h = either (λ n. n ≤ 8) (eqb g.kind 1) (λ t. h) (λ f. omega arith)

pub held_most : (ws : List (List ℕ)) → held_count (map page_of ws) ≤ 8 * length ws
unfolding held_count
held_most [] = omega arith
held_most (w ∷ ws) = omega (arith, held_most ws, held_few (page_of w) (omega (arith, held_there w)))
