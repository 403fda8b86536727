-- A tree laid out in the pages: each page is one of the tree's, free, or one that waits to be put back.
use Rattle.std.specs.Prelude.{ℕ, suc, ◌+◌, ◌<◌, ◌≡◌, refl, Bool, true, false, List, [], ◌∷◌, ◌++◌, eqb, length}
use Rattle.std.proofs.Common.{arith, sym, ◌∙◌, ap, append-nil, eqb-true}
use mathlib.Core.List.Permᴰ
use Rattle.std.proofs.lemmas.Bool.{eqb-false}
use Rattle.rules.specs.declared.PageNo.{PageNo}
use Rattle.rules.specs.Lists.{from, count, one_if}
use Rattle.rules.specs.Store.{Page, page_no, free_page, page_at, put_page}
use Rattle.rules.specs.Sound.{is_free}
use Rattle.rules.specs.laws.All.{head_of}
use Rattle.rules.specs.laws.Lists.{Distinct}
use Rattle.rules.specs.laws.Order.{◌~◌, ◌then◌, back, same, both, rear, distinct_reordered, count_reordered}
use Rattle.rules.specs.laws.Counts.{count_append}
use Rattle.theorems.specs.tree.Numbers.{distinct_back, distinct_cross, from-distinct, count-from}
use Rattle.theorems.specs.tree.Items.{Item, Atom, atoms_of, numbers, Thick, Full}
use Rattle.theorems.specs.tree.Budget.{root_least}
use Rattle.theorems.specs.tree.Pages.{page_other, page_same, put-length, used_inside, frees, frees_freed, count-frees}
use Rattle.theorems.specs.tree.Stands.{Stands, spared}

-- a whole tree: its root stands over items of level `depth`
pub record Top : Type 0 where
  pub depth : ℕ
  pub tree : Item (suc depth)

-- every page is within its bounds; an inner root has at least n places
abbrev pub Rooted : ℕ → Top → Type 0
Rooted n T = Thick (root_least n T.depth) (Full T.depth) T.tree

-- what the whole tree is made of
abbrev pub atoms_top : Top → List Atom
atoms_top T = atoms_of T.depth T.tree

-- every free page is zero throughout
abbrev pub Clear : List Page → Type 0
Clear ps = (n : ℕ) → is_free (page_at ps (page_no n)) ≡ true → page_at ps (page_no n) ≡ free_page

-- `rest` are the pages that wait
pub record Laid (ps : List Page) (T : Top) (rest : List ℕ) : Type 0 where
  pub stands : Stands ps (suc T.depth) T.tree
  pub once : (frees ps ++ (numbers (atoms_top T) ++ rest)) ~ from 0 (length ps)
  pub clear : Clear ps

-- the tree's pages and those that wait all differ
pub laid_distinct : (ps : List Page) (T : Top) (rest : List ℕ) → Laid ps T rest → Distinct (numbers (atoms_top T) ++ rest)
laid_distinct ps T rest L = distinct_back (frees ps) _ (distinct_reordered (back L.once) (from-distinct 0 (length ps)))

-- where none waits, all pages are free or the tree's
pub laid_once : (ps : List Page) (T : Top) → Laid ps T [] → (frees ps ++ numbers (atoms_top T)) ~ from 0 (length ps)
laid_once ps T L = same (ap (λ z. frees ps ++ z) (sym (append-nil (numbers (atoms_top T))))) then L.once

-- then each page is counted once in the tree, or not at all
pub laid_count : (ps : List Page) (T : Top) (n : ℕ) → Laid ps T [] → n < length ps
    → one_if (is_free (page_at ps (page_no n))) + count (eqb n) (numbers (atoms_top T)) ≡ 1
laid_count ps T n L h =
    let a = count_reordered (eqb n) (laid_once ps T L) ∙ count-from n 0 (length ps) (omega arith) (omega arith) in
    omega (arith, count_append (eqb n) (frees ps) (numbers (atoms_top T)), count-frees ps n h)

-- a used page is one of the tree's
pub laid_used : (ps : List Page) (T : Top) (p : PageNo) → Laid ps T [] → is_free (page_at ps p) ≡ false → count (eqb p.0) (numbers (atoms_top T)) ≡ 1
laid_used ps T p L u =
    let c : one_if false + count (eqb p.0) (numbers (atoms_top T)) ≡ 1 = rw u at (laid_count ps T p.0 L (used_inside ps p u)) in
    omega arith

-- a page written, that is zero where it is free
pub clear-put : (ps : List Page) (p : PageNo) (g : Page) → p.0 < length ps → (is_free g ≡ true → g ≡ free_page) → Clear ps → Clear (put_page ps p g)
clear-put ps p g h own c n f = go (eqb n p.0) refl
  where
    go : (b : Bool) → eqb n p.0 ≡ b → page_at (put_page ps p g) (page_no n) ≡ free_page
    go true e =
        let s : page_at (put_page ps p g) (page_no n) ≡ g = ap (λ z. page_at (put_page ps p g) (page_no z)) (eqb-true n p.0 e) ∙ page_same ps p g h in
        s ∙ own (sym (ap is_free s) ∙ f)
    go false e = let o = page_other ps p g n (eqb-false n p.0 e) in o ∙ c n (sym (ap is_free o) ∙ f)

-- a page that waits is freed
pub freed_laid : (ps : List Page) (T : Top) (p : PageNo) (rest : List ℕ) → is_free (page_at ps p) ≡ false → Laid ps T (p.0 ∷ rest) → Laid (put_page ps p free_page) T rest
freed_laid ps T p rest u L =
    let N = numbers (atoms_top T) in
    record {
      stands = spared ps p free_page (suc T.depth) _ T.tree (head_of (distinct_cross N (p.0 ∷ rest) (laid_distinct ps T (p.0 ∷ rest) L))) L.stands;
      once =
          rw (put-length ps p free_page)
          (both (frees_freed ps p u) (Permᴰ.refl (N ++ rest))
          then back (Permᴰ.middle p.0 (frees ps) (N ++ rest))
          then rear (frees ps) (back (Permᴰ.middle p.0 N rest))
          then L.once);
      clear = clear-put ps p free_page (used_inside ps p u) (λ e. refl) L.clear;
    }
