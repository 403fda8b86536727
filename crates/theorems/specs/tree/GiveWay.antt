-- A root with one child gives way to it.
use Prim.Native.Nat.{ℕ, zero, suc, ◌-◌, ◌≤◌}
use native.Mathlib.Omega.{arith}
use Rattle.std.specs.Prelude.{◌≡◌, refl, length}
use Rattle.std.proofs.Common.{sym, subst, ap}
use mathlib.Core.List.{List, [], ◌∷◌, ◌++◌, map, flat_map, append-nil}
use mathlib.Core.List.Permᴰ
use borrow.Author.Tests.{ne_eqb}
use Rattle.rules.specs.declared.PageNo.{PageNo}
use Rattle.rules.specs.declared.Stamp.{Stamp}
use Rattle.rules.specs.Store.{Page, free_page, put_page}
use Rattle.rules.specs.Tree.{Tree}
use Rattle.rules.specs.Cleaning.{given_way}
use Rattle.rules.specs.Sound.{is_free}
use Rattle.rules.specs.laws.All.{All, none, more, head_of}
use Rattle.rules.specs.laws.Order.{◌~◌, ◌then◌, same, rear}
use Rattle.theorems.specs.tree.Items.{Item, no_mark, Atom, page, entry, atoms, atoms_of, numbers, Full}
use Rattle.theorems.specs.tree.Budget.{root_least}
use Rattle.theorems.specs.tree.Pages.{frees, put-length}
use Rattle.theorems.specs.tree.Stands.{place, page_of}
use Rattle.theorems.specs.tree.Laid.{Top, Rooted, atoms_top, Laid, freed_laid}

-- an inner page
abbrev pub IsInner : Atom → Type 0
IsInner (page zero p m) = ⊥
IsInner (page (suc l) p m) = Unit {0}
IsInner (entry m e) = ⊥

-- the tree F that T has become: nothing is gone but inner pages, and an inner root has two places again
pub record GivenWay (T : Top) (F : Tree) (long : ℕ) : Type 0 where
  pub top : Top
  pub root : F.root ≡ top.tree.no
  pub level : F.levels ≡ suc top.depth
  pub laid : Laid F.pages top []
  pub rooted : Rooted 2 top
  pub gone : List Atom
  pub made : atoms_top T ~ (gone ++ atoms_top top)
  pub inner : All IsInner gone
  pub same_length : length F.pages ≡ long

module _ (ps : List Page) (nr : PageNo) (mark : Stamp) where
  abbrev with_root : (l : ℕ) → List (Item l) → Top
  with_root l xs = record { depth = l; tree = record { no = nr; mark = mark; items = xs } }

  -- a root that stays
  stays : (l : ℕ) (xs : List (Item l)) → Laid ps (with_root l xs) [] → Rooted 2 (with_root l xs)
      → GivenWay (with_root l xs) (record { root = nr; levels = suc l; pages = ps }) (length ps)
  stays l xs L h =
      record { top = with_root l xs; root = refl; level = refl; laid = L; rooted = h; gone = []; made = Permᴰ.refl _; inner = none; same_length = refl }

  -- a root that goes
  goes : (l : ℕ) (c : Item (suc l)) → Laid ps (with_root (suc l) (c ∷ [])) [] → Full (suc l) c
      → GivenWay (with_root (suc l) (c ∷ [])) (record { root = c.no; levels = suc l; pages = put_page ps nr free_page }) (length ps)
  unfolding atoms flat_map page_of
  goes l c L f =
      let T : Top = record { depth = l; tree = c } in
      let N = numbers (atoms_of l c) in
      let waits : Laid ps T (nr.0 ∷ []) =
      record {
        stands = head_of L.stands.1;
        once =
            rear (frees ps)
            (Permᴰ.middle nr.0 N []
            then same (ap (λ z. nr.0 ∷ c.no.0 ∷ (numbers z ++ [])) (sym (append-nil (flat_map (atoms l c.mark) c.items)))))
            then L.once;
        clear = L.clear;
      } in
      record {
        top = T;
        root = refl;
        level = refl;
        laid = freed_laid ps T nr [] (ap is_free L.stands.0) waits;
        rooted = record { least = omega (arith, least_two l, f.least); most = f.most; each = f.each };
        gone = page (suc l) nr no_mark ∷ [];
        made = same (ap (λ z. page (suc l) nr no_mark ∷ z) (append-nil (atoms_of l c)));
        inner = let z : IsInner (page (suc l) nr no_mark) = tt in more z none;
        same_length = put-length ps nr free_page;
      }
    where
      least_two : (l : ℕ) → root_least 2 l ≤ 2
      least_two zero = omega arith
      least_two (suc l) = omega arith

  way : (l : ℕ) (xs : List (Item l)) → Laid ps (with_root l xs) [] → Rooted 1 (with_root l xs)
      → GivenWay (with_root l xs) (given_way (record { root = nr; levels = suc l; pages = ps })) (length ps)
  unfolding given_way page_of place
  way zero xs L h = rw L.stands.0 (stays 0 xs L (record { least = omega arith; most = h.most; each = h.each }))
  way (suc l) [] L h = absurd (omega (arith, h.least))
  way (suc l) (c ∷ []) L h = rw (L.stands.0, let z : suc (suc l) - 1 ≡ suc l = omega arith in z) (goes l c L (head_of h.each))
  way (suc l) (b ∷ c ∷ xs) L h =
      rw (L.stands.0, ne_eqb (suc (suc (length (map (place (suc l)) xs)))) 1 (omega arith))
      (stays (suc l) (b ∷ c ∷ xs) L (record { least = omega arith; most = h.most; each = h.each }))

-- whatever the root has
pub gives_way : (T : Top) (F : Tree) → F.root ≡ T.tree.no → F.levels ≡ suc T.depth → Laid F.pages T [] → Rooted 1 T
    → GivenWay T (given_way F) (length F.pages)
gives_way T F er el L h =
    let e : F ≡ record { root = T.tree.no; levels = suc T.depth; pages = F.pages } = λ i. record { root = er i; levels = el i; pages = F.pages } in
    subst (λ z. GivenWay T (given_way z) (length F.pages)) (sym e) (way F.pages T.tree.no T.tree.mark T.depth T.tree.items L h)
