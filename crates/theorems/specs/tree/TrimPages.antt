-- The parts of taking out in the flat pages: what waits there, which pages have changed, and the flat step at a page.
use Rattle.std.specs.Prelude.{ℕ, zero, suc, ◌≡◌, refl, false, cond, ltb, length, get_or, set}
use Rattle.std.proofs.Common.{sym, ◌∙◌}
use Rattle.std.proofs.Math.Path.{ap}
use mathlib.Core.List.{List, [], ◌∷◌, ◌++◌, map, flat_map}
use mathlib.Core.List.Permᴰ
use Rattle.std.proofs.lemmas.List.{length-map}
use Rattle.rules.specs.declared.PageNo.{PageNo}
use Rattle.rules.specs.declared.Stamp.{Stamp}
use Rattle.rules.specs.declared.Entry.{Entry}
use Rattle.rules.specs.Lists.{without}
use Rattle.rules.specs.Store.{Page, page_no, child_of, free_page, no_place, page_at, put_page}
use Rattle.rules.specs.Tree.{with_places, child_place}
use Rattle.rules.specs.Cleaning.{Orphan, Trimmed, trimmed_below}
use Rattle.rules.specs.Sound.{is_free}
use Rattle.rules.specs.laws.Tests.{not_both}
use Rattle.rules.specs.laws.All.{All, head_of, all_map, flat_append}
use Rattle.rules.specs.laws.Order.{◌~◌, ◌then◌, back, same, forth, flat_both}
use Rattle.theorems.specs.tree.Numbers.{Off}
use Rattle.theorems.specs.tree.Items.{Item, no_mark, with_items, no_node, Atom, page, number_of, atoms, atoms_of, numbers}
use Rattle.theorems.specs.tree.Pages.{page_other, page_same, put-length, used_inside, frees, frees-used, frees_freed}
use Rattle.theorems.specs.tree.Stands.{place, page_of, Stands, kind_used, spared, child_is, set-map, number_is}
use Rattle.theorems.specs.tree.PutStands.{Beside}
use Rattle.theorems.specs.tree.Laid.{Clear, clear-put}
use Rattle.theorems.specs.tree.Descent.{numbers_leaf}
use Rattle.theorems.specs.tree.Trim.{Loose, loose, loose_page, Cut}
use Rattle.theorems.specs.tree.TrimAtoms.{CutAtoms}

-- ---- what waits, in the pages
abbrev pub loose_atoms : Loose → List Atom
loose_atoms (loose k x) = atoms k no_mark x

-- as the rules say it
abbrev pub orphan : Loose → Orphan
orphan (loose k x) = record { level = suc k; place = place k x }

-- its pages stand
abbrev pub StandsLoose : List Page → Loose → Type 0
StandsLoose ps (loose k x) = Stands ps k x

abbrev pub BesideLoose : List Page → PageNo → Loose → Type 0
BesideLoose ps p w = StandsLoose ps w × Off p.0 (numbers (loose_atoms w))

-- a write to a page that is none of its own
pub spared_loose : (ps : List Page) (p : PageNo) (g : Page) (w : Loose) → BesideLoose ps p w → StandsLoose (put_page ps p g) w
spared_loose ps p g (loose k x) h = spared ps p g k no_mark x h.1 h.0

-- entries that wait have no numbers
loose_numbers : (ws : List Loose) → numbers (flat_map loose_page ws) ≡ numbers (flat_map loose_atoms ws)
unfolding flat_map atoms
loose_numbers [] = refl
loose_numbers (loose zero e ∷ ws) = loose_numbers ws
loose_numbers (loose (suc k) x ∷ ws) =
    flat_append number_of (atoms_of k x) (flat_map loose_page ws)
    ∙ ap (λ z. numbers (atoms_of k x) ++ z) (loose_numbers ws)
    ∙ sym (flat_append number_of (atoms_of k x) (flat_map loose_atoms ws))

-- the numbers of a page are those lost, those that stay and those that wait
pub cut-numbers : (f : List Entry → List Entry) (m : Stamp) (d : ℕ) (t : Item (suc d)) (q : Item 1) (r : Cut d) → CutAtoms f m d t q r
    → numbers (atoms_of d t) ~ (numbers r.lost ++ (numbers (atoms_of d r.page) ++ numbers (flat_map loose_atoms r.loose)))
unfolding flat_map
cut-numbers f m d t q r C =
    let AR = atoms_of d r.page in
    let LP = flat_map loose_page r.loose in
    flat_both number_of (flat_map (atoms 0 q.mark) q.items) (page 0 q.no q.mark ∷ C.up) C.before
    then same (ap (λ z. z ++ (q.no.0 ∷ numbers C.up)) (numbers_leaf q.mark q.items ∙ sym (numbers_leaf m C.stays)))
    then back (flat_both number_of (flat_map (atoms 0 m) C.stays) (page 0 q.no m ∷ C.up) C.after)
    then same (flat_append number_of AR (r.lost ++ LP) ∙ ap (λ z. numbers AR ++ z) (flat_append number_of r.lost LP))
    then forth (numbers AR) (numbers r.lost) (numbers LP)
    then same (ap (λ z. numbers r.lost ++ (numbers AR ++ z)) (loose_numbers r.loose))

-- ---- the pages against those before: of the tree's, some are free now; no others have changed
pub record Changed (ps : List Page) (ns lost : List ℕ) (qs : List Page) : Type 0 where
  pub others : (n : ℕ) → Off n ns → page_at qs (page_no n) ≡ page_at ps (page_no n)
  pub free : frees qs ~ (lost ++ frees ps)
  pub clear : Clear ps → Clear qs
  pub long : length qs ≡ length ps

-- none has
pub unchanged : (ps : List Page) (ns : List ℕ) → Changed ps ns [] ps
unchanged ps ns = record { others = λ n o. refl; free = Permᴰ.refl (frees ps); clear = λ c. c; long = refl }

-- a used page written anew, and one freed
pub write_used : (ps qs : List Page) (p : PageNo) (rest lost : List ℕ) (g : Page) → is_free (page_at qs p) ≡ false → is_free g ≡ false
    → Changed ps (p.0 ∷ rest) lost qs → Changed ps (p.0 ∷ rest) lost (put_page qs p g)
write_used ps qs p rest lost g u k s =
    record {
      others = λ n o. page_other qs p g n (λ e. head_of o (sym e)) ∙ s.others n o;
      free = same (frees-used qs p g u k) then s.free;
      clear = λ c. clear-put qs p g (used_inside qs p u) (λ e. absurd (not_both (is_free g) e k)) (s.clear c);
      long = put-length qs p g ∙ s.long;
    }

pub write_free : (ps qs : List Page) (c : PageNo) (ns lost : List ℕ) → is_free (page_at qs c) ≡ false → ((n : ℕ) → Off n ns → c.0 ≡ n → ⊥)
    → Changed ps ns lost qs → Changed ps ns (c.0 ∷ lost) (put_page qs c free_page)
write_free ps qs c ns lost u off s =
    record {
      others = λ n o. page_other qs c free_page n (λ e. off n o (sym e)) ∙ s.others n o;
      free = frees_freed qs c u then Permᴰ.cons refl s.free;
      clear = λ h. clear-put qs c free_page (used_inside qs c u) (λ e. refl) (s.clear h);
      long = put-length qs c free_page ∙ s.long;
    }

-- what is cut stands in the flat pages
pub record Trims (d : ℕ) (ps : List Page) (t : Item (suc d)) (r : Cut d) (F : Trimmed) : Type 0 where
  pub waiting : F.orphans ≡ map orphan r.loose
  pub stand : Stands F.pages (suc d) r.page
  pub loose : All (StandsLoose F.pages) r.loose
  pub changed : Changed ps (numbers (atoms_of d t)) (numbers r.lost) F.pages

-- the last write, at the page itself
pub record Finished (d : ℕ) (ps qs : List Page) (t : Item (suc (suc d))) (ws : List Loose) (ns lost : List ℕ) : Type 0 where
  pub changed : Changed ps ns lost qs
  pub stand : Stands qs (suc (suc d)) t
  pub loose : All (StandsLoose qs) ws

-- what stands beside the page stands still
pub finish : (d : ℕ) (ps qs : List Page) (t : Item (suc (suc d))) (ws : List Loose) (rest lost : List ℕ) → is_free (page_at qs t.no) ≡ false
    → Changed ps (t.no.0 ∷ rest) lost qs → All (Beside qs t.no (suc d) no_mark) t.items → All (BesideLoose qs t.no) ws
    → Finished d ps (put_page qs t.no (page_of (suc d) t)) t ws (t.no.0 ∷ rest) lost
finish d ps qs t ws rest lost u s a b =
    let G = page_of (suc d) t in
    record {
      changed = write_used ps qs t.no rest lost G u (kind_used (suc d) t) s;
      stand = (page_same qs t.no G (used_inside qs t.no u), all_map a λ c h. spared qs t.no G (suc d) no_mark c h.1 h.0);
      loose = all_map b λ w h. spared_loose qs t.no G w h;
    }

-- ---- the flat step, with the tree's items in it
module _ (d : ℕ) (t : Item (suc (suc d))) (i : ℕ) (c : PageNo) (r : Cut d) (F : Trimmed) where
  -- the child c taken out, or kept
  abbrev pub out_flat : Trimmed
  out_flat =
      record {
        pages = put_page (put_page F.pages c free_page) t.no (page_of (suc d) (with_items t (without t.items i)));
        orphans = F.orphans ++ map (λ e. record { level = suc d; place = e }) (map (place d) r.page.items);
      }

  abbrev pub stay_flat : Trimmed
  stay_flat = record { pages = put_page F.pages t.no (page_of (suc d) (with_items t (set t.items i r.page))); orphans = F.orphans }

without-map : {A B : Type 0} (f : A → B) (xs : List A) (i : ℕ) → without (map f xs) i ≡ map f (without xs i)
unfolding without
without-map f [] i = refl
without-map f (x ∷ xs) zero = refl
without-map f (x ∷ xs) (suc i) = ap (λ r. f x ∷ r) (without-map f xs i)

module _ (f : List Entry → List Entry) (m : Stamp) where
  trimmed_suc : (d : ℕ) (ps : List Page) (i : ℕ) (path : List ℕ) (p : PageNo) (g : Page) (c : PageNo) (h : List Entry)
      → page_at ps p ≡ g → child_of (get_or g.places i no_place) ≡ c → (page_at (trimmed_below f m d ps path c).pages c).places ≡ h →
      let r = trimmed_below f m d ps path c in
      trimmed_below f m (suc d) ps (i ∷ path) p
      ≡ cond (ltb (length h) 4)
      (record { pages = put_page (put_page r.pages c free_page) p (with_places g (without g.places i)); orphans = r.orphans ++ map (λ e. record { level = suc d; place = e }) h })
      (record { pages = put_page r.pages p (with_places g (set g.places i (child_place r.pages c))); orphans = r.orphans })
  unfolding trimmed_below
  trimmed_suc d ps i path p g c h e k j = rw (e, k, j)

  -- the flat step is one of these
  pub trimmed_flat : (d : ℕ) (ps : List Page) (i : ℕ) (path : List ℕ) (t : Item (suc (suc d))) (c : PageNo) (r : Cut d) →
      let F = trimmed_below f m d ps path c in
      page_at ps t.no ≡ page_of (suc d) t → (get_or t.items i no_node).no ≡ c → r.page.no ≡ c → page_at F.pages r.page.no ≡ page_of d r.page
      → trimmed_below f m (suc d) ps (i ∷ path) t.no ≡ cond (ltb (length r.page.items) 4) (out_flat d t i c r F) (stay_flat d t i c r F)
  unfolding page_of
  trimmed_flat d ps i path t c r e k num st =
      let qs = (trimmed_below f m d ps path c).pages in
      let its = r.page.items in
      let left : (page_at qs c).places ≡ map (place d) its = ap (λ z. (page_at qs z).places) (sym num) ∙ ap (λ g. g.places) st in
      let its-place : child_place qs c ≡ place (suc d) r.page = ap (child_place qs) (sym num) ∙ child_is d qs r.page st in
      trimmed_suc d ps i path t.no (page_of (suc d) t) c (map (place d) its) e (number_is d t.items i ∙ k) left
      ∙ rw (length-map its (place d), its-place, set-map (place (suc d)) t.items i r.page, without-map (place (suc d)) t.items i)
