-- Rule 7 as it is said of the leaves: of their marks, and of the entries in them with those marks.
use Rattle.std.specs.Prelude.{◌≤◌, ◌≡◌, Bool, true, List}
use Rattle.std.proofs.Common.{eqb-true, eq-eqb}
use Rattle.rules.specs.declared.Stamp.{Stamp}
use Rattle.rules.specs.declared.Slot.{Slot}
use Rattle.rules.specs.Lists.{keep}
use Rattle.rules.specs.Store.{Store, train_of}
use Rattle.rules.specs.Memo.{look_up, is_obsolete}
use Rattle.rules.specs.Sound.{is_leaf}
use Rattle.rules.specs.Views.{NotAbove, LeafMarked, Rule7}
use Rattle.rules.specs.laws.All.{All, none, more, head_of, all_map, all_zip, all_kept, all_mapped, all_unmapped, all_flat, flat_all, all_member, all_members}
use Rattle.rules.specs.laws.Kept.{keeps}
use Rattle.theorems.specs.Leaves.{MarkedEntry, leaves, marked, leaf_marks}

-- a mark is 1 to the next stamp
pub record MarkGiven (next m : Stamp) : Type 0 where
  pub least : 1 ≤ m.0
  pub most : m.0 ≤ next.0

-- an obsolete entry stands in a leaf whose mark is not above its slot's stamp
abbrev pub ObsoleteBelow : List Slot → MarkedEntry → Type 0
ObsoleteBelow memo k = is_obsolete memo k.entry ≡ true → NotAbove (look_up (train_of k.entry) memo) k.mark

pub record LeavesMarked (s : Store) : Type 0 where
  pub marks : All (MarkGiven s.next) (leaf_marks s.pages)
  pub within : All (λ k. MarkGiven s.next k.mark) (marked s.pages)
  pub obsolete : All (ObsoleteBelow s.memo) (marked s.pages)

-- what holds of those kept holds of each that passes
unkept : {A : Type 0} {P : A → Type 0} (f : A → Bool) (xs : List A) → All P (keep f xs) → All (λ x. f x ≡ true → P x) xs
unkept f xs a = all_members xs λ x m e. all_member a (keeps f m e)

pub leaves-marked : (s : Store) → Rule7 s → LeavesMarked s
unfolding marked leaf_marks
leaves-marked s r =
    let a : All (LeafMarked s) (leaves s.pages) = all_kept is_leaf (all_map r.marks λ g m e. m.leaf (eqb-true _ _ e)) in
    record {
      marks = flat_all _ (all_map a λ g h. more (record { least = h.mark_least; most = h.mark_most }) none);
      within = flat_all _ (all_map a λ g h. all_mapped _ (all_map h.obsolete λ e k. record { least = h.mark_least; most = h.mark_most }));
      obsolete = flat_all _ (all_map a λ g h. all_mapped _ h.obsolete);
    }

pub marked-leaves : (s : Store) → All (λ g. g.kind ≡ 2 → g.mark.0 ≡ 0) s.pages → All (MarkGiven s.next) (leaf_marks s.pages)
    → All (ObsoleteBelow s.memo) (marked s.pages) → Rule7 s
unfolding marked leaf_marks
marked-leaves s inner marks obsolete =
    let a : All (LeafMarked s) (leaves s.pages) =
    all_zip (all_flat _ (leaves s.pages) marks) (all_flat _ (leaves s.pages) obsolete)
    λ g h k. record { mark_least = (head_of h).least; mark_most = (head_of h).most; obsolete = all_unmapped _ g.places k } in
    record { marks = all_zip (unkept is_leaf s.pages a) inner λ g h i. record { leaf = λ k. h (eq-eqb _ _ k); inner = i } }
