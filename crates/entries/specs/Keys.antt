-- Keys: where stamps are distinct, keys are distinct exactly if no two latest entries have one train.
use Rattle.std.specs.Prelude.{ℕ, ◌+◌, ◌*◌, ◌≡◌, Bool, None, Some, cond, eqb}
use Rattle.std.proofs.Common.{arith, sym, ◌∙◌, true≢false}
use Rattle.std.proofs.Math.Path.{refl}
use Rattle.std.proofs.Math.Bool.{true, false}
use mathlib.Core.List.{List, [], ◌∷◌, map}
use Rattle.rules.specs.declared.Entry.{Entry}
use Rattle.rules.specs.declared.Slot.{Slot}
use Rattle.rules.specs.declared.LookUp.{LookUp}
use Rattle.rules.specs.declared.LookUp.TheVariants.{Absent, Found}
use Rattle.rules.specs.Lists.{keep, put_if}
use Rattle.rules.specs.Store.{train_of}
use Rattle.rules.specs.Memo.{look_up, latest_by, is_latest}
use Rattle.rules.specs.laws.All.{All, all_map, all_zip, all_kept, all_mapped, all_unmapped, all_member, all_members}
use Rattle.rules.specs.laws.Kept.{keeps}
use Rattle.rules.specs.laws.Lists.{Distinct, d_none, d_more}
use Rattle.rules.specs.laws.Rows.{first-apart, rest-apart}
use Rattle.theorems.specs.Leaves.{MarkedEntry}
use Rattle.entries.specs.Passes.{old_place, counter_of, key_by, key_of}

-- an entry's key, by whether it is latest
abbrev pub key_if : Bool → ℕ → ℕ → ℕ
key_if true train st = 2 * train
key_if false train st = 2 * st + 1

-- two keys are equal only for one train of two latest ones, or for one stamp of two obsolete ones
keys_apart : (a b : Bool) (t u x y : ℕ) → (a ≡ true → b ≡ true → u ≡ t → ⊥) → (y ≡ x → ⊥) → key_if b u y ≡ key_if a t x → ⊥
keys_apart true true t u x y n d e = n refl refl (omega arith)
keys_apart true false t u x y n d e = omega arith
keys_apart false true t u x y n d e = omega arith
keys_apart false false t u x y n d e = d (omega arith)

module _ {A : Type 0} (lat : A → Bool) (tr st : A → ℕ) where
  pub keys_then : (xs : List A) → Distinct (map (λ x. key_if (lat x) (tr x) (st x)) xs) → Distinct (map tr (keep lat xs))
  unfolding keep
  keys_then [] d = d_none
  keys_then (x ∷ xs) d = go (lat x) refl (keys_then xs (rest-apart d))
    where
      go : (b : Bool) → lat x ≡ b → Distinct (map tr (keep lat xs)) → Distinct (map tr (put_if b x (keep lat xs)))
      go true e ih =
          d_more (all_mapped tr (all_kept lat (all_map (all_unmapped (λ x. key_if (lat x) (tr x) (st x)) xs (first-apart d)) λ y n f q. n (rw (f, e, q) refl)))) ih
      go false e ih = ih

  pub then_keys : (xs : List A) → Distinct (map st xs) → Distinct (map tr (keep lat xs)) → Distinct (map (λ x. key_if (lat x) (tr x) (st x)) xs)
  unfolding keep
  then_keys [] d t = d_none
  then_keys (x ∷ xs) d t = go (lat x) refl t (then_keys xs (rest-apart d))
    where
      differs : All (λ y. lat x ≡ true → lat y ≡ true → tr y ≡ tr x → ⊥) xs → All (λ y. key_if (lat y) (tr y) (st y) ≡ key_if (lat x) (tr x) (st x) → ⊥) xs
      differs a = all_zip a (all_unmapped st xs (first-apart d)) λ y n k. keys_apart (lat x) (lat y) (tr x) (tr y) (st x) (st y) n k

      go : (b : Bool) → lat x ≡ b → Distinct (map tr (put_if b x (keep lat xs))) → (Distinct (map tr (keep lat xs)) → Distinct (map (λ x. key_if (lat x) (tr x) (st x)) xs))
          → Distinct (map (λ x. key_if (lat x) (tr x) (st x)) (x ∷ xs))
      go true e u ih =
          d_more (all_mapped _ (differs (all_members xs λ y m f g. all_member (all_unmapped tr (keep lat xs) (first-apart u)) (keeps lat m g)))) (ih (rest-apart u))
      go false e u ih = d_more (all_mapped _ (differs (all_members xs λ y m f. absurd (true≢false (sym f ∙ e))))) (ih u)

-- a latest entry has no counter, an obsolete one has
key_by_look_up : (l : LookUp) (e : Entry) → key_by (old_place l e.stamp) e ≡ key_if (latest_by l e.stamp) e.key e.stamp.0
unfolding key_by old_place latest_by
key_by_look_up Absent e = refl
key_by_look_up (Found place latest old) e = go (eqb e.stamp.0 latest.0)
  where
    go : (b : Bool) → key_by (cond b None (Some place)) e ≡ key_if b e.key e.stamp.0
    go true = refl
    go false = refl

pub key_is : (memo : List Slot) (k : MarkedEntry) → key_of memo k ≡ key_if (is_latest memo k.entry) k.entry.key k.entry.stamp.0
unfolding key_of counter_of is_latest
key_is memo k = key_by_look_up (look_up (train_of k.entry) memo) k.entry
