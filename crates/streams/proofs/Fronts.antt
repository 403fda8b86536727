-- What a read puts behind a buffer's filled front.
use Rattle.std.proofs.Common.{◌≡◌, ℕ, ◌+◌, ◌≤◌, List, ◌++◌, length, take, sym, ap, ◌∙◌, subst, length-take-le, Option}
use Rattle.std.proofs.lemmas.List.{take-append-le}
use Rattle.std.specs.Io.KnownBytes.{Consumes}
use Rattle.std.proofs.KnownBytes.{Consumes-trans}
use borrow.Rule.Slice.PartMut.{put_mid, post_of}
use lib.Seq.{take-append-add}

module _ (at k n : ℕ) (xs ys : List ℕ) (h : at ≤ length xs) (m : n ≤ length ys) where
  front_grows : take (at + n) (put_mid at k xs ys) ≡ take at xs ++ take n ys
  front_grows =
      ap (λ j. take (j + n) (put_mid at k xs ys)) (sym (length-take-le at xs h)) ∙ take-append-add (take at xs) (ys ++ post_of at k xs) n
      ∙ ap (λ l. take at xs ++ l) (take-append-le n ys (post_of at k xs) m)

  -- the longer front is what the reader gave since the first read
  pub front_read : (old mid new : Option (List ℕ)) → Consumes old mid (take at xs) → Consumes mid new (take n ys) → Consumes old new (take (at + n) (put_mid at k xs ys))
  front_read old mid new before read = subst (Consumes old new) (sym front_grows) (Consumes-trans old mid new (take at xs) (take n ys) before read)
