-- The pass over the memo: each slot with its counter, up to the first unused one.
use Rattle.std.proofs.Common.{◌≡◌, ℕ, ◌+◌, ◌≤◌, ◌<◌, Bool, true, false, ◌&&◌, List, [], ◌∷◌, length, get_or, drop, refl, sym, ◌∙◌, ap}
use Rattle.std.proofs.Math.ListN.{drop_of_length-le}
use Rattle.std.proofs.lemmas.List.{drop_more}
use Rattle.rules.specs.declared.Stamp.{Stamp}
use Rattle.rules.specs.declared.Slot.{Slot}
use Rattle.rules.specs.laws.Words.{no_slot}
use Rattle.rules.specs.laws.Memo.{used_inside, unused_past}
use Rattle.memo.specs.Laws.{memo_slot}
use Rattle.memo.specs.Slots.{slots_in, MemoWords, slot_at}
use Rattle.entries.specs.Passes.{slot_fine, slots_fine}

no_counters : (next : Stamp) (ms : List Slot) → slots_fine next [] ms ≡ true
unfolding slots_fine
no_counters next [] = refl
no_counters next (m ∷ ms) = refl

module _ (next : Stamp) (cs m : List ℕ) (w : MemoWords m) (i : ℕ) (so_far : slots_fine next cs (slots_in m) ≡ slots_fine next (drop i cs) (drop i (slots_in m))) where
  pub slots_past : length cs ≤ i → true ≡ slots_fine next cs (slots_in m)
  slots_past h = sym (so_far ∙ rw (drop_of_length-le cs h) (no_counters next _))

  module _ (s : Slot) (its : s ≡ slot_at m i) where
    mine : s ≡ get_or (slots_in m) i no_slot
    mine = its ∙ memo_slot m w i

    pub slots_unused : s.train.0 ≡ 0 → true ≡ slots_fine next cs (slots_in m)
    unfolding slots_fine
    slots_unused e =
        let past = unused_past w.in_range.trains i (ap (λ s. s.train.0) (sym mine) ∙ e) in
        rw (so_far, drop_of_length-le (slots_in m) past) refl

    module _ (h : i < length cs) (d : s.train.0 ≡ 0 → ⊥) (r : Bool) (q : r ≡ slot_fine next (get_or cs i 0) s) where
      one : slots_fine next cs (slots_in m) ≡ (r && slots_fine next (drop (i + 1) cs) (drop (i + 1) (slots_in m)))
      unfolding slots_fine
      one =
          let inside = used_inside (slots_in m) i (λ e. d (ap (λ s. s.train.0) mine ∙ e)) in
          so_far ∙ rw (drop_more cs i 0 h, drop_more (slots_in m) i no_slot inside, q, mine) refl

      pub slot_broken : r ≡ false → false ≡ slots_fine next cs (slots_in m)
      slot_broken f = sym (rw f at one)

      pub slot_passed : r ≡ true → slots_fine next cs (slots_in m) ≡ slots_fine next (drop (i + 1) cs) (drop (i + 1) (slots_in m))
      slot_passed t = rw t at one
