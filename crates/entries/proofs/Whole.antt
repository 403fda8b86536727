-- All passes together: what is known at each, and what each way out says of the whole.
use Rattle.std.proofs.Common.{◌≡◌, ℕ, ◌+◌, ◌*◌, ◌≤◌, ◌<◌, Bool, true, false, List, [], ◌∷◌, leb, length, get_or, drop, refl, sym, ◌∙◌, ap, arith, le-leb, true≢false}
use Rattle.std.proofs.Math.Bool.{and-true}
use Rattle.std.proofs.lemmas.Bool.{lt-leb}
use Rattle.rules.specs.declared.Stamp.{Stamp}
use Rattle.rules.specs.Lists.{all_of, every, distinct}
use Rattle.rules.specs.Store.{stamp, pages_of, memo_words, store_length, store_of}
use Rattle.rules.specs.Live.{held_count}
use Rattle.rules.specs.laws.Memo.{in_order}
use Rattle.rules.specs.laws.Words.{words-length}
use Rattle.memo.specs.Slots.{slots_in, HoldsMemo}
use Rattle.memo.specs.Laws.{memo_slots}
use Rattle.theorems.specs.Leaves.{marked}
use Rattle.entries.specs.declared.Noted.{Noted}
use Rattle.entries.specs.Given.{Trusted, given_fits}
use Rattle.entries.specs.Passes.{counters, mark_fine, slot_fine, slots_fine, obsolete_in, noted_test, entries_test, entries_rules}
use Rattle.entries.specs.State.{Gathered, Tried, Known, Passing}
use Rattle.entries.specs.Counters.{counter_slot, slots_counted}
use Rattle.entries.specs.Decided.{entries_decided}
use Rattle.entries.proofs.Pages.{pages_read, next_read, pages_are}

-- a test that is true is not false
pub never : {A : Type 0} {a b : Bool} → a ≡ true → a ≡ b → b ≡ false → A
never t e f = absurd (true≢false (sym t ∙ e ∙ f))

-- ---- the words of a trusted store
module _ (w : List ℕ) (T : Trusted w) where
  whole : length w ≡ store_length (length (store_of w).pages) (store_of w).slots (length (store_of w).boards)
  whole = ap length (sym T.tidy) ∙ words-length (store_of w) (given_fits _ T.given)

  pub trusted_long : 16 ≤ length w
  unfolding store_length
  trusted_long = omega (arith, whole)

  pub memo_held : HoldsMemo w
  memo_held =
      record {
        written = T.tidy;
        fits = given_fits _ T.given;
        pages_most = T.given.sizes.pages_most;
        slots_most = T.given.sizes.slots_most;
        memo = T.given.memo;
      }

  module _ (p : ℕ) (e : p ≡ get_or w 5 0) where
    page_count : p ≡ length (store_of w).pages
    page_count = pages_read w p e

    pub pages_few : p ≤ 192
    pages_few = omega (arith, page_count, T.given.sizes.pages_most)

    pub pages_inside : 16 + 52 * p ≤ length w
    unfolding store_length
    pages_inside = omega (arith, whole, page_count)

    pub so_known : (next : Stamp) → next ≡ stamp (get_or w 1 0) → Known w p next
    unfolding store_of
    so_known next q =
        record { trusted = T; pages_many = page_count; pages_most = pages_few; long = pages_inside; next_is = q }

-- ---- from one pass to the next
module _ {w : List ℕ} {p : ℕ} {next : Stamp} (K : Known w p next) where
  held_are : {n : ℕ} → n ≡ held_count (pages_of p (drop 16 w)) → n ≡ held_count (store_of w).pages
  held_are e = e ∙ ap held_count (pages_are w p next K)

  pub so_passing : {m : List ℕ} {n : ℕ} → m ≡ memo_words (store_of w).slots (store_of w).memo → n ≡ held_count (pages_of p (drop 16 w)) → n ≤ 3 * p → Passing w m
  so_passing {m} e q h =
      record {
        trusted = K.trusted;
        memo_is = memo_slots _ _ K.trusted.given.memo m e;
        few = omega (arith, held_are q, K.pages_most);
      }

  module _ {a : Bool} (marks : a ≡ every (mark_fine next) (store_of w).pages) where
    decided : entries_rules (store_of w) ≡ all_of (a ∷ leb (held_count (store_of w).pages) (3 * length (store_of w).pages) ∷ noted_test (store_of w) ∷ [])
    unfolding entries_test
    decided = sym (entries_decided (store_of w) K.trusted.given) ∙ rw (marks, K.next_is) refl

    pub marks_broken : a ≡ false → a ≡ entries_rules (store_of w)
    unfolding all_of
    marks_broken e = e ∙ sym (rw e at decided)

    module _ (e : a ≡ true) {n : ℕ} (q : n ≡ held_count (pages_of p (drop 16 w))) where
      pub too_many : 3 * p < n → false ≡ entries_rules (store_of w)
      unfolding all_of
      too_many h =
          sym (decided ∙ rw (e, lt-leb (held_count (store_of w).pages) (3 * length (store_of w).pages) (omega (arith, held_are q, K.pages_many))) refl)

      pub by_noted : {r : Bool} → n ≤ 3 * p → r ≡ noted_test (store_of w) → r ≡ entries_rules (store_of w)
      unfolding all_of
      by_noted h s =
          s ∙ sym (decided ∙ rw (e, le-leb (held_count (store_of w).pages) (3 * length (store_of w).pages) (omega (arith, held_are q, K.pages_many)), and-true) refl)

-- ---- what is gathered, tested
module _ {w m : List ℕ} (P : Passing w m) where
  pub memo_fits : length (slots_in m) ≤ counters
  memo_fits = let T = P.trusted.given in rw P.memo_is (omega (arith, T.memo.used_most, T.sizes.slots_most))

  module _ {sound : Bool} {noted : Noted} (t : Tried (store_of w) (marked (store_of w).pages) sound noted) where
    pub entry_broken : sound ≡ false → sound ≡ noted_test (store_of w)
    unfolding noted_test all_of
    entry_broken e = e ∙ rw (t.broken e) refl

    module _ (e : sound ≡ true) where
      G : Gathered (store_of w) (marked (store_of w).pages) noted
      G = t.gathered e

      pub counters_enough : length (slots_in m) ≤ length noted.counts
      counters_enough = rw G.counts_long memo_fits

      slots_are : slots_fine (store_of w).next noted.counts (slots_in m) ≡ every (λ m. slot_fine (store_of w).next (obsolete_in (store_of w).memo (marked (store_of w).pages) m) m) (store_of w).memo
      slots_are =
          let fits : length (store_of w).memo ≤ counters = rw P.memo_is at memo_fits in
          rw P.memo_is
          (slots_counted (store_of w).next _ noted.counts (store_of w).memo (omega (arith, G.counts_long))
          (λ i h. G.counts_so_far i (omega arith) ∙ counter_slot (in_order _ P.trusted.given.memo.ascends) i h _))

      tested : noted_test (store_of w) ≡ all_of (distinct noted.stamps.items ∷ distinct noted.keys.items ∷ slots_fine (store_of w).next noted.counts (slots_in m) ∷ [])
      unfolding noted_test all_of
      tested = rw (G.fine, G.stamps_so_far, G.keys_so_far, slots_are) refl

      module _ {a : Bool} (qa : a ≡ distinct noted.stamps.items) where
        pub stamps_equal : a ≡ false → a ≡ noted_test (store_of w)
        unfolding all_of
        stamps_equal f = f ∙ sym (tested ∙ rw (← qa, f) refl)

        module _ (f : a ≡ true) {b : Bool} (qb : b ≡ distinct noted.keys.items) where
          pub keys_equal : b ≡ false → b ≡ noted_test (store_of w)
          unfolding all_of
          keys_equal g = g ∙ sym (tested ∙ rw (← qa, f, ← qb, g) refl)

          pub by_slots : b ≡ true → (next : Stamp) → next ≡ stamp (get_or w 1 0) → {r : Bool} → r ≡ slots_fine next noted.counts (slots_in m) → r ≡ noted_test (store_of w)
          unfolding all_of
          by_slots g next now qr = qr ∙ ap (λ n. slots_fine n noted.counts (slots_in m)) (next_read w next now) ∙ sym (tested ∙ rw (← qa, f, ← qb, g, and-true) refl)
