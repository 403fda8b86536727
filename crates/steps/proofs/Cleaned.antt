-- What cleaning writes, the tree and then the memo, is its effect. Assumes nothing.
use Prim.Native.Nat.{ℕ, ◌≤◌}
use native.Mathlib.Omega.{arith}
use mathlib.Core.Path.{◌≡◌, ◌∙◌, ap}
use mathlib.Core.Bool.{true}
use mathlib.Core.List.{List}
use lib.ListN.{length, get_or, drop}
use Rattle.rules.specs.declared.Stamp.{Stamp}
use Rattle.rules.specs.declared.PageNo.{PageNo}
use Rattle.rules.specs.declared.Entry.{Entry}
use Rattle.rules.specs.Lists.{keep}
use Rattle.rules.specs.Store.{Store, stamp, free_page, page_at, pages_of, store_of}
use Rattle.rules.specs.Memo.{is_latest, is_obsolete, lowered_all}
use Rattle.rules.specs.Tree.{tree_of, with_places}
use Rattle.rules.specs.Cleaning.{leaf_to_clean, cleaned}
use Rattle.rules.specs.Sound.{sound_words}
use Rattle.rules.specs.Steps.{clean}
use Rattle.rules.specs.Views.{sound-holds}
use Rattle.rules.specs.laws.All.{all_anywhere}
use Rattle.rules.specs.laws.Kept.{keep_fewer}
use Rattle.rules.specs.laws.Parts.{with_memo}
use Rattle.theorems.specs.TreeSound.{tree_of-sound}
use Rattle.theorems.specs.LeafToClean.{marks_limited, to_clean}
use Rattle.theorems.specs.Clean.{clean-count}
use Rattle.page.specs.declared.Page.{Page}
use Rattle.page.specs.Struct.{contents, laid_page}
use Rattle.page.specs.Laws.{laid_contents}
use Rattle.tree.specs.Putting.{Grown, with_tree}
use Rattle.trim.specs.Trimming.{Readable, Cleanable}
use Rattle.parts.specs.InOrder.{Lent, Became}
use Rattle.parts.specs.Laws.{sound_lent, lent_ready, became_lent, became_then, grown_became}
use Rattle.steps.specs.Stepping.{Given, Effected}
use Rattle.steps.proofs.Effects.{sound_lent_store}

module _ (w : List ℕ) (e : sound_words w ≡ true) where
  abbrev s : Store
  s = store_of w

  pub readable : Readable (length s.pages) w
  readable =
      let l = sound_lent w e in
      record { ready = lent_ready l; slots_most = l.order.sizes.slots_most; memo = l.order.memo }

  -- the leaf with the smallest mark
  module _ (p : ℕ) (pages : p ≡ get_or w 5 0) (q : PageNo) (found : q ≡ leaf_to_clean (pages_of p (drop 16 w))) where
    the_leaf : q ≡ leaf_to_clean s.pages
    unfolding store_of
    the_leaf = rw pages at found

    pub cleanable : Cleanable q w
    cleanable =
        let sound = sound_lent_store w e in
        let S = sound-holds s sound in
        record {
          readable = readable;
          levels_least = S.ranges.header.levels_least;
          levels_most = S.ranges.header.levels_most;
          leaf = record { path = rw the_leaf (to_clean s (tree_of-sound s sound) (marks_limited s sound)).path };
        }

    abbrev places : List Entry
    places = (page_at s.pages q).places

    abbrev obsolete : List Entry
    obsolete = keep (is_obsolete s.memo) places

    -- what goes
    module _ (gone : Page) (g : gone ≡ laid_page (with_places (page_at s.pages q) obsolete)) where
      few : length obsolete ≤ 8
      unfolding page_at
      few =
          let m : length places ≤ 8 = all_anywhere (sound_lent w e).order.pages q.0 free_page (omega arith) in
          omega (arith, keep_fewer (is_obsolete s.memo) places)

      gone_count : gone.count ≡ length obsolete
      unfolding laid_page
      gone_count = ap (λ h. h.count) g

      pub gone_few : gone.count ≤ 8
      gone_few = omega (arith, gone_count, few)

      gone_places : (contents gone).places ≡ obsolete
      gone_places = ap (λ h. (contents h).places) g ∙ ap (λ h. h.places) (laid_contents (with_places (page_at s.pages q) obsolete) few)

      module _ (m : Stamp) (next : m ≡ stamp (get_or w 1 0)) (w₁ : List ℕ) (grown : Grown (length s.pages) w (cleaned (keep (is_latest s.memo)) m q (tree_of s)) w₁) where
        tree_became : Became (with_tree s (cleaned (keep (is_latest s.memo)) m q (tree_of s))) w₁
        tree_became = grown_became (sound_lent w e) grown

        pub cleaned_lent : Lent w₁
        cleaned_lent = became_lent tree_became

        next_read : m ≡ s.next
        unfolding store_of
        next_read = next

        pub clean-effect : (w₂ : List ℕ) → Became (with_memo (store_of w₁) (lowered_all (contents gone).places (store_of w₁).memo)) w₂ → Effected (clean s) w₂ gone.count
        unfolding clean
        clean-effect w₂ b =
            let z = became_then (λ u. with_memo u (lowered_all (contents gone).places u.memo)) tree_became b in
            record {
              became = rw (gone_places, next_read, the_leaf) at z;
              counted = gone_count ∙ ap (λ a. length (keep (is_obsolete s.memo) (page_at s.pages a).places)) the_leaf;
            }

-- no more go than there are
pub fewer_left : (w : List ℕ) (n c : ℕ) (w' : List ℕ) → Given w n → Effected (clean (store_of w)) w' c → c ≤ n
fewer_left w n c w' g h = omega (arith, g.counted, h.counted, clean-count (store_of w) g.sound)
