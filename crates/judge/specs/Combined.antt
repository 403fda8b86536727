-- Words of sizes in range are sound words exactly if they are tidy, their pages a tree, and their entries and boards sound.
use Rattle.std.specs.Prelude.{ℕ, ◌≡◌, refl, Bool, true, false, ◌&&◌, List, length}
use Rattle.std.proofs.Common.{sym}
use Rattle.std.proofs.lemmas.List.{length-map}
use Rattle.rules.specs.Lists.{same_words}
use Rattle.rules.specs.Store.{Store, words, store_of}
use Rattle.rules.specs.Sound.{sizes_in_range, in_range, rule8, sound, sound_words}
use Rattle.rules.specs.Calls.{sizes_read, laid_out}
use Rattle.rules.specs.laws.Tests.{and_left, and_right, and_both, each, each_all_of, ◌also◌}
use Rattle.rules.specs.laws.Places.{cut-length}
use Rattle.rules.specs.Views.{sizes_in_range-holds, rule1-holds, rule2-holds, rule3-holds, rule4-holds, rule5-holds, entry_in_range-holds}
use Rattle.rules.specs.laws.All.{every_holds}
use Rattle.query.specs.Keys.{Searchable}
use Rattle.tidy.specs.Tidy.{tidy, Laid, TidyWords}
use Rattle.tidy.specs.Laws.{laid_holds, tidy-holds}
use Rattle.walk.specs.Walk.{tree_rules}
use Rattle.entries.specs.Given.{Trusted}
use Rattle.entries.specs.Passes.{entries_rules}

-- two tests that pass together are the same
same_tests : (a b : Bool) → (a ≡ true → b ≡ true) → (b ≡ true → a ≡ true) → a ≡ b
same_tests true b h k = sym (h refl)
same_tests false true h k = k refl
same_tests false false h k = refl

-- the sizes of the store that is read are those of words 5, 7 and 9
sizes_there : (w : List ℕ) → sizes_read w ≡ true → sizes_in_range (length (store_of w).pages) (store_of w).slots (length (store_of w).boards) ≡ true
unfolding sizes_read store_of
sizes_there w e = simp (length-map, cut-length) e

module _ (w : List ℕ) (sizes : sizes_read w ≡ true) where
  abbrev s : Store
  s = store_of w

  abbrev parts : Bool
  parts = tidy w && (tree_rules s && (entries_rules s && rule8 s))

  parts_then : parts ≡ true → sound_words w ≡ true
  unfolding tidy tree_rules sound_words sound in_range
  parts_then e =
      let a = and_left (tidy w) _ e in
      let same = and_left (same_words (words s) w) _ a in
      let t = each _ (and_right (same_words (words s) w) _ a) in
      let later = and_right (tidy w) _ e in
      let r = each _ (and_left (tree_rules s) _ later) in
      let last = and_right (tree_rules s) _ later in
      let h = each _ (and_left (entries_rules s) _ last) in
      and_both same
      (each_all_of _
      (each_all_of _ (sizes_there w sizes also t.0 also t.1.0 also h.0 also t.1.1.0 also t.1.1.1.0 also tt)
      also r.0
      also r.1.0
      also r.1.1.0
      also h.1.0
      also h.1.1.0
      also h.1.1.1.0
      also h.1.1.1.1.0
      also and_right (entries_rules s) _ last
      also tt))

  then_parts : sound_words w ≡ true → parts ≡ true
  unfolding tidy tree_rules sound_words sound in_range
  then_parts e =
      let t = each _ (and_right (same_words (words s) w) _ e) in
      let i = each _ t.0 in
      let u = t.1.1.1.1 in
      and_both (and_both (and_left (same_words (words s) w) _ e) (each_all_of _ (i.1.0 also i.1.1.0 also i.1.1.1.1.0 also i.1.1.1.1.1.0 also tt)))
      (and_both (each_all_of _ (t.1.0 also t.1.1.0 also t.1.1.1.0 also tt))
      (and_both (each_all_of _ (i.1.1.1.0 also u.0 also u.1.0 also u.1.1.0 also u.1.1.1.0 also tt))
      u.1.1.1.1.0))

  pub sound_parts : sound_words w ≡ parts
  sound_parts = same_tests (sound_words w) parts then_parts parts_then

-- ---- the parts are tried in turn, and each relies on those before it
module _ (w : List ℕ) (sizes : sizes_read w ≡ true) (laid : laid_out w ≡ true) where
  pub laid_given : Laid w
  laid_given = laid_holds w sizes laid

  module _ (tidied : tidy w ≡ true) where
    pub tidy_given : TidyWords w
    tidy_given = tidy-holds w laid_given tidied

    module _ (walked : tree_rules (store_of w) ≡ true) where
      pub tree_given : Trusted w
      unfolding tree_rules
      tree_given =
          let t = tidy_given in
          let r = each _ walked in
          record {
            tidy = t.same;
            given =
                record {
                  sizes = sizes_in_range-holds _ _ _ (sizes_there w sizes);
                  header = t.header;
                  pages = t.pages;
                  memo = t.memo;
                  boards = t.boards;
                  rule1 = rule1-holds _ r.0;
                  rule2 = rule2-holds _ r.1.0;
                  rule3 = rule3-holds _ r.1.1.0;
                };
          }

      pub entries_given : entries_rules (store_of w) ≡ true → Searchable w
      entries_given gone =
          let g = tree_given.given in
          let r = each _ gone in
          record {
            written = tree_given.tidy;
            ranges =
                record {
                  sizes = g.sizes;
                  header = g.header;
                  pages = g.pages;
                  entries = every_holds _ _ entry_in_range-holds r.0;
                  memo = g.memo;
                  boards = g.boards;
                };
            leaves = g.rule1.leaves;
            rule3 = g.rule3;
            rule4 = rule4-holds _ r.1.0;
            rule5 = rule5-holds _ r.1.1.0;
          }
