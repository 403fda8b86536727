-- One clean more than entries are held, then an inspect: the memo is empty, and the store holds one entry for each live train and no other.
use Prim.Native.Nat.{ℕ, zero, suc, ◌-◌}
use Rattle.std.proofs.Common.{arith, ◌∙◌, ne_eqb}
use Rattle.std.specs.Prelude.{◌≡◌, List, [], ◌∷◌, ◌++◌, ltb, replicate}
use Rattle.std.proofs.Math.Path.{refl, sym, ap}
use Rattle.std.proofs.Math.Bool.{true}
use Rattle.std.proofs.Math.ListN.{length, length-replicate}
use Rattle.rules.specs.declared.Entry.{Entry}
use Rattle.rules.specs.declared.Row.{Row}
use Rattle.rules.specs.Numbers.{first_met}
use Rattle.rules.specs.Lists.{all_of, one_of, keep}
use Rattle.rules.specs.Store.{Store}
use Rattle.rules.specs.Memo.{look_up, latest_by, is_latest}
use Rattle.rules.specs.Live.{row_inserted, row_for, rows_of, held, live}
use Rattle.rules.specs.Sound.{sound}
use Rattle.rules.specs.declared.Step.{Step}
use Rattle.rules.specs.Steps.{is_report, clean, inspect, four_zero, in_form, refusal, effect, done, step, run}
use Rattle.rules.specs.Views.{sound-holds}
use Rattle.rules.specs.laws.Tests.{either}
use Rattle.rules.specs.laws.All.{All, none, more, always, all_map, all_zip, all_unmapped, all_replicate}
use Rattle.rules.specs.laws.Kept.{keep_all}
use Rattle.rules.specs.laws.Counts.{count_none, count_all}
use Rattle.rules.specs.laws.Rows.{Apart, first-apart, rest-apart, all_rows_of}
use Rattle.theorems.specs.Inspect.{inspect-sound, inspect-live}
use Rattle.theorems.specs.Clean.{clean-sound, clean-live}
use Rattle.theorems.specs.EveryStep.{run_sound}
use Rattle.theorems.specs.Garbage.{Past, inspect_clears}
use Rattle.theorems.specs.Progress.{behind-most}
use Rattle.theorems.specs.Sweep.{is_cleaning, run_past}

-- ---- the steps
abbrev pub clean_step : Step
clean_step = record { kind = 3; a = 0; x0 = 0; y0 = 0; x1 = 0; y1 = 0 }

abbrev pub inspect_step : Step
inspect_step = record { kind = 4; a = 0; x0 = 0; y0 = 0; x1 = 0; y1 = 0 }

abbrev pub tidy_steps : ℕ → List Step
tidy_steps n = replicate (suc n) clean_step ++ (inspect_step ∷ [])

-- what each clean keeps, cleans in a row keep
cleans_keep : (P : Store → Type 0) → ((s : Store) → sound s ≡ true → P s → P (clean s).store)
    → (n : ℕ) (s : Store) → sound s ≡ true → P s → P (run s (replicate n clean_step)).store
unfolding run step done refusal in_form four_zero one_of all_of first_met effect
cleans_keep P f zero s h p = p
cleans_keep P f (suc n) s h p = cleans_keep P f n (clean s).store (clean-sound s h) (f s h p)

cleans_then : (n : ℕ) (s : Store) → (run s (replicate n clean_step ++ (inspect_step ∷ []))).store ≡ (inspect (run s (replicate n clean_step)).store).store
unfolding run step done refusal in_form four_zero one_of all_of first_met effect
cleans_then zero s = refl
cleans_then (suc n) s = cleans_then n (clean s).store

none_left : {A : Type 0} {xs : List A} → All (λ x. ⊥) xs → xs ≡ []
none_left none = refl
none_left (more p a) = absurd p

-- ---- as many rows as entries, where their trains are distinct
inserted_new : (r : Row) {rs : List Row} → All (λ q. r.train.0 ≡ q.train.0 → ⊥) rs → length (row_inserted r rs) ≡ suc (length rs)
unfolding row_inserted
inserted_new r none = refl
inserted_new r (more {x = q} {xs = qs} d a) =
    rw (ne_eqb r.train.0 q.train.0 d)
    (either (λ (l : List Row). length l ≡ suc (suc (length qs))) (ltb r.train.0 q.train.0) (λ e. refl) (λ e. ap suc (inserted_new r a)))

rows_length : (es : List Entry) → Apart es → length (rows_of es) ≡ length es
unfolding rows_of
rows_length [] d = refl
rows_length (e ∷ es) d =
    inserted_new (row_for e) (all_rows_of (all_map (all_unmapped _ es (first-apart d)) λ x h p. h (sym p))) ∙ ap suc (rows_length es (rest-apart d))

-- ---- the theorems
abbrev pub tidied : Store → Store
tidied s = (run s (tidy_steps (length (held s)))).store

module _ (s : Store) (h : sound s ≡ true) where
  abbrev swept : Store
  swept = (run s (replicate (suc (length (held s))) clean_step)).store

  tidied_is : tidied s ≡ (inspect swept).store
  tidied_is = cleans_then (suc (length (held s))) s

  swept_sound : sound swept ≡ true
  swept_sound = run_sound s (replicate (suc (length (held s))) clean_step) h

  -- every leaf has been cleaned since the last stamp was given
  swept_past : Past (s.next.0 - 1) swept
  unfolding in_form four_zero one_of all_of
  swept_past =
      let n = suc (length (held s)) in
      let T = s.next.0 - 1 in
      let cleans = count_all is_cleaning (all_replicate n clean_step refl) ∙ length-replicate n clean_step in
      let reports = count_none is_report (all_replicate n clean_step refl) in
      run_past T (replicate n clean_step) s h (omega (arith, (sound-holds s h).ranges.header.next_least)) (omega (arith, behind-most T s h))

  -- no slot is left
  pub tidied_memo : (tidied s).memo ≡ []
  unfolding inspect clean
  tidied_memo =
      let same_next : swept.next ≡ s.next = cleans_keep (λ u. u.next ≡ s.next) (λ v k q. q) (suc (length (held s))) s h refl in
      let slots = (sound-holds (inspect swept).store (inspect-sound swept swept_sound)).rule6.slots in
      ap (λ u. u.memo) tidied_is
      ∙ none_left (all_zip (inspect_clears swept swept_sound (s.next.0 - 1) swept_past) slots λ m a b. omega (arith, b.stamp_below, ap (λ z. z.0) same_next))

  -- the live list is what it was
  pub tidied-live : live (tidied s) ≡ live s
  tidied-live =
      ap live tidied_is
      ∙ inspect-live swept swept_sound
      ∙ cleans_keep (λ u. live u ≡ live s) (λ v k q. clean-live v k ∙ q) (suc (length (held s))) s h refl

  -- and as many entries are held as trains are live
  pub tidied-held : length (held (tidied s)) ≡ length (live s)
  unfolding live is_latest look_up latest_by
  tidied-held =
      let v = tidied s in
      let latest : (e : Entry) → is_latest v.memo e ≡ true = λ e. ap (λ m. is_latest m e) tidied_memo in
      let all_kept : keep (is_latest v.memo) (held v) ≡ held v = keep_all (is_latest v.memo) (always latest (held v)) in
      let apart : Apart (held v) = rw all_kept at (sound-holds v (run_sound s (tidy_steps (length (held s))) h)).rule5.one_latest in
      sym (rows_length (held v) apart) ∙ ap (λ es. length (rows_of es)) (sym all_kept) ∙ ap length tidied-live
