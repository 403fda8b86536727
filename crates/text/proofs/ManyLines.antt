-- Reading lines of steps, one after the other. Assumes nothing.
use Prim.Native.Nat.{ℕ, suc, ◌+◌, ◌*◌, ◌-◌, ◌≤◌, ◌<◌}
use native.Mathlib.Omega.{arith}
use native.Mathlib.Nat.{add-sub_cancel_left}
use mathlib.Core.Path.{◌≡◌, refl, sym, ◌∙◌, ap}
use mathlib.Core.Bool.{Bool, true, false, not}
use mathlib.Core.List.{List, [], ◌∷◌, ◌++◌, append-nil}
use lib.ListN.{length, take, drop, length-drop}
use lib.Seq.{length-take-le}
use borrow.Author.Tests.{not-true, not-false}
use borrow.Rule.Slice.PartMut.{put_mid}
use Rattle.std.specs.Prelude.{Result, Ok, Err}
use Rattle.text.specs.declared.BadLine.{BadLine}
use Rattle.text.specs.Reading.{parts, newline, lines, is_step, words_read, good, has_bad, all_read}
use Rattle.text.specs.Laid.{Laid, Partly, one_more, all_laid, laid_length, lent_laid}
use Rattle.text.specs.Laws.{line_long, words_same, words_many, none_good, bad_good, bad_has, bad_read, step-good, step-has, step-read}
use Rattle.text.specs.Promised.{LineRead, StepsRead, good_count, bad_met}
use Rattle.text.proofs.Pieces.{Piece}
use Rattle.std.proofs.lemmas.List.{nil_from_length}
use Rattle.text.specs.Cutting.{next_line}

-- the lines from place `at` on are what is left, after `count` steps
pub record Stepping (ls : List (List ℕ)) (out now : List ℕ) (count : ℕ) (rest : List (List ℕ)) : Type 0 where
  pub counted : good ls ≡ count + good rest
  pub ended : has_bad ls ≡ has_bad rest
  pub written : Partly out 0 (all_read ls) now (6 * count) (all_read rest)

steps_read : (ls : List (List ℕ)) (out now : List ℕ) (r : Result ℕ BadLine) (to : ℕ) → good_count r ≡ good ls → bad_met r ≡ has_bad ls → Laid out 0 (all_read ls) now to → StepsRead ls out r now
steps_read ls out now r to c b l =
    let z : to ≡ length (all_read ls) = omega (arith, l.ends) in
    record { counted = c; ended = b; read = rw (← z) l }

module _ (ls : List (List ℕ)) (out now : List ℕ) (count : ℕ) (rest : List ℕ) (s : Stepping ls out now count (lines rest)) where
  now_long : length now ≡ length out
  now_long = laid_length s.written.laid

  pub all_steps : length rest ≡ 0 → StepsRead ls out (Ok count) now
  unfolding all_read has_bad parts
  all_steps h =
      let d : rest ≡ [] = nil_from_length rest h in
      let c : good ls ≡ count + 0 = rw (d, none_good) at s.counted in
      let b : has_bad ls ≡ false = s.ended ∙ rw (d, none_good) in
      steps_read ls out now (Ok count) (6 * count) (omega arith) (sym b) (all_laid s.written (rw d))

  module _ (l left : List ℕ) (p : Piece newline rest l left) (room : 6 * count + 6 ≤ length out) where
    abbrev a : ℕ
    a = 6 * count

    parted : lines rest ≡ l ∷ lines left
    parted = rw (p.cut, p.behind) (next_line rest 0 p.end p.found p.some)

    lent_long : length (take (a + 6 - a) (drop a now)) ≡ 6
    lent_long = rw (add-sub_cancel_left a 6) (length-take-le 6 (drop a now) (simp length-drop (omega (arith, now_long))))

    module _ (r : Bool) (part : List ℕ) (line : LineRead l (take (a + 6 - a) (drop a now)) r part) where
      said : r ≡ is_step l
      said = rw lent_long at line.said

      piece : Laid now a (words_read 6 l) (put_mid a (a + 6 - a) now part) (a + length (words_read 6 l))
      piece = lent_laid now a 6 (omega (arith, now_long)) (words_read 6 l) part (length (words_read 6 l)) (rw lent_long at line.read)

      pub ends_bad : not r ≡ true → StepsRead ls out (Err (record { after = count })) (put_mid a (a + 6 - a) now part)
      ends_bad t =
          let b : is_step l ≡ false = sym said ∙ not-true r t in
          let c : good ls ≡ count + 0 = s.counted ∙ rw parted (ap (λ n. count + n) (bad_good l (lines left) b)) in
          let h : has_bad ls ≡ true = s.ended ∙ rw parted (bad_has l (lines left) b) in
          let w : all_read (lines rest) ≡ words_read 6 l ++ [] = rw parted (bad_read l (lines left) b) ∙ sym (append-nil (words_read 6 l)) in
          steps_read ls out _ (Err (record { after = count })) (a + length (words_read 6 l)) (omega arith) (sym h) (all_laid (one_more s.written piece w) refl)

      pub one_step : not r ≡ false → Stepping ls out (put_mid a (a + 6 - a) now part) (count + 1) (lines left)
      one_step t =
          let b : is_step l ≡ true = sym said ∙ not-false r t in
          let n : a + length (words_read 6 l) ≡ 6 * (count + 1) = rw (words_same 6 l b) (omega (arith, words_many 6 l b)) in
          let g : count + 1 + good (lines left) ≡ count + suc (good (lines left)) = omega arith in
          record {
            counted = s.counted ∙ rw parted (ap (λ n. count + n) (step-good l (lines left) b)) ∙ sym g;
            ended = s.ended ∙ rw parted (step-has l (lines left) b);
            written = rw (← n) (one_more s.written piece (rw parted (step-read l (lines left) b)));
          }

      -- a step takes twelve bytes, with the newline
      module _ (t : not r ≡ false) (text : List ℕ) (few : 0 < length rest → 12 * count + length rest ≤ length text) where
        step_long : 11 ≤ length l
        step_long = omega (arith, line_long 6 l (sym said ∙ not-false r t))

        line-length : length l ≡ p.end
        line-length = ap length p.cut ∙ length-take-le (p.end - 0) rest (omega (arith, p.found.inside)) ∙ omega arith

        left-length : length left ≡ length rest - (p.end + 1)
        left-length = ap length p.behind ∙ length-drop (p.end + 1) rest

        pub step_few : 0 < length left → 12 * (count + 1) + length left ≤ length text
        step_few some = omega (arith, few p.some, step_long, line-length, left-length)

        pub step_short : 12 * (count + 1) ≤ length text + 1
        step_short = omega (arith, few p.some, step_long, line-length, p.found.inside)
