-- What a step asks of the lent words and of the number of entries that it is given, and what it leaves and answers.
use Rattle.std.specs.Prelude.{ℕ, ◌≡◌, refl, true, List, length}
use Rattle.std.proofs.Common.{sym, ◌∙◌, ap, subst}
use Rattle.rules.specs.declared.Step.{Step}
use Rattle.rules.specs.declared.Stamp.{Stamp}
use Rattle.rules.specs.declared.Train.{Train}
use Rattle.rules.specs.Lists.{same_words}
use Rattle.rules.specs.Store.{Store, words, store_of}
use Rattle.rules.specs.Live.{held}
use Rattle.rules.specs.Tree.{tree_of}
use Rattle.rules.specs.Sound.{sound, sound_words}
use Rattle.rules.specs.Steps.{Effect, Done, refusal, effect, step}
use Rattle.rules.specs.laws.Tests.{and_left, and_right, and_both}
use Rattle.rules.specs.laws.Lists.{same_words_equal, same_words_self}
use Rattle.theorems.specs.Stamped.{stamped}
use Rattle.theorems.specs.StepKept.{step_accepted, step_refused}
use Rattle.theorems.specs.EveryStep.{step-sound}
use Rattle.parts.specs.InOrder.{Became, Counted}

-- the words of a sound store, in whose tree n entries are held
pub record Given (w : List ℕ) (n : ℕ) : Type 0 where
  pub written : words (store_of w) ≡ w
  pub sound : sound (store_of w) ≡ true
  pub counted : n ≡ length (held (store_of w))

pub sound_given : (w : List ℕ) → sound_words w ≡ true → (n : ℕ) → n ≡ length (held (store_of w)) → Given w n
unfolding sound_words
sound_given w e n counted =
    let same = same_words (words (store_of w)) w in
    record { written = same_words_equal _ w (and_left same _ e); sound = and_right same _ e; counted = counted }

pub given_sound : {w : List ℕ} {n : ℕ} → Given w n → sound_words w ≡ true
unfolding sound_words
given_sound {w} g = let same : same_words (words (store_of w)) w ≡ true = rw g.written (same_words_self w) in and_both same g.sound

-- what an accepted step does: the store and the count are those of its effect
abbrev pub Effected : Effect → List ℕ → ℕ → Type 0
Effected e w n = Counted e.store e.count w n

-- what taking a stamp does: the next one, which is answered, is noted as the train's latest
pub record StampTaken (s : Store) (t : Train) (w : List ℕ) (r : Stamp) : Type 0 where
  pub became : Became (stamped s t (tree_of s) s.boards) w
  pub taken : r ≡ s.next

-- what a step does, accepted or refused: store, number and count are those of the rules, and the entries held are counted
pub record Stepped (d : Done) (w : List ℕ) (m c n : ℕ) : Type 0 where
  pub wrote : w ≡ words d.store
  pub stored : store_of w ≡ d.store
  pub number : m ≡ d.number
  pub count : c ≡ d.count
  pub entries : n ≡ length (held d.store)

-- what a step of the words w does that leaves the number of entries held as it is
abbrev pub KeepsHeld : List ℕ → Step → List ℕ → ℕ → ℕ → Type 0
KeepsHeld w x w' m c = (n : ℕ) → Given w n → Stepped (step (store_of w) x) w' m c n

-- a refused step leaves all as it is
pub stepped_refused : (w : List ℕ) (n : ℕ) (x : Step) → Given w n → (m : ℕ) → m ≡ refusal (store_of w) x → (m ≡ 0 → ⊥)
    → Stepped (step (store_of w) x) w m 0 n
stepped_refused w n x g m e h =
    subst (λ d. Stepped d w m 0 n) (sym (step_refused (store_of w) x λ z. h (e ∙ z)))
    (record { wrote = sym g.written; stored = refl; number = e; count = refl; entries = g.counted })

-- an accepted one has its effect
pub stepped_accepted : (s : Store) (x : Step) (w : List ℕ) (c n : ℕ) → refusal s x ≡ 0 → Effected (effect x.kind s x) w c
    → n ≡ length (held (effect x.kind s x).store) → Stepped (step s x) w 0 c n
stepped_accepted s x w c n a e h =
    subst (λ d. Stepped d w 0 c n) (sym (step_accepted s x a))
    (record { wrote = e.became.wrote; stored = e.became.stored; number = refl; count = e.counted; entries = h })

-- the next step finds what this one asked for
pub given_next : (w : List ℕ) (n : ℕ) (x : Step) → Given w n → (w' : List ℕ) (m c n' : ℕ) → Stepped (step (store_of w) x) w' m c n' → Given w' n'
given_next w n x g w' m c n' t =
    record {
      written = ap words t.stored ∙ sym t.wrote;
      sound = rw t.stored (step-sound (store_of w) x g.sound);
      counted = t.entries ∙ ap (λ s. length (held s)) (sym t.stored);
    }
