-- Laws of refusals: where the number is 0, no test is met; and tests after others.
use Rattle.std.specs.Prelude.{◌≤◌, ◌≡◌, refl, Bool, true, false, cond, List, [], ◌∷◌, ◌++◌}
use Rattle.std.proofs.Common.{arith}
use Rattle.rules.specs.Numbers.{Refusal, first_met}

-- each refusal has a number other than 0
abbrev pub Numbered : List Refusal → Type 0
Numbered [] = Unit {0}
Numbered (r ∷ rs) = (1 ≤ r.number) × Numbered rs

-- no test is met, as a tuple of facts
abbrev pub Unmet : List Refusal → Type 0
Unmet [] = Unit {0}
Unmet (r ∷ rs) = (r.met ≡ false) × Unmet rs

pub unmet : (rs : List Refusal) → Numbered rs → first_met rs ≡ 0 → Unmet rs
unfolding first_met
unmet [] n e = tt
unmet (r ∷ rs) n e = go r.met refl e (unmet rs n.1)
  where
    go : (b : Bool) → r.met ≡ b → cond b r.number (first_met rs) ≡ 0 → (first_met rs ≡ 0 → Unmet rs) → Unmet (r ∷ rs)
    go true m e later = absurd (omega (arith, n.0))
    go false m e later = (m, later e)

-- ---- tests and then others: the first ones decide where one of them is met, and the others where none is
pub met_first : (rs qs : List Refusal) → (first_met rs ≡ 0 → ⊥) → first_met (rs ++ qs) ≡ first_met rs
unfolding first_met
met_first [] qs h = absurd (h refl)
met_first (r ∷ rs) qs h = go r.met (met_first rs qs) h
  where
    go : (b : Bool) → ((first_met rs ≡ 0 → ⊥) → first_met (rs ++ qs) ≡ first_met rs) → (cond b r.number (first_met rs) ≡ 0 → ⊥)
        → cond b r.number (first_met (rs ++ qs)) ≡ cond b r.number (first_met rs)
    go true later k = refl
    go false later k = later k

pub none_met : (rs qs : List Refusal) → Numbered rs → first_met rs ≡ 0 → first_met (rs ++ qs) ≡ first_met qs
unfolding first_met
none_met [] qs n e = refl
none_met (r ∷ rs) qs n e = go r.met e (none_met rs qs n.1)
  where
    go : (b : Bool) → cond b r.number (first_met rs) ≡ 0 → (first_met rs ≡ 0 → first_met (rs ++ qs) ≡ first_met qs)
        → cond b r.number (first_met (rs ++ qs)) ≡ first_met qs
    go true k later = absurd (omega (arith, n.0))
    go false k later = later k
