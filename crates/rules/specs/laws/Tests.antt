-- Laws of tests: what follows from several that pass, and back.
use Rattle.std.specs.Prelude.{ℕ, ◌≡◌, refl, Bool, true, false, not, cond, ◌&&◌, ◌||◌, List, [], ◌∷◌, eqb}
use Rattle.std.proofs.Common.{sym, ◌∙◌, true≢false, eqb-true, eq-eqb}
use Rattle.std.proofs.lemmas.Bool.{false≢true}
use Rattle.rules.specs.Lists.{all_of}

-- what holds of both branches holds of the choice
pub either : {A : Type 0} (P : A → Type 0) (b : Bool) {x y : A} → (b ≡ true → P x) → (b ≡ false → P y) → P (cond b x y)
either P true h k = h refl
either P false h k = k refl

pub not_both : (b : Bool) → b ≡ true → b ≡ false → ⊥
not_both b e f = true≢false (sym e ∙ f)

pub not_fails : (b : Bool) → (b ≡ false → ⊥) → b ≡ true
not_fails true h = refl
not_fails false h = absurd (h refl)

pub and_left : (a b : Bool) → (a && b) ≡ true → a ≡ true
and_left true b e = refl
and_left false b e = e

pub and_right : (a b : Bool) → (a && b) ≡ true → b ≡ true
and_right true b e = e
and_right false b e = absurd (false≢true e)

pub and_both : {a b : Bool} → a ≡ true → b ≡ true → (a && b) ≡ true
and_both h k = rw (h, k)

-- a test that is asked for only where another passes
pub or_then : (a b : Bool) → a ≡ true → (not a || b) ≡ true → b ≡ true
or_then true b h e = e
or_then false b h e = absurd (false≢true h)

pub then_or : (a b : Bool) → (a ≡ true → b ≡ true) → (not a || b) ≡ true
then_or true b h = h refl
then_or false b h = refl

-- a test that is asked for only where two numbers are equal
pub equal_then : {m n : ℕ} (b : Bool) → (not (eqb m n) || b) ≡ true → m ≡ n → b ≡ true
equal_then {m} {n} b e q = or_then (eqb m n) b (eq-eqb m n q) e

pub then_equal : (m n : ℕ) {b : Bool} → (m ≡ n → b ≡ true) → (not (eqb m n) || b) ≡ true
then_equal m n {b} h = then_or (eqb m n) b λ e. h (eqb-true m n e)

-- a test that is asked for only where another fails
pub or_else : (a b : Bool) → a ≡ false → (a || b) ≡ true → b ≡ true
or_else true b h e = absurd (true≢false h)
or_else false b h e = e

pub else_or : (a b : Bool) → (a ≡ false → b ≡ true) → (a || b) ≡ true
else_or true b h = refl
else_or false b h = h refl

-- ---- all of a list of tests, as a tuple of facts
abbrev pub Each : List Bool → Type 0
Each [] = Unit {0}
Each (b ∷ bs) = (b ≡ true) × Each bs

-- the facts of such a tuple, one after the other: `a also b also tt`
infixr 30 ◌also◌
abbrev pub ◌also◌ : {P Q : Type 0} → P → Q → P × Q
◌also◌ p q = (p, q)

pub each : (bs : List Bool) → all_of bs ≡ true → Each bs
unfolding all_of
each [] e = tt
each (b ∷ bs) e = (and_left b (all_of bs) e, each bs (and_right b (all_of bs) e))

pub each_all_of : (bs : List Bool) → Each bs → all_of bs ≡ true
unfolding all_of
each_all_of [] e = refl
each_all_of (b ∷ bs) e = and_both e.0 (each_all_of bs e.1)
