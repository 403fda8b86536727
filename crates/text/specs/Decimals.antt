-- Laws of decimals as they are printed: their digits, how many there are, and that reading one gives its number back.
use Rattle.std.specs.Prelude.{ℕ, zero, suc, ◌+◌, ◌*◌, ◌-◌, ◌/◌, ◌%◌, ◌^◌, ◌≤◌, ◌<◌, ◌≡◌, refl, Bool, true, false, List, [], ◌∷◌, ◌++◌, ltb, length}
use Rattle.std.proofs.Common.{arith, div-lt_iff_lt-mul, pow-suc, ◌∙◌, ap, length-append, ltb-true, ltb-false, lt-ltb, le-ltb, le-leb}
use Rattle.rules.specs.Store.{limit}
use Rattle.rules.specs.laws.All.{All, none, more, all_append, all_every}
use Rattle.rules.specs.laws.Tests.{either, each_all_of, ◌also◌}
use Rattle.text.specs.Reading.{is_digit, value_from, value, is_decimal}
use Rattle.text.specs.Printing.{digits, decimal}

-- ---- by its digits: what holds of a number below 10, and of one from 10 on by its tenth, holds of each
by_tenths : (P : ℕ → List ℕ → Type 0) → ((n : ℕ) → n < 10 → P n ((48 + n) ∷ [])) → ((n : ℕ) (ds : List ℕ) → 10 ≤ n → P (n / 10) ds → P n (ds ++ ((48 + n % 10) ∷ [])))
    → (k n : ℕ) → n < k → P n (digits k n)
unfolding digits
by_tenths P few large zero n h = absurd (omega arith)
by_tenths P few large (suc k) n h =
    either (P n) (ltb n 10) (λ e. few n (ltb-true n 10 e)) λ e.
    let l = ltb-false n 10 e in
    large n (digits k (n / 10)) l (by_tenths P few large k (n / 10) (omega arith))

-- as many turns as there are numbers up to n are enough, and more change nothing
digits_same : (j k n : ℕ) → n < j → n < k → digits j n ≡ digits k n
unfolding digits
digits_same zero k n h g = absurd (omega arith)
digits_same (suc j) zero n h g = absurd (omega arith)
digits_same (suc j) (suc k) n h g =
    either (λ ds. ds ≡ digits (suc k) n) (ltb n 10) (λ e. rw e) λ e.
    let l = ltb-false n 10 e in
    rw e (ap (λ ds. ds ++ ((48 + n % 10) ∷ [])) (digits_same j k (n / 10) (omega arith) (omega arith)))

pub decimal_small : (n : ℕ) → n < 10 → decimal n ≡ (48 + n) ∷ []
unfolding decimal digits
decimal_small n h = rw (lt-ltb n 10 h)

pub decimal_large : (n : ℕ) → 10 ≤ n → decimal n ≡ decimal (n / 10) ++ ((48 + n % 10) ∷ [])
unfolding decimal digits
decimal_large n h =
    let e : digits (suc n) n ≡ digits n (n / 10) ++ ((48 + n % 10) ∷ []) = rw (le-ltb n 10 h) in
    e ∙ ap (λ ds. ds ++ ((48 + n % 10) ∷ [])) (digits_same n (suc (n / 10)) (n / 10) (omega arith) (omega arith))

-- ---- how many digits there are: the tenth of a number of 32 bits has at most nine
decimal_long : (m n : ℕ) → n < 10 ^ suc m → length (decimal n) ≤ suc m
decimal_long zero n h = let s : n < 10 = omega arith in rw (decimal_small n s) (omega arith)
decimal_long (suc m) n h = go (ltb n 10) refl (decimal_long m (n / 10) ((div-lt_iff_lt-mul {k = 10} (omega arith)).1 (rw (pow-suc 10 (suc m)) at h)))
  where
    go : (t : Bool) → ltb n 10 ≡ t → length (decimal (n / 10)) ≤ suc m → length (decimal n) ≤ suc (suc m)
    go true e k = rw (decimal_small n (ltb-true n 10 e)) (omega arith)
    go false e k = rw (decimal_large n (ltb-false n 10 e)) (simp length-append (omega arith))

pub nine_digits : (n : ℕ) → n < 4_294_967_296 → length (decimal (n / 10)) ≤ 9
nine_digits n h = decimal_long 8 (n / 10) (omega arith)

-- ---- what is printed is read back
value_more : (v : ℕ) (ds : List ℕ) (d : ℕ) → value_from v (ds ++ (d ∷ [])) ≡ 10 * value_from v ds + (d - 48)
unfolding value_from
value_more v [] d = refl
value_more v (b ∷ ds) d = value_more (10 * v + (b - 48)) ds d

pub value-printed : (n : ℕ) → value (decimal n) ≡ n
unfolding decimal value value_from
value-printed n =
    by_tenths (λ n ds. value_from 0 ds ≡ n) (λ n h. omega arith) (λ n ds h e. value_more 0 ds (48 + n % 10) ∙ omega arith) (suc n) n (omega arith)

a_digit : (d : ℕ) → d < 10 → is_digit (48 + d) ≡ true
unfolding is_digit
a_digit d h = rw (le-leb 48 (48 + d) (omega arith)) (le-leb (48 + d) 57 (omega arith))

all_digits : (n : ℕ) → All (λ b. is_digit b ≡ true) (decimal n)
unfolding decimal
all_digits n =
    by_tenths (λ n ds. All (λ b. is_digit b ≡ true) ds) (λ n h. more (a_digit n h) none) (λ n ds h e. all_append e (more (a_digit (n % 10) (omega arith)) none)) (suc n) n (omega arith)

some_digit : (n : ℕ) → 0 < length (decimal n)
unfolding decimal
some_digit n =
    by_tenths (λ n ds. 0 < length ds) (λ n h. omega arith) (λ n ds h e. simp length-append (omega arith)) (suc n) n (omega arith)

pub printed-decimal : (n : ℕ) → n ≤ limit → is_decimal (decimal n) ≡ true
unfolding is_decimal
printed-decimal n h =
    each_all_of _ (lt-ltb 0 _ (some_digit n) also all_every is_digit (all_digits n) also le-leb (value (decimal n)) limit (rw (value-printed n) h) also tt)
