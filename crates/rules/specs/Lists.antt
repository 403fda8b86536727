-- Lists and tests: the few functions that the other definitions are written with.
use Rattle.std.specs.Prelude.{ℕ, zero, suc, ◌+◌, ◌-◌, Bool, true, false, cond, ◌&&◌, ◌||◌, List, [], ◌∷◌, ◌++◌, eqb, ltb, length, replicate}
use Rattle.std.specs.List.{list_all, list_any}
use Rattle.std.specs.Simd.{first_chunks}

-- ---- tests
-- all the tests pass
unfoldable pub all_of : List Bool → Bool
all_of [] = true
all_of (b ∷ bs) = b && all_of bs

-- one of the tests passes
unfoldable pub one_of : List Bool → Bool
one_of [] = false
one_of (b ∷ bs) = b || one_of bs

abbrev pub one_if : Bool → ℕ
one_if true = 1
one_if false = 0

-- ---- lists of anything
-- x before the list where the test passes
abbrev pub put_if : {A : Type 0} → Bool → A → List A → List A
put_if true x r = x ∷ r
put_if false x r = r

unfoldable pub keep : {A : Type 0} → (A → Bool) → List A → List A
keep f [] = []
keep f (x ∷ xs) = put_if (f x) x (keep f xs)

-- std's own, case for case: every f [] = true, every f (x ∷ xs) = f x && every f xs
abbrev pub every : {A : Type 0} → (A → Bool) → List A → Bool
every f xs = list_all f xs

-- some_one f [] = false, some_one f (x ∷ xs) = f x || some_one f xs
abbrev pub some_one : {A : Type 0} → (A → Bool) → List A → Bool
some_one f xs = list_any f xs

unfoldable pub count : {A : Type 0} → (A → Bool) → List A → ℕ
count f [] = 0
count f (x ∷ xs) = one_if (f x) + count f xs

-- the place of the first that passes; the length where none does
unfoldable pub first : {A : Type 0} → (A → Bool) → List A → ℕ
first f [] = 0
first f (x ∷ xs) = let later = first f xs in cond (f x) 0 (suc later)

-- all but the one at place i
unfoldable pub without : {A : Type 0} → List A → ℕ → List A
without [] i = []
without (x ∷ xs) zero = xs
without (x ∷ xs) (suc i) = x ∷ without xs i

-- ---- lists of numbers
-- the numbers from n, k of them
unfoldable pub from : ℕ → ℕ → List ℕ
from n zero = []
from n (suc k) = n ∷ from (suc n) k

unfoldable pub distinct : List ℕ → Bool
distinct [] = true
distinct (x ∷ xs) = every (λ y. ltb y x || ltb x y) xs && distinct xs

unfoldable pub ascending : List ℕ → Bool
ascending [] = true
ascending (x ∷ xs) = every (ltb x) xs && ascending xs

unfoldable pub same_words : List ℕ → List ℕ → Bool
same_words [] [] = true
same_words [] (y ∷ ys) = false
same_words (x ∷ xs) [] = false
same_words (x ∷ xs) (y ∷ ys) = eqb x y && same_words xs ys

-- n parts of size words each, one after the other
-- cut zero size ws = [], cut (suc n) size ws = take size ws ∷ cut n size (drop size ws)
abbrev pub cut : ℕ → ℕ → List ℕ → List (List ℕ)
cut n size ws = first_chunks size n ws

-- the words, and zeros up to the length n
unfoldable pub padded : ℕ → List ℕ → List ℕ
padded n ws = ws ++ replicate (n - length ws) 0

-- a proof that says `unfolding lists_open` sees through every definition of this file
unfoldable pub lists_open : Unit {0}
unfolding all_of one_of keep count first without from distinct ascending same_words padded
lists_open = tt
