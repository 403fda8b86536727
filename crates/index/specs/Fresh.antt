-- The fresh store's words: the first nineteen, and zeros.
use Rattle.std.specs.Prelude.{ℕ, zero, suc, ◌+◌, ◌*◌, ◌-◌, ◌≤◌, ◌≡◌, length}
use native.Mathlib.Omega.{arith}
use Rattle.std.proofs.Common.{mul-suc, ◌∙◌, ap₂}
use Rattle.std.proofs.Math.Path.{refl, ap}
use mathlib.Core.List.{List, [], ◌∷◌, ◌++◌, flat_map}
use Rattle.std.proofs.Math.ListN.{replicate, replicate-append-replicate, length-replicate}
use Rattle.rules.specs.Lists.{padded}
use Rattle.rules.specs.Store.{free_page, closed, store_length, memo_words, page_words, board_words, words, fresh, store_open}

-- the header, and page 0 as an empty leaf with mark 1
abbrev pub first_words : ℕ → ℕ → ℕ → List ℕ
first_words p k b =
    1 ∷ 1 ∷ 0 ∷ 1 ∷ 16 ∷ p ∷ (16 + 52 * p) ∷ k ∷ (16 + 52 * p + 3 * k) ∷ b ∷ 0 ∷ 0 ∷ 0 ∷ 0 ∷ 0 ∷ 0 ∷ 1 ∷ 0 ∷ 1 ∷ []

-- as many parts of zeros, one after the other
zeros_of : {A : Type 0} (f : A → List ℕ) (size : ℕ) (x : A) → f x ≡ replicate size 0 → (n : ℕ) → flat_map f (replicate n x) ≡ replicate (size * n) 0
unfolding flat_map
zeros_of f size x e zero = let z : size * 0 ≡ 0 = omega arith in rw z
zeros_of f size x e (suc n) =
    let z : size + size * n ≡ size * suc n = omega (arith, mul-suc size n) in
    ap₂ (λ u v. u ++ v) e (zeros_of f size x e n) ∙ replicate-append-replicate size (size * n) 0 ∙ ap (λ m. replicate m 0) z

-- the pages after page 0, the memo and the boards
module _ (p k b : ℕ) (h : 1 ≤ p) where
  after_page_0 : flat_map page_words (replicate (p - 1) free_page) ++ (memo_words k [] ++ flat_map board_words (replicate b closed)) ≡ replicate (52 * (p - 1) + (3 * k + 86 * b)) 0
  unfolding store_open padded
  after_page_0 =
      let m : memo_words k [] ≡ replicate (3 * k) 0 = let z : 3 * k - 0 ≡ 3 * k = omega arith in ap (λ n. replicate n 0) z in
      rw (zeros_of page_words 52 free_page refl (p - 1), m, zeros_of board_words 86 closed refl b, replicate-append-replicate, replicate-append-replicate)

  many_pages : suc (length (replicate (p - 1) free_page)) ≡ p
  many_pages = let e = length-replicate (p - 1) free_page in omega arith

  pub fresh-words : words (fresh p k b) ≡ padded (store_length p k b) (first_words p k b)
  unfolding store_open padded
  fresh-words =
      let n : 49 + (52 * (p - 1) + (3 * k + 86 * b)) ≡ store_length p k b - 19 = omega arith in
      let rest : ◌++◌ {A = ℕ} (replicate 49 0) (replicate (52 * (p - 1) + (3 * k + 86 * b)) 0) ≡ replicate (store_length p k b - 19) 0 = replicate-append-replicate 49 (52 * (p - 1) + (3 * k + 86 * b)) 0 ∙ ap (λ m. replicate m 0) n in
      rw (many_pages, length-replicate b closed, after_page_0) (ap (λ z. first_words p k b ++ z) rest)
