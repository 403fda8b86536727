-- Laws of boxes: which lie within which, what covers them, and how large a proper one can be.
use Rattle.std.specs.Prelude.{◌≤◌, ◌<◌, ◌*◌, ◌^◌, ◌≡◌, length}
use native.Mathlib.Omega.{arith}
use Rattle.std.proofs.Common.{mul-le-mul}
use Rattle.std.proofs.Math.Path.{refl}
use mathlib.Core.List.{List, [], ◌∷◌}
use Rattle.rules.specs.declared.Box.{Box}
use Rattle.rules.specs.Boxes.{edge, area, cover, cover_of}
use Rattle.rules.specs.Views.{ProperBox}
use Rattle.rules.specs.laws.All.{All, none, more, all_map}

-- ---- a box within another
pub record Within (a b : Box) : Type 0 where
  pub left : b.x0 ≤ a.x0
  pub lower : b.y0 ≤ a.y0
  pub right : a.x1 ≤ b.x1
  pub upper : a.y1 ≤ b.y1

pub within_itself : (a : Box) → Within a a
within_itself a = omega arith

pub within_both : {a b c : Box} → Within a b → Within b c → Within a c
within_both h k = omega arith

-- ---- the cover of two
pub within_cover-left : (a b : Box) → Within a (cover a b)
unfolding cover
within_cover-left a b = omega arith

pub within_cover_right : (a b : Box) → Within b (cover a b)
unfolding cover
within_cover_right a b = omega arith

pub cover_proper : (a b : Box) → ProperBox a → ProperBox b → ProperBox (cover a b)
unfolding cover
cover_proper a b h k = omega arith

-- ---- the cover of several
module _ {A : Type 0} (f : A → Box) where
  pub cover_of_more : (e : A) (es : List A) → 0 < length es → cover_of f (e ∷ es) ≡ cover (f e) (cover_of f es)
  unfolding cover_of
  cover_of_more e [] h = absurd (omega arith)
  cover_of_more e (g ∷ es) h = refl

  pub cover_of_proper : {e : A} {es : List A} → All (λ e. ProperBox (f e)) (e ∷ es) → ProperBox (cover_of f (e ∷ es))
  unfolding cover_of
  cover_of_proper (more h none) = h
  cover_of_proper (more h (more k a)) = cover_proper _ _ h (cover_of_proper (more k a))

  -- and of none
  pub cover_of_all_proper : (es : List A) → All (λ e. ProperBox (f e)) es → ProperBox (cover_of f es)
  unfolding cover_of
  cover_of_all_proper [] a = omega arith
  cover_of_all_proper (e ∷ es) a = cover_of_proper a

  pub within_cover_of : (es : List A) → All (λ e. Within (f e) (cover_of f es)) es
  unfolding cover_of
  within_cover_of [] = none
  within_cover_of (e ∷ []) = more (within_itself (f e)) none
  within_cover_of (e ∷ g ∷ es) =
      more (within_cover-left _ _) (all_map (within_cover_of (g ∷ es)) λ x h. within_both h (within_cover_right _ _))

-- ---- the area of a proper box
pub area-below : (b : Box) → ProperBox b → area b < 2 ^ 40
unfolding area
area-below b h =
    let l : area b ≤ edge * edge = mul-le-mul {n₂ = edge} {m₂ = edge} (omega arith) (omega arith) in
    omega arith
