-- The kinds of a page as an enum, and the word of each.
use Rattle.std.specs.Prelude.{ℕ, ◌≡◌, ◌<◌, Result, MatchResult}
use Rattle.rules.specs.declared.kind.Kind.{Kind}
use Rattle.rules.specs.declared.kind.Kind.TheVariants.{Free, Leaf, Inner}
use Rattle.rules.specs.declared.kind.UnknownKind.{UnknownKind}

abbrev pub kind_word : Kind → ℕ
kind_word Free = 0
kind_word Leaf = 1
kind_word Inner = 2

-- a word's kind; only a word above 2 has none
abbrev pub IsKind : ℕ → Result Kind UnknownKind → Type 0
IsKind word r = MatchResult r (λ kind. kind_word kind ≡ word) (λ e. (e.0 ≡ word) × (2 < word))
