-- `page::Page::read` meets its contract.
use Rattle.std.proofs.Common.{◌≡◌, ℕ, ◌+◌, ◌-◌, ◌*◌, ◌<◌, get_or, take, drop, rules}
use Rattle.rules.specs.Store.{no_place, place_of}
use Rattle.page.specs.Struct.{struct_of}
use Rattle.page.proofs.Words.{places_read}
use Rattle.page.proofs.part.PagePart.read.Goals as goal

pub returns : goal.returns
unfolding struct_of place_of
returns c =
    let each : (i : ℕ) → i < 8 → get_or c.from_fn.result i no_place ≡ place_of (take (10 + 6 * i - (4 + 6 * i)) (drop (4 + 6 * i) c.args.words.now)) =
    λ i h. let one = c.from_fn.ensures.items.at i no_place h in search rules in
    rw (places_read c.args.words.now c.from_fn.result c.from_fn.ensures.items.long each)
