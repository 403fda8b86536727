use Rattle.std.proofs.Common.{rules, take, get_or}
use Rattle.std.proofs.lemmas.Iterator.{YieldsList-from_slice}
use Rattle.std.proofs.lemmas.Iterator.Search.{all_from_yields_List}
use borrow.Author.Tests.{tests}
use Rattle.rules.specs.Store.{place_of}
use Rattle.tidy.specs.Tidy.{inner_place}
use Rattle.tidy.proofs.Parts.{inner_places_so}
use Rattle.tidy.proofs.inner_places.Goals as goal

pub returns : goal.returns
returns c =
    rw (inner_places_so c.args.p c.args.page.now c.requires, ← c.as_chunks.ensures.front)
    (all_from_yields_List (λ place. inner_place c.args.p (place_of place)) _ _ _ c.all.ensures.ran (YieldsList-from_slice (take (get_or c.args.page.now 1 0) c.as_chunks.result.0.now) cc) (λ x b q k. search (rules, tests)))
