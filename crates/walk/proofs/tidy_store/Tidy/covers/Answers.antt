use Rattle.std.proofs.Common.{rules}
use Rattle.std.proofs.lemmas.Iterator.{YieldsList-from_slice}
use Rattle.std.proofs.lemmas.Iterator.Search.{all_from_yields_List}
use borrow.Author.Tests.{tests}
use Rattle.rules.specs.Store.{store_of}
use Rattle.walk.specs.Walk.{covered}
use Rattle.walk.proofs.Kept.{its_words}
use Rattle.walk.proofs.Pages.{places_read}
use Rattle.walk.proofs.tidy_store.Tidy.covers.Goals as goal

pub returns : goal.returns
returns c =
    rw (← places_read _ (its_words c.args.self.now) c.args.at _ c.page_there.ensures _ c.used.ensures)
    (all_from_yields_List (covered (store_of c.args.self.now.words.now).pages) _ _ _ c.all.ensures.ran (YieldsList-from_slice c.used.result.now cc) (λ x b q k. search (rules, tests)))
