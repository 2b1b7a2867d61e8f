use Rattle.std.proofs.Common.{rules, ℕ, ltb}
use Rattle.std.proofs.lemmas.Iterator.{YieldsList-from_slice}
use Rattle.std.proofs.lemmas.Iterator.Search.{all_from_yields_List}
use borrow.Author.Tests.{tests}
use Rattle.layout.proofs.StdLists.{all-list_all}
use Rattle.combination.proofs.all_below.Goals as goal

pub returns : goal.returns
returns c =
    rw all-list_all
    (all_from_yields_List (λ (r : ℕ). ltb r c.args.count) _ _ _ c.all.ensures.ran (YieldsList-from_slice c.args.members.now (cc)) (λ x b q k. search (rules, tests)))
