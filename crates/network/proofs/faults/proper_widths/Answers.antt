use Rattle.std.proofs.Common.{◌≡◌, length, take, rules, arith}
use Rattle.std.proofs.lemmas.Iterator.{YieldsList-from_slice}
use Rattle.std.proofs.lemmas.Iterator.Search.{all_from_yields_List}
use borrow.Author.Tests.{tests}
use Rattle.model.specs.Fault.{within}
use Rattle.network.proofs.Walk.{widths-proper}
use Rattle.network.proofs.faults.proper_widths.Goals as goal

pub returns : goal.returns
returns c =
    let long : length c.args.shape.widths ≡ 64 = search rules in
    rw (widths-proper c.args.shape (omega (arith, long)))
    (all_from_yields_List (within 1 8) _ _ _ c.all.ensures.ran (YieldsList-from_slice (take c.args.shape.count c.args.shape.widths) (cc)) (λ x b q k. search (rules, tests)))
