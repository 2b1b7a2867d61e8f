-- `hopeless` leaves all places from k on but the seeking tuple's: what is refuted of these is refuted of all.
use borrow.Author.Tests.{not-true, eqb-false}
use Rattle.layout.specs.Setting.{network_in}
use Rattle.refuting.proofs.Refutation.{alone}
use Rattle.refuting.proofs.hopeless.Goals as goal

pub returns : goal.returns
returns c e =
    let a = c.args in
    alone (network_in (record { variables = a.variables.now; values = a.values.now; starts = a.starts.now })) a.members.now a.place a.own a.words.now
    c.without-left.result c.without-left.ensures.gone (c.refuted.ensures.1 (eqb-false c.refuted.result 0 (not-true _ e)))
