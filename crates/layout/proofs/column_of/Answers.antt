use Rattle.std.proofs.Common.{◌≡◌, ℕ, nat_eq, rules}
use Rattle.std.proofs.lemmas.Iterator.{YieldsList-from_slice}
use Rattle.std.proofs.lemmas.Iterator.Search.{position_from_yields_List}
use Rattle.std.specs.List.{position}
use borrow.Author.Tests.{tests}
use Rattle.layout.proofs.Columns.{column-position}
use Rattle.layout.proofs.column_of.Goals as goal

pub returns : goal.returns
returns c =
    let found : c.position.result ≡ position (λ (y : ℕ). nat_eq y c.args.x) c.args.scope.now =
    position_from_yields_List (λ (y : ℕ). nat_eq y c.args.x) _ _ c.position.result c.position.ensures.ran (YieldsList-from_slice c.args.scope.now (cc)) (λ x b q k. search (rules, tests)) in
    rw (column-position c.args.x c.args.scope.now) (cc)
