use Rattle.std.proofs.Common.{ltb, rules}
use Rattle.std.proofs.lemmas.List.Sorted.{answers_always}
use borrow.Author.Tests.{tests}
use Rattle.combination.proofs.Members.{rising-answer}
use Rattle.combination.proofs.rising.Goals as goal

pub returns : goal.returns
returns c = rising-answer c.args.members.now c.is_sorted_by.result (c.is_sorted_by.ensures.cases ltb (answers_always _ _ _ (λ f a r g k. search (rules, tests))))
