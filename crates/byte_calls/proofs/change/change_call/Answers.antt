-- From what the test and `change_bytes` ensure.
use Rattle.std.proofs.Common.{sym, ap, ◌∙◌, Bool, ◌&&◌}
use Rattle.model.proofs.Bools.{and_intro}
use Rattle.encoding.specs.Call.{whole_own, byte_reply}
use Rattle.byte_calls.specs.Call.{change_in}
use Rattle.byte_calls.proofs.Calls.{cond-whole, cond-not}
use Rattle.byte_calls.proofs.change.change_call.Goals as goal

pub returns-then-not-change_whole : goal.returns-then-not-change_whole
unfolding byte_reply
returns-then-not-change_whole c =
    cond-not _ _ _ (ap (λ (b : Bool). b && whole_own (change_in c.args.call c.args.listed.now c.args.chosen.now)) (sym c.change_whole.ensures ∙ c.if-not-change_whole.true))

pub returns : goal.returns
unfolding byte_reply
returns c = c.change_bytes.ensures ∙ cond-whole _ _ _ (and_intro (sym c.change_whole.ensures ∙ c.if-not-change_whole.false) c.requires)
