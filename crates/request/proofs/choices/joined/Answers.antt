use mathlib.Core.Path.{sym, ◌∙◌}
use Rattle.request.proofs.Pairs.{joins_any, joins-fit, joins-other}
use Rattle.request.proofs.choices.joined.Goals as goal

pub returns-then-is_any : goal.returns-then-is_any
returns-then-is_any c = joins_any c.args.first c.args.second c.args.v (sym c.is_any.ensures ∙ c.if-is_any.true)

pub returns-then-fit : goal.returns-then-fit
returns-then-fit c = joins-fit c.args.first c.args.second c.args.v (sym c.is_any.ensures ∙ c.if-is_any.false) (sym c.fit.ensures ∙ c.if-fit.true)

pub returns : goal.returns
returns c = joins-other c.args.first c.args.second c.args.v (sym c.is_any.ensures ∙ c.if-is_any.false) (sym c.fit.ensures ∙ c.if-fit.false)
