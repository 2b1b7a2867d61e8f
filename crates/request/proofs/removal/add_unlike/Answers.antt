use Rattle.std.proofs.Common.{◌<◌, length, sym, ◌∙◌, arith}
use Rattle.layout.specs.Starts.{records_in}
use Rattle.layout.specs.Setting.{lists}
use Rattle.layout.proofs.SoundStarts.{relations-few, relation-count}
use Rattle.request.proofs.Unlike.{unlike-start, unlike-next, unlike-end, unlike-any}
use Rattle.request.proofs.removal.add_unlike.Goals as goal

pub returns-then-is_any : goal.returns-then-is_any
returns-then-is_any c =
    unlike-any {L = lists (λ x. x.now) c.args.variables c.args.values c.args.starts} c.requires.0 c.args.x c.args.v c.args.removed.now c.requires.1 (sym c.is_any.ensures ∙ c.if-is_any.true)

pub loop-r-init : goal.loop-r-init
loop-r-init c = unlike-start c.requires.0 c.args.x c.args.v c.args.removed.now c.requires.1

pub unlike_in-requires : goal.unlike_in-requires
unlike_in-requires c = (c.requires.0, omega (arith, relation-count c.requires.0.framed, relations-few c.requires.0.framed), c.loop-r.invariant.added.full)

pub loop-r-preserved : goal.loop-r-preserved
loop-r-preserved c =
    let exists : c.loop-r.r < length (records_in c.args.starts.now) = omega (arith, relation-count c.requires.0.framed) in
    unlike-next c.requires.0 c.args.x c.args.v c.args.removed.now c.loop-r.removed c.loop-r.r c.loop-r.invariant _ exists c.unlike_in.ensures

pub returns : goal.returns
returns c = unlike-end c.requires.0 c.args.x c.args.v c.args.removed.now c.loop-r.removed c.loop-r.r c.loop-r.invariant (omega (arith, relation-count c.requires.0.framed))
