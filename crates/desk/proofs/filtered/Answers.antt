-- What the change call replies where every tuple lives. From what an accepted reply gives.
use Rattle.std.proofs.Common.{◌≡◌, sym, ◌∙◌, ap, List, ℕ, ◌≤◌, length, replicate, arith, rules}
use lib.Seq.{length-take-le}
use Rattle.model.specs.Limits.{max_support_numbers}
use Rattle.model.specs.Request.{filter}
use Rattle.model.specs.Reply.{Reply, reply, request, replied}
use Rattle.model.specs.Text.{text_of}
use Rattle.model.specs.Listing.{all_live, fresh, reply_lines}
use Rattle.model.proofs.Reading.{writable-few}
use Rattle.layout.specs.Shape.{network_of, instance_of}
use Rattle.layout.proofs.Relations.{relation-count}
use Rattle.printing.proofs.Appended.{appended-same}
use Rattle.desk.proofs.Fresh.{reply-printable, all-counted}
use Rattle.desk.proofs.filtered.Goals as goal
use Rattle.desk.proofs.filtered.Goals.{Start}

few : (c : Start) → c.args.shape.count ≤ length c.args.shape.tuples
few c =
    let e : length c.args.shape.tuples ≡ 64 = search rules in
    omega (arith, e, writable-few (instance_of c.args.shape c.args.variables.now c.args.values.now c.args.m c.args.members.now) c.requires, relation-count c.args.shape)

pub slice_bounds-counts-end : goal.slice_bounds-counts-end
slice_bounds-counts-end c = few (goal.at.slice_bounds-counts-end c).Start

pub slice_bounds-filter-end-3 : goal.slice_bounds-filter-end-3
slice_bounds-filter-end-3 c = sym (length-take-le c.args.shape.count c.args.shape.tuples (few (goal.at.slice_bounds-filter-end-3 c).Start))

pub print-requires : goal.print-requires
print-requires c =
    let a = c.args in
    reply-printable a.shape a.variables.now a.values.now a.m a.members.now _ _ _ c.requires c.filter-answer.result c.filter-answer.new.words _ _ c.filter-answer.ensures

-- what the call replies is the reply with every tuple live and counted
pub returns : goal.returns
unfolding fresh all_live
returns c =
    let a = c.args in
    let f = c.filter-answer in
    let answered : replied f.result f.new.words f.new.supports f.new.counts ≡ reply (fresh (instance_of a.shape a.variables.now a.values.now a.m a.members.now)) =
    f.ensures ∙ ap (λ (ks : List ℕ). reply (request (instance_of a.shape a.variables.now a.values.now a.m a.members.now) all_live (replicate max_support_numbers 0) ks filter)) (all-counted a.shape (few (goal.at.returns c).Start))
    in
    appended-same (ap (λ (r : Reply). text_of (reply_lines (network_of a.shape a.variables.now a.values.now) r)) answered) (c.print.ensures f.new.supports f.new.counts)
