-- It is chosen from the first relation on. From the laws of masks, of neighbours and of completions.
use Rattle.std.proofs.Common.{◌∙◌, refl, replicate, arith}
use Rattle.model.specs.Network.{Network}
use Rattle.model.proofs.Fault.{faultless}
use Rattle.layout.specs.Setting.{lists, network_in}
use Rattle.layout.proofs.SoundStarts.{relations-few, relation-count}
use Rattle.enumeration.proofs.Whole.{neighbours-of, near-mutual, whole-adds}
use Rattle.enumeration.proofs.list_all.Goals as goal

pub neighbours-near-requires : goal.neighbours-near-requires
neighbours-near-requires c = omega (arith, c.relation_count-count.ensures, relation-count c.requires.0.framed, relations-few c.requires.0.framed)

pub extend-requires : goal.extend-requires
extend-requires c = record {
  both_ways = near-mutual c.masks.result c.neighbours-near.result c.relation_count-count.result c.neighbours-near.ensures;
  sized = refl;
  two = omega arith;
  most = omega arith;
  choice = record {
    few = omega arith;
    low = omega arith;
    relations = omega (arith, c.relation_count-count.ensures, relation-count c.requires.0.framed, relations-few c.requires.0.framed);
    room = c.requires.2;
    under = omega arith;
  };
}

pub returns : goal.returns
returns c =
    let N : Network = network_in (lists (λ x. x.now) c.args.variables c.args.values c.args.starts) in
    let count = c.relation_count-count.ensures ∙ relation-count c.requires.0.framed in
    let near = neighbours-of N c.relation_count-count.result count c.masks.result c.neighbours-near.result c.masks.ensures c.neighbours-near.ensures in
    whole-adds N c.relation_count-count.result count c.neighbours-near.result (replicate 2 0) (replicate 4 0) c.args.m (faultless N c.requires.0.faultless) near c.extend.ensures
