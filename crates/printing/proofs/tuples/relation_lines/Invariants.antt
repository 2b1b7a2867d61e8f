-- What remains are the lines of the live tuples that are ahead.
use Rattle.live.proofs.Ahead.{Ahead}
use Rattle.model.specs.LiveWords.{is_live}
use Rattle.model.specs.Listing.{tuple_line}
use Rattle.printing.specs.Lines.{text_over, rows}
use Rattle.printing.proofs.Appended.{Remains}
use Rattle.printing.proofs.tuples.relation_lines.Given as goal

abbrev pub invariant-loop-g : goal.invariant-loop-g
invariant-loop-g l =
    let text = text_over (tuple_line (rows l.starts l.values)) (is_live l.words) in
    record {
      ahead : Ahead l.words l.start l.end l.g-iterator.words.now l.g-iterator.at l.g-iterator.end;
      left : Remains (text l.g-iterator.at l.end) l.out l.n (text l.start l.end) l.initial.out l.at;
    }
