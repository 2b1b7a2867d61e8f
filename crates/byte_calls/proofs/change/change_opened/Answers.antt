-- From what the decoders and `change_counted` ensure.
use Rattle.std.proofs.Common.{◌/◌, length, arith, sym, ap, length-take, length-take-le}
use Rattle.request.proofs.Openings.{checked-tested, tested-sound}
use Rattle.encoding.proofs.Counts.{counts-length, read_all}
use Rattle.byte_calls.proofs.Calls.{opened-needed, loaded-room, loaded-words, relations-few}
use Rattle.byte_calls.proofs.change.change_opened.Goals as goal

pub slice_bounds-load-end : goal.slice_bounds-load-end
slice_bounds-load-end c = let a = c.args in (opened-needed a.shape a.variables.now a.values.now a.m a.members.now a.marks.now a.supports.now a.opening c.requires.none c.requires.opened _ _ c.tuple_count.ensures c.words_for-word_count.ensures).1.1

pub slice_bounds-load-end-2 : goal.slice_bounds-load-end-2
slice_bounds-load-end-2 c =
    let a = c.args in
    sym (length-take-le _ a.marks.now (opened-needed a.shape a.variables.now a.values.now a.m a.members.now a.marks.now a.supports.now a.opening c.requires.none c.requires.opened _ _ c.tuple_count.ensures c.words_for-word_count.ensures).1.1)

pub slice_bounds-words-end : goal.slice_bounds-words-end
slice_bounds-words-end c =
    let a = c.args in
    let needed = opened-needed a.shape a.variables.now a.values.now a.m a.members.now a.marks.now a.supports.now a.opening c.requires.none c.requires.opened _ _ c.tuple_count.ensures c.words_for-word_count.ensures in
    loaded-room c.words_for-word_count.result _ a.marks.now _ c.load.ensures needed.1.0 needed.1.1

pub slice_bounds-change_counted-end : goal.slice_bounds-change_counted-end
slice_bounds-change_counted-end c =
    let a = c.args in
    let needed = opened-needed a.shape a.variables.now a.values.now a.m a.members.now a.marks.now a.supports.now a.opening c.requires.none c.requires.opened _ _ c.tuple_count.ensures c.words_for-word_count.ensures in
    sym (length-take-le _ _ (loaded-room c.words_for-word_count.result _ a.marks.now _ c.load.ensures needed.1.0 needed.1.1))

pub slice_bounds-counts-end : goal.slice_bounds-counts-end
slice_bounds-counts-end c =
    let a = c.args in
    let counted = read_all a.sheets.now a.shape.count _ c.counts_at-counts.ensures c.requires.records (relations-few a.shape a.variables.now a.values.now a.m a.members.now a.marks.now a.supports.now a.opening c.requires.opened c.requires.none) in
    omega (arith, ap length counted, counts-length a.sheets.now, length-take a.shape.count c.counts_at-counts.result)

pub slice_bounds-change_counted-end-2 : goal.slice_bounds-change_counted-end-2
slice_bounds-change_counted-end-2 c =
    let a = c.args in
    let counted = read_all a.sheets.now a.shape.count _ c.counts_at-counts.ensures c.requires.records (relations-few a.shape a.variables.now a.values.now a.m a.members.now a.marks.now a.supports.now a.opening c.requires.opened c.requires.none) in
    omega (arith, ap length counted, counts-length a.sheets.now)

pub change_counted-requires : goal.change_counted-requires
change_counted-requires c =
    let a = c.args in
    let needed = opened-needed a.shape a.variables.now a.values.now a.m a.members.now a.marks.now a.supports.now a.opening c.requires.none c.requires.opened _ _ c.tuple_count.ensures c.words_for-word_count.ensures in
    let counted = read_all a.sheets.now a.shape.count _ c.counts_at-counts.ensures c.requires.records (relations-few a.shape a.variables.now a.values.now a.m a.members.now a.marks.now a.supports.now a.opening c.requires.opened c.requires.none) in
    let long = length-take-le _ _ (loaded-room c.words_for-word_count.result _ a.marks.now _ c.load.ensures needed.1.0 needed.1.1) in
    record {
      shape = a.shape;
      opened = c.requires.opened;
      none = c.requires.none;
      decoded = record {
        covered = record {
          framed = (tested-sound a.shape a.variables.now a.values.now a.m a.members.now (length a.marks.now / 8) a.opening c.requires.none (checked-tested a.shape a.variables.now a.values.now a.m a.members.now (length a.marks.now / 8) a.opening c.requires.none (length a.supports.now / 2) c.requires.opened)).laid.framed;
          enough = rw long needed.0;
        };
        first = rw long (loaded-words c.words_for-word_count.result _ a.marks.now _ c.load.ensures needed.1.0 needed.1.1);
        all = counted;
      };
      whole = c.requires.whole;
    }
