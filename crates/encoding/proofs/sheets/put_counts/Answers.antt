-- From the law of one count more that is written.
use Rattle.std.proofs.Common.{◌*◌, ◌+◌, ap, ◌∙◌}
use Rattle.wire.proofs.Entries.{put}
use Rattle.encoding.proofs.Counts.{put_count}
use Rattle.encoding.proofs.sheets.put_counts.Goals as goal

pub loop-r-preserved : goal.loop-r-preserved
loop-r-preserved c = c.put.ensures ∙ ap (put 2 (3 * c.loop-r.r + 2) _) c.loop-r.invariant ∙ put_count c.loop-r.r _ _ c.loop-r-test.true c.requires
