-- The words passed are narrowed.
use Rattle.value_index.specs.Index.{row_bit}
use Rattle.narrowing.specs.Narrows.{Long, Kept}
use Rattle.narrowing.proofs.keep_words.Given as goal

abbrev pub invariant-loop-i : goal.invariant-loop-i
invariant-loop-i l =
    record { long : Long l.words; narrowed : Kept (row_bit l.rows l.first) l.from l.i l.initial.words l.words }
