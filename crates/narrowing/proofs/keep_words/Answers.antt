-- `keep_words` narrows word by word, by the laws of one word narrowed, and of words narrowed one after the other.
use Rattle.std.proofs.Common.{◌*◌, ◌+◌, ◌≤◌, ◌<◌, Bool, ◌&&◌, length, get_or, ap, ◌∙◌, length-set, arith}
use Rattle.model.specs.LiveWords.{is_set}
use Rattle.live.proofs.Bits.{is_set-and}
use Rattle.value_index.specs.Index.{row_bit}
use Rattle.narrowing.proofs.Words.{kept_word, kept_on, row-at}
use Rattle.narrowing.proofs.keep_words.Goals as goal

pub loop-i-preserved : goal.loop-i-preserved
loop-i-preserved c =
    let l = c.loop-i in
    let a = c.args in
    let inside : l.i < length l.words = omega arith in
    let on : 64 * a.from ≤ 64 * l.i = omega arith in
    let further : 64 * l.i ≤ 64 * (l.i + 1) = omega arith in
    record {
      long = length-set l.words l.i _ ∙ l.invariant.long;
      narrowed = kept_on (row_bit a.rows.now a.first) (64 * a.from) (64 * l.i) (64 * (l.i + 1)) a.words.now l.words _ on further l.invariant.narrowed
          (kept_word (row_bit a.rows.now a.first) l.i _ l.words inside
          (λ j h. is_set-and (get_or l.words l.i 0) _ j ∙ ap (λ (x : Bool). is_set (get_or l.words l.i 0) j && x) (row-at a.rows.now a.first l.i j h)));
    }
