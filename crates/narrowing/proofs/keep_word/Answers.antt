-- `keep_word` narrows one word, by the index's word and the mask of the ids, by the laws of one word narrowed.
use Rattle.std.proofs.Common.{◌<◌, Bool, ◌&&◌, length, get_or, ap, ◌∙◌, length-set, arith}
use Rattle.model.specs.LiveWords.{is_set}
use Rattle.live.proofs.Bits.{is_set-and}
use Rattle.value_index.specs.Index.{row_bit}
use Rattle.narrowing.proofs.Words.{kept-edge, stays_at}
use Rattle.narrowing.proofs.keep_word.Goals as goal

pub returns : goal.returns
returns c =
    let a = c.args in
    let ws = a.words.now in
    let inside : a.i < length ws = omega arith in (
      length-set ws a.i _ ∙ c.requires.0,
      kept-edge (row_bit a.rows.now a.first) a.i a.start a.end _ ws inside
          (λ j l.
          is_set-and (get_or ws a.i 0) _ j
          ∙ ap (λ (x : Bool). is_set (get_or ws a.i 0) j && x)
          (stays_at a.rows.now a.first a.start a.end a.i c.between.result j c.between.ensures l)),
    )
