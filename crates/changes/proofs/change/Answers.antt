-- From the laws of what is removed, filtered and counted.
use Rattle.std.proofs.Common.{ℕ, ◌∙◌, ap, arith}
use Rattle.model.specs.LiveWords.{is_live}
use Rattle.layout.proofs.SoundStarts.{tuple-count, tuples-few}
use Rattle.request.specs.Removal.{without_ids}
use Rattle.changes.proofs.Changed.{counted-all, cut-enough, final-covered, final-fewer, final-reply}
use Rattle.changes.proofs.change.Goals as goal

pub count-before-requires : goal.count-before-requires
count-before-requires c =
    let R = c.requires in
    let all = c.tuple_count-total.ensures ∙ tuple-count R.sound.laid.framed in
    (omega arith, omega (arith, all, R.space.enough), omega (arith, all, tuples-few R.sound.laid.framed))

pub remove-requires : goal.remove-requires
remove-requires c = rw (c.tuple_count-total.ensures ∙ tuple-count c.requires.sound.laid.framed) c.requires.removal

pub count-kept-requires : goal.count-kept-requires
count-kept-requires c =
    let R = c.requires in
    let all = c.tuple_count-total.ensures ∙ tuple-count R.sound.laid.framed in
    let cuts = c.remove.ensures ∙ ap (λ (n : ℕ). without_ids n (is_live c.args.removed.now) c.args.words.now) all in
    (omega arith, omega (arith, all, cut-enough _ _ _ _ _ R c.remove.new.words cuts), omega (arith, all, tuples-few R.sound.laid.framed))

pub answer_for-requires : goal.answer_for-requires
answer_for-requires c =
    let R = c.requires in
    let all = c.tuple_count-total.ensures ∙ tuple-count R.sound.laid.framed in
    let cuts = c.remove.ensures ∙ ap (λ (n : ℕ). without_ids n (is_live c.args.removed.now) c.args.words.now) all in
    let before = counted-all _ _ _ _ all c.count-before.ensures in
    let after = counted-all _ _ _ _ all c.count-kept.ensures in
    let fewer = final-fewer _ _ _ _ _ R c.remove.new.words cuts c.filter.new.words c.filter.new.numbers c.filter.ensures _ _ before after in
    (final-covered _ _ _ _ _ R c.remove.new.words cuts c.filter.new.words c.filter.new.numbers c.filter.ensures, fewer.0, fewer.1)

pub returns : goal.returns
returns c =
    let R = c.requires in
    let all = c.tuple_count-total.ensures ∙ tuple-count R.sound.laid.framed in
    let cuts = c.remove.ensures ∙ ap (λ (n : ℕ). without_ids n (is_live c.args.removed.now) c.args.words.now) all in
    let before = counted-all _ _ _ _ all c.count-before.ensures in
    let after = counted-all _ _ _ _ all c.count-kept.ensures in
    final-reply _ _ _ _ _ R c.remove.new.words cuts c.filter.new.words c.filter.new.numbers c.filter.ensures _ _ before after c.answer_for.result c.answer_for.ensures _ c.count_all.ensures
