-- The tuples that live in the copy are those of the words, the sweeps change nothing of what filtering leaves of them, and the copy put back is
-- what is written to the words. From the laws of words that shrink, and of words copied and put back.
use Rattle.std.proofs.Common.{List, ℕ, ◌≤◌, ◌<◌, ◌*◌, ◌^◌, ◌++◌, length, get_or, take, drop, ◌∙◌, ap, arith, rules}
use Rattle.model.specs.Limits.{word_bits}
use Rattle.model.specs.TupleSet.{TupleSet}
use Rattle.model.specs.Network.{total}
use Rattle.model.specs.Consistency.{filtered, support_list, needed}
use Rattle.model.specs.LiveWords.{written}
use Rattle.model.proofs.LiveWords.{written-length}
use Rattle.live.proofs.Copies.{copied-array, copied-living, copied-written}
use Rattle.layout.specs.Setting.{Setting, setting, network, listed, live_in}
use Rattle.layout.proofs.SoundStarts.{tuple-count, tuples-few}
use Rattle.layout.proofs.Outline.{needed-outline}
use Rattle.sweeping.proofs.Shrunk.{shrunk-array, shrunk-written}
use Rattle.engine.proofs.filter.filter.Goals as goal

pub prepare-begins-requires : goal.prepare-begins-requires
prepare-begins-requires c =
    let a = c.args in
    let G : Setting = setting (λ (xs : List ℕ). xs) a.variables.now a.values.now a.starts.now a.members.now a.m in
    (search rules, record { sound = c.requires.0; short = omega (arith, needed-outline G.lists (listed G), c.requires.1.short) })

pub copied-live-requires : goal.copied-live-requires
copied-live-requires c =
    let framed = c.requires.0.laid.framed in
    let all = c.tuple_count.ensures ∙ tuple-count framed in
    (omega (arith, c.words_for-count.ensures, all, tuples-few framed), omega (arith, c.words_for-count.ensures, all, c.requires.1.enough))

pub settle-requires-clause-word_array : goal.settle-requires-clause-word_array
settle-requires-clause-word_array c =
    let a = c.args in
    let G : Setting = setting (λ (xs : List ℕ). xs) a.variables.now a.values.now a.starts.now a.members.now a.m in
    let small : (i : ℕ) → get_or a.words.now i 0 < 2 ^ 64 = λ i. search rules in
    let array = copied-array c.words_for-count.result a.words.now c.copied-live.result c.copied-live.ensures small in
    (shrunk-array G c.copied-live.result c.sweeps.new.words c.sweeps.ensures array, c.prepare-begins.ensures)

pub put_back-requires : goal.put_back-requires
put_back-requires c =
    let a = c.args in
    let G : Setting = setting (λ (xs : List ℕ). xs) a.variables.now a.values.now a.starts.now a.members.now a.m in
    let framed = c.requires.0.laid.framed in
    let all = c.tuple_count.ensures ∙ tuple-count framed in
    let left : TupleSet = filtered (network G) (listed G) (live_in G c.sweeps.new.words) in (
      ap length c.settle.ensures.0 ∙ written-length (total (network G)) left c.sweeps.new.words ∙ (search rules),
      (omega (arith, c.words_for-count.ensures, all, tuples-few framed), omega (arith, c.words_for-count.ensures, all, c.requires.1.enough)),
    )

pub returns : goal.returns
returns c =
    let a = c.args in
    let G : Setting = setting (λ (xs : List ℕ). xs) a.variables.now a.values.now a.starts.now a.members.now a.m in
    let N = network G in
    let C = listed G in
    let ws = a.words.now in
    let j = c.words_for-count.result in
    let framed = c.requires.0.laid.framed in
    let all = c.tuple_count.ensures ∙ tuple-count framed in
    let enough : total N ≤ word_bits * j = omega (arith, c.words_for-count.ensures, all) in
    let small : (i : ℕ) → get_or ws i 0 < 2 ^ 64 = λ i. search rules in
    let left : TupleSet = filtered N C (live_in G c.sweeps.new.words) in
    let left_is = c.sweeps.ensures.same ∙ ap (filtered N C) (copied-living j ws c.copied-live.result c.copied-live.ensures (total N) enough) in (
      c.put_back.ensures
          ∙ ap (λ (xs : List ℕ). take j xs ++ drop j ws) (c.settle.ensures.0 ∙ shrunk-written G left c.sweeps.ensures)
          ∙ copied-written j ws c.copied-live.result c.copied-live.ensures (total N) enough left
          (omega (arith, c.words_for-count.ensures, all, tuples-few framed))
          (omega (arith, c.words_for-count.ensures, all, c.requires.1.enough))
          small
          ∙ ap (λ (S : TupleSet). written (total N) S ws) left_is,
      c.settle.ensures.1 ∙ ap (λ (S : TupleSet). support_list N C S ++ drop (needed N C) a.numbers.now) left_is,
    )
