use mathlib.Core.Path.{◌≡◌, sym, ap, ap₂, ◌∙◌}
use Prim.Native.Nat.{ℕ, ◌-◌}
use native.Mathlib.Omega.{arith}
use Rattle.model.specs.declared.Counts.{Counts}
use Rattle.model.specs.declared.Answer.TheVariants.{Settled, Emptied}
use Rattle.model.specs.TupleSet.{count}
use Rattle.model.specs.Network.{total}
use Rattle.model.specs.LiveWords.{living_from, living}
use Rattle.model.proofs.Reply.{answer-emptied, answer-settled}
use Rattle.layout.specs.Starts.{outline}
use Rattle.layout.proofs.SoundStarts.{relation-count, tuple-count, tuples-few}
use Rattle.request.specs.Answer.{living_in}
use Rattle.std.proofs.Common.{List}
use Rattle.request.proofs.answer.answer_for.Goals as goal

pub count-left-requires : goal.count-left-requires
count-left-requires c =
    let f = c.requires.0.framed in
    (omega arith, omega (arith, tuple-count f, c.requires.0.enough), omega (arith, tuple-count f, tuples-few f))

-- the live tuples left
counted : (starts words : List ℕ) (n left : ℕ) → n ≡ total (outline starts) → left ≡ count (living_from 0 (n - 0) words) → left ≡ count (living_in starts words)
unfolding living
counted starts words n left e h = let d : n - 0 ≡ total (outline starts) = omega (arith, e) in h ∙ ap (λ (k : ℕ). count (living_from 0 k words)) d

pub overflow_sub-deleted : goal.overflow_sub-deleted
overflow_sub-deleted c =
    omega (arith, counted c.args.starts.now c.args.words.now c.tuple_count.result c.count-left.result (c.tuple_count.ensures ∙ tuple-count c.requires.0.framed) c.count-left.ensures)

pub returns-then-r-relation_count : goal.returns-then-r-relation_count
returns-then-r-relation_count c =
    let N = outline c.args.starts.now in
    let L = living_in c.args.starts.now c.args.words.now in
    let counts : ℕ → Counts = λ n. record { left = n; withdrawn = c.args.before - c.args.kept; deleted = c.args.kept - n } in
    let left = counted c.args.starts.now c.args.words.now c.tuple_count.result c.count-left.result (c.tuple_count.ensures ∙ tuple-count c.requires.0.framed) c.count-left.ensures in
    ap₂ (λ (s n : ℕ). Emptied s (counts n)) c.lowest_empty-r.ensures left
    ∙ sym (answer-emptied N L (counts (count L)) (omega (arith, c.lowest_empty-r.ensures, relation-count c.requires.0.framed)))

pub returns : goal.returns
returns c =
    let N = outline c.args.starts.now in
    let L = living_in c.args.starts.now c.args.words.now in
    let counts : ℕ → Counts = λ n. record { left = n; withdrawn = c.args.before - c.args.kept; deleted = c.args.kept - n } in
    let left = counted c.args.starts.now c.args.words.now c.tuple_count.result c.count-left.result (c.tuple_count.ensures ∙ tuple-count c.requires.0.framed) c.count-left.ensures in
    ap (λ (n : ℕ). Settled (counts n)) left
    ∙ sym (answer-settled N L (counts (count L)) (omega (arith, c.lowest_empty-r.ensures, relation-count c.requires.0.framed)))
