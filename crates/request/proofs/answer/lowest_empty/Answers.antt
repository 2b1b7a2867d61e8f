use Rattle.std.proofs.Common.{◌≡◌, ℕ, ◌+◌, ◌<◌, ◌≤◌, true, false, not, length, ap, sym, ◌∙◌, ltb, List, arith, below_more}
use borrow.Author.Tests.{lt-ltb, le-ltb}
use Rattle.model.specs.Limits.{max_relations}
use Rattle.model.specs.TupleSet.{TupleSet}
use Rattle.model.specs.Network.{Network}
use Rattle.model.specs.LiveWords.{next_live}
use Rattle.model.specs.Reply.{is_emptied, lowest_empty}
use Rattle.model.proofs.Lists.{first-unique}
use Rattle.model.proofs.LiveWords.{next_live-first}
use Rattle.model.proofs.Reply.{lowest_empty-first, is_emptied-next}
use Rattle.layout.specs.Starts.{tuple_start, records_in, outline, SoundStarts}
use Rattle.layout.proofs.SoundStarts.{relations-few, relation-count, tuple-start, tuple-end, ids-rise, ids-within, ids-asks}
use Rattle.request.specs.Answer.{living_in}
use Rattle.request.proofs.answer.lowest_empty.Goals as goal

-- relation r is empty exactly if no live id lies in it
emptied : (starts words : List ℕ) → SoundStarts starts → (r : ℕ) → r < max_relations → is_emptied (outline starts) (living_in starts words) r ≡ not (ltb (next_live words (tuple_start starts r) (tuple_start starts (r + 1))) (tuple_start starts (r + 1)))
emptied starts words f r h =
    is_emptied-next (outline starts) words r (tuple_start starts (r + 1)) (tuple-end f r h) (ids-within f r h)
    ∙ ap (λ (a : ℕ). not (ltb (next_live words a (tuple_start starts (r + 1))) (tuple_start starts (r + 1)))) (sym (tuple-start f r (omega arith)))

-- a relation that is empty, or past the last, with none empty before it, is the answer
lowest : (N : Network) (L : TupleSet) (r : ℕ) → r ≤ length N.relations → ((s : ℕ) → s < r → is_emptied N L s ≡ false) → (r < length N.relations → is_emptied N L r ≡ true) → r ≡ lowest_empty N L
lowest N L r h none empty =
    first-unique (is_emptied N L) 0 (length N.relations) r (lowest_empty N L)
    (record { from-i = omega arith; to_end = h; none_before = λ s _ l. none s l; passes = empty })
    (lowest_empty-first N L)

pub tuple_start-end-requires : goal.tuple_start-end-requires
tuple_start-end-requires c = omega (arith, relation-count c.requires.framed, relations-few c.requires.framed)

pub tuple_start-requires : goal.tuple_start-requires
tuple_start-requires c = omega (arith, relation-count c.requires.framed, relations-few c.requires.framed)

pub next-requires : goal.next-requires
next-requires c =
    let f = c.requires.framed in
    let few : c.loop-r.r < max_relations = omega (arith, relation-count f, relations-few f) in
    let asks = ids-asks f c.loop-r.r few (tuple_start c.args.starts.now c.loop-r.r) c.args.words.now (ids-rise f c.loop-r.r few) c.requires.enough in
    (omega (arith, asks), omega (arith, asks), omega (arith, asks))

pub returns-then-next-end : goal.returns-then-next-end
returns-then-next-end c =
    let f = c.requires.framed in
    let few : c.loop-r.r < max_relations = omega (arith, relation-count f, relations-few f) in
    let xs = c.args.starts.now in
    let end = tuple_start xs (c.loop-r.r + 1) in
    let found : c.next.result ≡ next_live c.args.words.now (tuple_start xs c.loop-r.r) end = simp (c.tuple_start-end.ensures, c.tuple_start.ensures) at c.next.ensures in
    lowest (outline xs) (living_in xs c.args.words.now) c.loop-r.r (omega (arith, relation-count f)) c.loop-r.invariant
    (λ _. emptied xs c.args.words.now f c.loop-r.r few ∙ ap not (le-ltb (next_live c.args.words.now (tuple_start xs c.loop-r.r) end) end (omega (arith, found))))

pub loop-r-preserved : goal.loop-r-preserved
loop-r-preserved c =
    let f = c.requires.framed in
    let few : c.loop-r.r < max_relations = omega (arith, relation-count f, relations-few f) in
    let xs = c.args.starts.now in
    let end = tuple_start xs (c.loop-r.r + 1) in
    let found : c.next.result ≡ next_live c.args.words.now (tuple_start xs c.loop-r.r) end = simp (c.tuple_start-end.ensures, c.tuple_start.ensures) at c.next.ensures in
    let within = (next_live-first c.args.words.now (tuple_start xs c.loop-r.r) end (ids-rise f c.loop-r.r few)).to_end in
    below_more _ _ c.loop-r.invariant
    (emptied xs c.args.words.now f c.loop-r.r few ∙ ap not (lt-ltb (next_live c.args.words.now (tuple_start xs c.loop-r.r) end) end (omega (arith, found, within))))

pub returns : goal.returns
returns c =
    let xs = c.args.starts.now in
    let all : length (records_in xs) ≤ c.loop-r.r = omega (arith, relation-count c.requires.framed) in
    let is : c.loop-r.r ≡ c.relation_count-relations.result = omega arith in
    sym is ∙ lowest (outline xs) (living_in xs c.args.words.now) c.loop-r.r (omega (arith, relation-count c.requires.framed)) c.loop-r.invariant (λ h. absurd (omega (arith, all)))
