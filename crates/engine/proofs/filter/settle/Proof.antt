-- `filter::settle` meets its contract. The loop's invariant: `Progress`; its measure: the live tuples, and then the pairs that wait.
-- From the laws of the filter's start, of a turn of it, and of its end.
use mathlib.Core.Path.{◌≡◌, refl, ap, ◌∙◌}
use mathlib.Core.List.{List, ◌++◌}
use Prim.Native.Nat.{ℕ, ◌<◌}
use native.Mathlib.Omega.{arith}
use mir.Val.{Fits}
use mir.Syntax.{w64}
use lib.ListN.{length, get_or, drop, replicate}
use borrow.Author.Rules.{rules}
use Rattle.model.specs.Limits.{no_support}
use Rattle.model.specs.TupleSet.{TupleSet}
use Rattle.model.specs.Consistency.{support_list, needed}
use Rattle.worklist.proofs.Waiting.{Words, words_of}
use Rattle.layout.proofs.Pairs.{pairs_end}
use Rattle.layout.proofs.Outline.{needed-outline}
use Rattle.engine.proofs.Blanks.{blanked-network}
use Rattle.layout.specs.Setting.{Setting, network, listed, Sound}
use Rattle.layout.specs.Pairs.{size_of}
use Rattle.worklist.specs.Supports.{Done}
use Rattle.engine.proofs.Start.{filled-long, filled-beyond, filled-working, full-rest}
use Rattle.sweeping.proofs.Shrunk.{shrunk-refl, shrunk-array}
use Rattle.engine.proofs.Turn.{Progress, weight, weight-less, underway}
use Rattle.engine.proofs.End.{all_done, left, words-end, numbers-end}
use Rattle.engine.proofs.filter.settle.Statement.{statement}
use Rattle.engine.proofs.filter.settle.Tie as tie

abbrev setting_of : List ℕ → List ℕ → List ℕ → List ℕ → ℕ → Setting
setting_of variables values starts members m =
    record { lists = record { variables = variables; values = values; starts = starts }; members = members; m = m }

abbrev invariant-loop : tie.invariant-loop-taken
invariant-loop variables values starts members m index pair-starts words₀ numbers₀ waiting₀ words numbers waiting =
    Progress (setting_of variables values starts members m) words₀ numbers₀ waiting.words words numbers

abbrev decreases-loop : tie.decreases-loop-taken
decreases-loop variables values starts members m index pair-starts words₀ numbers₀ waiting₀ words numbers waiting =
    weight (setting_of variables values starts members m) waiting.words words

-- the setting that the parameters make
abbrev given : tie.Start invariant-loop decreases-loop → Setting
given start =
    let a = start.args in
    setting_of a.variables.now a.values.now a.starts.now a.members.now a.m

abbrev sound : (s : tie.Start invariant-loop decreases-loop) → Sound (given s)
sound s = s.requires.0.1.sound

-- the start of the function, from the loop's test on
abbrev entry : tie.At-loop-taken invariant-loop decreases-loop → tie.Start invariant-loop decreases-loop
entry c = c.before.before.before.before.before.before.before.before.before.before.before.before.before

-- the loop's test, from the visit on
abbrev test : tie.After-visit-waiting invariant-loop decreases-loop → tie.At-loop-taken invariant-loop decreases-loop
test c = c.before.before.before.before.before.before.before

-- how many numbers there are
wanted : (c : tie.After-wide invariant-loop decreases-loop) → let G = given c.before.before.before.before.before.before.before.before in c.wide.result ≡ needed (network G) (listed G)
wanted c =
    let s = c.before.before.before.before.before.before.before.before in
    let a = s.args in
    c.wide.ensures.0
    ∙ s.requires.0.1.places (length a.members.now) (omega arith)
    ∙ pairs_end (sound s).paired
    ∙ needed-outline (given s).lists (listed (given s))

-- the numbers once they are filled
fills : (c : tie.After-fill invariant-loop decreases-loop) → (let s = c.before.before.before.before.before.before.before.before.before in let n = needed (network (given s)) (listed (given s)) in c.fill.new.numbers ≡ replicate n no_support ++ drop n s.args.numbers.now)
fills c =
    let s = c.before.before.before.before.before.before.before.before.before in
    c.fill.ensures ∙ ap (λ (n : ℕ). replicate n no_support ++ drop n s.args.numbers.now) (wanted c.before)

-- the pair taken is one
pair-below : (c : tie.Else-wide-members invariant-loop decreases-loop) → c.before.before.take-taken.result.pair < length (entry c.before.before.before).args.members.now
pair-below c = omega arith

loop-holds : tie.Need-loop-taken-init invariant-loop decreases-loop
loop-holds c =
    let s = c.before.before.before.before.before.before.before.before.before.before.before.before in
    let a = s.args in
    let G = given s in
    let fill = c.before.before.before.fill in
    let f : (i : ℕ) → Fits w64 (get_or c.full-waiting.result.words i 0) = λ i. search rules in
    record {
      sixteen = words_of c.full-waiting.result.words (search rules) f;
      working = filled-working G (sound s) a.words.now a.numbers.now fill.new.numbers s.requires.1 (fills c.before.before.before);
      shrunk = shrunk-refl G a.words.now s.requires.0.0.small;
      beyond = refl;
      long = refl;
      rest = full-rest G (sound s) c.full-waiting.result.words a.words.now fill.new.numbers (length a.members.now) refl c.full-waiting.ensures;
    }

-- the queue that a visit gives back has sixteen words
visit-words : (c : tie.After-visit-waiting invariant-loop decreases-loop) → Words c.visit-waiting.result.words
visit-words c =
    let f : (i : ℕ) → Fits w64 (get_or c.visit-waiting.result.words i 0) = λ i. search rules in
    words_of c.visit-waiting.result.words (search rules) f

visit-requires : tie.Need-visit-waiting-requires invariant-loop decreases-loop
visit-requires c κs =
    let t = c.before.before.before.before.before.before in
    let s = entry t in (
      shrunk-array (given s) s.args.words.now t.loop-taken.words t.loop-taken.invariant.shrunk s.requires.0.0,
      record { prepared = s.requires.0.1; working = t.loop-taken.invariant.working; pair = pair-below c.before.before.before },
    )

loop-less : tie.Need-loop-taken-smaller invariant-loop decreases-loop
loop-less c =
    let v = c.before.before in
    let t = test v in
    let s = entry t in
    let take = v.before.before.before.before.before.before.take-taken in
    weight-less (given s) (sound s) t.loop-taken.waiting.words t.loop-taken.invariant.sixteen take.result.pair take.ensures.0 (pair-below v.before.before.before.before) take.result.rest.words take.ensures.1
    s.args.words.now s.args.numbers.now t.loop-taken.words t.loop-taken.numbers v.visit-waiting.result.words v.visit-waiting.new.words v.visit-waiting.new.numbers v.visit-waiting.ensures

loop-again : tie.Need-loop-taken-preserved invariant-loop decreases-loop
loop-again c =
    let v = c.before.before in
    let t = test v in
    let s = entry t in
    let take = v.before.before.before.before.before.before.take-taken in
    underway (given s) (sound s) t.loop-taken.waiting.words t.loop-taken.invariant.sixteen take.result.pair take.ensures.0 (pair-below v.before.before.before.before) take.result.rest.words take.ensures.1
    s.args.words.now t.before.before.before.before.fill.new.numbers t.loop-taken.words t.loop-taken.numbers v.visit-waiting.result.words v.visit-waiting.new.words v.visit-waiting.new.numbers v.visit-waiting.ensures
    (visit-words v) t.loop-taken.invariant

blank-all-requires : tie.Need-blank_all-requires invariant-loop decreases-loop
blank-all-requires c κs =
    let t = c.before.before.before.before.before.before in
    let s = entry t in
    let space = t.loop-taken.invariant.working.space in
    record {
      framed = (sound s).laid.framed;
      paired = (sound s).paired;
      places = s.requires.0.1.places;
      enough = space.enough;
      room = omega (arith, needed-outline (given s).lists (listed (given s)), space.room);
    }

-- no pair waits
finished : (c : tie.Then-wide-members invariant-loop decreases-loop) → (let t = c.before.before.before in let G = given (entry t) in (q : ℕ) → q < length G.members → Done G t.loop-taken.words t.loop-taken.numbers q (size_of G q))
finished c =
    let t = c.before.before.before in
    let take = c.before.before.take-taken in
    all_done (given (entry t)) (sound (entry t)) t.loop-taken.words t.loop-taken.numbers t.loop-taken.waiting.words take.result.pair take.ensures.0 (omega arith) t.loop-taken.invariant.rest

returns : tie.Need-returns invariant-loop decreases-loop
returns c =
    let t = c.before.before.before.before.before.before.before.before.before in
    let s = entry t in
    let G = given s in
    let N = network G in
    let a = s.args in
    let l = t.loop-taken in
    let done = finished c.before.before.before.before.before.before in
    let final = c.before.before.blank_all.new.numbers in
    let n = needed N (listed G) in
    let beyond = l.invariant.beyond ∙ filled-beyond G (sound s) a.words.now a.numbers.now t.before.before.before.before.fill.new.numbers s.requires.1 (fills t.before.before.before.before) in (
      words-end G (sound s) l.words l.numbers done a.words.now l.invariant.shrunk,
      numbers-end G (sound s) l.words l.numbers done final (blanked-network G.lists c.before.before.blank_all.ensures) a.numbers.now beyond
          ∙ ap (λ (T : TupleSet). support_list N (listed G) T ++ drop n a.numbers.now) (left G (sound s) l.words l.numbers done a.words.now l.invariant.shrunk),
    )

same_length : tie.Need-shape_of-numbers invariant-loop decreases-loop
same_length c =
    let t = c.before.before.before.before.before.before.before.before.before in
    let s = entry t in
    let a = s.args in
    c.before.before.blank_all.ensures.long
    ∙ t.loop-taken.invariant.long
    ∙ filled-long (given s) (sound s) a.words.now a.numbers.now t.before.before.before.before.fill.new.numbers s.requires.1 (fills t.before.before.before.before)

pub settle_spec : {M : Type 1} → statement M
settle_spec =
    tie.close
    (tie.spec
    invariant-loop
    decreases-loop
    (λ c. search rules)
    (λ c. let s = c.before.before.before.before.before.before in omega (arith, (sound s).paired.list.short))
    (λ c κs. search rules)
    (λ c κs. let s = c.before.before.before.before.before.before.before.before in omega (arith, wanted c, s.requires.1.room))
    (λ c. let s = c.before.before.before.before.before.before.before.before.before.before.before in omega (arith, (sound s).paired.list.short))
    (λ c κs. let s = c.before.before.before.before.before.before.before.before.before.before.before in omega (arith, (sound s).paired.list.short))
    loop-holds
    (λ c κs. search rules)
    (λ c κs. search rules)
    visit-requires
    loop-less
    loop-again
    blank-all-requires
    same_length
    returns)
