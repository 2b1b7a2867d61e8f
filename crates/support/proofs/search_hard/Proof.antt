-- `search_hard` narrows the members from k on through each other: what there is to find is still the same, and `comb` finds it.
-- From what the callees ensure, and the laws of one member's turn and of narrowed words.
use mathlib.Core.Path.{◌≡◌, refl, sym, ap, subst, ◌∙◌}
use mathlib.Core.List.{List}
use Prim.Native.Nat.{ℕ, ◌<◌}
use native.Mathlib.Omega.{arith}
use lib.ListN.{length, get_or}
use borrow.Kind.Array.{e_int, good_length}
use mir.Syntax.{w16}
use borrow.Author.Rules.{rules}
use borrow.Author.Tests.{not-true}
use Rattle.model.specs.LiveWords.{next_live}
use Rattle.support.specs.declared.Span.{Span}
use Rattle.support.specs.Search.{Search, SoundSearch, SearchAt, span, WalkAt, sought}
use Rattle.support.proofs.Walking.{member_below}
use Rattle.support.proofs.Turn.{Turn, turn_on, walk-asks, come-live}
use Rattle.support.proofs.Narrow.{on_words, sought-none, turn-sound, turn-lives, turn-prefix, turn-sought, turn-left}
use Rattle.support.proofs.search_hard.Statement.{statement}
use Rattle.support.proofs.search_hard.Tie as tie

module _ (a : tie.Start) where
  abbrev sent : Search
  sent =
      record {
        lists = record { variables = a.args.variables.now; values = a.args.values.now; starts = a.args.starts.now };
        words = a.args.words.now;
        members = a.args.members.now;
        place = a.args.place;
        own = a.args.own;
        low = a.args.low;
      }

  abbrev asked : SearchAt sent a.args.index.now a.args.k a.args.resumes a.args.chosen
  asked = a.requires.0.1

  abbrev sound : SoundSearch sent
  sound = asked.seeking.sound

  -- the walk so far
  abbrev came : WalkAt sent a.args.k a.args.resumes a.args.chosen a.args.from
  came = a.requires.1.0

  abbrev path : Span
  path = span sent a.args.k a.args.resumes

  sized : length a.args.chosen ≡ 4
  sized = good_length (e_int w16) 4 a.args.chosen _ a.well_formed.1.1.1.1.1.1.1.1.1.1.1.0

  low-sized : length a.args.low ≡ 4
  low-sized = good_length (e_int w16) 4 a.args.low _ a.well_formed.1.1.1.1.1.1.1.1.0

  turn : Turn sent a.args.k a.args.resumes a.args.chosen path.first path.start path.end
  turn = turn_on asked sized low-sized path refl

  relation : get_or a.args.members.now a.args.k 0 < 64
  relation = member_below sent sound a.args.k asked.inside

-- ---- The members from k on, narrowed through each other

module _ (p : tie.After-spread_members) where
  abbrev read : tie.After-tuple_start-end
  read = p.before.before.before.before

  abbrev input : tie.Start
  input = read.before.before.before.before.before

  end_is : read.tuple_start-end.result ≡ (path input).end
  end_is = read.tuple_start-end.ensures

  abbrev fewest : List ℕ
  fewest = p.spread_members.new.words

  abbrev thinner : Search
  thinner = on_words (sent input) fewest

  -- what there is to find is the same
  same : sought thinner input.args.k input.args.chosen ≡ sought (sent input) input.args.k input.args.chosen
  same = turn-sought (sent input) fewest input.args.k p.spread_members.ensures.0 p.spread_members.ensures.1.0 (sound input) (asked input).inside input.args.resumes input.args.chosen (asked input).prefix

  thinner-at : SearchAt thinner input.args.index.now input.args.k input.args.resumes input.args.chosen
  thinner-at =
      let a = input in
      let f = p.spread_members.ensures in
      record {
        seeking = record { sound = turn-sound (sent a) fewest a.args.k f.0 f.1.0 (sound a) (asked a).inside a.args.resumes a.args.chosen (asked a).prefix; indexed = (asked a).seeking.indexed };
        prefix = turn-prefix (sent a) fewest a.args.k f.0 f.1.0 (sound a) (asked a).inside a.args.resumes a.args.chosen (asked a).prefix;
        lives = turn-lives (sent a) fewest a.args.k f.0 f.1.0 (sound a) (asked a).inside a.args.resumes a.args.chosen (asked a).prefix (asked a).lives;
        inside = (asked a).inside;
        other = (asked a).other;
      }

  -- the walk goes on over them
  goes_on : WalkAt thinner input.args.k input.args.resumes input.args.chosen (next_live fewest input.args.from (path input).end)
  goes_on =
      let a = input in
      let f = p.spread_members.ensures in
      come-live (turn_on thinner-at (sized a) (low-sized a) (path a) refl)
      a.args.from (came a).from_start (came a).to_end
      (turn-left (sent a) fewest a.args.k f.0 f.1.0 (sound a) (asked a).inside a.args.resumes a.args.chosen (asked a).prefix a.args.from (came a).from_start
      ∙ (came a).rest
      ∙ sym same)

next-requires : tie.Need-next-again-requires
next-requires c κs =
    let p = c.before.before in
    let a = input p in
    let e = end_is p in
    let few = (walk-asks (turn a) a.args.from (came a).from_start (came a).to_end).2 in
    (omega (arith, (came a).to_end, e), omega (arith, p.spread_members.ensures.0, few, e), omega (arith, few, e))

comb-requires : tie.Need-comb-requires
comb-requires c κs =
    let x = c.before in
    let p = x.before.before.before in
    let a = input p in (
      (p.spread_members.ensures.0, thinner-at p),
      (
        subst (WalkAt (thinner p) a.args.k a.args.resumes a.args.chosen)
            (sym (x.next-again.ensures ∙ ap (next_live (fewest p) a.args.from) (end_is p)))
            (goes_on p),
        a.requires.1.1,
      ),
    )

pub search_hard_spec : {M : Type 1} → statement M
search_hard_spec =
    tie.close
    (tie.spec
    (λ c. let a = c.before.before.before in omega (arith, (sound a).few, (asked a).inside))
    (λ c. (asked c.before.before.before.before).inside)
    (λ c. let a = c.before.before.before.before in omega (arith, relation a))
    (λ c κs. let a = c.before.before.before.before in omega (arith, relation a))
    (λ c κs.
    let a = c.before.before.before.before.before.before in
    ((a.requires.0.0, ((sound a).laid.framed, ((sound a).few, λ j h. member_below (sent a) (sound a) j h))), (asked a).inside))
    (λ c κs.
    let a = c.before.before.before.before.before.before.before.before in
    (a.requires.0.0, ((record { laid = (sound a).laid; indexed = (asked a).seeking.indexed }, record { proper = (sound a).members; few = (sound a).few }), (sound a).place)))
    (λ c.
    let p = c.before in
    let a = input p in
    sym (sym (same p) ∙ sought-none (sent a) (fewest p) a.args.k a.args.chosen (p.spread_members.ensures.1.1 (not-true _ c.if-not-spread_members.true-raw))))
    (λ c. search rules)
    next-requires
    comb-requires
    (λ c. c.comb.ensures ∙ same c.before.before.before.before.before))
