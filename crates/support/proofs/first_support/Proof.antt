-- `first_support` narrows the live words for the seeking tuple, if it is live, and members through others, and searches over these; what a long
-- search came to is noted. From the laws of members, of narrowed words, of the search's two ends, and of what is spent.
use mathlib.Core.Path.{◌≡◌, sym, ◌∙◌, ap, subst}
use mathlib.Core.Bool.{true}
use mathlib.Core.List.{List, ◌++◌}
use mathlib.Core.Logic.{⊎_elim}
use Prim.Native.Nat.{ℕ, ◌+◌, ◌<◌}
use native.Mathlib.Omega.{arith}
use lib.Dec.{ltb}
use lib.ListN.{length, get_or, take, drop}
use lib.Seq.{get_or-take}
use borrow.Kind.Array.{e_int, good_length}
use mir.Syntax.{w16}
use borrow.Author.Rules.{rules}
use borrow.Author.Tests.{not-true, not-false}
use Rattle.model.specs.Lists.{all, pairwise}
use Rattle.model.specs.Network.{size, total}
use Rattle.model.specs.TupleSet.{has}
use Rattle.model.specs.LiveWords.{words_for, is_live}
use Rattle.model.specs.Support.{support_from}
use Rattle.model.proofs.Bools.{and_right}
use Rattle.model.proofs.LiveWords.{living-has}
use Rattle.layout.specs.Starts.{tuple_start}
use Rattle.narrowing.specs.Narrows.{Long, Narrowed}
use Rattle.support.specs.declared.Found.{Found}
use Rattle.support.specs.declared.Stage.{Stage}
use Rattle.support.specs.Search.{Search, net_of, live_of, seeker, place_behind, is_found, sought, FindsFirst}
use Rattle.support.specs.Spent.{Notes, MeetsIn}
use Rattle.support.proofs.Walking.{few-tuples, member_below, member-start}
use Rattle.support.proofs.Narrow.{others, on_words, Fewer, put-few, put-alike, fewer-put, put-long, meets-narrowed, sought-none, Root, root-narrowed, root-spread, root-all}
use Rattle.support.proofs.Ends.{prefix-none, sought-first, turn-done, seeker-below, sought-dead}
use Rattle.support.proofs.Own.{NextStage, next-stage, behind-within}
use Rattle.support.proofs.Spent.{two-open, first-open, found_within, notes-meet}
use Rattle.support.proofs.first_support.Statement.{statement}
use Rattle.support.proofs.first_support.Tie as tie

-- what the search is called on
abbrev search_of : tie.Start → Search
search_of a =
    record {
      lists = record { variables = a.args.variables.now; values = a.args.values.now; starts = a.args.starts.now };
      words = a.args.words.now;
      members = a.args.members.now;
      place = a.args.place;
      own = a.args.own;
      low = a.args.low;
    }

low-length : (a : tie.Start) → length a.args.low ≡ 4
low-length a = good_length (e_int w16) 4 a.args.low _ a.well_formed.1.1.1.1.1.1.1.1.0

-- ---- The seeking tuple

own-id : (c : tie.After-tuple_start) → c.tuple_start.result + c.before.before.before.before.before.before.args.own ≡ seeker (search_of c.before.before.before.before.before.before)
own-id c =
    let a = c.before.before.before.before.before.before in
    ap (λ (n : ℕ). n + a.args.own) (c.tuple_start.ensures ∙ member-start (search_of a) a.requires.0.1.sound a.args.place a.requires.0.1.sound.place)

own_below : (c : tie.After-tuple_start) → let a = c.before.before.before.before.before.before in c.tuple_start.result + a.args.own < total (net_of (search_of a))
own_below c = let a = c.before.before.before.before.before.before in omega (arith, own-id c, seeker-below (search_of a) a.requires.0.1.sound)

own-lives : (c : tie.After-is_live) → let Q = search_of c.before.before.before.before.before.before.before in has (live_of Q) (seeker Q) ≡ c.is_live.result
own-lives c =
    let a = c.before.before.before.before.before.before.before in
    let Q = search_of a in
    living-has (total (net_of Q)) a.args.words.now (seeker Q) (seeker-below Q a.requires.0.1.sound) ∙ ap (is_live a.args.words.now) (sym (own-id c.before)) ∙ sym c.is_live.ensures

-- ---- The first stage

module _ (c : tie.After-past_own-stage) where
  abbrev begun : tie.Start
  begun = c.before.before.before.before.before.before.before.before.before

  abbrev sent : Search
  sent = search_of begun

  lives : has (live_of sent) (seeker sent) ≡ true
  lives = own-lives c.before.before ∙ not-false _ c.before.if-not-is_live.false-raw

  -- over any words among which there is the same to find
  stage-over : (words : List ℕ) → Root sent words → NextStage (on_words sent words) true 0 begun.args.low c.past_own-stage.result
  stage-over words root =
      next-stage (on_words sent words) root.sound true 0 begun.args.low (low-length begun) (low-length begun) root.lives (prefix-none (on_words sent words) begun.args.low) c.past_own-stage.result c.past_own-stage.ensures

  -- over the words lent
  stage : NextStage sent true 0 begun.args.low c.past_own-stage.result
  stage = next-stage sent begun.requires.0.1.sound true 0 begun.args.low (low-length begun) (low-length begun) lives (prefix-none sent begun.args.low) c.past_own-stage.result c.past_own-stage.ensures

abbrev staged : tie.After-place_behind → tie.After-past_own-stage
staged c = c.before.before.before

-- another member's turn
turn_inside : (c : tie.After-place_behind) → (staged c).past_own-stage.result.k < length (begun (staged c)).args.members.now
turn_inside c = omega (arith, (stage (staged c)).prefix.depth, c.before.if-k-members.false)

-- ---- The words, narrowed

-- before they are put into the room lent
abbrev entered : tie.After-words_for → tie.Else-place_behind-members
entered w = w.before.before.before

abbrev placed : tie.After-words_for → tie.After-past_own-stage
placed w = staged (entered w).before

-- how many words the tuples have
count-is : (w : tie.After-words_for) → w.words_for.result ≡ words_for (tuple_start (begun (placed w)).args.starts.now 64)
count-is w = w.words_for.ensures ∙ ap words_for w.before.tuple_count.ensures

abbrev put : tie.After-narrow_members → tie.After-words_for
put n = n.before.before.before

-- the room as it is then
abbrev room : tie.After-words_for → List ℕ
room w = take w.words_for.result (begun (placed w)).args.words.now ++ drop w.words_for.result (begun (placed w)).args.candidates.now

abbrev start : tie.After-narrow_members → tie.Start
start n = begun (placed (put n))

abbrev fewer : tie.After-narrow_members → List ℕ
fewer n = n.narrow_members.new.words

-- the words of the room, narrowed
narrowed-room : (n : tie.After-narrow_members) → Narrowed (net_of (search_of (start n))) (seeker (search_of (start n))) (room (put n)) (fewer n)
narrowed-room n =
    let a = start n in
    subst (λ (ws : List ℕ). Narrowed (net_of (search_of a)) (seeker (search_of a)) ws (fewer n)) n.before.before.put_back.ensures n.narrow_members.ensures.1.0

over : (n : tie.After-narrow_members) → Fewer (search_of (start n)) (seeker (search_of (start n))) (fewer n)
over n =
    let a = start n in
    fewer-put (search_of a) a.requires.0.1.sound (put n).words_for.result (count-is (put n)) (seeker (search_of a)) a.args.candidates.now (fewer n) a.requires.0.0 (narrowed-room n) n.narrow_members.ensures.0

-- the search may begin over them
root : (n : tie.After-narrow_members) → Root (search_of (start n)) (fewer n)
root n = root-narrowed (search_of (start n)) (fewer n) (over n) (lives (placed (put n)))

-- ---- .. and members through others

module _ (c : tie.After-spread_members) where
  abbrev before : tie.After-narrow_members
  before = c.before.before.before.before.before.before.before.before

  abbrev given : Search
  given = search_of (start before)

  abbrev fewest : List ℕ
  fewest = c.spread_members.new.words

  -- the search goes over these
  abbrev narrowed : Search
  narrowed = on_words given fewest

  begins : Root given fewest
  begins = root-spread given (fewer before) fewest 0 c.spread_members.ensures.0 c.spread_members.ensures.1.0 (root before)

  -- what there is to find among them is the first support
  all_there : sought narrowed 0 (start before).args.low ≡ support_from (net_of given) (live_of given) given.members (seeker given) given.low
  all_there = root-all given fewest begins (start before).args.low

-- ---- The needs

narrow-members-requires : tie.Need-narrow_members-requires
narrow-members-requires c κs =
    let w = c.before.before in
    let a = begun (placed w) in
    let R = a.requires.0.1.sound in
    (subst Long (sym c.before.put_back.ensures) (put-long (search_of a) R w.words_for.result (count-is w) a.args.candidates.now a.requires.0.0 a.requires.1.1.0), (record { laid = R.laid; indexed = a.requires.0.1.indexed; own = R.own }, others (search_of a) R a.args.place 0 R.place (λ j l e. l.other (sym e))))

-- the only member is the seeking tuple's
returns-2 : tie.Need-returns-then-k-members
returns-2 c =
    let p = c.before.before in
    let a = begun p in
    let S = stage p in (
      sym
          (sym (sought-first (sent p) a.args.low)
          ∙ sym S.same
          ∙ turn-done (sent p) a.requires.0.1.sound true p.past_own-stage.result.chosen S.sized p.past_own-stage.result.k c.if-k-members.true S.prefix),
      ((a.requires.1.0.0, a.requires.1.0.1.meets), a.requires.1.1),
    )

search-last-requires : tie.Need-search_last-requires
search-last-requires c κs =
    let b = c.before in
    let p = staged b in
    let S = stage p in (
      ((begun p).requires.0.0, record { seeking = (begun p).requires.0.1; prefix = S.prefix; lives = lives p; inside = turn_inside b; other = S.other }),
      sym b.place_behind.ensures ∙ c.if-place_behind-members.true,
    )

returns-3 : tie.Need-returns-then-place_behind-members
returns-3 c = let p = staged c.before.before in let a = begun p in (c.search_last.ensures ∙ (stage p).same ∙ sought-first (sent p) a.args.low, ((a.requires.1.0.0, a.requires.1.0.1.meets), a.requires.1.1))

returns-4 : tie.Need-returns-then-not-narrow_members
returns-4 c =
    let n = c.before in
    let Q = search_of (start n) in
    let a = start n in
    (sym (sym (root-all Q (fewer n) (root n) a.args.low) ∙ sought-none Q (fewer n) 0 a.args.low (n.narrow_members.ensures.1.1 (not-true _ c.if-not-narrow_members.true-raw))), ((a.requires.1.0.0, a.requires.1.0.1.meets), (n.narrow_members.ensures.0, a.requires.1.1.1)))

spread-members-requires : tie.Need-spread_members-requires
spread-members-requires c κs =
    let n = c.before.before.before.before.before.before.before in
    let a = start n in
    let R = a.requires.0.1.sound in
    (n.narrow_members.ensures.0, ((record { laid = R.laid; indexed = a.requires.0.1.indexed }, record { proper = R.members; few = R.few }), R.place))

returns-5 : tie.Need-returns-then-not-spread_members
returns-5 c =
    let n = c.before in
    let a = start (before n) in
    (sym (sym (all_there n) ∙ sought-none (given n) (fewest n) 0 a.args.low (n.spread_members.ensures.1.1 (not-true _ c.if-not-spread_members.true-raw))), ((a.requires.1.0.0, a.requires.1.0.1.meets), (n.spread_members.ensures.0, a.requires.1.1.1)))

abbrev ahead : tie.After-spread_members → tie.Else-place_behind-members
ahead n = entered (put (before n))

-- two other members or more
further : (n : tie.After-spread_members) →
    let p = placed (put (before n)) in
    place_behind (begun p).args.place p.past_own-stage.result.k < length (begun p).args.members.now
further n =
    let p = placed (put (before n)) in
    let a = begun p in
    let e = ahead n in
    omega (arith, behind-within a.args.place p.past_own-stage.result.k (length a.args.members.now) (turn_inside e.before) a.requires.0.1.sound.place, e.before.place_behind.ensures, e.if-place_behind-members.false)

-- the search's first stage
open-stage : (n : tie.After-spread_members) →
    let p = placed (put (before n)) in
    NextStage (narrowed n) true 0 (begun p).args.low p.past_own-stage.result
open-stage n = stage-over (placed (put (before n))) (fewest n) (begins n)

search-requires : tie.Need-search-found-requires
search-requires c κs =
    let n = c.before.before.before in
    let S = open-stage n in (
      (
        n.spread_members.ensures.0,
        record {
          seeking = record { sound = (begins n).sound; indexed = (start (before n)).requires.0.1.indexed };
          prefix = S.prefix;
          lives = (begins n).lives;
          inside = turn_inside (ahead n).before;
          other = S.other;
        },
      ),
      ((start (before n)).requires.1.1.1, further n),
    )

search-fresh-requires : tie.Need-search_fresh-found-requires
search-fresh-requires c κs =
    let n = c.before.before.before in
    let p = placed (put (before n)) in
    let a = begun p in (
      (
        n.spread_members.ensures.0,
        record {
          seeking = record { sound = (begins n).sound; indexed = a.requires.0.1.indexed };
          lives = (begins n).lives;
          further = subst (λ (s : Stage). place_behind a.args.place s.k < length a.args.members.now) p.past_own-stage.ensures (further n);
        },
      ),
      (
        (
          a.requires.1.0.0,
          meets-narrowed (given n) (fewest n) a.args.fresh.now
              (λ g b l.
              sym (put-alike (given n) a.requires.0.1.sound (put (before n)).words_for.result (count-is (put (before n))) a.args.candidates.now a.requires.0.0 g b)
              ∙ (narrowed-room (before n)).inside g (n.spread_members.ensures.1.0.inside g l))
              (a.requires.1.0.1.meets (two-open a.args.place p.past_own-stage.result.k (length a.args.members.now) (further n))),
        ),
        a.requires.1.1.1,
      ),
    )

-- ---- What it came to

module _ (c : tie.Joined-all_fresh) where
  abbrev spread : tie.After-spread_members
  spread = c.before.before

  abbrev whole : Search
  whole = given spread

  abbrev asked : tie.Start
  asked = start (before spread)

  abbrev result : Found
  result = c.if-all_fresh.found

  finds : FindsFirst whole result
  finds =
      ⊎_elim
      (λ w. subst (FindsFirst whole) (sym w.found-is) (w.search-found.ensures.0 ∙ (open-stage spread).same ∙ all_there spread))
      (λ w. subst (FindsFirst whole) (sym w.found-is) (w.search_fresh-found.ensures.0 ∙ (begins spread).same))
      c.if-all_fresh.branch-raw

  -- the rooms are as long as before
  rooms : Long (fewest spread) × Long c.if-all_fresh.spare
  rooms = (spread.spread_members.ensures.0, ⊎_elim (λ w. subst Long (sym w.spare-is) w.search-found.ensures.1) (λ w. subst Long (sym w.spare-is) w.search_fresh-found.ensures.1) c.if-all_fresh.branch-raw)

  rises : pairwise ltb asked.args.members.now ≡ true
  rises = and_right (all (λ (r : ℕ). ltb r (length (net_of whole).relations)) asked.args.members.now) (pairwise ltb asked.args.members.now) asked.requires.0.1.sound.members

  abbrev at : ℕ
  at = (placed (put (before spread))).past_own-stage.result.k

  at-inside : at < length asked.args.members.now
  at-inside = turn_inside (ahead spread).before

  within : is_found result.kind ≡ true → get_or result.tuples at 0 < size (net_of whole) (get_or asked.args.members.now at 0)
  within e =
      let f = found_within whole asked.requires.0.1.sound (lives (placed (put (before spread)))) asked.requires.1.0.1.lowest rises (is_found result.kind) result.tuples finds e at at-inside in
      omega (arith, f, get_or-take (length asked.args.members.now) result.tuples at 0 at-inside)

  -- every support has a fresh tuple afterwards
  meets : (fresh : List ℕ) → Notes (net_of whole) asked.args.members.now asked.args.place asked.args.own at (is_found result.kind) (get_or result.tuples at 0) fresh → MeetsIn whole fresh
  meets fresh K =
      notes-meet whole asked.requires.0.1.sound (lives (placed (put (before spread)))) asked.requires.1.0.1.lowest rises (is_found result.kind) result.tuples finds at at-inside
      (stage (placed (put (before spread)))).other
      (first-open asked.args.place asked.args.own asked.args.low (placed (put (before spread))).past_own-stage.result (placed (put (before spread))).past_own-stage.ensures)
      fresh
      (subst (λ (t : ℕ). Notes (net_of whole) asked.args.members.now asked.args.place asked.args.own at (is_found result.kind) t fresh) (sym (get_or-take (length asked.args.members.now) result.tuples at 0 at-inside)) K)

note-requires : tie.Need-note-requires
note-requires c κs =
    let f = c.before.before.before.before.before in
    let n = spread f in
    ((n.spread_members.ensures.0, (asked f).requires.1.0.0), record { low = (asked f).args.low; sound = (begins n).sound; inside = at-inside f; index = within f })

returns-6 : tie.Need-returns-then-found
returns-6 c =
    let f = c.before.before.before.before.before.before in
    (finds f, ((c.note.ensures.long, λ _. meets f _ c.note.ensures), rooms f))

returns-7 : tie.Need-returns-else-found
returns-7 c =
    let f = c.before.before in
    (finds f, (((asked f).requires.1.0.0, (asked f).requires.1.0.1.meets), rooms f))

pub first_support_spec : {M : Type 1} → statement M
first_support_spec =
    tie.close
    (tie.spec
    (λ c. let R = c.before.before.before.requires.0.1.sound in omega (arith, R.place, R.few))
    (λ c. c.before.before.before.before.requires.0.1.sound.place)
    (λ c κs. let a = c.before.before.before.before.before in omega (arith, member_below (search_of a) a.requires.0.1.sound a.args.place a.requires.0.1.sound.place))
    (λ c. let a = c.before.before.before.before.before.before in omega (arith, own_below c, few-tuples (search_of a) a.requires.0.1.sound))
    (λ c κs. let a = c.before.before.before.before.before.before in omega (arith, own_below c, a.requires.0.1.sound.words))
    (λ c. let a = c.before.before.before.before.before.before.before.before in (sym (sought-dead (search_of a) (own-lives c.before ∙ not-true _ c.if-not-is_live.true-raw)), ((a.requires.1.0.0, a.requires.1.0.1.meets), a.requires.1.1)))
    (λ c κs. let R = c.before.before.before.before.before.before.before.before.requires.0.1.sound in omega (arith, R.place, R.few))
    returns-2
    (λ c κs. let p = c.before.before in omega (arith, (stage p).prefix.depth, c.if-k-members.false, (begun p).requires.0.1.sound.few))
    search-last-requires
    returns-3
    (λ c κs. search rules)
    (λ c κs. search rules)
    (λ w κs. let a = begun (placed w) in let few = (put-few (search_of a) a.requires.0.1.sound w.words_for.result (count-is w)).0 in (a.requires.0.0, (few, omega (arith, few, a.requires.1.1.0))))
    narrow-members-requires
    returns-4
    (λ c κs. let a = start c.before.before.before in omega (arith, member_below (search_of a) a.requires.0.1.sound a.args.place a.requires.0.1.sound.place))
    (λ c κs.
    let a = start c.before.before.before.before in
    let R = a.requires.0.1.sound in
    omega (arith, c.tuple_start-2.ensures, member-start (search_of a) R a.args.place R.place, seeker-below (search_of a) R, few-tuples (search_of a) R, a.requires.1.0.0))
    (λ c κs. search rules)
    spread-members-requires
    returns-5
    search-requires
    search-fresh-requires
    (λ c. search rules)
    (λ c. let f = c.before.before.before.before in omega (arith, at-inside f, (asked f).requires.0.1.sound.few))
    (λ c. let f = c.before.before.before.before in omega (arith, at-inside f, (asked f).requires.0.1.sound.few))
    note-requires
    returns-6
    returns-7)
