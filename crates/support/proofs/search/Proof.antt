-- `search` hands over to `search_two` where one member is left behind the next. Elsewhere it walks over member k's tuples, and hands over to
-- `search_hard` where the walk stops before its end. The room lent stays as long as it was.
-- From the laws of one member's turn.
use mathlib.Core.Path.{◌≡◌, sym, ◌∙◌, ap, subst}
use mathlib.Core.Bool.{false}
use mathlib.Core.Logic.{◌⊎◌, ⊎_elim}
use Prim.Native.Nat.{◌%◌, ◌<◌}
use native.Mathlib.Omega.{arith}
use lib.ListN.{length}
use borrow.Kind.Array.{e_int, good_length}
use mir.Syntax.{w16}
use borrow.Author.Tests.{eq-eqb, ne_eqb}
use Rattle.support.specs.Search.{Search, SoundSearch, SearchAt, place_behind, WalkAt, is_found}
use Rattle.support.proofs.Own.{behind-within}
use Rattle.support.proofs.Turn.{span-asks, Turn, turn_on, walk-asks, walk-forward, come-first, come-walked}
use Rattle.support.proofs.search.Statement.{statement}
use Rattle.support.proofs.search.Tie as tie

module _ (a : tie.Start) where
  abbrev sent : Search
  sent =
      record {
        lists = record { variables = a.args.variables.now; values = a.args.values.now; starts = a.args.starts.now };
        words = a.args.words.now;
        members = a.args.members.now;
        place = a.args.place;
        own = a.args.own;
        low = a.args.low;
      }

  abbrev asked : SearchAt sent a.args.index.now a.args.k a.args.resumes a.args.chosen
  asked = a.requires.0.1

  abbrev sound : SoundSearch sent
  sound = asked.seeking.sound

-- ---- The place behind the next

module _ (c : tie.After-place_behind-2) where
  abbrev given : tie.Start
  given = c.before.before.before.before.before

  two-behind : c.place_behind-2.result ≡ place_behind given.args.place (place_behind given.args.place given.args.k)
  two-behind = c.place_behind-2.ensures ∙ ap (place_behind given.args.place) c.before.place_behind.ensures

-- it is one of a member
more_left : (c : tie.Else-place_behind-members) → let a = given c.before in place_behind a.args.place (place_behind a.args.place a.args.k) < length a.args.members.now
more_left c =
    let a = given c.before in
    omega (arith, behind-within a.args.place (place_behind a.args.place a.args.k) (length a.args.members.now) a.requires.1.1 (sound a).place, two-behind c.before, c.if-place_behind-members.false)

-- ---- The walk

module _ (c : tie.After-span_of-span) where
  abbrev start : tie.Start
  start = given c.before.before.before

  turn : Turn (sent start) start.args.k start.args.resumes start.args.chosen c.span_of-span.result.first c.span_of-span.result.start c.span_of-span.result.end
  turn =
      turn_on (asked start)
      (good_length (e_int w16) 4 start.args.chosen _ start.well_formed.1.1.1.1.1.1.1.1.1.1.1.0)
      (good_length (e_int w16) 4 start.args.low _ start.well_formed.1.1.1.1.1.1.1.1.0)
      c.span_of-span.result c.span_of-span.ensures

-- it begins at the first live tuple
walk-requires : tie.Need-walk-walked-requires
walk-requires c κs =
    let n = c.before in
    let s = n.before.before in
    let a = start s in (
      a.requires.0,
      (
        (subst (WalkAt (sent a) a.args.k a.args.resumes a.args.chosen) (sym n.next-from.ensures) (come-first (turn s)), a.requires.1.1),
        (a.requires.1.0, more_left s.before.before),
      ),
    )

returns-2 : tie.Need-returns-then-kind-eq-FOUND
returns-2 c =
    let w = c.before.before in
    let s = w.before.before.before.before in
    let kind = w.walk-walked.result.kind in (
      come-walked (turn s) w.walk-walked.result w.walk-walked.ensures.0
          (⊎_elim
          (λ v. ◌⊎◌.inl (eq-eqb (kind % 2) 1 v.if-kind-eq-FOUND.true))
          (λ v. ◌⊎◌.inr (ne_eqb (kind % 2) 1 v.if-kind-eq-FOUND.false, v.if-end-at.true))
          c.then-kind-eq-FOUND.branch-raw),
      w.walk-walked.ensures.1,
    )

-- the hard search goes on where it stopped
search-hard-requires : tie.Need-search_hard-requires
search-hard-requires c κs =
    let w = c.before.before.before in
    let a = start w.before.before.before.before in
    let unfound : is_found w.walk-walked.result.kind ≡ false = ne_eqb (w.walk-walked.result.kind % 2) 1 c.before.if-kind-eq-FOUND.false in
    (a.requires.0, (w.walk-walked.ensures.0.on unfound, a.requires.1.1))

pub search_spec : {M : Type 1} → statement M
search_spec =
    tie.close
    (tie.spec
    (λ c κs. let a = c.before.before.before in omega (arith, (sound a).few, (asked a).inside))
    (λ c κs. let a = c.before.before.before.before in omega (arith, (sound a).few, a.requires.1.1, c.place_behind.ensures))
    (λ c κs. let a = given c.before in (a.requires.0, (a.requires.1.1, sym (two-behind c.before) ∙ c.if-place_behind-members.true)))
    (λ c. let a = given c.before.before in (c.search_two.ensures, a.requires.1.0))
    (λ c. let a = given c.before in omega (arith, (sound a).few, (asked a).inside))
    (λ c. (asked (given c.before.before)).inside)
    (λ c. let a = given c.before.before in omega (arith, (sound a).few, (asked a).inside))
    (λ c. let a = given c.before.before in omega (arith, (sound a).few, (asked a).inside))
    (λ c κs. let a = given c.before.before in span-asks (sent a) a.args.k (sound a) (asked a).inside)
    (λ c κs. let s = c.before in walk-asks (turn s) s.span_of-span.result.start (omega arith) (walk-forward (turn s)))
    walk-requires
    returns-2
    search-hard-requires
    (λ c. let w = c.before.before.before.before in (c.search_hard.ensures, w.walk-walked.ensures.1)))
