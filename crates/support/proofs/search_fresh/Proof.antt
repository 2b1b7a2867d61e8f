-- `search_fresh` narrows members through fresh tuples and through others, and begins the search.
-- From what narrowing through fresh tuples keeps, and the laws of narrowed words.
use mathlib.Core.Path.{refl, sym, ◌∙◌}
use mathlib.Core.List.{List}
use Prim.Native.Nat.{ℕ}
use borrow.Author.Tests.{not-true}
use Rattle.support.specs.Search.{Search}
use Rattle.support.specs.Spent.{Rooted}
use Rattle.support.proofs.Narrow.{sought-none, Root, root-spread, root-all}
use Rattle.support.proofs.search_fresh.Statement.{statement}
use Rattle.support.proofs.search_fresh.Tie as tie

module _ (a : tie.Start) where
  abbrev search_of : Search
  search_of =
      record {
        lists = record { variables = a.args.variables.now; values = a.args.values.now; starts = a.args.starts.now };
        words = a.args.words.now;
        members = a.args.members.now;
        place = a.args.place;
        own = a.args.own;
        low = a.args.low;
      }

  abbrev rooted : Rooted search_of a.args.index.now
  rooted = a.requires.0.1

  -- the search may begin over the words lent
  lent : Root search_of a.args.words.now
  lent = record { sound = rooted.seeking.sound; sized = a.requires.0.0; same = refl; lives = rooted.lives }

module _ (c : tie.After-narrow_to_fresh) where
  abbrev start : tie.Start
  start = c.before.before.before.before.before.before

  abbrev fewest : List ℕ
  fewest = c.narrow_to_fresh.new.words

  -- .. over those narrowed
  begins : Root (search_of start) fewest
  begins = root-spread (search_of start) start.args.words.now fewest 0 c.narrow_to_fresh.ensures.0 c.narrow_to_fresh.ensures.1.0 (lent start)

narrow-to-fresh-requires : tie.Need-narrow_to_fresh-requires
narrow-to-fresh-requires c κs =
    let a = c.before.before.before.before.before in
    let R = (rooted a).seeking.sound in
    ((a.requires.0.0, a.requires.1.0.0), (((record { laid = R.laid; indexed = (rooted a).seeking.indexed }, record { proper = R.members; few = R.few }), R.place), a.requires.1.0.1))

-- .. and through others
module _ (c : tie.After-spread_members) where
  abbrev before : tie.After-narrow_to_fresh
  before = c.before.before.before

  abbrev last : List ℕ
  last = c.spread_members.new.words

  begins-last : Root (search_of (start before)) last
  begins-last = root-spread (search_of (start before)) (fewest before) last 0 c.spread_members.ensures.0 c.spread_members.ensures.1.0 (begins before)

pub search_fresh_spec : {M : Type 1} → statement M
search_fresh_spec =
    tie.close
    (tie.spec
    narrow-to-fresh-requires
    (λ c.
    let n = c.before in
    let Q = search_of (start n) in
    (sym (sym (root-all Q (fewest n) (begins n) (start n).args.low) ∙ sought-none Q (fewest n) 0 (start n).args.low (n.narrow_to_fresh.ensures.1.1 (not-true _ c.if-not-narrow_to_fresh.true-raw))), (start n).requires.1.1))
    (λ c κs.
    let n = c.before.before in
    let a = start n in
    let R = (rooted a).seeking.sound in
    (n.narrow_to_fresh.ensures.0, ((record { laid = R.laid; indexed = (rooted a).seeking.indexed }, record { proper = R.members; few = R.few }), R.place)))
    (λ c.
    let n = c.before in
    let a = start (before n) in
    let Q = search_of a in
    (sym (sym (root-all Q (last n) (begins-last n) a.args.low) ∙ sought-none Q (last n) 0 a.args.low (n.spread_members.ensures.1.1 (not-true _ c.if-not-spread_members.true-raw))), a.requires.1.1))
    (λ c κs.
    let n = c.before.before.before in
    let a = start (before n) in
    ((n.spread_members.ensures.0, record { seeking = record { sound = (begins-last n).sound; indexed = (rooted a).seeking.indexed }; lives = (begins-last n).lives; further = (rooted a).further }), a.requires.1.1))
    (λ c. let n = c.before.before.before.before in (c.search_all.ensures.0 ∙ (begins-last n).same, c.search_all.ensures.1)))
