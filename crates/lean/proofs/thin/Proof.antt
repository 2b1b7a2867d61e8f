-- `thin` goes from one live tuple of the relation to the next. The loop's invariant: the tuples that fell have the values of live ones.
-- From what `first_alike` and `clear` ensure, and the laws of one relation's tuples as they fall.
use mathlib.Core.Path.{◌≡◌, sym, ◌∙◌, ap, subst}
use mathlib.Core.Bool.{true}
use mathlib.Core.List.{List}
use mathlib.Core.Logic.{⊎_elim}
use Prim.Native.Nat.{ℕ, ◌+◌, ◌-◌, ◌*◌, ◌≤◌, ◌<◌}
use native.Mathlib.Omega.{arith}
use lib.ListN.{length}
use Rattle.model.specs.Network.{Network, size, first_id}
use Rattle.model.specs.LiveWords.{is_live, next_live, cleared}
use Rattle.model.proofs.LiveWords.{next_live-first}
use Rattle.layout.specs.Setting.{Lists, network_in}
use Rattle.layout.proofs.SoundStarts.{tuple-start, tuple-end, ids-few}
use Rattle.lean.proofs.Thinning.{Thinning, thinning-start, thinning-kept, thinning-cleared}
use Rattle.lean.proofs.thin.Statement.{statement}
use Rattle.lean.proofs.thin.Tie as tie

-- id g is that of a live tuple, or the end
abbrev Comes : List ℕ → ℕ → ℕ → ℕ → Type 0
Comes words first end g = (first ≤ g) × (g ≤ end) × (g < end → is_live words g ≡ true)

comes-next : (words : List ℕ) (first i end : ℕ) → first ≤ i → i ≤ end → Comes words first end (next_live words i end)
comes-next words first i end h l = let f = next_live-first words i end l in (omega (arith, h, f.from-i), f.to_end, f.passes)

abbrev invariant-loop : tie.invariant-loop-g
invariant-loop variables values starts r common words₀ first end kept₀ g₀ words kept g =
    Thinning (record { variables = variables; values = values; starts = starts }) common r words₀ words kept × Comes words first end g

abbrev decreases-loop : tie.decreases-loop-g
decreases-loop variables values starts r common words₀ first end kept₀ g₀ words kept g = end - g

module _ (c : tie.After-tuple_start-end invariant-loop decreases-loop) where
  abbrev start : tie.Start invariant-loop decreases-loop
  start = c.before.before.before.before

  abbrev L : Lists
  L = record { variables = start.args.variables.now; values = start.args.values.now; starts = start.args.starts.now }

  abbrev N : Network
  N = network_in L

  abbrev first : ℕ
  first = c.before.tuple_start-first.result

  abbrev end : ℕ
  end = c.tuple_start-end.result

  first-is : first ≡ first_id N start.args.r
  first-is = c.before.tuple_start-first.ensures ∙ tuple-start start.requires.1.0.framed start.args.r (omega (arith, start.requires.1.1))

  end_is : end ≡ first_id N start.args.r + size N start.args.r
  end_is = c.tuple_start-end.ensures ∙ tuple-end start.requires.1.0.framed start.args.r start.requires.1.1

  few : end ≤ 4096
  few = let f = ids-few start.requires.1.0.framed start.args.r start.requires.1.1 in omega (arith, f, c.tuple_start-end.ensures)

abbrev reading : tie.At-loop-g invariant-loop decreases-loop → tie.After-tuple_start-end invariant-loop decreases-loop
reading c = c.before.before.before.before

loop-holds : tie.Need-loop-g-init invariant-loop decreases-loop
loop-holds c =
    let b = c.before.before.before in
    let s = start b in
    (thinning-start (L b) s.args.common s.args.r s.args.words.now s.requires.0, subst (Comes s.args.words.now (first b) (end b)) (sym c.next-g.ensures) (comes-next s.args.words.now (first b) (first b) (end b) (omega arith) (omega (arith, first-is b, end_is b))))

module _ (turn : tie.In-loop-g invariant-loop decreases-loop) where
  abbrev begun : tie.After-tuple_start-end invariant-loop decreases-loop
  begun = reading turn.before

  abbrev g : ℕ
  g = turn.before.loop-g.g

  abbrev x : ℕ
  x = g - first begun

  is-g : g ≡ first_id (N begun) (start begun).args.r + x
  is-g = omega (arith, first-is begun, turn.before.loop-g.invariant.1.0)

  x-in : x < size (N begun) (start begun).args.r
  x-in = omega (arith, first-is begun, end_is begun, turn.before.loop-g.invariant.1.0, turn.loop-g-test.true)

  room : g < 64 * length turn.before.loop-g.words
  room = omega (arith, few begun, turn.loop-g-test.true, turn.before.loop-g.invariant.0.thinned.long)

-- one tuple more
more : (c : tie.Joined-first_alike-x invariant-loop decreases-loop) →
    let turn = c.before.before.before in
    let b = begun turn in
    Thinning (L b) (start b).args.common (start b).args.r (start b).args.words.now c.if-first_alike-x.words c.before.first_alike.new.table
more c =
    let turn = c.before.before.before in
    let l = turn.before.loop-g in
    let b = begun turn in
    let s = start b in
    let table = c.before.first_alike.new.table in
    let after : List ℕ → Type 0 = λ words. Thinning (L b) s.args.common s.args.r s.args.words.now words table in
    let small : first_id (N b) s.args.r + x turn < 4096 = omega (arith, is-g turn, few b, turn.loop-g-test.true) in
    let lives = subst (λ (h : ℕ). is_live l.words h ≡ true) (is-g turn) (l.invariant.1.2 turn.loop-g-test.true) in
    ⊎_elim
    {C = after c.if-first_alike-x.words}
    (λ w.
    subst after (sym (w.words-is ∙ w.clear.ensures ∙ ap (λ (h : ℕ). cleared h l.words) (is-g turn)))
    (thinning-cleared (L b) s.args.common s.args.r s.args.words.now l.invariant.0 (x turn) (x-in turn) small lives c.before.first_alike.result c.before.first_alike.ensures w.if-first_alike-x.true))
    (λ w. subst after (sym w.words-is) (thinning-kept (L b) s.args.common s.args.r s.args.words.now l.invariant.0 (x turn) (x-in turn) small lives c.before.first_alike.result c.before.first_alike.ensures))
    c.if-first_alike-x.branch-raw

abbrev turned : tie.After-next-g-in-loop-g invariant-loop decreases-loop → tie.Joined-first_alike-x invariant-loop decreases-loop
turned c = c.before.before.before

next-requires-2 : tie.Need-next-g-requires-in-loop-g invariant-loop decreases-loop
next-requires-2 c κs =
    let j = c.before.before in
    let turn = j.before.before.before in
    (omega (arith, turn.loop-g-test.true), omega (arith, few (begun turn), (more j).thinned.long), few (begun turn))

comes-again : (c : tie.After-next-g-in-loop-g invariant-loop decreases-loop) → (let j = turned c in let turn = j.before.before.before in Comes j.if-first_alike-x.words (first (begun turn)) (end (begun turn)) c.next-g-in-loop-g.result × (g turn + 1 ≤ c.next-g-in-loop-g.result))
comes-again c =
    let j = turned c in
    let turn = j.before.before.before in
    let b = begun turn in
    let f = next_live-first j.if-first_alike-x.words (g turn + 1) (end b) (omega (arith, turn.loop-g-test.true)) in
    (subst (Comes j.if-first_alike-x.words (first b) (end b)) (sym c.next-g-in-loop-g.ensures) (comes-next j.if-first_alike-x.words (first b) (g turn + 1) (end b) (omega (arith, turn.before.loop-g.invariant.1.0)) (omega (arith, turn.loop-g-test.true))), omega (arith, c.next-g-in-loop-g.ensures, f.from-i))

pub thin_spec : {M : Type 1} → statement M
thin_spec =
    tie.close
    (tie.spec
    invariant-loop
    decreases-loop
    (λ c κs. let s = c.before.before in omega (arith, s.requires.1.1))
    (λ c. let s = c.before.before.before in omega (arith, s.requires.1.1))
    (λ c κs. let s = c.before.before.before in omega (arith, s.requires.1.1))
    (λ c κs. let b = c.before.before in (omega (arith, first-is b, end_is b), omega (arith, few b, (start b).requires.0), few b))
    loop-holds
    (λ c. c.before.loop-g.invariant.1.0)
    (λ c κs. let turn = c.before in (record { laid = (start (begun turn)).requires.1.0; own = x-in turn }, turn.before.loop-g.invariant.0.sized))
    (λ c κs. room c.before.before.before.before)
    (λ c. let turn = c.before.before.before.before.before in omega (arith, turn.loop-g-test.true, few (begun turn)))
    next-requires-2
    (λ c. let k = comes-again c in let turn = (turned c).before.before.before in omega (arith, k.0.1, k.1, turn.loop-g-test.true))
    (λ c. (more (turned c), (comes-again c).0))
    (λ c. c.before.loop-g.invariant.0.thinned))
