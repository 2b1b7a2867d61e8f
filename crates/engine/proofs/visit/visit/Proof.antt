-- `visit::visit` meets its contract. The loop's invariant: the walk has come to `g`, and all before it is done. The measure is what is left of the walk.
-- From the laws of a visit's walk, and the contracts of the functions called.
use mathlib.Core.Path.{◌≡◌, refl, sym, ◌∙◌, ap, ap₂, subst}
use mathlib.Core.Bool.{Bool, true, false}
use mathlib.Core.Logic.{⊎_elim}
use mathlib.Core.List.{List}
use Prim.Native.Nat.{ℕ, suc, ◌+◌, ◌-◌, ◌*◌, ◌%◌, ◌≤◌, ◌<◌}
use native.Mathlib.Nat.{zero-mul}
use native.Mathlib.Omega.{arith}
use lib.ListN.{length, get_or}
use borrow.Author.Rules.{rules}
use Rattle.spreading.proofs.Numbers.{pair-numbers}
use borrow.Author.Tests.{not-false, eq-eqb, ne_eqb}
use Rattle.model.specs.Combination.{pair_member}
use Rattle.model.specs.Consistency.{support_start}
use Rattle.model.specs.LiveWords.{is_live}
use Rattle.model.proofs.Bools.{not-both}
use Rattle.model.proofs.LiveWords.{none-is_live}
use Rattle.narrowing.specs.Narrows.{Long}
use Rattle.worklist.specs.Pairs.{queues}
use Rattle.worklist.specs.declared.queue.Queue.{Queue}
use Rattle.layout.specs.Starts.{tuple_start}
use Rattle.layout.specs.Setting.{Setting, network, Sound}
use Rattle.layout.specs.Pairs.{combination_of, tuple_id, place_of}
use Rattle.twins.specs.Twins.{Noted}
use Rattle.twins.proofs.Sought.{noted-none, noted_more}
use Rattle.spreading.proofs.Meeting.{meets-fewer}
use Rattle.support.proofs.Spent.{meets-ones}
use Rattle.support.specs.Search.{is_found}
use Rattle.lean.proofs.Leaner.{lean-same, lean-both}
use Rattle.engine.specs.Rest.{Doomed}
use Rattle.engine.specs.Work.{Working, LeanIn, Beside}
use Rattle.layout.proofs.SoundStarts.{tuples-few}
use Rattle.layout.proofs.Outline.{support_start-outline}
use Rattle.layout.proofs.Pairs.{member_below, tuple-below}
use Rattle.engine.proofs.Visiting.{VisitOf, renewed-lean, going-kept, going-removed, going-noted, going-doomed, going-rested, still-waits, requeued-waits}
use Rattle.engine.proofs.Walking.{WalkAt, come-first, come-end, index-lives, come-more, place_short}
use Rattle.layout.proofs.Rows.{Row, row-of, row-total, row-asks, row-index, next-ahead}
use Rattle.engine.proofs.visit.visit.Statement.{statement}
use Rattle.engine.proofs.visit.visit.Tie as tie

abbrev setting_of : List ℕ → List ℕ → List ℕ → List ℕ → ℕ → Setting
setting_of variables values starts members m =
    record { lists = record { variables = variables; values = values; starts = starts }; members = members; m = m }

abbrev invariant-loop : tie.invariant-loop-g
invariant-loop variables values starts index members m pair-starts words₀ numbers₀ p sides steps₀ r first end start sought₀ lean₀ tried₀ fresh₀ doomed₀ candidates₀ spare₀ effort₀ waiting₀ shrunk₀ g₀ words numbers steps sought lean tried fresh doomed candidates spare effort waiting shrunk g =
    WalkAt (setting_of variables values starts members m) p first end waiting₀.words words₀ numbers₀ waiting.words words numbers shrunk g
    × Noted (setting_of variables values starts members m) words p (g - first) sought
    × Beside (setting_of variables values starts members m) p lean fresh
    × LeanIn (setting_of variables values starts members m) p words lean
    × Long doomed
    × Doomed (setting_of variables values starts members m) p words doomed
    × Long candidates
    × Long spare

abbrev decreases-loop : tie.decreases-loop-g
decreases-loop variables values starts index members m pair-starts words₀ numbers₀ p sides steps₀ r first end start sought₀ lean₀ tried₀ fresh₀ doomed₀ candidates₀ spare₀ effort₀ waiting₀ shrunk₀ g₀ words numbers steps sought lean tried fresh doomed candidates spare effort waiting shrunk g = end - g

-- ---- What it is called on

module _ (a : tie.Start invariant-loop decreases-loop) where
  abbrev G : Setting
  G = setting_of a.args.variables.now a.args.values.now a.args.starts.now a.args.members.now a.args.m

  abbrev sound : Sound G
  sound = a.requires.1.prepared.sound

  abbrev work : Working G a.args.words.now a.args.numbers.now
  work = a.requires.1.working

  abbrev in_members : a.args.p < length a.args.members.now
  in_members = a.requires.1.pair

-- ---- The pair's row

-- the relation read is the pair's member
member_is : (c : tie.After-wide invariant-loop decreases-loop) → (let a = c.before.before.before.before.before.before.before in get_or a.args.members.now c.wide.result 0 ≡ pair_member a.args.members.now a.args.p)
member_is c = let a = c.before.before.before.before.before.before.before in ap (λ (q : ℕ). get_or a.args.members.now q 0) c.wide.ensures.0

member-few : (c : tie.After-wide invariant-loop decreases-loop) → get_or c.before.before.before.before.before.before.before.args.members.now c.wide.result 0 < 64
member-few c = let a = c.before.before.before.before.before.before.before in omega (arith, member_is c, member_below (sound a).laid.framed (sound a).paired a.args.p (in_members a))

abbrev entry : tie.After-wide-start invariant-loop decreases-loop → tie.Start invariant-loop decreases-loop
entry c = c.before.before.before.before.before.before.before.before.before.before.before.before.before.before

abbrev first : tie.After-wide-start invariant-loop decreases-loop → ℕ
first c = c.before.before.before.before.tuple_start-first.result

abbrev end : tie.After-wide-start invariant-loop decreases-loop → ℕ
end c = c.before.before.before.tuple_start-end.result

row : (c : tie.After-wide-start invariant-loop decreases-loop) → Row (G (entry c)) (entry c).args.p (first c) (end c)
row c =
    let a = entry c in
    row-of (sound a) a.args.p (first c) (end c) (in_members a)
    (c.before.before.before.before.tuple_start-first.ensures ∙ ap (tuple_start a.args.starts.now) (member_is c.before.before.before.before.before.before.before))
    (c.before.before.before.tuple_start-end.ensures ∙ ap (λ (r : ℕ). tuple_start a.args.starts.now (r + 1)) (member_is c.before.before.before.before.before.before.before))

-- where the pair's numbers begin
begin-is : (c : tie.After-wide-start invariant-loop decreases-loop) → (let a = entry c in c.wide-start.result ≡ support_start (network (G a)) a.args.m a.args.members.now a.args.p)
begin-is c =
    let a = entry c in
    c.wide-start.ensures.0
    ∙ ap (λ (q : ℕ). get_or a.args.pair_starts.now q 0) c.before.before.wide-2.ensures.0
    ∙ a.requires.1.prepared.places a.args.p (omega (arith, in_members a))
    ∙ support_start-outline (G a).lists a.args.m a.args.members.now a.args.p

start_is : (c : tie.After-wide-start invariant-loop decreases-loop) → c.wide-start.result ≡ place_of (G (entry c)) (entry c).args.p 0
start_is c = omega (arith, begin-is c, zero-mul (entry c).args.m)

-- ---- In the loop

abbrev begun : tie.In-loop-g invariant-loop decreases-loop → tie.After-wide-start invariant-loop decreases-loop
begun c = c.before.before.before.before.before.before

-- the place of the tuple's numbers
place_is : (c : tie.After-wide-in-loop-g-2 invariant-loop decreases-loop) → (let i = c.before.before in let b = begun i in b.wide-start.result + c.before.wide-in-loop-g.result * c.wide-in-loop-g-2.result ≡ place_of (G (entry b)) (entry b).args.p (i.before.loop-g.g - first b))
place_is c =
    let i = c.before.before in
    let b = begun i in
    let e = ap₂ (λ (y n : ℕ). y * n) c.before.wide-in-loop-g.ensures.0 c.wide-in-loop-g-2.ensures.0 in
    omega (arith, start_is b, e)

-- the numbers of the support list are few
place-small : (c : tie.After-wide-in-loop-g-2 invariant-loop decreases-loop) → (let b = begun c.before.before in b.wide-start.result + c.before.wide-in-loop-g.result * c.wide-in-loop-g-2.result ≤ 32768)
place-small c =
    let i = c.before.before in
    let b = begun i in
    let a = entry b in
    let l = i.before.loop-g in
    omega (arith, place_is c, place_short (row b) l.invariant.0 i.loop-g-test.true)

-- ---- After the tuple's renewal

abbrev turning : tie.After-renew_or_fall-kind invariant-loop decreases-loop → tie.In-loop-g invariant-loop decreases-loop
turning c = c.before.before.before.before.before.before.before.before.before.before.before

abbrev words-after : tie.After-renew_or_fall-kind invariant-loop decreases-loop → List ℕ
words-after c = c.renew_or_fall-kind.new.words

abbrev numbers_after : tie.After-renew_or_fall-kind invariant-loop decreases-loop → List ℕ
numbers_after c = c.renew_or_fall-kind.new.numbers

abbrev sought-after : tie.After-renew_or_fall-kind invariant-loop decreases-loop → List ℕ
sought-after c = c.renew_or_fall-kind.new.sought

-- the visit under way, once tuple g is done
abbrev Turned : tie.After-renew_or_fall-kind invariant-loop decreases-loop → Queue → Bool → Type 0
Turned c waiting shrunk =
    let i = turning c in
    let b = begun i in
    let a = entry b in
    VisitOf (G a) a.args.p a.args.queue.words a.args.words.now a.args.numbers.now waiting.words (words-after c) (numbers_after c) shrunk (suc (i.before.loop-g.g - first b))

turned-kept : (c : tie.After-renew_or_fall-kind invariant-loop decreases-loop) → is_found c.renew_or_fall-kind.result ≡ true → (let l = (turning c).before.loop-g in Turned c l.waiting l.shrunk)
turned-kept c e =
    let i = turning c in
    let b = begun i in
    let a = entry b in
    let l = i.before.loop-g in
    going-kept (sound a) (in_members a) l.invariant.0.going
    (row-index (row b) l.invariant.0.from_first i.loop-g-test.true)
    c.renew_or_fall-kind.ensures.0 e

turned-removed : (c : tie.After-renew_or_fall-kind invariant-loop decreases-loop) (waiting : Queue) → is_found c.renew_or_fall-kind.result ≡ false → (let i = turning c in let a = entry (begun i) in (q : ℕ) → q < length a.args.members.now → is_live waiting.words q ≡ false → (is_live i.before.loop-g.waiting.words q ≡ false) × (queues a.args.m a.args.members.now a.args.p q ≡ false)) → Turned c waiting true
turned-removed c waiting e waits =
    let i = turning c in
    let b = begun i in
    let a = entry b in
    let l = i.before.loop-g in
    going-removed (sound a) (in_members a) l.invariant.0.going
    (row-index (row b) l.invariant.0.from_first i.loop-g-test.true)
    c.renew_or_fall-kind.ensures.0
    (index-lives (row b) l.invariant.0 i.loop-g-test.true)
    waiting.words waits e

noted : (c : tie.After-renew_or_fall-kind invariant-loop decreases-loop) → (let i = turning c in let b = begun i in let a = entry b in Noted (G a) (words-after c) a.args.p (suc (i.before.loop-g.g - first b)) (sought-after c))
noted c =
    let i = turning c in
    let b = begun i in
    let a = entry b in
    let l = i.before.loop-g in
    going-noted (sound a) (in_members a) l.invariant.0.going
    (row-index (row b) l.invariant.0.from_first i.loop-g-test.true)
    c.renew_or_fall-kind.ensures.0
    (index-lives (row b) l.invariant.0 i.loop-g-test.true)
    l.invariant.1
    c.renew_or_fall-kind.ensures.1.0

abbrev fresh-after : tie.After-renew_or_fall-kind invariant-loop decreases-loop → List ℕ
fresh-after c = c.renew_or_fall-kind.new.fresh

abbrev renewed : tie.Joined-kind-ne-FOUND invariant-loop decreases-loop → tie.After-renew_or_fall-kind invariant-loop decreases-loop
renewed c = c.before.before.before

turned : (c : tie.Joined-kind-ne-FOUND invariant-loop decreases-loop) → Turned (renewed c) c.if-kind-ne-FOUND.waiting c.if-kind-ne-FOUND.shrunk
turned c =
    let n = renewed c in
    let i = turning n in
    let b = begun i in
    let a = entry b in
    let l = i.before.loop-g in
    let joins : (waiting : Queue) (shrunk : Bool) → c.if-kind-ne-FOUND.waiting ≡ waiting → c.if-kind-ne-FOUND.shrunk ≡ shrunk → Turned n waiting shrunk → Turned n c.if-kind-ne-FOUND.waiting c.if-kind-ne-FOUND.shrunk =
    λ waiting shrunk e f t. subst (λ (q : Queue). Turned n q c.if-kind-ne-FOUND.shrunk) (sym e) (subst (Turned n waiting) (sym f) t) in
    ⊎_elim
    (λ w. joins w.requeue-waiting.result true w.waiting-is w.shrunk-is (turned-removed n w.requeue-waiting.result (ne_eqb (n.renew_or_fall-kind.result % 2) 1 w.if-kind-ne-FOUND.true) (requeued-waits (sound a) a.args.p l.waiting.words w.requeue-waiting.result.words w.requeue-waiting.ensures)))
    (⊎_elim
    (λ w.
    let e = not-false l.shrunk w.if-not-shrunk.false-raw in
    joins l.waiting true w.waiting-is (w.shrunk-is ∙ e)
    (turned-removed n l.waiting (ne_eqb (n.renew_or_fall-kind.result % 2) 1 w.if-kind-ne-FOUND.true)
    (still-waits (sound a) (in_members a) l.invariant.0.going e)))
    (λ w. joins l.waiting l.shrunk w.waiting-is w.shrunk-is (turned-kept n (eq-eqb (n.renew_or_fall-kind.result % 2) 1 w.if-kind-ne-FOUND.false))))
    c.if-kind-ne-FOUND.branch-raw

-- ---- After the words are made lean

abbrev joined : tie.After-lean_at-tried invariant-loop decreases-loop → tie.Joined-kind-ne-FOUND invariant-loop decreases-loop
joined c = c.before.before

abbrev lean-after : tie.After-lean_at-tried invariant-loop decreases-loop → List ℕ
lean-after c = c.lean_at-tried.new.lean

beside : (c : tie.After-lean_at-tried invariant-loop decreases-loop) → (let n = renewed (joined c) in let a = entry (begun (turning n)) in Beside (G a) a.args.p (lean-after c) (fresh-after n))
beside c =
    let n = renewed (joined c) in
    let i = turning n in
    let a = entry (begun i) in
    let E = n.renew_or_fall-kind.ensures.1.1.0 in
    (E.0, λ two. meets-fewer (network (G a)) (combination_of (G a) a.args.p) (a.args.p % a.args.m) i.before.loop-g.lean (lean-after c) (fresh-after n) c.lean_at-tried.ensures.1 (E.1 two))

lean : (c : tie.After-lean_at-tried invariant-loop decreases-loop) → (let n = renewed (joined c) in let a = entry (begun (turning n)) in LeanIn (G a) a.args.p (words-after n) (lean-after c))
lean c =
    let n = renewed (joined c) in
    let i = turning n in
    let b = begun i in
    let a = entry b in
    let l = i.before.loop-g in
    let x-in = row-index (row b) l.invariant.0.from_first i.loop-g-test.true in
    let room : tuple_id (G a) a.args.p (l.g - first b) < 64 * length l.words = omega (arith, tuple-below (sound a) a.args.p (l.g - first b) (in_members a) x-in, l.invariant.0.going.working.space.enough) in
    lean-both (G a).lists (combination_of (G a) a.args.p) (a.args.p % a.args.m)
    (renewed-lean (sound a) (in_members a) x-in room n.renew_or_fall-kind.ensures.0 l.invariant.3)
    c.lean_at-tried.ensures.0

-- ---- After the rest was sought

doomed : (c : tie.After-renew_or_fall-kind invariant-loop decreases-loop) → (let i = turning c in let a = entry (begun i) in Doomed (G a) a.args.p (words-after c) i.before.loop-g.doomed)
doomed c =
    let i = turning c in
    let b = begun i in
    let a = entry b in
    let l = i.before.loop-g in
    going-doomed (sound a) (in_members a) l.invariant.0.going
    (row-index (row b) l.invariant.0.from_first i.loop-g-test.true)
    c.renew_or_fall-kind.ensures.0
    (index-lives (row b) l.invariant.0 i.loop-g-test.true)
    l.doomed
    l.invariant.5

abbrev leaned : tie.After-seek_rest_once_due-effort invariant-loop decreases-loop → tie.After-lean_at-tried invariant-loop decreases-loop
leaned c = c.before.before.before.before.before.before

abbrev numbers-rested : tie.After-seek_rest_once_due-effort invariant-loop decreases-loop → List ℕ
numbers-rested c = c.seek_rest_once_due-effort.new.numbers

rested : (c : tie.After-seek_rest_once_due-effort invariant-loop decreases-loop) → (let j = joined (leaned c) in let n = renewed j in let i = turning n in let b = begun i in let a = entry b in VisitOf (G a) a.args.p a.args.queue.words a.args.words.now a.args.numbers.now j.if-kind-ne-FOUND.waiting.words (words-after n) (numbers-rested c) j.if-kind-ne-FOUND.shrunk (suc (i.before.loop-g.g - first b)))
rested c =
    let j = joined (leaned c) in
    let i = turning (renewed j) in
    let b = begun i in
    let a = entry b in
    let l = i.before.loop-g in
    going-rested (sound a) (in_members a) (turned j) (row-index (row b) l.invariant.0.from_first i.loop-g-test.true) (omega (arith, (row b).is-first, l.invariant.0.from_first)) c.seek_rest_once_due-effort.ensures

-- ---- The needs

next-requires : tie.Need-next-g-requires invariant-loop decreases-loop
next-requires c κs =
    let b = c.before.before.before in
    let a = entry b in
    row-asks (row b) a.args.words.now (first b) (work a).space.enough (omega (arith, (row b).is-end))

loop-holds : tie.Need-loop-g-init invariant-loop decreases-loop
loop-holds c =
    let b = c.before.before.before.before in
    let a = entry b in
    (subst (WalkAt (G a) a.args.p (first b) (end b) a.args.queue.words a.args.words.now a.args.numbers.now a.args.queue.words a.args.words.now a.args.numbers.now false) (sym c.next-g.ensures) (come-first (row b) a.requires.0.small (work a)), noted-none a.args.words.now (c.next-g.result - first b), (refl, meets-ones (network (G a)) (tuples-few (sound a).laid.framed) (combination_of (G a) a.args.p) (a.args.p % a.args.m) a.args.words.now), (lean-same (G a).lists (combination_of (G a) a.args.p) (a.args.p % a.args.m) a.args.words.now a.requires.0.long).0, refl, λ x h e s. absurd (not-both e (none-is_live 64 (tuple_id (G a) a.args.p x))), refl, refl)

renew-or-fall-requires : tie.Need-renew_or_fall-kind-requires invariant-loop decreases-loop
renew-or-fall-requires c κs =
    let w = c.before.before.before.before.before.before.before.before in
    let i = w.before.before in
    let b = begun i in
    let a = entry b in
    let l = i.before.loop-g in (
      (l.invariant.0.going.wide ∙ a.requires.0.long, l.invariant.2, l.invariant.3),
      (
        record {
          seek = record {
            seeker = record {
              sound = sound a;
              working = l.invariant.0.going.working;
              pair = in_members a;
              index = row-index (row b) l.invariant.0.from_first i.loop-g-test.true;
              lives = index-lives (row b) l.invariant.0 i.loop-g-test.true;
            };
            indexed = a.requires.1.prepared.indexed;
            place = place_is w;
          };
          done = l.invariant.0.going.done;
          noted = l.invariant.1;
          sided = b.before.before.before.before.before.before.before.before.sides_of-sides.ensures;
        },
        ((l.invariant.4, l.invariant.5), (l.invariant.6, l.invariant.7)),
      ),
    )

requeue-requires : tie.Need-requeue-waiting-requires invariant-loop decreases-loop
requeue-requires c κs =
    let a = entry (begun (turning c.before.before.before.before)) in
    ((sound a).paired.list, in_members a)

lean-at-requires : tie.Need-lean_at-tried-requires invariant-loop decreases-loop
lean-at-requires c κs =
    let i = turning (renewed c.before) in
    let a = entry (begun i) in
    (i.before.loop-g.invariant.3.long, record { sound = sound a; pair = in_members a })

steps-now-requires : tie.Need-steps_now-steps-requires invariant-loop decreases-loop
steps-now-requires c κs =
    let k = c.before in
    let a = entry (begun (turning (renewed (joined k)))) in
    ((lean k).long, record { sound = sound a; pair = in_members a })

-- an id more is one yet
id-small : (n : tie.After-renew_or_fall-kind invariant-loop decreases-loop) → (turning n).before.loop-g.g < 4096
id-small n =
    let i = turning n in
    let b = begun i in
    omega (arith, i.loop-g-test.true, row-total (row b), tuples-few (sound (entry b)).laid.framed)

seek-rest-once-due-requires : tie.Need-seek_rest_once_due-effort-requires invariant-loop decreases-loop
seek-rest-once-due-requires c κs =
    let k = c.before.before.before.before.before in
    let j = joined k in
    let i = turning (renewed j) in
    let b = begun i in
    let a = entry b in
    let l = i.before.loop-g in (
      record {
        sound = sound a;
        indexed = a.requires.1.prepared.indexed;
        working = (turned j).working;
        leaner = lean k;
        pair = in_members a;
        begin = begin-is b;
        after_first = omega (arith, (row b).is-first, l.invariant.0.from_first);
        before-end = omega (arith, (row b).is-first, (row b).is-end, i.loop-g-test.true);
      },
      l.invariant.4,
    )

add-next : tie.Need-overflow_add-g-in-loop-g invariant-loop decreases-loop
add-next c = omega (arith, id-small (renewed (joined (leaned c.before.before.before.before))))

next-requires-2 : tie.Need-next-g-requires-in-loop-g invariant-loop decreases-loop
next-requires-2 c κs =
    let j = joined (leaned c.before.before.before.before) in
    let n = renewed j in
    let i = turning n in
    let b = begun i in
    let a = entry b in
    row-asks (row b) (words-after n) (i.before.loop-g.g + 1) (turned j).working.space.enough (omega (arith, i.loop-g-test.true))

loop-less : tie.Need-loop-g-smaller invariant-loop decreases-loop
loop-less c =
    let n = renewed (joined (leaned c.before.before.before.before.before)) in
    let i = turning n in
    let b = begun i in
    let a = entry b in
    let l = i.before.loop-g in
    let f = next-ahead (words-after n) i.loop-g-test.true in
    omega (arith, f.0, f.1, c.next-g-in-loop-g.ensures, i.loop-g-test.true)

loop-again : tie.Need-loop-g-preserved invariant-loop decreases-loop
loop-again c =
    let r = c.before.before.before.before.before in
    let k = leaned r in
    let j = joined k in
    let n = renewed j in
    let i = turning n in
    let b = begun i in
    let a = entry b in
    let l = i.before.loop-g in
    let f = next-ahead (words-after n) i.loop-g-test.true in (
      subst (WalkAt (G a) a.args.p (first b) (end b) a.args.queue.words a.args.words.now a.args.numbers.now j.if-kind-ne-FOUND.waiting.words (words-after n) (numbers-rested r) j.if-kind-ne-FOUND.shrunk) (sym c.next-g-in-loop-g.ensures)
          (come-more (row b) l.invariant.0 i.loop-g-test.true (rested r)),
      noted_more (omega (arith, f.0, c.next-g-in-loop-g.ensures, l.invariant.0.from_first)) (noted n),
      beside k,
      lean k,
      r.seek_rest_once_due-effort.ensures.long,
      r.seek_rest_once_due-effort.ensures.none (doomed n),
      n.renew_or_fall-kind.ensures.1.1.1.0,
      n.renew_or_fall-kind.ensures.1.1.1.1,
    )

returns : tie.Need-returns invariant-loop decreases-loop
returns c =
    let b = c.before.before.before.before.before.before in
    let a = entry b in
    let l = c.before.loop-g in
    come-end (row b) l.invariant.0 c.loop-g-test.false

pub visit_spec : {M : Type 1} → statement M
visit_spec =
    tie.close
    (tie.spec
    invariant-loop
    decreases-loop
    (λ c κs. let a = c.before.before.before.before in record { sound = sound a; pair = in_members a })
    (λ c κs. let a = c.before.before.before.before.before in pair-numbers (sound a).laid.framed (sound a).paired a.args.p (in_members a))
    (λ c κs. search rules)
    (λ c. omega (arith, c.wide.ensures.1))
    (λ c. omega (arith, c.before.wide.ensures.0, in_members c.before.before.before.before.before.before.before.before))
    (λ c κs. omega (arith, member-few c.before))
    (λ c. omega (arith, member-few c.before.before))
    (λ c κs. omega (arith, member-few c.before.before))
    (λ c κs. search rules)
    (λ c. omega (arith, c.wide-2.ensures.1))
    (λ c. let a = c.before.before.before.before.before.before.before.before.before.before.before.before in omega (arith, c.wide-2.ensures.0, in_members a, (sound a).paired.list.short))
    (λ c κs. search rules)
    next-requires
    loop-holds
    (λ c. c.before.loop-g.invariant.0.from_first)
    (λ c κs. search rules)
    (λ c κs. search rules)
    (λ c. omega (arith, place-small c))
    (λ c. omega (arith, place-small c))
    renew-or-fall-requires
    requeue-requires
    lean-at-requires
    steps-now-requires
    (λ c. omega (arith, id-small (renewed (joined c.before.before.before.before))))
    seek-rest-once-due-requires
    add-next
    next-requires-2
    loop-less
    loop-again
    (λ c. c.before.loop-g.invariant.0.going.long)
    returns)
