-- `rest::seek_rest` meets its contract: the search is one for the pair's combination, and what it leaves is what the rest is left with.
-- From the laws of the rest sought together, and the contracts of the functions called.
use mathlib.Core.Path.{◌≡◌, sym, ◌∙◌, ap, ap₂, subst}
use mathlib.Core.List.{List}
use Prim.Native.Nat.{ℕ, ◌+◌, ◌-◌, ◌*◌, ◌/◌, ◌%◌, ◌≤◌, ◌<◌}
use native.Mathlib.Nat.{div-mul-le_self, add-sub_cancel_left}
use native.Mathlib.Omega.{arith}
use lib.ListN.{length, get_or, take, drop}
use borrow.Author.Rules.{rules}
use Rattle.model.specs.Combination.{pair_member}
use Rattle.layout.specs.Starts.{tuple_start}
use Rattle.layout.specs.Setting.{Setting, Sound}
use Rattle.layout.specs.Pairs.{combination_of}
use Rattle.layout.proofs.Pairs.{member_below, base-within}
use Rattle.layout.proofs.Rows.{Row, row-of}
use Rattle.together.specs.Together.{Joint, SoundJoint, Room, Together}
use Rattle.engine.specs.Rest.{SeekingAt, RestAt, Rested}
use Rattle.engine.proofs.Resting.{joined, member-count, sound-joint, room-joint, seeking-asks, rested-none, rested, dooms, whole_back}
use Rattle.engine.proofs.rest.seek_rest.Statement.{statement}
use Rattle.engine.proofs.rest.seek_rest.Tie as tie

-- ---- What it is called on

module _ (a : tie.Start) where
  abbrev G : Setting
  G =
      record {
        lists = record { variables = a.args.variables.now; values = a.args.values.now; starts = a.args.starts.now };
        members = a.args.members.now;
        m = a.args.m;
      }

  abbrev asked : RestAt G a.args.index.now a.args.words.now a.args.lean.now a.args.numbers.now a.args.p a.args.start a.args.from
  asked = a.requires.0

  abbrev sound : Sound G
  sound = asked.sound

-- ---- The numbers as they are read

module _ (w : tie.After-wide-pair) where
  abbrev entry : tie.Start
  entry = w.before.before.before.before.before.before.before

  abbrev each : ℕ
  each = w.before.wide-each.result

  each-is : each ≡ entry.args.m
  each-is = w.before.wide-each.ensures.0

  pair_is : w.wide-pair.result ≡ entry.args.p
  pair_is = w.wide-pair.ensures.0

  abbrev base : ℕ
  base = w.wide-pair.result / each * each

  base-is : base ≡ entry.args.p / entry.args.m * entry.args.m
  base-is = ap₂ (λ (q n : ℕ). q / n * n) pair_is each-is

  within : base + each ≤ length entry.args.members.now
  within = omega (arith, base-is, each-is, base-within (sound entry).laid.framed (sound entry).paired entry.args.p (asked entry).pair)

  -- the search is the one for the pair's combination
  abbrev joint_of : List ℕ → ℕ → Joint
  joint_of members place = record { lists = (G entry).lists; members = members; place = place }

  part-is : take (base + each - base) (drop base entry.args.members.now) ≡ combination_of (G entry) entry.args.p
  part-is =
      ap (λ (n : ℕ). take n (drop base entry.args.members.now)) (add-sub_cancel_left base each ∙ each-is)
      ∙ ap (λ (b : ℕ). take entry.args.m (drop b entry.args.members.now)) base-is

  joint-is : joint_of (take (base + each - base) (drop base entry.args.members.now)) (w.wide-pair.result % each) ≡ joined (asked entry)
  joint-is = ap₂ (λ (ms : List ℕ) (q : ℕ). joint_of ms q) part-is (ap₂ (λ (q n : ℕ). q % n) pair_is each-is)

  -- the pair's member
  member_is : get_or entry.args.members.now w.wide-pair.result 0 ≡ pair_member entry.args.members.now entry.args.p
  member_is = ap (λ (q : ℕ). get_or entry.args.members.now q 0) pair_is

  member-few : get_or entry.args.members.now w.wide-pair.result 0 < 64
  member-few = omega (arith, member_is, member_below (sound entry).laid.framed (sound entry).paired entry.args.p (asked entry).pair)

-- the ids of its tuples
abbrev read : tie.After-tuple_start-end → tie.After-wide-pair
read t = t.before.before.before

row : (t : tie.After-tuple_start-end) → (let a = entry (read t) in Row (G a) a.args.p t.before.tuple_start-first.result t.tuple_start-end.result)
row t =
    let w = read t in
    let a = entry w in
    row-of (sound a) a.args.p t.before.tuple_start-first.result t.tuple_start-end.result (asked a).pair
    (t.before.tuple_start-first.ensures ∙ ap (tuple_start a.args.starts.now) (member_is w))
    (t.tuple_start-end.ensures ∙ ap (λ (r : ℕ). tuple_start a.args.starts.now (r + 1)) (member_is w))

-- ---- The needs

seeking-requires : tie.Need-seeking-pending-requires
seeking-requires c κs =
    let t = c in
    let w = read t in
    let a = entry w in
    let first = t.before.tuple_start-first.result in
    let end = t.tuple_start-end.result in
    subst (λ (b : ℕ). SeekingAt a.args.words.now a.args.starts.now a.args.members.now a.args.numbers.now b (each w) a.args.start first a.args.from end) (sym (base-is w))
    (subst (λ (n : ℕ). SeekingAt a.args.words.now a.args.starts.now a.args.members.now a.args.numbers.now (a.args.p / a.args.m * a.args.m) n a.args.start first a.args.from end) (sym (each-is w)) (seeking-asks (asked a) (row t)))

seek-together-requires : tie.Need-seek_together-left-requires
seek-together-requires c κs =
    let k = c.before.before.before in
    let w = read k.before in
    let a = entry w in (
      (((asked a).leaner.long, k.seeking-pending.ensures.long), subst (λ (Q : Joint). SoundJoint Q a.args.index.now) (sym (joint-is w)) (sound-joint (asked a))),
      (
        subst (λ (Q : Joint). Room Q a.args.start (length a.args.numbers.now)) (sym (joint-is w)) (room-joint (asked a)),
        omega (arith, ap {B = ℕ} length (part-is w), member-count (asked a), w.before.before.if-m-lt2.false),
      ),
    )

-- what was sought
abbrev sought : tie.After-seek_together-left → tie.After-seeking-pending
sought t = t.before.before.before.before

abbrev left-words : tie.After-seek_together-left → List ℕ
left-words t = t.seek_together-left.new.pending

abbrev left-numbers : tie.After-seek_together-left → List ℕ
left-numbers t = t.seek_together-left.new.numbers

found : (t : tie.After-seek_together-left) → (let k = sought t in let a = entry (read k.before) in Together (joined (asked a)) a.args.start a.args.lean.now k.seeking-pending.result (left-words t) a.args.numbers.now (left-numbers t) t.seek_together-left.result)
found t =
    let k = sought t in
    let w = read k.before in
    let a = entry w in
    subst (λ (Q : Joint). Together Q a.args.start a.args.lean.now k.seeking-pending.result (left-words t) a.args.numbers.now (left-numbers t) t.seek_together-left.result) (joint-is w) t.seek_together-left.ensures

returns : tie.Need-returns-then-m-lt2
returns c =
    let a = c.before.before.before.before.before in
    rested-none (asked a) a.args.doomed.now a.requires.1

returns-2 : tie.Need-returns-then-left-eq0
returns-2 c =
    let t = c.before.before.before in
    let k = sought t in
    let a = entry (read k.before) in
    rested (asked a) k.seeking-pending.ensures (found t) a.requires.1 (λ D. D)

returns-3 : tie.Need-returns
returns-3 c =
    let e = c.before.before.before in
    let t = e.before.before.before in
    let k = sought t in
    let a = entry (read k.before) in
    let long = (found t).frames.long in
    subst (Rested (G a) a.args.p a.args.from a.args.words.now a.args.numbers.now a.args.doomed.now (left-numbers t))
    (sym (c.put_back.ensures ∙ whole_back (left-words t) a.args.doomed.now long a.requires.1))
    (rested (asked a) k.seeking-pending.ensures (found t) long (λ _. dooms (asked a) k.seeking-pending.ensures (found t) e.if-left-eq0.false))

pub seek_rest_spec : {M : Type 1} → statement M
seek_rest_spec =
    tie.close
    (tie.spec
    returns
    (λ c κs. search rules)
    (λ c κs. search rules)
    (λ c. search rules)
    (λ c. omega (arith, div-mul-le_self c.wide-pair.result (each c)))
    (λ c. omega (arith, div-mul-le_self c.wide-pair.result (each c)))
    (λ c. search rules)
    (λ c. search rules)
    (λ c. let w = c.before in omega (arith, pair_is w, (asked (entry w)).pair))
    (λ c κs. omega (arith, member-few c.before))
    (λ c. omega (arith, member-few c.before.before))
    (λ c κs. omega (arith, member-few c.before.before))
    seeking-requires
    (λ c. let w = read c.before in omega (arith, div-mul-le_self w.wide-pair.result (each w)))
    (λ c. search rules)
    (λ c. search rules)
    (λ c. within (read c.before))
    seek-together-requires
    (λ c. search rules)
    returns-2
    (λ c κs. search rules)
    (λ c. search rules)
    returns-3)
