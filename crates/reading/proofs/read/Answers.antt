-- From how an instance is read from its heading, its relations and its combinations.
use Rattle.std.proofs.Common.{◌≡◌, refl, sym, subst, ◌∙◌, true, ℕ, ◌*◌, ◌≤◌, take, drop, arith, rules}
use native.Mathlib.Nat.{zero-add, mul-le-mul}
use Rattle.model.specs.Network.{Network}
use Rattle.model.specs.Edges.{max_member_list}
use Rattle.model.specs.Request.{Instance}
use Rattle.model.specs.Reading.{read_instance}
use Rattle.layout.specs.Shape.{instance_of, network_of}
use Rattle.reading.specs.Parts.{found_at, numbers_of}
use Rattle.reading.proofs.Found.{positive, found-at, found_none}
use Rattle.reading.proofs.Whole.{heading-members, instance-none, instance-broken, instance-found, read-long, read_none, read_more, read_some, filled, stands-none, stands-some}
use Rattle.reading.proofs.read.Goals as goal
use Rattle.reading.proofs.read.Goals.{After-lines-end}

-- past the combinations
abbrev whole : After-lines-end → Instance
whole c =
    let h = c.in-Some.heading in
    let r = c.relations_at-listed in
    instance_of r.result.shape (take r.result.variables r.new.variables) (take r.result.values r.new.values) h.m (take (h.combinations * h.m) c.lines-end.new.into)

instance-read : (c : After-lines-end) → read_instance c.args.text.now ≡ found_at c.lines-end.result (whole c) c.args.text.now
instance-read c =
    let t = c.args.text.now in
    let h = c.in-Some.heading in
    let r = c.relations_at-listed in
    let N : Network = network_of r.result.shape (take r.result.variables r.new.variables) (take r.result.values r.new.values) in
    let relations = sym r.ensures.read ∙ found-at t r.result.next N c.if-listed-eq0.false in
    instance-found t (numbers_of h) (drop h.next t) c.in-Some.ensures.read N (drop r.result.next t) t c.lines-end.new.into c.lines-end.result relations c.lines-end.ensures.read

pub returns-then-text-gt-MAX_TEXT : goal.returns-then-text-gt-MAX_TEXT
returns-then-text-gt-MAX_TEXT c = stands-none c.args.text.now _ _ _ _ _ _ c.nothing.result (read-long c.args.text.now c.if-text-gt-MAX_TEXT.true) c.nothing.ensures refl refl refl

pub returns-in_default : goal.returns-in_default
returns-in_default c =
    let t = c.args.text.now in
    stands-none t _ _ _ _ _ _ c.nothing-in_default.result (read_none t c.if-text-gt-MAX_TEXT.false (instance-none t c.in_default.ensures.read)) c.nothing-in_default.ensures refl refl refl

pub returns-then-listed-eq0 : goal.returns-then-listed-eq0
returns-then-listed-eq0 c =
    let t = c.args.text.now in
    let h = c.in-Some.heading in
    let r = c.relations_at-listed in
    let absent = sym r.ensures.read ∙ found_none t r.result.next (network_of r.result.shape (take r.result.variables r.new.variables) (take r.result.values r.new.values)) c.if-listed-eq0.true in
    stands-none t _ _ _ _ _ _ c.nothing-then-listed-eq0.result
    (read_none t c.if-text-gt-MAX_TEXT.false (instance-broken t (numbers_of h) (drop h.next t) c.in-Some.ensures.read absent))
    c.nothing-then-listed-eq0.ensures (search rules) (search rules) refl

pub lines-end-requires : goal.lines-end-requires
lines-end-requires c =
    let h = c.in-Some.heading in
    let small = c.in-Some.ensures.small in
    let few : h.combinations * h.m ≤ max_member_list = mul-le-mul small.3 small.2 in
    (positive c.relations_at-listed.result.next c.if-listed-eq0.false, heading-members c.args.text.now (numbers_of h) _ c.in-Some.ensures.read, omega arith)

pub returns-then-end-eq0 : goal.returns-then-end-eq0
returns-then-end-eq0 c =
    let t = c.args.text.now in
    let at = (goal.at.returns-then-end-eq0 c).After-lines-end in
    stands-none t _ _ _ _ _ _ c.nothing-then-end-eq0.result (read_none t c.if-text-gt-MAX_TEXT.false (instance-read at ∙ found_none t c.lines-end.result (whole at) c.if-end-eq0.true)) c.nothing-then-end-eq0.ensures (search rules) (search rules) (search rules)

pub returns-then-end-text : goal.returns-then-end-text
returns-then-end-text c =
    let at = (goal.at.returns-then-end-text c).After-lines-end in
    stands-none c.args.text.now _ _ _ _ _ _ c.nothing-then-end-text.result (read_more c.args.text.now c.if-text-gt-MAX_TEXT.false (whole at) c.lines-end.result (instance-read at) c.if-end-eq0.false c.if-end-text.true) c.nothing-then-end-text.ensures (search rules) (search rules) (search rules)

pub returns : goal.returns
returns c =
    let t = c.args.text.now in
    let at = (goal.at.returns c).After-lines-end in
    let h = c.in-Some.heading in
    let small = c.in-Some.ensures.small in
    let r = c.relations_at-listed in
    let rest = r.ensures.rest.2 (positive r.result.next c.if-listed-eq0.false) in
    let k = h.combinations * h.m in
    let few : k ≤ max_member_list = mul-le-mul small.3 small.2 in
    stands-some t _ _ _ _ _ _ r.result.shape h.m r.result.variables r.result.values k
    rest.0
    (read_some t c.if-text-gt-MAX_TEXT.false (whole at) c.lines-end.result (instance-read at) c.if-end-eq0.false c.if-end-text.false)
    (filled true r.result.variables _ r.new.variables (omega arith) (search rules) (λ _. rest.1))
    (filled true r.result.values _ r.new.values (omega arith) (search rules) (λ _. rest.2))
    (filled true k _ c.lines-end.new.into (omega arith) (search rules) (λ _. subst (λ (i : ℕ). drop i c.lines-end.new.into ≡ drop i c.args.members.now) (zero-add k) c.lines-end.ensures.kept))
