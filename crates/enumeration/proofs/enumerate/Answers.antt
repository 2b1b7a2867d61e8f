-- The first fault is found, or what there is is listed. From the order of the faults, and the bridge from no fault to sound lists.
use Rattle.std.proofs.Common.{◌≡◌, ◌∙◌, sym, refl, ap₂, true, ◌*◌, ◌≤◌, length, arith}
use Rattle.std.proofs.Math.Option.{none}
use Rattle.std.proofs.lemmas.Bool.Decides.{nat_tests}
use Rattle.model.specs.Limits.{min_members, max_members, max_combinations}
use Rattle.model.specs.Network.{Network}
use Rattle.model.specs.Fault.{first_fault, within, network_faults}
use Rattle.model.specs.Enumeration.{connected_combinations}
use Rattle.model.proofs.Fault.{refusal-some, refusal-none}
use Rattle.layout.specs.Shape.{network_of}
use Rattle.layout.proofs.Checked.{opened-network, opened-laid}
use Rattle.enumeration.specs.Adds.{Adds}
use Rattle.enumeration.proofs.Answered.{first-network, first-7, first-15, first-16, first-none, found-refused, found-listed, adds_same}
use Rattle.enumeration.proofs.enumerate.Goals as goal
use Rattle.enumeration.proofs.enumerate.Goals.{Else-f-ne0, Else-each-gt-MAX_MEMBERS, After-list_all-n}

sound : (c : Else-f-ne0) → first_fault (network_faults (network_of c.args.shape c.args.variables.now c.args.values.now)) ≡ none
sound c = refusal-none (network_faults (network_of c.args.shape c.args.variables.now c.args.values.now)) refl (sym c.fault-f.ensures ∙ c.if-f-ne0.false)

-- the number of members is one of those allowed
proper : (c : Else-each-gt-MAX_MEMBERS) → within min_members max_members c.args.m ≡ true
proper c = grind (arith, nat_tests, c.wide-each.ensures.0)

-- what is listed is of the network given
listed : (c : After-list_all-n) → let N : Network = network_of c.args.shape c.args.variables.now c.args.values.now in first_fault (network_faults N) ≡ none → Adds c.args.m (connected_combinations N c.args.m) 0 c.args.list.now c.list_all-n.result c.list_all-n.new.list
listed c sound =
    adds_same (opened-network c.args.shape c.args.variables.now c.args.values.now c.starts_of-starts.result c.starts_of-starts.ensures sound) c.wide-each.ensures.0 c.list_all-n.ensures

pub returns-then-f-ne0 : goal.returns-then-f-ne0
returns-then-f-ne0 c =
    let N : Network = network_of c.args.shape c.args.variables.now c.args.values.now in
    found-refused N c.args.m c.args.room c.fault-f.result _
    (first-network N c.args.m c.args.room c.fault-f.result (refusal-some (first_fault (network_faults N)) c.fault-f.result (sym c.fault-f.ensures) c.if-f-ne0.true))

pub returns-then-each-lt-MIN_MEMBERS : goal.returns-then-each-lt-MIN_MEMBERS
returns-then-each-lt-MIN_MEMBERS c =
    let N : Network = network_of c.args.shape c.args.variables.now c.args.values.now in
    found-refused N c.args.m c.args.room 7 _ (first-7 N c.args.m c.args.room (sound (goal.at.returns-then-each-lt-MIN_MEMBERS c).Else-f-ne0) (grind (arith, nat_tests, c.wide-each.ensures.0)))

pub returns-then-each-gt-MAX_MEMBERS : goal.returns-then-each-gt-MAX_MEMBERS
returns-then-each-gt-MAX_MEMBERS c =
    let N : Network = network_of c.args.shape c.args.variables.now c.args.values.now in
    found-refused N c.args.m c.args.room 7 _ (first-7 N c.args.m c.args.room (sound (goal.at.returns-then-each-gt-MAX_MEMBERS c).Else-f-ne0) (grind (arith, nat_tests, c.wide-each.ensures.0)))

pub list_all-n-requires : goal.list_all-n-requires
list_all-n-requires c =
    let s = sound (goal.at.list_all-n-requires c).Else-f-ne0 in
    (opened-laid c.args.shape c.args.variables.now c.args.values.now c.starts_of-starts.result c.starts_of-starts.ensures s, (omega arith, omega arith), c.requires)

pub returns-then-wide-gt-MAX_COMBINATIONS : goal.returns-then-wide-gt-MAX_COMBINATIONS
returns-then-wide-gt-MAX_COMBINATIONS c =
    let at = goal.at.returns-then-wide-gt-MAX_COMBINATIONS c in
    let N : Network = network_of c.args.shape c.args.variables.now c.args.values.now in
    let s = sound at.Else-f-ne0 in
    let many = (listed at.After-list_all-n s).over in
    found-refused N c.args.m c.args.room 15 _ (first-15 N c.args.m c.args.room s (proper at.Else-each-gt-MAX_MEMBERS) (omega (arith, c.wide.ensures.0, many)))

pub returns-then-room-wide : goal.returns-then-room-wide
returns-then-room-wide c =
    let at = goal.at.returns-then-room-wide c in
    let N : Network = network_of c.args.shape c.args.variables.now c.args.values.now in
    let s = sound at.Else-f-ne0 in
    let few : c.list_all-n.result ≤ max_combinations = omega (arith, c.wide.ensures.0) in
    let count : c.wide-2.result ≡ length (connected_combinations N c.args.m) = omega (arith, c.wide-2.ensures.0, (listed at.After-list_all-n s).counted few) in
    let numbers = ap₂ (λ n m. n * m) count c.wide-each.ensures.0 in
    found-refused N c.args.m c.args.room 16 _
    (first-16 N c.args.m c.args.room s (proper at.Else-each-gt-MAX_MEMBERS) (omega (arith, few, count, c.wide-2.ensures.0)) (omega (arith, c.if-room-wide.true, numbers)))

pub returns : goal.returns
returns c =
    let at = goal.at.returns c in
    let N : Network = network_of c.args.shape c.args.variables.now c.args.values.now in
    let s = sound at.Else-f-ne0 in
    let few : c.list_all-n.result ≤ max_combinations = omega (arith, c.wide.ensures.0) in
    let count : c.wide-2.result ≡ length (connected_combinations N c.args.m) = omega (arith, c.wide-2.ensures.0, (listed at.After-list_all-n s).counted few) in
    let numbers = ap₂ (λ n m. n * m) count c.wide-each.ensures.0 in
    found-listed N c.args.m c.args.room c.list_all-n.result c.args.list.now _
    (first-none N c.args.m c.args.room s (proper at.Else-each-gt-MAX_MEMBERS) (omega (arith, few, count, c.wide-2.ensures.0)) (omega (arith, c.if-room-wide.false, numbers)))
    few (listed at.After-list_all-n s)
