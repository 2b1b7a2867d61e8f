-- The table of the combinations' faults in checking order: the first test that fails is the answer.
use mathlib.Core.Path.{◌≡◌, refl, sym, ap, subst, ◌∙◌}
use mathlib.Core.Bool.{Bool, true, false, not, ◌&&◌, and-false}
use mathlib.Core.List.{List, [], ◌∷◌}
use Prim.Native.Nat.{ℕ, ◌≤◌, ◌<◌, ◌%◌, ◌/◌}
use native.Mathlib.Omega.{arith}
use borrow.Author.Tests.{le-leb, lt-leb, ltb-true, eq-eqb, ne_eqb}
use lib.Dec.{leb, ltb, eqb}
use lib.ListN.{length}
use Rattle.model.specs.Limits.{min_members, max_members, max_combinations}
use Rattle.model.specs.Lists.{all, pairwise}
use Rattle.model.specs.Network.{Network}
use Rattle.model.specs.Combination.{Combination, combinations, connected}
use Rattle.model.specs.Fault.{first_fault, refusal, within, proper_list, proper_members, combination_faults}
use Rattle.model.proofs.Bools.{and_left, and_intro}
use Rattle.model.proofs.Lists.{all_more}
use Rattle.layout.specs.Setting.{Lists, lists, network_in, SoundLists}
use Rattle.layout.specs.Starts.{relation_count}
use Rattle.layout.proofs.SoundStarts.{relation-count}
use Rattle.layout.proofs.Places.{sound}
use Rattle.combination.specs.Masks.{Masks, known, connected_in}
use Rattle.combination.specs.Proper.{below, proper}
use Rattle.combination.proofs.Reached.{masks-connected, masks-known}
use Rattle.combination.proofs.fault.Goals as goal

abbrev verdict : Bool → Bool → Bool → Bool → ℕ
verdict a b c d = refusal (first_fault ((7, not a) ∷ (8, not b) ∷ (9, not c) ∷ (10, not d) ∷ []))

abbrev answer : Network → ℕ → List ℕ → ℕ
answer N m list = refusal (first_fault (combination_faults (record { network = N; m = m; members = list })))

module _ (N : Network) (m : ℕ) (list : List ℕ) where
  abbrev few : Bool
  few = within min_members max_members m

  abbrev whole : Bool
  whole = proper_list m list

  abbrev rise : Bool
  rise = all (proper_members N) (combinations m list)

  abbrev link : Bool
  link = all (connected N) (combinations m list)

  first-7 : few ≡ false → 7 ≡ answer N m list
  first-7 a = sym (ap (λ (x : Bool). verdict x whole rise link) a)

  first-8 : few ≡ true → whole ≡ false → 8 ≡ answer N m list
  first-8 a b = sym (ap (λ (x : Bool). verdict x whole rise link) a ∙ ap (λ (x : Bool). verdict true x rise link) b)

  first-9 : few ≡ true → whole ≡ true → rise ≡ false → 9 ≡ answer N m list
  first-9 a b c = sym (ap (λ (x : Bool). verdict x whole rise link) a ∙ ap (λ (x : Bool). verdict true x rise link) b ∙ ap (λ (x : Bool). verdict true true x link) c)

  -- none of the first three: 10 or none
  first-10 : (d : Bool) → few ≡ true → whole ≡ true → rise ≡ true → link ≡ d → verdict true true true d ≡ answer N m list
  first-10 d a b c e =
      sym (ap (λ (x : Bool). verdict x whole rise link) a ∙ ap (λ (x : Bool). verdict true x rise link) b ∙ ap (λ (x : Bool). verdict true true x link) c ∙ ap (λ (x : Bool). verdict true true true x) e)

-- ---- What each test says of the table

few-absent : (m : ℕ) → m < 2 → within min_members max_members m ≡ false
few-absent m h = ap (λ (b : Bool). b && leb m max_members) (lt-leb min_members m h)

many-absent : (m : ℕ) → 4 < m → within min_members max_members m ≡ false
many-absent m h = ap (λ (b : Bool). leb min_members m && b) (lt-leb m max_members h) ∙ and-false (leb min_members m)

members-few : (m : ℕ) → 2 ≤ m → m ≤ 4 → within min_members max_members m ≡ true
members-few m low high = and_intro (le-leb min_members m low) (le-leb m max_members high)

whole-list : (m : ℕ) (list : List ℕ) → length list % m ≡ 0 → length list / m ≤ max_combinations → proper_list m list ≡ true
whole-list m list e h = and_intro (eq-eqb (length list % m) 0 e) (le-leb (length list / m) max_combinations h)

-- every member is known by the masks
members-known : {L : Lists} (laid : SoundLists L) (ms : List ℕ) → Masks (network_in L) ms → (cs : List Combination) → all (proper_members (network_in L)) cs ≡ true → all (all (known ms)) cs ≡ true
members-known {L} laid ms masks cs e =
    let N = network_in L in
    all_more (proper_members N) (all (known ms)) cs
    (λ d e.
    all_more (λ (r : ℕ). ltb r (length N.relations)) (known ms) d
    (λ r k. masks-known N ms masks (sound laid) r (ltb-true r (length N.relations) k))
    (and_left (below (length N.relations) d) (pairwise ltb d) e))
    e

pub returns-then-each-lt-MIN_MEMBERS : goal.returns-then-each-lt-MIN_MEMBERS
returns-then-each-lt-MIN_MEMBERS c =
    let N = network_in (lists (λ x. x.now) c.args.variables c.args.values c.args.starts) in
    first-7 N c.args.m c.args.members.now (few-absent c.args.m (omega arith))

pub returns-then-each-gt-MAX_MEMBERS : goal.returns-then-each-gt-MAX_MEMBERS
returns-then-each-gt-MAX_MEMBERS c =
    let N = network_in (lists (λ x. x.now) c.args.variables c.args.values c.args.starts) in
    first-7 N c.args.m c.args.members.now (many-absent c.args.m (omega arith))

pub returns-then-members-each-ne0 : goal.returns-then-members-each-ne0
returns-then-members-each-ne0 c =
    let N = network_in (lists (λ x. x.now) c.args.variables c.args.values c.args.starts) in
    let rest = ne_eqb (length c.args.members.now % c.args.m) 0 (λ e. c.if-members-each-ne0.true (rw c.wide-each.ensures.0 e)) in
    first-8 N c.args.m c.args.members.now (members-few c.args.m (omega arith) (omega arith)) (ap (λ (b : Bool). b && leb (length c.args.members.now / c.args.m) max_combinations) rest)

pub returns-then-members-each-gt-MAX_COMBINATIONS : goal.returns-then-members-each-gt-MAX_COMBINATIONS
returns-then-members-each-gt-MAX_COMBINATIONS c =
    let N = network_in (lists (λ x. x.now) c.args.variables c.args.values c.args.starts) in
    let above : max_combinations < length c.args.members.now / c.args.m = rw (← c.wide-each.ensures.0) c.if-members-each-gt-MAX_COMBINATIONS.true in
    let many = lt-leb (length c.args.members.now / c.args.m) max_combinations above in
    first-8 N c.args.m c.args.members.now (members-few c.args.m (omega arith) (omega arith))
    (ap (λ (b : Bool). eqb (length c.args.members.now % c.args.m) 0 && b) many ∙ and-false (eqb (length c.args.members.now % c.args.m) 0))

-- What holds once the first four tests are passed: of m as an index the list is whole, and the third test is of the network's members.
record Passed (N : Network) (m : ℕ) (list : List ℕ) (result : Bool) : Type 0 where
  few_pass : within min_members max_members m ≡ true
  whole_pass : proper_list m list ≡ true
  third : result ≡ all (proper_members N) (combinations m list)

passed : {L : Lists} (laid : SoundLists L) (m each count relations : ℕ) (list : List ℕ) (result : Bool) → each ≡ m → 2 ≤ each → each ≤ 4 → length list % each ≡ 0 → length list / each ≤ max_combinations
    → relations ≡ relation_count L.starts → count ≡ relations → result ≡ all (proper count) (combinations each list) → Passed (network_in L) m list result
passed {L} laid m each count relations list result e low high rest few_lists r k t =
    subst (λ (x : ℕ). Passed (network_in L) x list result) e
    (record {
      few_pass = members-few each low high;
      whole_pass = whole-list each list rest few_lists;
      third = t ∙ ap (λ (n : ℕ). all (proper n) (combinations each list)) (k ∙ r ∙ relation-count laid.framed);
    })

pub returns-then-not-all_proper : goal.returns-then-not-all_proper
returns-then-not-all_proper c =
    let N = network_in (lists (λ x. x.now) c.args.variables c.args.values c.args.starts) in
    let p = passed c.requires c.args.m c.wide-each.result c.wide.result c.relation_count.result c.args.members.now c.all_proper.result c.wide-each.ensures.0 (omega arith) (omega arith) c.if-members-each-ne0.false c.if-members-each-gt-MAX_COMBINATIONS.false c.relation_count.ensures c.wide.ensures.0 c.all_proper.ensures in
    first-9 N c.args.m c.args.members.now p.few_pass p.whole_pass (sym p.third ∙ c.if-not-all_proper.true)

pub all_connected-requires : goal.all_connected-requires
all_connected-requires c =
    let p = passed c.requires c.wide-each.result c.wide-each.result c.wide.result c.relation_count.result c.args.members.now c.all_proper.result refl (omega arith) (omega arith) c.if-members-each-ne0.false c.if-members-each-gt-MAX_COMBINATIONS.false c.relation_count.ensures c.wide.ensures.0 c.all_proper.ensures in
    record { le_m = omega arith; members_value = members-known c.requires c.masks-sets.result c.masks-sets.ensures (combinations c.wide-each.result c.args.members.now) (sym p.third ∙ c.if-not-all_proper.false) }

pub returns-then-not-all_connected : goal.returns-then-not-all_connected
returns-then-not-all_connected c =
    let N = network_in (lists (λ x. x.now) c.args.variables c.args.values c.args.starts) in
    let p = passed c.requires c.args.m c.wide-each.result c.wide.result c.relation_count.result c.args.members.now c.all_proper.result c.wide-each.ensures.0 (omega arith) (omega arith) c.if-members-each-ne0.false c.if-members-each-gt-MAX_COMBINATIONS.false c.relation_count.ensures c.wide.ensures.0 c.all_proper.ensures in
    let last : all (connected_in c.masks-sets.result) (combinations c.args.m c.args.members.now) ≡ false = rw (← c.wide-each.ensures.0) (sym c.all_connected.ensures ∙ c.if-not-all_connected.true) in
    first-10 N c.args.m c.args.members.now false p.few_pass p.whole_pass (sym p.third ∙ c.if-not-all_proper.false)
    (sym (masks-connected N c.masks-sets.result c.masks-sets.ensures (combinations c.args.m c.args.members.now)) ∙ last)

pub returns : goal.returns
returns c =
    let N = network_in (lists (λ x. x.now) c.args.variables c.args.values c.args.starts) in
    let p = passed c.requires c.args.m c.wide-each.result c.wide.result c.relation_count.result c.args.members.now c.all_proper.result c.wide-each.ensures.0 (omega arith) (omega arith) c.if-members-each-ne0.false c.if-members-each-gt-MAX_COMBINATIONS.false c.relation_count.ensures c.wide.ensures.0 c.all_proper.ensures in
    let last : all (connected_in c.masks-sets.result) (combinations c.args.m c.args.members.now) ≡ true = rw (← c.wide-each.ensures.0) (sym c.all_connected.ensures ∙ c.if-not-all_connected.false) in
    first-10 N c.args.m c.args.members.now true p.few_pass p.whole_pass (sym p.third ∙ c.if-not-all_proper.false)
    (sym (masks-connected N c.masks-sets.result c.masks-sets.ensures (combinations c.args.m c.args.members.now)) ∙ last)
