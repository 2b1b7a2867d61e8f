-- `sides_of`: the members are divided by the sets of their variables.
-- From the laws of pairs, and of a part of a list.
use Rattle.std.proofs.Common.{◌≡◌, sym, ap, ap₂, subst, ◌∙◌, List, ℕ, ◌+◌, ◌-◌, ◌*◌, ◌/◌, ◌%◌, ◌<◌, length, get_or, take, drop, arith}
use native.Mathlib.Nat.{add-sub_cancel_left}
use Rattle.layout.specs.Starts.{records_in}
use Rattle.layout.specs.Setting.{Setting, network, Sound}
use Rattle.layout.specs.Pairs.{combination_of}
use Rattle.layout.proofs.Pairs.{combination-length, base-within, member-exists, member_of}
use Rattle.twins.specs.declared.sides.Sides.{Sides}
use Rattle.twins.specs.Sides.{Divides}
use Rattle.twins.proofs.Dividing.{apart_none, apart-whole}
use Rattle.twins.proofs.sides.sides_of.Goals as goal

-- with the pair and the number of members of a combination as they are read
module _ (G : Setting) (sound : Sound G) (p : ℕ) (inside : p < length G.members) (pair each : ℕ) (q : pair ≡ p) (e : each ≡ G.m) where
  -- the part that is handed on is the combination
  part-is : take (pair / each * each + each - pair / each * each) (drop (pair / each * each) G.members) ≡ combination_of G p
  part-is =
      ap (λ (n : ℕ). take n (drop (pair / each * each) G.members)) (add-sub_cancel_left (pair / each * each) each ∙ e)
      ∙ ap₂ (λ (k n : ℕ). take G.m (drop (k / n * n) G.members)) q e

  many : length (combination_of G p) ≡ G.m
  many = combination-length sound.laid.framed sound.paired p inside

  exist : (j : ℕ) → j < length (combination_of G p) → get_or (combination_of G p) j 0 < length (records_in G.lists.starts)
  exist j h =
      let framed = sound.laid.framed in
      let l : j < G.m = omega (arith, h, many) in
      subst (λ (r : ℕ). r < length (records_in G.lists.starts)) (sym (member_of framed sound.paired p inside j l))
      (member-exists framed sound.paired (p / G.m * G.m + j) (omega (arith, l, base-within framed sound.paired p inside)))

  -- the sides as they are divided
  divides : (place : ℕ) (sides : Sides) → place ≡ p % G.m → (let part = take (pair / each * each + each - pair / each * each) (drop (pair / each * each) G.members) in Divides (network G) part (length part) place sides) → Divides (network G) (combination_of G p) (length (combination_of G p)) (p % G.m) sides
  divides place sides d D =
      subst (λ (k : ℕ). Divides (network G) (combination_of G p) (length (combination_of G p)) k sides) d
      (subst (λ (ms : List ℕ). Divides (network G) ms (length ms) place sides) part-is D)

pub divided-sides-requires : goal.divided-sides-requires
divided-sides-requires c =
    let a = c.args in
    let G : Setting = record { lists = record { variables = a.variables.now; values = a.values.now; starts = a.starts.now }; members = a.members.now; m = a.m } in
    let sound = c.requires.sound in
    let part = part-is G sound a.p c.requires.pair c.wide.result c.wide-each.result c.wide.ensures.0 c.wide-each.ensures.0 in (
      record { laid = sound.laid; exist = subst (λ (ms : List ℕ). (j : ℕ) → j < length ms → get_or ms j 0 < length (records_in a.starts.now)) (sym part) (exist G sound a.p c.requires.pair _ _ c.wide.ensures.0 c.wide-each.ensures.0) },
      omega (arith, ap length part, many G sound a.p c.requires.pair _ _ c.wide.ensures.0 c.wide-each.ensures.0, sound.paired.list.few),
    )

pub returns-then-sides-eq0 : goal.returns-then-sides-eq0
returns-then-sides-eq0 c =
    let a = c.args in
    let G : Setting = record { lists = record { variables = a.variables.now; values = a.values.now; starts = a.starts.now }; members = a.members.now; m = a.m } in
    let sides = c.divided-sides.result in
    let D = divides G c.requires.sound a.p c.requires.pair c.wide.result c.wide-each.result c.wide.ensures.0 c.wide-each.ensures.0 _ sides (ap₂ (λ (k n : ℕ). k % n) c.wide-2.ensures.0 c.wide-each.ensures.0) c.divided-sides.ensures in
    record { nearby = D.nearby; beyond = D.beyond; apart = apart_none (network G) (combination_of G a.p) (a.p % a.m) (length (combination_of G a.p)) sides D c.if-sides-eq0.true }

pub returns : goal.returns
returns c =
    let a = c.args in
    let G : Setting = record { lists = record { variables = a.variables.now; values = a.values.now; starts = a.starts.now }; members = a.members.now; m = a.m } in
    let sides = c.divided-sides.result in
    let D = divides G c.requires.sound a.p c.requires.pair c.wide.result c.wide-each.result c.wide.ensures.0 c.wide-each.ensures.0 _ sides (ap₂ (λ (k n : ℕ). k % n) c.wide-2.ensures.0 c.wide-each.ensures.0) c.divided-sides.ensures in
    let W = apart-whole (network G) (combination_of G a.p) (a.p % a.m) (length (combination_of G a.p)) sides D in
    record { nearby = W.0.nearby; beyond = W.0.beyond; apart = W.1 }
