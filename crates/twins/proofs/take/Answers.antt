-- `take`: where the numbers of either twin are is found by how far it is before x.
-- From the laws of twins.
use Rattle.std.proofs.Common.{◌≡◌, sym, ap, ap₂, subst, ◌∙◌, List, ℕ, ◌-◌, ◌*◌, ◌%◌, ◌<◌, length, take, set, arith, rules}
use Rattle.layout.specs.Setting.{Setting}
use Rattle.layout.specs.Pairs.{place_of}
use Rattle.worklist.specs.Supports.{replaced}
use Rattle.twins.specs.declared.Twin.TheVariants as twin
use Rattle.twins.specs.Twins.{TwinAt, LoadsSides, Outcome}
use Rattle.twins.proofs.Taking.{numbers-within, earlier-in, place-back, loaded-within, taken}
use Rattle.twins.proofs.take.Goals as goal

module _ {G : Setting} {words numbers : List ℕ} {p x place : ℕ} (A : TwinAt G words numbers p x place) where
  -- the numbers of an earlier tuple
  back-is : (y back each : ℕ) → y < x → back ≡ x - y → each ≡ G.m → place - back * each ≡ place_of G p y
  back-is y back each l b e = ap₂ (λ (k n : ℕ). place - k * n) b e ∙ place-back A y l

  loads : (y z near far each places : ℕ) (tuples : List ℕ) → near ≡ place_of G p y → far ≡ place_of G p z → each ≡ G.m → LoadsSides numbers near far each places tuples → LoadsSides numbers (place_of G p y) (place_of G p z) G.m places tuples
  loads y z near far each places tuples n f e L = rw (← n, ← f, ← e) L

pub load_sides-tuples-requires : goal.load_sides-tuples-requires
load_sides-tuples-requires c =
    let a = c.args in
    let A = c.requires.twin_at.0 in
    let live = c.requires.twins.1 in
    let each = c.wide-each.ensures.0 in
    let near = back-is A a.y c.wide.result c.wide-each.result live.y-before c.wide.ensures.0 each in
    let far = back-is A a.z c.wide-2.result c.wide-each.result live.z-before c.wide-2.ensures.0 each in
    omega (
      arith,
      each,
      near,
      far,
      numbers-within A a.y (earlier-in A a.y live.y-before),
      numbers-within A a.z (earlier-in A a.z live.z-before),
      A.at.sound.paired.list.few,
    )

pub agrees_with-requires : goal.agrees_with-requires
agrees_with-requires c =
    let a = c.args in
    let A = c.requires.twin_at.0 in
    let live = c.requires.twins.1 in
    let each = c.wide-each.ensures.0 in
    let near = back-is A a.y c.wide.result c.wide-each.result live.y-before c.wide.ensures.0 each in
    let far = back-is A a.z c.wide-2.result c.wide-each.result live.z-before c.wide-2.ensures.0 each in
    record {
      at = A.at;
      index = A.index;
      within = loaded-within A a.sides c.requires.twin_at.1 a.y a.z c.requires.twins.0 live c.load_sides-tuples.result
          (loads A a.y a.z _ _ c.wide-each.result a.sides.places c.load_sides-tuples.result near far each c.load_sides-tuples.ensures);
    }

pub store-requires : goal.store-requires
store-requires c =
    let A = c.requires.twin_at.0 in
    omega (arith, c.wide-each.ensures.0, A.begins, numbers-within A c.args.x A.index, A.at.sound.paired.list.few)

pub returns : goal.returns
returns c =
    let a = c.args in
    let A = c.requires.twin_at.0 in
    let G : Setting = record { lists = record { variables = a.variables.now; values = a.values.now; starts = a.starts.now }; members = a.members.now; m = a.m } in
    let live = c.requires.twins.1 in
    let each = c.wide-each.ensures.0 in
    let near = back-is A a.y c.wide.result c.wide-each.result live.y-before c.wide.ensures.0 each in
    let far = back-is A a.z c.wide-2.result c.wide-each.result live.z-before c.wide-2.ensures.0 each in
    let tuples = c.load_sides-tuples.result in
    let four : length tuples ≡ 4 = search rules in
    subst (Outcome G a.p a.x a.words.now a.numbers.now twin.Taken)
    (sym
    (c.store.ensures
    ∙ ap (λ (is : List ℕ). replaced a.numbers.now (take c.wide-each.result is) a.at c.wide-each.result) c.put-own.ensures
    ∙ ap₂ (λ (k i : ℕ). replaced a.numbers.now (take k (set tuples (i % k) a.x)) a.at k) each c.wide-3.ensures.0))
    (taken A a.sides c.requires.twin_at.1 a.y a.z c.requires.twins.0 live tuples
    (loads A a.y a.z _ _ c.wide-each.result a.sides.places tuples near far each c.load_sides-tuples.ensures)
    (omega (arith, four, A.at.sound.paired.list.few)) (c.agrees_with.ensures c.if-not-agrees_with.false))
