-- `ids_clash` finds where the tuples with two ids clash: it finds the relation and the index of each.
-- From the laws of the relation and the index of an id.
use mathlib.Core.Path.{◌≡◌, ap₂, subst, sym, ◌∙◌}
use mathlib.Core.List.{List}
use Prim.Native.Nat.{ℕ, ◌+◌, ◌-◌, ◌≤◌, ◌<◌}
use native.Mathlib.Omega.{arith}
use Rattle.model.specs.Network.{size, total, first_id, relation_of}
use Rattle.model.specs.Agreement.{first_clash, clash_number}
use Rattle.layout.specs.Starts.{tuple_start, outline, SoundStarts}
use Rattle.layout.specs.Setting.{network_in}
use Rattle.layout.proofs.SoundStarts.{id-relation, id-begun, id-index, id-back}
use Rattle.network.proofs.comparison.ids_clash.Goals as goal

-- What the number r of an id's relation, and where that one's tuples begin, say of the id.
record Found (xs : List ℕ) (g r at : ℕ) : Type 0 where
  below : r < 64
  begun : tuple_start xs r ≤ g
  index : at ≡ tuple_start xs r → g - at < size (outline xs) r
  back : at ≡ tuple_start xs r → first_id (outline xs) r + (g - at) ≡ g

found : {xs : List ℕ} → SoundStarts xs → (g r at : ℕ) → g < total (outline xs) → r ≡ relation_of (outline xs) g → Found xs g r at
found {xs} framed g r at h e =
    subst (λ (r : ℕ). Found xs g r at) (sym e)
    (record {
      below = id-relation framed g h;
      begun = id-begun framed g h;
      index = λ q. subst (λ (a : ℕ). g - a < size (outline xs) (relation_of (outline xs) g)) (sym q) (id-index framed g h);
      back = λ q. subst (λ (a : ℕ). first_id (outline xs) (relation_of (outline xs) g) + (g - a) ≡ g) (sym q) (id-back framed g h);
    })

pub tuple_start-requires : goal.tuple_start-requires
tuple_start-requires c = omega (arith, (found c.requires.laid.framed c.args.g c.relation_of-r.result 0 c.requires.first c.relation_of-r.ensures).below)

pub overflow_sub-x : goal.overflow_sub-x
overflow_sub-x c = omega (arith, (found c.requires.laid.framed c.args.g c.relation_of-r.result 0 c.requires.first c.relation_of-r.ensures).begun)

pub tuple_start-requires-2 : goal.tuple_start-requires-2
tuple_start-requires-2 c = omega (arith, (found c.requires.laid.framed c.args.h c.relation_of-s.result 0 c.requires.second c.relation_of-s.ensures).below)

pub overflow_sub-y : goal.overflow_sub-y
overflow_sub-y c = omega (arith, (found c.requires.laid.framed c.args.h c.relation_of-s.result 0 c.requires.second c.relation_of-s.ensures).begun)

pub tuples_clash-requires : goal.tuples_clash-requires
tuples_clash-requires c = record {
  laid = c.requires.laid;
  first = (found c.requires.laid.framed c.args.g c.relation_of-r.result c.tuple_start.result c.requires.first c.relation_of-r.ensures).index c.tuple_start.ensures;
  second = (found c.requires.laid.framed c.args.h c.relation_of-s.result c.tuple_start-2.result c.requires.second c.relation_of-s.ensures).index c.tuple_start-2.ensures;
}

pub returns : goal.returns
returns c =
    let N = network_in (record { variables = c.args.variables.now; values = c.args.values.now; starts = c.args.starts.now }) in
    c.tuples_clash.ensures
    ∙ ap₂ (λ (g h : ℕ). clash_number (first_clash N g h))
    ((found c.requires.laid.framed c.args.g c.relation_of-r.result c.tuple_start.result c.requires.first c.relation_of-r.ensures).back c.tuple_start.ensures)
    ((found c.requires.laid.framed c.args.h c.relation_of-s.result c.tuple_start-2.result c.requires.second c.relation_of-s.ensures).back c.tuple_start-2.ensures)
