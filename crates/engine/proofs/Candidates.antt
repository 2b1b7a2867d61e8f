-- Laws of candidates with a tuple of a pair's member.
-- From the laws of pairs, and the model's laws of candidates.
use mathlib.Core.Path.{◌≡◌, sym, subst}
use mathlib.Core.Bool.{false}
use mathlib.Core.List.{List, map, Memᴰ}
use Prim.Native.Nat.{ℕ, ◌+◌, ◌%◌, ◌≤◌, ◌<◌}
use native.Mathlib.Decide.{ℕ_discrete}
use native.Mathlib.Omega.{arith}
use lib.ListN.{length, get_or, set, replicate, length-map, get_or-replicate}
use lib.Seq.{get_or-set_same, get_or-set_other}
use Rattle.model.specs.Limits.{max_members}
use Rattle.model.specs.Lists.{earlier}
use Rattle.model.specs.Network.{Network, size, first_id, index_of}
use Rattle.model.specs.Combination.{Combination}
use Rattle.model.specs.Support.{candidates}
use Rattle.model.proofs.Lists.{earlier-least}
use Rattle.model.proofs.Support.{candidates-length, candidates-own}
use Rattle.layout.specs.Setting.{Setting, network, Sound}
use Rattle.layout.specs.Pairs.{combination_of, size_of, tuple_id}
use Rattle.layout.proofs.Pairs.{combination-length, combination-rises, member-at, place-below}

module _ (G : Setting) (sound : Sound G) (p : ℕ) (h : p < length G.members) where
  abbrev N : Network
  N = network G

  abbrev c : Combination
  c = combination_of G p

  module _ (x : ℕ) (k : x < size_of G p) (t : List ℕ) (m : Memᴰ t (candidates N c)) (n : Memᴰ (tuple_id G p x) t) where
    -- the index at the pair's place is x
    pub own-index : get_or (map (index_of N) t) (p % G.m) 0 ≡ x
    own-index =
        let e = sym (member-at sound.laid.framed sound.paired p h) in
        candidates-own N c (combination-rises sound.laid.framed sound.paired p h) m (p % G.m) x (omega (arith, place-below sound.laid.framed sound.paired p h, combination-length sound.laid.framed sound.paired p h))
        (subst (λ (r : ℕ). x < size N r) e k)
        (subst (λ (r : ℕ). Memᴰ (first_id N r + x) t) e n)

    -- so no candidate is earlier than noughts with x at the place
    pub none-earlier : earlier (map (index_of N) t) (set (replicate max_members 0) (p % G.m) x) ≡ false
    none-earlier = earlier-least (map (index_of N) t) (set (replicate max_members 0) (p % G.m) x) (λ j l. at j l (ℕ_discrete j (p % G.m)))
      where
        at : (j : ℕ) → j < length (map (index_of N) t) → Dec (j ≡ p % G.m) → get_or (set (replicate max_members 0) (p % G.m) x) j 0 ≤ get_or (map (index_of N) t) j 0
        at j l (yes e) =
            let b = place-below sound.laid.framed sound.paired p h in
            let s = get_or-set_same (replicate max_members 0) (p % G.m) x 0 (omega (arith, sound.paired.list.few)) in
            subst (λ (i : ℕ). get_or (set (replicate max_members 0) (p % G.m) x) i 0 ≤ get_or (map (index_of N) t) i 0) (sym e) (omega (arith, own-index))
        at j l (no d) =
            let b : j < max_members = omega (arith, length-map t (index_of N), candidates-length N c m, combination-length sound.laid.framed sound.paired p h, sound.paired.list.few) in
            omega (arith, get_or-set_other (replicate max_members 0) (p % G.m) j x 0 d, get_or-replicate {A = ℕ} max_members j 0 0 b)
