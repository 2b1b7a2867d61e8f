-- Laws of fresh tuples: every support has one in fewer words too, and so its tuples stay where a member is narrowed through them.
-- From the parts of a candidate, and what is gathered.
use mathlib.Core.Path.{◌≡◌, ◌∙◌, ap, ap₂, subst}
use mathlib.Core.Bool.{true}
use mathlib.Core.List.{List, map, Memᴰ}
use Prim.Native.Nat.{ℕ, ◌+◌, ◌<◌}
use native.Mathlib.Decide.{ℕ_discrete}
use native.Mathlib.Omega.{arith}
use lib.ListN.{length, get_or}
use Rattle.model.specs.Lists.{pairwise}
use Rattle.model.specs.Network.{Network, size, first_id, index_of}
use Rattle.model.specs.Agreement.{agree}
use Rattle.model.specs.Combination.{Combination}
use Rattle.model.specs.Support.{candidates}
use Rattle.model.specs.LiveWords.{is_live}
use Rattle.model.proofs.Support.{candidates-length, candidates-at, candidates-index, candidates-id}
use Rattle.value_index.specs.Index.{row_bit}
use Rattle.narrowing.specs.Narrows.{Long, KeptIds}
use Rattle.spreading.specs.Spread.{AllLive}
use Rattle.spreading.specs.Fresh.{HasFresh, Meets, GathersOthers}
use Rattle.spreading.proofs.Relations.{kept-both}
use Rattle.spreading.proofs.Kept.{agree-two}

module _ (N : Network) (c : Combination) (place : ℕ) where
  -- ---- Fewer words

  pub meets-fewer : (words less fresh : List ℕ) → ((g : ℕ) → is_live less g ≡ true → is_live words g ≡ true) → Meets N c place words fresh → Meets N c place less fresh
  meets-fewer words less fresh inside M t m a l = M t m a (λ g k. inside g (l g k))

  -- those of the fresh tuples that live
  pub meets-left : (words fresh left : List ℕ) (start end : ℕ) → KeptIds (row_bit fresh 0) start end words left → Meets N c place words fresh → Meets N c place words left
  meets-left words fresh left start end kept M t m a l =
      let o = M t m a l in
      let at = candidates-at N c m o.j (omega (arith, o.inside, candidates-length N c m)) in
      record { j = o.j; inside = o.inside; other = o.other; is-fresh = kept-both start end words fresh left kept (get_or t o.j 0) (l (get_or t o.j 0) at.0) o.is-fresh }

  -- ---- What is gathered of member j

  module _ (j : ℕ) (fresh words : List ℕ) where
    -- through the members before n
    pub record Through (before after : List ℕ) (n : ℕ) : Type 0 where
      pub long : Long after
      pub keeps : (z : ℕ) → z < size N (get_or c j 0) → is_live before (first_id N (get_or c j 0) + z) ≡ true → is_live after (first_id N (get_or c j 0) + z) ≡ true
      pub adds : (i x z : ℕ) → i < n → (i ≡ place → ⊥) → (i ≡ j → ⊥) → x < size N (get_or c i 0) → z < size N (get_or c j 0) → agree N (first_id N (get_or c i 0) + x) (first_id N (get_or c j 0) + z) ≡ true → is_live fresh (first_id N (get_or c i 0) + x) ≡ true → is_live words (first_id N (get_or c j 0) + z) ≡ true → is_live after (first_id N (get_or c j 0) + z) ≡ true

  -- a support's tuple of member j is gathered, with the fresh ones
  pub gathered-own : (j : ℕ) → j < length c → (fresh words sum : List ℕ) → GathersOthers N c place j fresh words fresh sum → Meets N c place words fresh → (t : List ℕ) → Memᴰ t (candidates N c) → pairwise (agree N) t ≡ true → AllLive words t → is_live sum (get_or t j 0) ≡ true
  gathered-own j hj fresh words sum G M t m a l = subst (λ (g : ℕ). is_live sum g ≡ true) is-j (go (ℕ_discrete o.j j))
    where
      o : HasFresh t place fresh
      o = M t m a l

      hi : o.j < length c
      hi = omega (arith, o.inside, candidates-length N c m)

      is-j : first_id N (get_or c j 0) + get_or (map (index_of N) t) j 0 ≡ get_or t j 0
      is-j = candidates-id N c m j hj

      is-i : first_id N (get_or c o.j 0) + get_or (map (index_of N) t) o.j 0 ≡ get_or t o.j 0
      is-i = candidates-id N c m o.j hi

      go : Dec (o.j ≡ j) → is_live sum (first_id N (get_or c j 0) + get_or (map (index_of N) t) j 0) ≡ true
      go (yes e) = G.keeps (get_or (map (index_of N) t) j 0) (candidates-index N c m j hj) (ap (is_live fresh) is-j ∙ subst (λ (k : ℕ). is_live fresh (get_or t k 0) ≡ true) e o.is-fresh)
      go (no d) =
          G.adds o.j (get_or (map (index_of N) t) o.j 0) (get_or (map (index_of N) t) j 0) hi o.other d (candidates-index N c m o.j hi) (candidates-index N c m j hj)
          (ap₂ (agree N) is-i is-j ∙ agree-two N c m a o.j j hi hj d)
          (ap (is_live fresh) is-i ∙ o.is-fresh)
          (ap (is_live words) is-j ∙ l (get_or t j 0) (candidates-at N c m j hj).0)
