-- Laws of narrowing: of the live tuples, those that agree with a tuple y are enough to find the supports that hold y, and those of all live
-- candidates that agree are enough to find every support.
-- From the parts of a support, and the laws of lists and of agreement.
use mathlib.Core.Path.{◌≡◌, ap, subst}
use mathlib.Core.Bool.{true, not}
use mathlib.Core.List.Memᴰ
use mathlib.Core.List.{List, ◌++◌, map, head?, Memᴰ}
use Prim.Native.Nat.{ℕ}
use native.Mathlib.Decide.{ℕ_discrete}
use Rattle.model.specs.Lists.{all, select, pairwise, choices, earlier}
use Rattle.model.specs.TupleSet.{TupleSet, has, Inside}
use Rattle.model.specs.Network.{Network, index_of}
use Rattle.model.specs.Agreement.{agree}
use Rattle.model.specs.Combination.{Combination}
use Rattle.model.specs.Support.{candidates, is_support, first_among, support_from, completion}
use Rattle.model.proofs.Bools.{iff-eq}
use Rattle.model.proofs.Lists.{all-at, all-intro, pairwise-at, select-cong, Picks, choices-picks}
use Rattle.model.proofs.Agreement.{agree-sym}
use Rattle.model.proofs.Support.{is_support-intro, is_support-self, is_support-live, is_support-agree, is_support-mono}

-- T lies in S and has all of S that agrees with y, and y itself.
pub record Narrower (N : Network) (y : ℕ) (S T : TupleSet) : Type 0 where
  pub inside : Inside T S
  pub keeps : (g : ℕ) → has S g ≡ true → agree N y g ≡ true → has T g ≡ true
  pub itself : has S y ≡ true → has T y ≡ true

module _ (N : Network) (y : ℕ) (S T : TupleSet) (W : Narrower N y S T) where
  -- tuples of which every two agree, y among them, stay
  pub narrow-all : (t : List ℕ) → Memᴰ y t → pairwise (agree N) t ≡ true → all (has S) t ≡ true → all (has T) t ≡ true
  narrow-all t m a l = all-intro (has T) t (λ g k. stays g k (ℕ_discrete y g))
    where
      stays : (g : ℕ) → Memᴰ g t → Dec (y ≡ g) → has T g ≡ true
      stays g k (yes e) = subst (λ (x : ℕ). has T x ≡ true) e (W.itself (all-at (has S) t l m))
      stays g k (no d) = W.keeps g (all-at (has S) t l k) (pairwise-at (agree N) (agree-sym N) t a m k d)

  module _ (g : ℕ) where
    is_support-narrow : (t : List ℕ) → (is_support N S g t ≡ true → Memᴰ y t) → is_support N T g t ≡ is_support N S g t
    is_support-narrow t f =
        iff-eq (is_support N T g t) (is_support N S g t)
        (is_support-mono N T S W.inside g t)
        (λ e.
        let a = is_support-agree N S g t e in
        is_support-intro N T g t (is_support-self N S g t e) (narrow-all t (f e) a (is_support-live N S g t e)) a)

    first_among-narrow : (low : List ℕ) (ts : List (List ℕ)) → ((t : List ℕ) → Memᴰ t ts → is_support N S g t ≡ true → Memᴰ y t) → first_among N T g low ts ≡ first_among N S g low ts
    unfolding first_among
    first_among-narrow low ts f =
        ap (λ (us : List (List ℕ)). head? (select (λ (is : List ℕ). not (earlier is low)) (map (map (index_of N)) us)))
        (select-cong (is_support N T g) (is_support N S g) ts (λ t m. is_support-narrow t (f t m)))

    -- the same is found where y is one of the tuples chosen
    pub completion-narrow : (low ch : List ℕ) (xss : List (List ℕ)) → Memᴰ y ch → completion N T g low ch xss ≡ completion N S g low ch xss
    unfolding completion
    completion-narrow low ch xss m =
        first_among-narrow low (map (λ (t : List ℕ). ch ++ t) (choices xss))
        (λ u k e. let i = Memᴰ.of_map (λ (t : List ℕ). ch ++ t) (choices xss) k in subst (Memᴰ y) i.2 (Memᴰ.append_left i.0 m))

  -- and where y is the tuple that seeks a support
  pub support_from-narrow : (c : Combination) (low : List ℕ) → support_from N T c y low ≡ support_from N S c y low
  unfolding support_from
  support_from-narrow c low = first_among-narrow y low (candidates N c) (λ t m e. is_support-self N S y t e)

-- ---- Whatever the seeking tuple is

-- T lies in S and has all candidates of a combination that are live and agree.
pub record Enough (N : Network) (c : Combination) (S T : TupleSet) : Type 0 where
  pub inside : Inside T S
  pub keeps : (t : List ℕ) → Memᴰ t (candidates N c) → pairwise (agree N) t ≡ true → all (has S) t ≡ true → all (has T) t ≡ true

module _ (N : Network) (c : Combination) (S T : TupleSet) (W : Enough N c S T) (g : ℕ) (low : List ℕ) where
  first_among-enough : (ts : List (List ℕ)) → ((t : List ℕ) → Memᴰ t ts → Memᴰ t (candidates N c)) → first_among N T g low ts ≡ first_among N S g low ts
  unfolding first_among
  first_among-enough ts within =
      ap (λ (us : List (List ℕ)). head? (select (λ (is : List ℕ). not (earlier is low)) (map (map (index_of N)) us)))
      (select-cong (is_support N T g) (is_support N S g) ts
      (λ t m.
      iff-eq (is_support N T g t) (is_support N S g t)
      (is_support-mono N T S W.inside g t)
      (λ e. let a = is_support-agree N S g t e in is_support-intro N T g t (is_support-self N S g t e) (W.keeps t (within t m) a (is_support-live N S g t e)) a)))

  -- the same is found with tuples chosen
  pub completion-enough : (ch : List ℕ) (xss : List (List ℕ)) → ((t : List ℕ) → Picks xss t → Memᴰ (ch ++ t) (candidates N c)) → completion N T g low ch xss ≡ completion N S g low ch xss
  unfolding completion
  completion-enough ch xss within =
      first_among-enough (map (λ (t : List ℕ). ch ++ t) (choices xss))
      (λ u k. let i = Memᴰ.of_map (λ (t : List ℕ). ch ++ t) (choices xss) k in subst (λ (t : List ℕ). Memᴰ t (candidates N c)) i.2 (within i.0 (choices-picks xss i.1)))

  -- and with none
  pub support_from-enough : support_from N T c g low ≡ support_from N S c g low
  unfolding support_from
  support_from-enough = first_among-enough (candidates N c) (λ t m. m)
