-- Lean words have the same first supports of the tuples of the member at the place: a first support has no tuple with a double, since with
-- the double put in there is an earlier one. From the laws of supports, and of one tuple put in for another.
use mathlib.Core.Path.{◌≡◌, refl, sym, ◌∙◌, ap, subst}
use mathlib.Core.Bool.{Bool, true, false}
use mathlib.Core.Option
use mathlib.Core.Option.{Option, none, some}
use mathlib.Core.List.{List, map, Memᴰ}
use Prim.Native.Nat.{ℕ, ◌+◌, ◌<◌}
use native.Mathlib.Decide.{ℕ_discrete}
use native.Mathlib.Omega.{arith}
use lib.Dec.{ltb}
use lib.ListN.{length, get_or, set, replicate, length-map, length-set}
use lib.Seq.{get_or-set_other}
use Rattle.model.specs.Limits.{no_support}
use Rattle.model.specs.Lists.{all, any, pairwise, earlier}
use Rattle.model.specs.TupleSet.{TupleSet, has}
use Rattle.model.specs.Network.{Network, size, total, first_id, index_of}
use Rattle.model.specs.Combination.{Combination}
use Rattle.model.specs.LiveWords.{is_set, is_live, living}
use Rattle.model.specs.Support.{candidates, is_support, first_support, support_from}
use Rattle.model.proofs.Bools.{and_right, iff-eq, not-both}
use Rattle.model.proofs.Lists.{all-intro, all_get_d, any_at, any-intro, get_d-mem, mem-get_d, earlier-lower}
use Rattle.model.proofs.Network.{ids-below}
use Rattle.model.proofs.LiveWords.{living-has}
use Rattle.model.proofs.Support.{Supported, is_support-intro, is_support-self, is_support-live, is_support-agree, is_support-shared, candidates-length, candidates-at, candidates-index, candidates-id, candidates-own, first_support-least, first_support-earliest, first_support-lowest}
use Rattle.model.proofs.Search.{Lowest, support_from-first, support_from-some, support_from-none}
use Rattle.model.proofs.Twins.{put-candidate, put-support, put-indices, own-agrees, twin-agrees}
use Rattle.layout.specs.Setting.{Lists, network_in}
use Rattle.lean.specs.Lean.{LeanAt, Double, Lean}

module _ {L : Lists} {c : Combination} {place : ℕ} {words lean : List ℕ} (A : LeanAt L c place) (E : Lean L c place words lean) where
  abbrev N : Network
  N = network_in L

  -- the live tuples, and those of the lean words
  abbrev S : TupleSet
  S = living (total N) words

  abbrev T : TupleSet
  T = living (total N) lean

  abbrev id : ℕ → ℕ → ℕ
  id j x = first_id N (get_or c j 0) + x

  rises : pairwise ltb c ≡ true
  rises = and_right (all (λ (r : ℕ). ltb r (length N.relations)) c) (pairwise ltb c) A.members.proper

  -- the tuples of a candidate, by their indices
  module _ {t : List ℕ} (m : Memᴰ t (candidates N c)) (j : ℕ) (h : j < length c) where
    abbrev index : ℕ
    index = get_or (map (index_of N) t) j 0

    in-set : (ws : List ℕ) → has (living (total N) ws) (get_or t j 0) ≡ is_live ws (id j index)
    in-set ws = living-has (total N) ws (get_or t j 0) (ids-below N (get_or c j 0) (candidates-at N c m j h).1) ∙ ap (is_live ws) (sym (candidates-id N c m j h))

  module _ (x : ℕ) (x-in : x < size N (get_or c place 0)) (lives : is_live words (id place x) ≡ true) where
    -- the seeking tuple
    abbrev g : ℕ
    g = id place x

    -- it stands at its place
    own : {t : List ℕ} → Memᴰ t (candidates N c) → Memᴰ g t → get_or (map (index_of N) t) place 0 ≡ x
    own m k = candidates-own N c rises m place x A.inside x-in k

    -- ---- A support in the lean words is one

    module _ {t : List ℕ} (m : Memᴰ t (candidates N c)) (e : is_support N T g t ≡ true) where
      lives_at : (j : ℕ) → j < length c → Dec (j ≡ place) → has S (get_or t j 0) ≡ true
      lives_at j h (yes q) = subst (λ (j : ℕ). has S (get_or t j 0) ≡ true) (sym q) (in-set m place A.inside words ∙ ap (λ (i : ℕ). is_live words (id place i)) (own m (is_support-self N T g t e)) ∙ lives)
      lives_at j h (no d) =
          in-set m j h words
          ∙ E.others j (index m j h) h d (candidates-index N c m j h)
          (sym (in-set m j h lean) ∙ all_get_d (has T) t j 0 (is_support-live N T g t e) (omega (arith, h, candidates-length N c m)))

      pub support-back : is_support N S g t ≡ true
      support-back =
          is_support-intro N S g t (is_support-self N T g t e)
          (all-intro (has S) t (λ z k. let q = mem-get_d t 0 k in subst (λ (z : ℕ). has S z ≡ true) q.2 (lives_at q.0 (omega (arith, q.1, candidates-length N c m)) (ℕ_discrete q.0 place))))
          (is_support-agree N T g t e)

    -- ---- The first support is in the lean words

    module _ (s : Supported N S c g) where
      first : List ℕ
      first = (first_support-least N S c g s).0

      candidate : Memᴰ first (candidates N c)
      unfolding first
      candidate = (first_support-least N S c g s).1

      is-support : is_support N S g first ≡ true
      unfolding first
      is-support = (first_support-least N S c g s).2

      indices : first_support N S c g ≡ map (index_of N) first
      unfolding first
      indices = (first_support-least N S c g s).3

      long : length first ≡ length c
      long = candidates-length N c candidate

      live_at : (j : ℕ) → j < length c → has S (get_or first j 0) ≡ true
      live_at j h = all_get_d (has S) first j 0 (is_support-live N S g first is-support) (omega (arith, h, long))

      -- it has no tuple with a double
      module _ (j : ℕ) (h : j < length c) (other : j ≡ place → ⊥) (D : Double L c j words (index candidate j h)) where
        abbrev z : ℕ
        z = index candidate j h

        abbrev y : ℕ
        y = D.repeated.y

        z-in : z < size N (get_or c j 0)
        z-in = candidates-index N c candidate j h

        y-in : y < size N (get_or c j 0)
        y-in = omega (arith, D.repeated.before, z-in)

        -- a support of the tuple at j too
        its : is_support N S (id j z) first ≡ true
        its = is_support-shared N S (id j z) g first is-support (subst (λ (w : ℕ). Memᴰ w first) (sym (candidates-id N c candidate j h)) (candidates-at N c candidate j h).0)

        -- the double put in
        abbrev put : List ℕ
        put = set first j (id j y)

        put_in : Memᴰ put (candidates N c)
        put_in = put-candidate N S c rises j h z y z-in y-in first candidate its

        y-lives : has S (id j y) ≡ true
        y-lives = living-has (total N) words (id j y) (omega (arith, below)) ∙ D.repeated.lives
          where
            below : id j y < total N
            below = let b = ids-below N (get_or c j 0) (candidates-at N c candidate j h).1 in let e = candidates-id N c candidate j h in omega (arith, b, e, D.repeated.before)

        put-supports : is_support N S (id j y) put ≡ true
        put-supports =
            put-support N S c rises j h z y z-in y-in first candidate its y-lives
            (λ i l d. sym (twin-agrees N S c rises j h (is_set D.set) D.covers z y z-in y-in D.repeated.alike first candidate i l d) ∙ own-agrees N S c rises j h z y z-in y-in first candidate its i l d)

        own_put : get_or put place 0 ≡ g
        own_put =
            get_or-set_other first j place (id j y) 0 (λ q. other (sym q))
            ∙ sym (candidates-id N c candidate place A.inside)
            ∙ ap (id place) (own candidate (is_support-self N S g first is-support))

        put-own : is_support N S g put ≡ true
        put-own =
            is_support-shared N S g (id j y) put put-supports
            (subst (λ (w : ℕ). Memᴰ w put) own_put (get_d-mem put place 0 (omega (arith, length-set first j (id j y), long, A.inside))))

        no-double : ⊥
        no-double =
            not-both
            (ap (λ (is : List ℕ). earlier is (map (index_of N) first)) (put-indices N S c rises j h z y z-in y-in first candidate its)
            ∙ earlier-lower (map (index_of N) first) j y (omega (arith, length-map first (index_of N), long, h)) D.repeated.before)
            (ap (earlier (map (index_of N) put)) (sym indices) ∙ first_support-earliest N S c g put put_in put-own)

      lean-at : (j : ℕ) → j < length c → Dec (j ≡ place) → has T (get_or first j 0) ≡ true
      lean-at j h (yes q) =
          subst (λ (j : ℕ). has T (get_or first j 0) ≡ true) (sym q)
          (in-set candidate place A.inside lean
          ∙ ap (λ (i : ℕ). is_live lean (id place i)) (own candidate (is_support-self N S g first is-support))
          ∙ E.own x x-in lives)
      lean-at j h (no d) = in-set candidate j h lean ∙ go (is_live lean (id j (index candidate j h))) refl
        where
          go : (b : Bool) → is_live lean (id j (index candidate j h)) ≡ b → is_live lean (id j (index candidate j h)) ≡ true
          go true q = q
          go false q = absurd (no-double j h d (E.doubles j (index candidate j h) h d (candidates-index N c candidate j h) (sym (in-set candidate j h words) ∙ live_at j h) q))

      first-lean : is_support N T g first ≡ true
      first-lean =
          is_support-intro N T g first (is_support-self N S g first is-support)
          (all-intro (has T) first (λ z k. let q = mem-get_d first 0 k in subst (λ (z : ℕ). has T z ≡ true) q.2 (lean-at q.0 (omega (arith, q.1, long)) (ℕ_discrete q.0 place))))
          (is_support-agree N S g first is-support)

      pub lean-supported : Supported N T c g
      lean-supported = (first, candidate, first-lean)

      pub lean-first : first_support N T c g ≡ first_support N S c g
      lean-first =
          first_support-lowest N T c g first candidate first-lean (λ u m e. ap (earlier (map (index_of N) u)) (sym indices) ∙ first_support-earliest N S c g u m (support-back m e))
          ∙ sym indices

    pub lean-back : Supported N T c g → Supported N S c g
    lean-back s = (s.0, s.1, support-back s.1 s.2)

    -- there is a support in the lean words exactly if there is one
    pub lean-any : any (is_support N T g) (candidates N c) ≡ any (is_support N S g) (candidates N c)
    lean-any =
        iff-eq (any (is_support N T g) (candidates N c)) (any (is_support N S g) (candidates N c))
        (λ e. let s = lean-back (any_at (is_support N T g) (candidates N c) e) in any-intro (is_support N S g) (candidates N c) s.1 s.2)
        (λ e. let s = lean-supported (any_at (is_support N S g) (candidates N c) e) in any-intro (is_support N T g) (candidates N c) s.1 s.2)

    -- ---- The search from a bound

    module _ (low : List ℕ) (lowest : Lowest N S g low c) where
      -- no support in the lean words is earlier
      pub lean-lowest : Lowest N T g low c
      lean-lowest u m e = lowest u m (support-back m e)

      -- what is found, if no support is earlier than low
      found : (R : TupleSet) → Lowest N R g low c → {is : List ℕ} → support_from N R c g low ≡ some is → first_support N R c g ≡ is
      found R f e = support_from-first N R g low c f ∙ ap (λ (o : Option (List ℕ)). Option.get_or o (replicate (length c) no_support)) e

      -- the search finds the same
      pub lean-from : support_from N T c g low ≡ support_from N S c g low
      lean-from = go (support_from N T c g low) refl (support_from N S c g low) refl
        where
          go : (a : Option (List ℕ)) → support_from N T c g low ≡ a → (b : Option (List ℕ)) → support_from N S c g low ≡ b → support_from N T c g low ≡ support_from N S c g low
          go none p none q = p ∙ sym q
          go none p (some is) q = absurd (support_from-none N T g low c lean-lowest p (lean-supported (support_from-some N S g low c is q)))
          go (some is) p none q = absurd (support_from-none N S g low c lowest q (lean-back (support_from-some N T g low c is p)))
          go (some is) p (some js) q =
              p
              ∙ ap {B = Option (List ℕ)} (λ ks. some ks) (sym (found T lean-lowest p) ∙ lean-first (support_from-some N S g low c js q) ∙ found S lowest q)
              ∙ sym q
