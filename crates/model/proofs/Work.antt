-- Laws of the filter's work: what the removal of one tuple leaves as it was, and when the work is done.
-- From the laws of supports and of filtering; no order of work is assumed.
use mathlib.Core.Path.{◌≡◌, sym, ◌∙◌, ap, subst}
use mathlib.Core.Bool.{true, not}
use mathlib.Core.List.{List, map, Memᴰ}
use Prim.Native.Nat.{ℕ}
use lib.Dec.{eqb, ltb}
use lib.ListN.{length, replicate}
use borrow.Author.Tests.{ne_eqb}
use Rattle.model.specs.Limits.{no_support}
use Rattle.model.specs.Lists.{first_or, pairwise}
use Rattle.model.specs.TupleSet.{TupleSet, has, without, Inside}
use Rattle.model.specs.Network.{Network, relation_of, index_of}
use Rattle.model.specs.Combination.{Combination}
use Rattle.model.specs.Support.{candidates, is_support, supports, first_support}
use Rattle.model.specs.Consistency.{filtered}
use Rattle.model.proofs.Bools.{iff-eq}
use Rattle.model.proofs.Lists.{all-at, all-intro, select-cong}
use Rattle.model.proofs.TupleSet.{restrict-intro, restrict-inside, without-length, inside-eq}
use Rattle.model.proofs.Support.{Supported, is_support-intro, is_support-self, is_support-live, is_support-agree, is_support-mono, is_support-shared, candidates-picks, candidates-member, picks-same}
use Rattle.model.proofs.Consistency.{supported-at, supported-intro, filtered-largest, filtered-length, filtered-mono, filtered-consistent}

module _ (N : Network) where
  -- ---- Removing tuple g

  module _ (S : TupleSet) (g : ℕ) where
    abbrev rest : TupleSet
    rest = without (eqb g) S

    rest-inside : Inside rest S
    rest-inside = restrict-inside (λ h. not (eqb g h)) S

    rest_has : (h : ℕ) → has S h ≡ true → (g ≡ h → ⊥) → has rest h ≡ true
    rest_has h e d = restrict-intro (λ h. not (eqb g h)) S h e (ap not (ne_eqb g h d))

    -- a support without g stands
    support-stays : (h : ℕ) (t : List ℕ) → (Memᴰ g t → ⊥) → is_support N S h t ≡ true → is_support N rest h t ≡ true
    support-stays h t d e =
        is_support-intro N rest h t (is_support-self N S h t e)
        (all-intro (has rest) t (λ x m. rest_has x (all-at (has S) t (is_support-live N S h t e) m) (λ q. d (subst (λ (y : ℕ). Memᴰ y t) (sym q) m))))
        (is_support-agree N S h t e)

    -- no support of h in c holds g
    abbrev pub Unused : Combination → ℕ → Type 0
    Unused c h = (t : List ℕ) → Memᴰ t (candidates N c) → is_support N S h t ≡ true → Memᴰ g t → ⊥

    -- then all supports of h in c are as before, and the first with them
    pub supports-without : (c : Combination) (h : ℕ) → Unused c h → supports N rest c h ≡ supports N S c h
    unfolding supports
    supports-without c h d =
        select-cong (is_support N rest h) (is_support N S h) (candidates N c)
        (λ t m. iff-eq (is_support N rest h t) (is_support N S h t) (is_support-mono N rest S rest-inside h t) (λ e. support-stays h t (d t m e) e))

    pub first_support-without : (c : Combination) (h : ℕ) → Unused c h → first_support N rest c h ≡ first_support N S c h
    unfolding first_support
    first_support-without c h d =
        ap (λ (ts : List (List ℕ)). first_or (replicate (length c) no_support) (map (map (index_of N)) ts)) (supports-without c h d)

    -- a tuple with a support keeps it
    pub supported-without : (c : Combination) (h : ℕ) → Unused c h → Supported N S c h → Supported N rest c h
    supported-without c h d s = (s.0, s.1, support-stays h s.0 (d s.0 s.1 s.2) s.2)

    -- ---- Three reasons why g is in no support of h

    -- g has no support in c itself
    pub unused-unsupported : (c : Combination) (h : ℕ) → (Supported N S c g → ⊥) → Unused c h
    unused-unsupported c h d t m e k = d (t, m, is_support-shared N S g h t e k)

    -- c does not hold g's relation
    pub unused-elsewhere : (c : Combination) (h : ℕ) → (Memᴰ (relation_of N g) c → ⊥) → Unused c h
    unused-elsewhere c h d t m e k = d (candidates-member N c m k)

    -- h is another tuple of g's relation
    pub unused-sibling : (c : Combination) (h : ℕ) → pairwise ltb c ≡ true → relation_of N h ≡ relation_of N g → (g ≡ h → ⊥) → Unused c h
    unused-sibling c h rise q d t m e k = d (picks-same N c rise (candidates-picks N c m) k (is_support-self N S h t e) (sym q))

  -- ---- What is left does not change, and the end

  -- a tuple without a support in a combination that holds its relation is in no consistent subset
  pub filtered-remove : (cs : List Combination) (S : TupleSet) (g : ℕ) (c : Combination) → Memᴰ c cs → Memᴰ (relation_of N g) c → (Supported N S c g → ⊥) → filtered N cs (without (eqb g) S) ≡ filtered N cs S
  filtered-remove cs S g c m n d =
      inside-eq (filtered N cs (without (eqb g) S)) (filtered N cs S)
      (filtered-length N cs (without (eqb g) S) ∙ without-length (eqb g) S ∙ sym (filtered-length N cs S))
      (filtered-mono N cs (without (eqb g) S) S (rest-inside S g))
      ((filtered-largest N cs (without (eqb g) S)).above (filtered N cs S) (filtered-largest N cs S).consistent
      (λ h k. rest_has S g h ((filtered-largest N cs S).inside h k) (λ q. d (kept h k q))))
    where
      -- were g kept, it would have a support
      kept : (h : ℕ) → has (filtered N cs S) h ≡ true → g ≡ h → Supported N S c g
      kept h k q =
          let e = subst (λ (x : ℕ). has (filtered N cs S) x ≡ true) (sym q) k in
          let s = supported-at N cs (filtered N cs S) g c ((filtered-largest N cs S).consistent g e) m n in
          (s.0, s.1, is_support-mono N (filtered N cs S) S (filtered-largest N cs S).inside g s.0 s.2)

  -- when every live tuple has its supports, what lives is what filtering leaves
  pub filtered-done : (cs : List Combination) (S : TupleSet) → ((c : Combination) → Memᴰ c cs → (h : ℕ) → has S h ≡ true → Memᴰ (relation_of N h) c → Supported N S c h) → filtered N cs S ≡ S
  filtered-done cs S every = filtered-consistent N cs S (λ g e. supported-intro N cs S g (λ c m n. every c m g e n))
