-- The law of one tuple more: what is known of the tuples chosen for the first k members is known with tuple x chosen for member k.
-- From the laws of the tuples chosen, and of the order of supports.
use mathlib.Core.Path.{◌≡◌, refl, sym, ◌∙◌, ap, ap₂, subst}
use mathlib.Core.Bool.{Bool, true, false, ◌&&◌, false≢true}
use mathlib.Core.List.Memᴰ
use mathlib.Core.List.{List, [], ◌∷◌, ◌++◌, Memᴰ}
use Prim.Native.Nat.{ℕ, suc, ◌≤◌, ◌<◌}
use native.Mathlib.Decide.{ℕ_discrete}
use native.Mathlib.Omega.{arith}
use lib.Dec.{eqb}
use lib.ListN.{length, get_or, take, set}
use lib.Seq.{take-suc, take-suc-set, get_or-set_same, get_or-set_other}
use borrow.Author.Tests.{eqb-true, eqb-false}
use Rattle.model.specs.Lists.{all, pairwise, earlier}
use Rattle.model.specs.Network.{Network, size}
use Rattle.model.specs.Agreement.{agree}
use Rattle.model.specs.TupleSet.{has}
use Rattle.model.proofs.Bools.{and_intro}
use Rattle.model.proofs.Lists.{all_append, pairwise_append, earlier-above, later-append}
use Rattle.support.specs.Search.{Search, net_of, live_of, id_at, seeker, SoundSearch, chosen_ids, Prefix}
use Rattle.support.proofs.Chosen.{chosen-set}

-- Tuple x may be chosen for member k.
pub record Next (Q : Search) (k : ℕ) (resumes : Bool) (chosen : List ℕ) (x : ℕ) : Type 0 where
  pub below : x < size (net_of Q) (get_or Q.members k 0)
  pub own : k ≡ Q.place → x ≡ Q.own
  pub lives : has (live_of Q) (id_at (net_of Q) Q.members k x) ≡ true
  pub agrees : (y : ℕ) → Memᴰ y (chosen_ids (net_of Q) Q.members chosen k) → agree (net_of Q) y (id_at (net_of Q) Q.members k x) ≡ true
  pub agrees-seeker : suc k ≤ Q.place → agree (net_of Q) (seeker Q) (id_at (net_of Q) Q.members k x) ≡ true
  pub low : resumes ≡ true → get_or Q.low k 0 ≤ x

module _ {Q : Search} (R : SoundSearch Q) {k : ℕ} {resumes : Bool} {chosen : List ℕ} (B : Prefix Q k resumes chosen) (inside : k < length Q.members) (sized : length chosen ≡ 4) (low-sized : length Q.low ≡ 4) (x : ℕ) where
  abbrev N : Network
  N = net_of Q

  abbrev g : ℕ
  g = id_at N Q.members k x

  abbrev ids : List ℕ
  ids = chosen_ids N Q.members chosen k

  abbrev more : List ℕ
  more = set chosen k x

  k-small : k < 4
  k-small = omega (arith, R.few)

  pub ids_more : chosen_ids N Q.members more (suc k) ≡ ids ++ (g ∷ [])
  ids_more = chosen-set N Q.members chosen k x (omega (arith, k-small))

  take_more : take (suc k) more ≡ take k chosen ++ (x ∷ [])
  take_more = take-suc-set chosen k x (omega (arith, k-small))

  -- each place up to k
  at_place : (P : ℕ → ℕ → Type 0) → ((j : ℕ) → j < k → P j (get_or chosen j 0)) → P k x → (j : ℕ) → j < suc k → P j (get_or more j 0)
  at_place P f h j l = go (ℕ_discrete j k)
    where
      go : Dec (j ≡ k) → P j (get_or more j 0)
      go (yes e) =
          subst (λ (i : ℕ). P i (get_or more i 0)) (sym e) (subst (P k) (sym (get_or-set_same chosen k x 0 (omega (arith, k-small)))) h)
      go (no d) = subst (P j) (sym (get_or-set_other chosen k j x 0 d)) (f j (omega arith))

  more-at : (b : Bool) → resumes ≡ b → (b && eqb x (get_or Q.low k 0)) ≡ true → take (suc k) more ≡ take (suc k) Q.low
  more-at true q e =
      take_more
      ∙ ap₂ (λ (is : List ℕ) (i : ℕ). is ++ (i ∷ [])) (B.at_low q) (eqb-true x (get_or Q.low k 0) e)
      ∙ sym (take-suc Q.low k 0 (omega (arith, k-small)))
  more-at false q e = absurd (false≢true e)

  more-past : Next Q k resumes chosen x → (b : Bool) → resumes ≡ b → (b && eqb x (get_or Q.low k 0)) ≡ false → earlier Q.low (take (suc k) more) ≡ true
  more-past n true q e =
      let d = eqb-false x (get_or Q.low k 0) e in
      ap (earlier Q.low) (take_more ∙ ap (λ (is : List ℕ). is ++ (x ∷ [])) (B.at_low q))
      ∙ earlier-above k x Q.low (omega (arith, k-small)) (omega (arith, n.low q))
  more-past n false q e = ap (earlier Q.low) take_more ∙ later-append (take k chosen) (x ∷ []) Q.low (B.past-low q)

  pub prefix-next : Next Q k resumes chosen x → Prefix Q (suc k) (resumes && eqb x (get_or Q.low k 0)) more
  prefix-next n =
      record {
        depth = inside;
        within = at_place (λ (j i : ℕ). i < size N (get_or Q.members j 0)) B.within n.below;
        own = λ l. at_place (λ (j i : ℕ). j ≡ Q.place → i ≡ Q.own) (λ j m q. ap (λ (i : ℕ). get_or chosen i 0) q ∙ B.own (omega arith)) n.own Q.place l refl;
        live = ap (all (has (live_of Q))) ids_more ∙ all_append (has (live_of Q)) ids (g ∷ []) B.live (and_intro n.lives refl);
        pairs = ap (pairwise (agree N)) ids_more ∙ pairwise_append (agree N) ids (g ∷ []) B.pairs refl (λ y z m i. ap (agree N y) (Memᴰ.eq_of_singleton i) ∙ n.agrees y m);
        seeker = λ l. ap (all (agree N (seeker Q))) ids_more ∙ all_append (agree N (seeker Q)) ids (g ∷ []) (B.seeker (omega arith)) (and_intro (n.agrees-seeker l) refl);
        at_low = more-at resumes refl;
        past-low = more-past n resumes refl;
      }
