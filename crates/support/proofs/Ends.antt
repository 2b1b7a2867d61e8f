-- Laws of the search's two ends: no member has its tuple yet, and every member has its tuple.
-- From what a search asks, the laws of the tuples chosen and of the search.
use mathlib.Core.Path.{◌≡◌, refl, ◌∙◌, ap, subst}
use mathlib.Core.Bool.{Bool, true, false, true≢false}
use mathlib.Core.Option.{Option, none, some}
use mathlib.Core.List.{List, map, Memᴰ}
use Prim.Native.Nat.{ℕ, ◌<◌}
use native.Mathlib.Omega.{arith}
use lib.ListN.{length, take}
use lib.Seq.{drop-length}
use Rattle.model.specs.Lists.{earlier}
use Rattle.model.specs.Network.{total, index_of}
use Rattle.model.specs.TupleSet.{has}
use Rattle.model.specs.Support.{support_from}
use Rattle.model.proofs.Bools.{not-both}
use Rattle.model.proofs.Lists.{all-at, earlier-take, later-earlier}
use Rattle.model.proofs.Support.{is_support-intro, is_support-self, is_support-live}
use Rattle.model.proofs.Search.{completion-start, completion-done, support_from-some}
use Rattle.support.specs.Search.{Search, net_of, live_of, id_at, seeker, SoundSearch, chosen_ids, Prefix, sought}
use Rattle.support.proofs.Chosen.{chosen-mem, chosen-indices}
use Rattle.support.proofs.Walking.{member-within}

-- ---- No member has its tuple yet

pub prefix-none : (Q : Search) (chosen : List ℕ) → Prefix Q 0 true chosen
unfolding chosen_ids
prefix-none Q chosen =
    record {
      depth = omega arith;
      within = λ j l. absurd (omega arith);
      own = λ l. absurd (omega arith);
      live = refl;
      pairs = refl;
      seeker = λ l. refl;
      at_low = λ e. refl;
      past-low = λ e. absurd (true≢false e);
    }

-- what there is to find then is the first support at or after the bound
pub sought-first : (Q : Search) (chosen : List ℕ) → sought Q 0 chosen ≡ support_from (net_of Q) (live_of Q) Q.members (seeker Q) Q.low
unfolding chosen_ids
sought-first Q chosen = completion-start (net_of Q) (live_of Q) (seeker Q) Q.low Q.members

-- ---- Every member has its tuple

module _ (Q : Search) (R : SoundSearch Q) (resumes : Bool) (chosen : List ℕ) (sized : length chosen ≡ 4) where
  abbrev all_ids : List ℕ
  all_ids = chosen_ids (net_of Q) Q.members chosen (length Q.members)

  late : (b : Bool) → resumes ≡ b → Prefix Q (length Q.members) resumes chosen → earlier (take (length Q.members) chosen) Q.low ≡ false
  late true e B = ap (λ (is : List ℕ). earlier is Q.low) (B.at_low e) ∙ earlier-take (length Q.members) Q.low
  late false e B = later-earlier (take (length Q.members) chosen) Q.low (B.past-low e)

  pub turn-done : (k : ℕ) → k ≡ length Q.members → Prefix Q k resumes chosen → sought Q k chosen ≡ some (take (length Q.members) chosen)
  turn-done k e B₀ =
      let N = net_of Q in
      let c = Q.members in
      let B : Prefix Q (length c) resumes chosen = subst (λ (j : ℕ). Prefix Q j resumes chosen) e B₀ in
      let names : map (index_of N) all_ids ≡ take (length c) chosen = chosen-indices N c chosen (length c) (omega (arith, R.few)) B.within in
      let own_in : Memᴰ (seeker Q) all_ids = subst (λ (x : ℕ). Memᴰ (id_at N c Q.place x) all_ids) (B.own R.place) (chosen-mem N c chosen (length c) Q.place R.place) in
      rw (e, drop-length c)
      (completion-done N (live_of Q) (seeker Q) Q.low all_ids (is_support-intro N (live_of Q) (seeker Q) all_ids own_in B.live B.pairs)
      (ap (λ (is : List ℕ). earlier is Q.low) names ∙ late resumes refl B)
      ∙ ap {B = Option (List ℕ)} some names)

-- ---- The seeking tuple is dead

pub seeker-below : (Q : Search) → SoundSearch Q → seeker Q < total (net_of Q)
seeker-below Q R = omega (arith, R.own, member-within Q R Q.place R.place)

pub sought-dead : (Q : Search) → has (live_of Q) (seeker Q) ≡ false → support_from (net_of Q) (live_of Q) Q.members (seeker Q) Q.low ≡ none
sought-dead Q d = go (support_from (net_of Q) (live_of Q) Q.members (seeker Q) Q.low) refl
  where
    go : (o : Option (List ℕ)) → support_from (net_of Q) (live_of Q) Q.members (seeker Q) Q.low ≡ o → support_from (net_of Q) (live_of Q) Q.members (seeker Q) Q.low ≡ none
    go none e = e
    go (some is) e =
        let S = support_from-some (net_of Q) (live_of Q) (seeker Q) Q.low Q.members is e in
        absurd (not-both (all-at (has (live_of Q)) S.0 (is_support-live (net_of Q) (live_of Q) (seeker Q) S.0 S.2) (is_support-self (net_of Q) (live_of Q) (seeker Q) S.0 S.2)) d)
