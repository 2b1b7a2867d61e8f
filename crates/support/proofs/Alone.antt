-- Where the seeking tuple has no partners, there is nothing to find: what completes the tuples chosen would be some.
-- From the parts of a candidate and of a support.
use mathlib.Core.Path.{◌≡◌, sym, ◌∙◌, ap}
use mathlib.Core.Bool.{Bool}
use mathlib.Core.Option.{none}
use mathlib.Core.List.{List, ◌++◌, map}
use Prim.Native.Nat.{ℕ, ◌+◌}
use lib.ListN.{get_or, drop}
use Rattle.model.specs.Network.{first_id, ids_of}
use Rattle.model.specs.TupleSet.{has}
use Rattle.model.proofs.Lists.{all-at}
use Rattle.model.proofs.Support.{is_support-self, is_support-live, is_support-agree, candidates-at, candidates-id, candidates-own}
use Rattle.model.proofs.Search.{completion-hopeless}
use Rattle.refuting.specs.Refuted.{Alone}
use Rattle.support.specs.Search.{Search, net_of, live_of, seeker, SoundSearch, chosen_ids, Prefix, sought}
use Rattle.support.proofs.Chosen.{chosen-candidate}
use Rattle.support.proofs.Walking.{rises}

pub sought-alone : (Q : Search) → SoundSearch Q → (k : ℕ) (resumes : Bool) (chosen : List ℕ) → Prefix Q k resumes chosen → Alone (net_of Q) Q.members Q.place Q.own Q.words → sought Q k chosen ≡ none
sought-alone Q R k resumes chosen B A =
    let N = net_of Q in
    let c = Q.members in
    let S = live_of Q in
    let ids = chosen_ids N c chosen k in
    completion-hopeless N S (seeker Q) Q.low ids (map (ids_of N) (drop k c))
    (λ t p s late.
    let m = chosen-candidate N c chosen k B.depth B.within t p in
    A
    (record {
      tuples = ids ++ t;
      candidate = m;
      own = sym (candidates-id N c m Q.place R.place) ∙ ap (λ (x : ℕ). first_id N (get_or c Q.place 0) + x) (candidates-own N c (rises Q R) m Q.place Q.own R.place R.own (is_support-self N S (seeker Q) (ids ++ t) s));
      living = λ i h d. all-at (has S) (ids ++ t) (is_support-live N S (seeker Q) (ids ++ t) s) (candidates-at N c m i h).0;
      agreeing = is_support-agree N S (seeker Q) (ids ++ t) s;
    }))
