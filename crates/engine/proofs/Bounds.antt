-- Laws of the numbers held for a tuple: they are its first support, or a bound from which the search finds that.
-- From what holds while the filter works, and the model's laws of candidates and of the search.
use mathlib.Core.Path.{◌≡◌, refl, sym, ◌∙◌, ap, ap₂, subst}
use mathlib.Core.Bool.{Bool, true, false, cond, true≢false}
use mathlib.Core.Logic.{◌⊎◌, inl, inr, ⊎_elim}
use mathlib.Core.Option
use mathlib.Core.Option.{Option, some}
use mathlib.Core.List.{List, ◌++◌, map, map-id, Memᴰ}
use Prim.Native.Nat.{ℕ, ◌+◌, ◌-◌, ◌*◌, ◌/◌, ◌%◌, ◌≤◌, ◌<◌}
use native.Mathlib.Decide.{ℕ_discrete}
use native.Mathlib.Omega.{arith}
use lib.Dec.{eqb}
use lib.ListN.{length, get_or, take, drop, set, replicate, length-map, length-drop, get_or-replicate, get_or-append}
use lib.Seq.{length-take-le, take_all, take_at, get_or-take, get_or-drop, get_or-set_same, get_or-set_other}
use borrow.Author.Tests.{eq-eqb, ne_eqb}
use Rattle.model.specs.Limits.{max_members, no_support}
use Rattle.model.specs.Lists.{from, all, earlier}
use Rattle.model.specs.TupleSet.{TupleSet, has}
use Rattle.model.specs.Network.{Network, size, total, first_id, index_of}
use Rattle.model.specs.Combination.{Combination, pair_member}
use Rattle.model.specs.LiveWords.{is_live, cleared}
use Rattle.model.specs.Support.{candidates, is_support, first_support, support_from}
use Rattle.model.proofs.Lists.{all-at, all-intro, all_map, from-mem, map-from-same, map-places, earlier-within}
use Rattle.model.proofs.Network.{ids-below}
use Rattle.model.proofs.LiveWords.{living-has}
use Rattle.model.proofs.Support.{is_support-intro, is_support-self, candidates-length, candidates-at, candidates-index, candidates-id, first_support-lowest}
use Rattle.model.proofs.Bools.{not-both}
use Rattle.model.proofs.Search.{Lowest, support_from-first, support_from-some, support_from-none}
use Rattle.worklist.specs.Supports.{chosen_id, Chosen, all_live}
use Rattle.worklist.proofs.Stretch.{replaced, replaced-same}
use Rattle.support.specs.Search.{Search, seeker, answer, SoundSearch}
use Rattle.layout.specs.Setting.{Setting, network, live_in}
use Rattle.layout.specs.Pairs.{combination_of, size_of, tuple_id, place_of, held}
use Rattle.engine.specs.Work.{Candidate, Bound, LeanIn, Renewed, Seeker}
use Rattle.layout.proofs.Pairs.{combination-length, member-at, place-within}
use Rattle.layout.proofs.SoundStarts.{tuples-few}
use Rattle.layout.proofs.Pairs.{member_below, base-within, combination-proper, start-of-member, place-below, tuple-below}
use Rattle.lean.specs.Lean.{LeanAt}
use Rattle.lean.proofs.Leaner.{pair-asks}
use Rattle.lean.proofs.Supports.{lean-lowest, lean-from}
use Rattle.engine.proofs.Candidates.{own-index, none-earlier}

module _ {G : Setting} {words numbers : List ℕ} {p x : ℕ} (A : Seeker G words numbers p x) where
  abbrev N : Network
  N = network G

  abbrev S : TupleSet
  S = live_in G words

  abbrev c : Combination
  c = combination_of G p

  abbrev g : ℕ
  g = tuple_id G p x

  abbrev had : List ℕ
  had = held G numbers p x

  abbrev start : ℕ
  start = p / G.m * G.m

  pub held-inside : place_of G p x + G.m ≤ length numbers
  held-inside = omega (arith, place-within A.sound p x A.pair A.index, A.working.space.room)

  held-length : length had ≡ G.m
  held-length = let i = held-inside in length-take-le G.m (drop (place_of G p x) numbers) (omega (arith, length-drop (place_of G p x) numbers))

  -- as they are loaded
  abbrev pub loaded : List ℕ
  loaded = had ++ replicate (max_members - G.m) 0

  loaded_at : (j : ℕ) → j < G.m → get_or loaded j 0 ≡ get_or had j 0
  loaded_at j l = get_or-append had (replicate (max_members - G.m) 0) 0 j (omega (arith, held-length))

  -- the first of them, in the list
  abbrev pub lead : ℕ
  lead = get_or numbers (place_of G p x) 0

  lead-held : lead ≡ get_or had 0 0
  lead-held =
      let e : place_of G p x ≡ place_of G p x + 0 = omega arith in
      ap (λ (i : ℕ). get_or numbers i 0) e
      ∙ sym (get_or-take G.m (drop (place_of G p x) numbers) 0 0 A.sound.paired.list.positive ∙ get_or-drop (place_of G p x) numbers 0 0)

  bounded : Bound G S c g had
  bounded = A.working.bounds p x A.pair A.index A.lives

  member-count : length c ≡ G.m
  member-count = combination-length A.sound.laid.framed A.sound.paired p A.pair

  -- ---- Those of a candidate

  module _ (K : Candidate G S c g had) where
    in-range : (j : ℕ) → j < G.m → j < length c
    in-range j l = omega (arith, member-count)

    index_is : (j : ℕ) → j < G.m → get_or loaded j 0 ≡ get_or (map (index_of N) K.tuples) j 0
    index_is j l = loaded_at j l ∙ ap (λ (is : List ℕ). get_or is j 0) K.indices

    index-within : (j : ℕ) → j < G.m → get_or loaded j 0 < size N (get_or c j 0)
    index-within j l = omega (arith, index_is j l, candidates-index N c K.candidate j (in-range j l))

    id-is : (j : ℕ) → j < G.m → chosen_id G.lists.starts G.members start loaded j ≡ get_or K.tuples j 0
    id-is j l = ap₂ (λ (a b : ℕ). a + b) (start-of-member A.sound.laid.framed A.sound.paired p A.pair j l) (index_is j l) ∙ candidates-id N c K.candidate j (in-range j l)

    id_below : (j : ℕ) → j < G.m → get_or K.tuples j 0 < total N
    id_below j l = ids-below N (get_or c j 0) (candidates-at N c K.candidate j (in-range j l)).1

    -- the first is an index
    some_first : lead ≡ no_support → ⊥
    some_first e =
        let l = A.sound.paired.list.positive in
        omega (arith, lead-held, loaded_at 0 l, index_is 0 l, candidates-id N c K.candidate 0 (in-range 0 l), id_below 0 l, tuples-few A.sound.laid.framed)

  -- where the first number is not 65,535
  candidate : (lead ≡ no_support → ⊥) → Candidate G S c g had
  candidate d =
      ⊎_elim
      (λ e. absurd (d (lead-held ∙ ap (λ (is : List ℕ). get_or is 0 0) e ∙ get_or-replicate G.m 0 no_support 0 A.sound.paired.list.positive)))
      (λ K. K)
      bounded

  -- what `all_live` asks
  pub chosen : (lead ≡ no_support → ⊥) → Chosen words G.lists.starts G.members start G.m loaded
  chosen d =
      let K = candidate d in
      let b = base-within A.sound.laid.framed A.sound.paired p A.pair in
      record {
        few = A.sound.paired.list.few;
        inside = b;
        relations = λ j l. member_below A.sound.laid.framed A.sound.paired (start + j) (omega arith);
        ids = λ j l. omega (arith, id-is K j l, id_below K j l, tuples-few A.sound.laid.framed);
        bits = λ j l. omega (arith, id-is K j l, id_below K j l, A.working.space.enough);
      }

  -- all of them live as their ids do
  tuples-live : (K : Candidate G S c g had) → all_live words G.lists.starts G.members start G.m loaded ≡ true → all (has S) K.tuples ≡ true
  tuples-live K e =
      let t = K.tuples in
      let ids : ℕ → ℕ = λ j. chosen_id G.lists.starts G.members start loaded j in
      let long : length t ≡ G.m = candidates-length N c K.candidate ∙ member-count in
      let same : map ids (from 0 G.m) ≡ t =
      map-from-same ids (λ j. get_or t j 0) 0 G.m (λ j a b. id-is K j (omega arith))
      ∙ map-places (λ (y : ℕ). y) t G.m 0 (omega arith)
      ∙ map-id (take G.m t)
      ∙ take_all G.m t (omega arith)
      in
      ap (all (has S)) (sym same)
      ∙ all_map ids (has S) (from 0 G.m)
      ∙ all-intro (λ (j : ℕ). has S (ids j)) (from 0 G.m)
      (λ j m.
      let l : j < G.m = omega (arith, from-mem 0 G.m j m) in
      living-has (total N) words (ids j) (omega (arith, id-is K j l, id_below K j l)) ∙ all-at (λ (j : ℕ). is_live words (ids j)) (from 0 G.m) e m)

  -- they live: they are the first support, and the list stays
  pub renewed-held : (d : lead ≡ no_support → ⊥) → all_live words G.lists.starts G.members start G.m loaded ≡ true → Renewed G p x words numbers true words numbers
  renewed-held d e =
      let K = candidate d in
      let s = is_support-intro N S g K.tuples K.own (tuples-live K e) K.agreeing in
      let first : first_support N S c g ≡ had =
      first_support-lowest N S c g K.tuples K.candidate s (λ u m q. ap (earlier (map (index_of N) u)) (sym K.indices) ∙ K.lowest u m q)
      ∙ sym K.indices
      in
      record {
        kept = λ _. (
          refl,
          sym (ap (λ (is : List ℕ). replaced numbers is (place_of G p x) G.m) first ∙ replaced-same numbers (place_of G p x) G.m),
          (K.tuples, K.candidate, s),
        );
        removed = λ q. absurd (true≢false q);
      }

  -- ---- The bound

  -- noughts, but for the tuple itself
  abbrev pub lowest : List ℕ
  lowest = set (replicate max_members 0) (p % G.m) x

  abbrev pub low_of : List ℕ
  low_of = cond (eqb lead no_support) lowest loaded

  -- without a support held, and with one
  pub low-none : lead ≡ no_support → low_of ≡ lowest
  low-none e = ap (λ (b : Bool). cond b lowest loaded) (eq-eqb lead no_support e)

  pub low_held : (lead ≡ no_support → ⊥) → low_of ≡ loaded
  low_held d = ap (λ (b : Bool). cond b lowest loaded) (ne_eqb lead no_support d)

  -- the two cases of it
  bound-cases : (low_of ≡ lowest) ⊎ (Candidate G S c g had × (low_of ≡ loaded))
  bound-cases =
      ⊎_elim
      (λ e. inl (low-none (lead-held ∙ ap (λ (is : List ℕ). get_or is 0 0) e ∙ get_or-replicate G.m 0 no_support 0 A.sound.paired.list.positive)))
      (λ K. inr (K, low_held (some_first K)))
      bounded

  -- no support is earlier
  pub low-lowest : (u : List ℕ) → Memᴰ u (candidates N c) → is_support N S g u ≡ true → earlier (map (index_of N) u) low_of ≡ false
  low-lowest u m s =
      ⊎_elim
      (λ e. ap (earlier (map (index_of N) u)) e ∙ none-earlier G A.sound p A.pair x A.index u m (is_support-self N S g u s))
      (λ w.
      let l : length (map (index_of N) u) ≡ G.m = length-map u (index_of N) ∙ candidates-length N c m ∙ member-count in
      ap (earlier (map (index_of N) u)) w.1
      ∙ earlier-within (map (index_of N) u) loaded
      ∙ ap (λ (n : ℕ). earlier (map (index_of N) u) (take n loaded)) l
      ∙ ap (earlier (map (index_of N) u)) (take_at had (replicate (max_members - G.m) 0) G.m held-length)
      ∙ w.0.lowest u m s)
      bound-cases

  -- ---- The search from the bound

  -- over lean words
  abbrev pub searched : List ℕ → Search
  searched lean = record { lists = G.lists; words = lean; members = c; place = p % G.m; own = x; low = low_of }

  own_is : get_or c (p % G.m) 0 ≡ pair_member G.members p
  own_is = member-at A.sound.laid.framed A.sound.paired p A.pair

  -- .. and none of the search's
  searched-lowest : Lowest N S (seeker (searched words)) low_of c
  searched-lowest u m s = low-lowest u m (ap (λ (r : ℕ). is_support N S (first_id N r + x) u) (sym own_is) ∙ s)

  size_is : size N (get_or c (p % G.m) 0) ≡ size_of G p
  size_is = ap (size N) own_is

  low-own : get_or low_of (p % G.m) 0 ≡ x
  low-own =
      let l = place-below A.sound.laid.framed A.sound.paired p A.pair in
      ⊎_elim
      (λ e. ap (λ (is : List ℕ). get_or is (p % G.m) 0) e ∙ get_or-set_same (replicate max_members 0) (p % G.m) x 0 (omega (arith, A.sound.paired.list.few)))
      (λ w. ap (λ (is : List ℕ). get_or is (p % G.m) 0) w.1 ∙ index_is w.0 (p % G.m) l ∙ own-index G A.sound p A.pair x A.index w.0.tuples w.0.candidate w.0.own)
      bound-cases

  low-within : (j : ℕ) → j < G.m → get_or low_of j 0 ≤ size N (get_or c j 0)
  low-within j l =
      ⊎_elim
      (λ e. at e (ℕ_discrete j (p % G.m)))
      (λ w. omega (arith, ap (λ (is : List ℕ). get_or is j 0) w.1, index-within w.0 j l))
      bound-cases
    where
      at : low_of ≡ lowest → Dec (j ≡ p % G.m) → get_or low_of j 0 ≤ size N (get_or c j 0)
      at e (yes q) =
          let o = low-own in
          subst (λ (i : ℕ). get_or low_of i 0 ≤ size N (get_or c i 0)) (sym q) (omega (arith, size_is))
      at e (no d) =
          omega (arith, ap (λ (is : List ℕ). get_or is j 0) e, get_or-set_other (replicate max_members 0) (p % G.m) j x 0 d, get_or-replicate {A = ℕ} max_members j 0 0 (omega (arith, A.sound.paired.list.few)))

  -- what `first_support` asks
  pub ready : {lean : List ℕ} → length lean ≡ 64 → SoundSearch (searched lean)
  ready long =
      let l = place-below A.sound.laid.framed A.sound.paired p A.pair in
      record {
        laid = A.sound.laid;
        words = omega (arith, long, tuples-few A.sound.laid.framed);
        members = combination-proper A.sound.laid.framed A.sound.paired p A.pair;
        few = omega (arith, member-count, A.sound.paired.list.few);
        place = omega (arith, member-count);
        own = omega (arith, size_is);
        low-own = low-own;
        low-within = λ j i. low-within j (omega (arith, member-count));
      }

  -- ---- Over lean words

  module _ {lean : List ℕ} (E : LeanIn G p words lean) where
    own-within : x < size N (get_or c (p % G.m) 0)
    own-within = omega (arith, size_is, A.index)

    own-lives : is_live words (seeker (searched words)) ≡ true
    own-lives =
        ap (λ (r : ℕ). is_live words (first_id N r + x)) own_is
        ∙ sym (living-has (total N) words g (tuple-below A.sound p x A.pair A.index))
        ∙ A.lives

    abbrev asks : LeanAt G.lists c (p % G.m)
    asks = pair-asks A.sound p A.pair

    -- none is earlier
    pub lean-searched-lowest : Lowest N (live_in G lean) (seeker (searched lean)) low_of c
    lean-searched-lowest = lean-lowest asks E x own-within own-lives low_of searched-lowest

    -- what is found is the same
    pub lean-searched : support_from N (live_in G lean) c (seeker (searched lean)) low_of ≡ support_from N S c (seeker (searched words)) low_of
    lean-searched = lean-from asks E x own-within own-lives low_of searched-lowest

  -- what it answers
  module _ (ok : Bool) (tuples : List ℕ) (answers : answer ok (take (length c) tuples) ≡ support_from N S c (seeker (searched words)) low_of) where
    answered : support_from N S c g low_of ≡ answer ok (take G.m tuples)
    answered =
        sym
        (ap (λ (n : ℕ). answer ok (take n tuples)) (sym member-count)
        ∙ answers
        ∙ ap (λ (r : ℕ). support_from N S c (first_id N r + x) low_of) own_is)

    -- a support: it is the first
    pub renewed-found : ok ≡ true → Renewed G p x words numbers ok words (take (place_of G p x) numbers ++ take G.m tuples ++ drop (place_of G p x + G.m) numbers)
    renewed-found e =
        let some_is : support_from N S c g low_of ≡ some (take G.m tuples) = answered ∙ ap (λ (b : Bool). answer b (take G.m tuples)) e in
        let first : first_support N S c g ≡ take G.m tuples =
        support_from-first N S g low_of c low-lowest ∙ ap (λ (o : Option (List ℕ)). Option.get_or o (replicate (length c) no_support)) some_is
        in
        record {
          kept = λ _. (
            refl,
            ap (λ (is : List ℕ). replaced numbers is (place_of G p x) G.m) (sym first),
            support_from-some N S g low_of c (take G.m tuples) some_is,
          );
          removed = λ q. absurd (not-both e q);
        }

    -- none: there is no support
    pub renewed-none : ok ≡ false → Renewed G p x words numbers ok (cleared g words) numbers
    renewed-none e =
        record {
          kept = λ q. absurd (not-both q e);
          removed = λ _. (
            refl,
            refl,
            support_from-none N S g low_of c low-lowest (answered ∙ ap (λ (b : Bool). answer b (take G.m tuples)) e),
          );
        }
