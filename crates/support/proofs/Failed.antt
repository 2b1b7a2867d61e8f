-- A tuple with the values of one that failed, under all variables of the members behind, fails too: what completes it completes the other.
-- From the law of equal values, and the laws of one member's turn and of supports; when values fit does not matter.
use mathlib.Core.Path.{◌≡◌, refl, sym, ◌∙◌, ap, ap₂, subst}
use mathlib.Core.Bool.{Bool, true, false, ◌&&◌}
use mathlib.Core.Option.{none}
use mathlib.Core.List.{List, [], ◌∷◌, ◌++◌, map, map-append, Memᴰ}
use mathlib.Core.Logic.{inl, inr, ⊎_elim}
use Prim.Native.Nat.{ℕ, suc, ◌+◌, ◌-◌, ◌≤◌, ◌<◌}
use native.Mathlib.Decide.{ℕ_discrete}
use native.Mathlib.Numerals.{add-one}
use native.Mathlib.Omega.{arith}
use lib.Dec.{eqb}
use lib.ListN.{length, get_or, take, drop, set, replicate, length-map, length-set, length-drop, length-replicate, get_or-replicate, take-append-drop}
use lib.Seq.{get_or-drop, take-suc}
use Rattle.model.specs.Limits.{no_support}
use Rattle.model.specs.Lists.{all, pairwise, earlier}
use Rattle.model.specs.Network.{Network, size, total, first_id, ids_of, index_of}
use Rattle.model.specs.Agreement.{agree}
use Rattle.model.specs.LiveWords.{is_live, is_set}
use Rattle.model.specs.TupleSet.{has}
use Rattle.model.specs.Support.{is_support}
use Rattle.model.proofs.Bools.{and_right, and_intro}
use Rattle.model.proofs.Lists.{here, all-at, all-intro, all_append, mem-get_d, get_d-map-in, pairwise_append, pairwise-cross, later-append, later-earlier, Picks, pick, done, picks-append, picks-length, picks_at, mem-from, from-mem}
use Rattle.model.proofs.Agreement.{agree-alike}
use Rattle.model.proofs.Network.{relation_of-at, relation_of-ids, ids-below}
use Rattle.model.proofs.LiveWords.{living-has}
use Rattle.model.proofs.Support.{is_support-intro, is_support-self, is_support-live, is_support-agree, picks-same}
use Rattle.model.proofs.Search.{completion-hopeless, completion-nothing}
use Rattle.doubles.specs.Alike.{Alike, CoversFrom}
use Rattle.doubles.specs.Doubles.{places}
use Rattle.narrowing.specs.declared.sieve.Sieve.{Sieve}
use Rattle.narrowing.specs.Sieve.{passes_sieve}
use Rattle.support.specs.Search.{Search, net_of, live_of, seeker, chosen_ids, Prefix, span, onward, fits, Alone, Sifts, hopeful, MayLead}
use Rattle.support.proofs.Chosen.{chosen-picks, chosen-indices}
use Rattle.support.proofs.Prefix.{ids_more}
use Rattle.support.proofs.Walking.{rises, few-tuples, member-within}
use Rattle.support.proofs.Turn.{Turn, index_below, come-clash, come-more, agrees-own, first-id, id_other}

pairwise-behind : (r : ℕ → ℕ → Bool) (xs ys : List ℕ) → pairwise r (xs ++ ys) ≡ true → pairwise r ys ≡ true
pairwise-behind r [] ys p = p
pairwise-behind r (x ∷ xs) ys p = pairwise-behind r xs ys (and_right (all (r x) (xs ++ ys)) (pairwise r (xs ++ ys)) p)

-- Tuple x of member k fits and lives, is past the bound, and leads to nothing.
pub record Failing (Q : Search) (k : ℕ) (resumes : Bool) (chosen : List ℕ) (x : ℕ) : Type 0 where
  pub from_start : (span Q k resumes).start ≤ (span Q k resumes).first + x
  pub to_end : (span Q k resumes).first + x < (span Q k resumes).end
  pub lives : is_live Q.words ((span Q k resumes).first + x) ≡ true
  pub fitting : fits (net_of Q) Q.members Q.place Q.own k chosen x ≡ true
  pub past : (resumes && eqb x (get_or Q.low k 0)) ≡ false
  pub fails : onward Q k chosen ((span Q k resumes).first + x) ≡ none

module _ {Q : Search} {k : ℕ} {resumes : Bool} {chosen : List ℕ} (T : Turn Q k resumes chosen (span Q k resumes).first (span Q k resumes).start (span Q k resumes).end) (set' : ℕ) (covers : CoversFrom (net_of Q) Q.members Q.place (k + 1) (is_set set')) where
  abbrev N : Network
  N = net_of Q

  abbrev c : List ℕ
  c = Q.members

  abbrev first : ℕ
  first = (span Q k resumes).first

  abbrev ids : List ℕ
  ids = chosen_ids N c chosen k

  abbrev later : List (List ℕ)
  later = map (ids_of N) (drop (suc k) c)

  module _ (x y : ℕ) (x-from : (span Q k resumes).start ≤ first + x) (x-to : first + x < (span Q k resumes).end) (x_Fits : fits N c Q.place Q.own k chosen x ≡ true) (Y : Failing Q k resumes chosen y) (alike : Alike Q.lists set' (get_or c k 0) x y) where
    abbrev g : ℕ
    g = first + x

    abbrev h : ℕ
    h = first + y

    -- what is known once y is chosen
    prefix : Prefix Q (k + 1) (resumes && eqb y (get_or Q.low k 0)) (set chosen k y)
    prefix = come-more T y Y.from_start Y.to_end Y.lives Y.fitting

    chosen-h : chosen_ids N c (set chosen k y) (k + 1) ≡ ids ++ (h ∷ [])
    chosen-h = ap (chosen_ids N c (set chosen k y)) (add-one k) ∙ ids_more T.ready T.begun T.inside T.sized T.low-sized y ∙ ap (λ (n : ℕ). ids ++ ((n + y) ∷ [])) (sym (first-id T))

    module _ (t : List ℕ) (p : Picks later t) (s : is_support N (live_of Q) (seeker Q) ((ids ++ (g ∷ [])) ++ t) ≡ true) where
      abbrev u : List ℕ
      u = (ids ++ (g ∷ [])) ++ t

      agreeing : pairwise (agree N) u ≡ true
      agreeing = is_support-agree N (live_of Q) (seeker Q) u s

      living : (w : ℕ) → Memᴰ w u → has (live_of Q) w ≡ true
      living w m = all-at (has (live_of Q)) u (is_support-live N (live_of Q) (seeker Q) u s) m

      -- the seeking tuple is another than x
      self : Memᴰ (seeker Q) ((ids ++ (h ∷ [])) ++ t)
      self =
          ⊎_elim
          (λ m.
          ⊎_elim
          (λ i. mathlib.Core.List.Memᴰ.append_left t (mathlib.Core.List.Memᴰ.append_left (h ∷ []) i))
          (λ i. absurd (id_other T x x-from x-to (mathlib.Core.List.Memᴰ.eq_of_singleton i)))
          (mathlib.Core.List.Memᴰ.append_cases ids m))
          (λ m. mathlib.Core.List.Memᴰ.append_right (ids ++ (h ∷ [])) m)
          (mathlib.Core.List.Memᴰ.append_cases (ids ++ (g ∷ [])) (is_support-self N (live_of Q) (seeker Q) u s))

      -- x agrees with each tuple behind
      x-meets : (z : ℕ) → Memᴰ z t → agree N g z ≡ true
      x-meets z m = pairwise-cross (agree N) (ids ++ (g ∷ [])) t agreeing (mathlib.Core.List.Memᴰ.append_right ids here) m

      whole : Picks (map (ids_of N) c) u
      whole =
          let rel = get_or c k 0 in
          let b = first-id T in
          let i : Memᴰ g (ids_of N rel) = mem-from (first_id N rel) (size N rel) g (omega (arith, b)) (omega (arith, b, index_below T x x-from x-to)) in
          let chosen-x : Picks (map (ids_of N) (take (suc k) c)) (ids ++ (g ∷ [])) =
          rw (take-suc c k 0 T.inside, map-append (ids_of N) (take k c) (rel ∷ [])) (picks-append (chosen-picks N c chosen k T.begun.depth T.begun.within) (pick i done))
          in
          subst (λ (xss : List (List ℕ)). Picks xss u) (sym (map-append (ids_of N) (take (suc k) c) (drop (suc k) c)) ∙ ap (map (ids_of N)) (take-append-drop (suc k) c)) (picks-append chosen-x p)

      -- .. and so does y: under the variables of that tuple's relation they have the same values, or it is the seeking tuple, which y fits
      y-meets : (z : ℕ) → Memᴰ z t → agree N h z ≡ true
      y-meets z m = go (ℕ_discrete (suc k + i.0) Q.place)
        where
          i : (i : ℕ) × (i < length t) × (get_or t i 0 ≡ z)
          i = mem-get_d t 0 m

          small : i.0 < length (drop (suc k) c)
          small = omega (arith, i.1, picks-length p, length-map (drop (suc k) c) (ids_of N))

          rel : ℕ
          rel = get_or c (suc k + i.0) 0

          its : Memᴰ z (ids_of N rel)
          its =
              subst (λ (w : ℕ). Memᴰ w (ids_of N rel)) i.2
              (subst (Memᴰ (get_or t i.0 0)) (get_d-map-in (ids_of N) (drop (suc k) c) i.0 0 [] small ∙ ap (ids_of N) (get_or-drop (suc k) c i.0 0))
              (picks_at p i.0 0 (omega (arith, small, length-map (drop (suc k) c) (ids_of N)))).1)

          go : Dec (suc k + i.0 ≡ Q.place) → agree N h z ≡ true
          go (yes e) =
              let one = picks-same N c (rises Q T.ready) whole (mathlib.Core.List.Memᴰ.append_right (ids ++ (g ∷ [])) m) (is_support-self N (live_of Q) (seeker Q) u s)
              (relation_of-ids N rel its ∙ ap (λ (j : ℕ). get_or c j 0) e ∙ sym (relation_of-at N (get_or c Q.place 0) Q.own T.ready.own))
              in
              ap₂ (agree N) (ap (λ (n : ℕ). n + y) (first-id T)) one ∙ agrees-own T y Y.from_start Y.to_end Y.fitting
          go (no d) =
              let b = from-mem (first_id N rel) (size N rel) z its in
              let is-z : first_id N rel + (z - first_id N rel) ≡ z = omega (arith, b.0) in
              let of-first : (n : ℕ) → first_id N (get_or c k 0) + n ≡ first + n = λ n. ap (λ (f : ℕ). f + n) (sym (first-id T)) in
              ap₂ (agree N) (sym (of-first y)) (sym is-z)
              ∙ sym
              (agree-alike N (is_set set') (first_id N (get_or c k 0) + x) (first_id N (get_or c k 0) + y) rel (z - first_id N rel) (omega (arith, b))
              (covers (suc k + i.0) (omega arith) (omega (arith, small, length-drop (suc k) c)) d) alike)
              ∙ ap₂ (agree N) (of-first x) is-z
              ∙ x-meets z m

      -- with y in its place it is a support
      support : is_support N (live_of Q) (seeker Q) ((ids ++ (h ∷ [])) ++ t) ≡ true
      support =
          is_support-intro N (live_of Q) (seeker Q) ((ids ++ (h ∷ [])) ++ t) self
          (all_append (has (live_of Q)) (ids ++ (h ∷ [])) t (ap (all (has (live_of Q))) (sym chosen-h) ∙ prefix.live) (all-intro (has (live_of Q)) t (λ w m. living w (mathlib.Core.List.Memᴰ.append_right (ids ++ (g ∷ [])) m))))
          (pairwise_append (agree N) (ids ++ (h ∷ [])) t (ap (pairwise (agree N)) (sym chosen-h) ∙ prefix.pairs) (pairwise-behind (agree N) (ids ++ (g ∷ [])) t agreeing)
          (λ w z m n.
          ⊎_elim
          (λ i. pairwise-cross (agree N) (ids ++ (g ∷ [])) t agreeing (mathlib.Core.List.Memᴰ.append_left (g ∷ []) i) n)
          (λ i. ap (λ (v : ℕ). agree N v z) (mathlib.Core.List.Memᴰ.eq_of_singleton i) ∙ y-meets z n)
          (mathlib.Core.List.Memᴰ.append_cases ids m)))

      -- not before the bound
      late : earlier (map (index_of N) ((ids ++ (h ∷ [])) ++ t)) Q.low ≡ false
      late =
          later-earlier (map (index_of N) ((ids ++ (h ∷ [])) ++ t)) Q.low
          (ap (earlier Q.low) (map-append (index_of N) (ids ++ (h ∷ [])) t)
          ∙ later-append (map (index_of N) (ids ++ (h ∷ []))) (map (index_of N) t) Q.low
          (ap (λ (is : List ℕ). earlier Q.low (map (index_of N) is)) (sym chosen-h)
          ∙ ap (earlier Q.low) (chosen-indices N c (set chosen k y) (k + 1) (omega (arith, length-set chosen k y, T.sized, T.ready.few, T.inside)) prefix.within)
          ∙ prefix.past-low Y.past))

    pub fails-too : onward Q k chosen g ≡ none
    fails-too =
        completion-hopeless N (live_of Q) (seeker Q) Q.low (ids ++ (g ∷ [])) later
        (λ t p s l. completion-nothing N (live_of Q) (seeker Q) Q.low (ids ++ (h ∷ [])) later Y.fails t p (support t p s) (late t p s))

-- ---- A tuple that agrees with no live tuple of a member behind

module _ {Q : Search} {k : ℕ} {resumes : Bool} {chosen : List ℕ} (T : Turn Q k resumes chosen (span Q k resumes).first (span Q k resumes).start (span Q k resumes).end) (x : ℕ) (A : Alone (net_of Q) Q.members Q.place k Q.words x) where
  abbrev net : Network
  net = net_of Q

  abbrev own-id : ℕ
  own-id = (span Q k resumes).first + x

  abbrev with-x : List ℕ
  with-x = chosen_ids net Q.members chosen k ++ (own-id ∷ [])

  abbrev behind : List ℕ
  behind = drop (suc k) Q.members

  abbrev i : ℕ
  i = A.j - suc k

  abbrev rel : ℕ
  rel = get_or Q.members A.j 0

  small : i < length behind
  small = omega (arith, length-drop (suc k) Q.members, A.later.from-k, A.later.inside)

  module _ (t : List ℕ) (p : Picks (map (ids_of net) behind) t) (s : is_support net (live_of Q) (seeker Q) (with-x ++ t) ≡ true) where
    abbrev z : ℕ
    z = get_or t i 0

    at : Memᴰ z t × Memᴰ z (get_or (map (ids_of net) behind) i [])
    at = picks_at p i 0 (omega (arith, small, length-map behind (ids_of net)))

    its : Memᴰ z (ids_of net rel)
    its =
        let j-is : suc k + i ≡ A.j = omega (arith, A.later.from-k) in
        subst (Memᴰ z) (get_d-map-in (ids_of net) behind i 0 [] small ∙ ap (ids_of net) (get_or-drop (suc k) Q.members i 0 ∙ ap (λ (j : ℕ). get_or Q.members j 0) j-is)) at.1

    -- there is no such support
    unmet : ⊥
    unmet =
        let b = from-mem (first_id net rel) (size net rel) z its in
        let is-z : first_id net rel + (z - first_id net rel) ≡ z = omega (arith, b.0) in
        A.none (z - first_id net rel) (omega (arith, b))
        (ap (is_live Q.words) is-z ∙ sym (living-has (total net) Q.words z (ids-below net rel its)) ∙ all-at (has (live_of Q)) (with-x ++ t) (is_support-live net (live_of Q) (seeker Q) (with-x ++ t) s) (mathlib.Core.List.Memᴰ.append_right with-x at.0))
        (ap₂ (agree net) (ap (λ (n : ℕ). n + x) (sym (first-id T))) is-z ∙ pairwise-cross (agree net) with-x t (is_support-agree net (live_of Q) (seeker Q) (with-x ++ t) s) (mathlib.Core.List.Memᴰ.append_right (chosen_ids net Q.members chosen k) here) at.0)

  pub alone-nowhere : onward Q k chosen own-id ≡ none
  alone-nowhere = completion-hopeless net (live_of Q) (seeker Q) Q.low with-x (map (ids_of net) behind) (λ t p s l. unmet t p s)

-- ---- The table

-- every entry of the table failed
abbrev pub Known : Search → ℕ → Bool → List ℕ → List ℕ → Type 0
Known Q k resumes chosen table = (length table ≡ places) × ((i : ℕ) → i < places → (get_or table i 0 ≡ no_support → ⊥) → Failing Q k resumes chosen (get_or table i 0))

pub known-none : (Q : Search) (k : ℕ) (resumes : Bool) (chosen : List ℕ) → Known Q k resumes chosen (replicate places no_support)
known-none Q k resumes chosen = (length-replicate places no_support, λ i h d. absurd (d (get_or-replicate places i no_support 0 h)))

module _ {Q : Search} {k : ℕ} {resumes : Bool} {chosen : List ℕ} {table after : List ℕ} {x set' : ℕ} {sieve : Sieve} {b : Bool} (K : Known Q k resumes chosen table) (M : MayLead Q.lists Q.members Q.place Q.own k chosen x sieve set' (resumes && eqb x (get_or Q.low k 0)) table b after) where
  fitted : hopeful (net_of Q) Q.members Q.place Q.own k chosen sieve x ≡ true → fits (net_of Q) Q.members Q.place Q.own k chosen x ≡ true
  fitted f = and_right (passes_sieve (net_of Q) (get_or Q.members k 0) sieve x) (fits (net_of Q) Q.members Q.place Q.own k chosen x) f

  -- a tuple that leads to nothing may be entered
  pub known_next : (span Q k resumes).start ≤ (span Q k resumes).first + x → (span Q k resumes).first + x < (span Q k resumes).end → is_live Q.words ((span Q k resumes).first + x) ≡ true → onward Q k chosen ((span Q k resumes).first + x) ≡ none → Known Q k resumes chosen after
  known_next from_start to_end lives fails = go (hopeful (net_of Q) Q.members Q.place Q.own k chosen sieve x) refl (resumes && eqb x (get_or Q.low k 0)) refl
    where
      go : (f : Bool) → hopeful (net_of Q) Q.members Q.place Q.own k chosen sieve x ≡ f → (r : Bool) → (resumes && eqb x (get_or Q.low k 0)) ≡ r → Known Q k resumes chosen after
      go false f r e = subst (Known Q k resumes chosen) (sym (M.same (inl f))) K
      go true f true e = subst (Known Q k resumes chosen) (sym (M.same (inr e))) K
      go true f false e =
          let own : Failing Q k resumes chosen x = record { from_start = from_start; to_end = to_end; lives = lives; fitting = fitted f; past = e; fails = fails } in (
            M.entered.0 ∙ K.0,
            λ i h d.
                ⊎_elim
                (λ q. subst (Failing Q k resumes chosen) (sym q) (K.1 i h (λ n. d (q ∙ n))))
                (λ q. subst (Failing Q k resumes chosen) (sym q) own)
                (M.entered.1 i),
          )

  -- a tuple that may not lead to a support leads to none
  module _ (T : Turn Q k resumes chosen (span Q k resumes).first (span Q k resumes).start (span Q k resumes).end) (covers : CoversFrom (net_of Q) Q.members Q.place (k + 1) (is_set set')) (from_start : (span Q k resumes).start ≤ (span Q k resumes).first + x) (to_end : (span Q k resumes).first + x < (span Q k resumes).end) where
    pub leads-nowhere : Sifts (net_of Q) Q.members Q.place k Q.words sieve → b ≡ false → onward Q k chosen ((span Q k resumes).first + x) ≡ none
    leads-nowhere sifts e = go (passes_sieve (net_of Q) (get_or Q.members k 0) sieve x) refl (fits (net_of Q) Q.members Q.place Q.own k chosen x) refl
      where
        go : (p : Bool) → passes_sieve (net_of Q) (get_or Q.members k 0) sieve x ≡ p → (f : Bool) → fits (net_of Q) Q.members Q.place Q.own k chosen x ≡ f → onward Q k chosen ((span Q k resumes).first + x) ≡ none
        go false p f q = alone-nowhere T x (sifts x (index_below T x from_start to_end) p)
        go true p false f = come-clash T x from_start to_end f
        go true p true f =
            let R = (M.wrong e (and_intro p f)).1 in
            let y = get_or table R.i 0 in
            let few = few-tuples Q T.ready in
            let free : y ≡ no_support → ⊥ = λ n. omega (arith, n, R.before, index_below T x from_start to_end, member-within Q T.ready k T.inside, few) in
            fails-too T set' covers x y from_start to_end f (K.1 R.i (omega (arith, R.inside, K.0)) free) R.alike
