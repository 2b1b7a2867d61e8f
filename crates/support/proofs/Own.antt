-- Laws of the seeking tuple's own member: this tuple is chosen for it, and what there is to find stays.
-- From the law of one tuple more, and that no other tuple of this member leads to a support.
use mathlib.Core.Path.{◌≡◌, refl, sym, ◌∙◌, ap, subst}
use mathlib.Core.Bool.{Bool, true, false, ◌&&◌, and-true}
use mathlib.Core.Option.{Option, none, some, or_else}
use mathlib.Core.List.Memᴰ
use mathlib.Core.List.{List, [], ◌∷◌, ◌++◌, map, map-append}
use Prim.Native.Nat.{ℕ, suc, ◌+◌, ◌-◌, ◌≤◌, ◌<◌}
use native.Mathlib.Numerals.{add-one}
use native.Mathlib.Omega.{arith}
use lib.Dec.{ltb, eqb}
use lib.ListN.{length, get_or, take, drop, set, length-set, take-append-drop}
use lib.Seq.{get_or-set_other, take-suc, drop-cons}
use borrow.Author.Tests.{eq-eqb, eqb-true, eqb-false}
use Rattle.model.specs.Lists.{from, pairwise}
use Rattle.model.specs.Network.{Network, size, first_id, ids_of, relation_of}
use Rattle.model.specs.Agreement.{agree}
use Rattle.model.specs.TupleSet.{has}
use Rattle.model.specs.Support.{completion}
use Rattle.model.proofs.Lists.{here, all-at, mem-from, picks-append, pick, done}
use Rattle.model.proofs.Network.{relation_of-at}
use Rattle.model.proofs.Agreement.{agree-sym}
use Rattle.model.proofs.Search.{completion-other, reach-cut, reach-skip, reach_step, reach-none}
use Rattle.support.specs.declared.Stage.{Stage}
use Rattle.support.specs.Search.{Search, net_of, live_of, seeker, SoundSearch, chosen_ids, Prefix, past_own, place_behind, sought}
use Rattle.support.proofs.Chosen.{chosen-picks}
use Rattle.support.proofs.Prefix.{ids_more, prefix-next}
use Rattle.support.proofs.Walking.{rises}

or_else_none : (o : Option (List ℕ)) → or_else o none ≡ o
unfolding or_else
or_else_none none = refl
or_else_none (some x) = refl

module _ (Q : Search) (R : SoundSearch Q) (resumes : Bool) (chosen : List ℕ) (sized : length chosen ≡ 4) (low-sized : length Q.low ≡ 4) (lively : has (live_of Q) (seeker Q) ≡ true) (k : ℕ) (e : k ≡ Q.place) (B : Prefix Q k resumes chosen) where
  abbrev N : Network
  N = net_of Q

  abbrev c : List ℕ
  c = Q.members

  abbrev rel : ℕ
  rel = get_or c k 0

  abbrev first : ℕ
  first = first_id N rel

  abbrev ids : List ℕ
  ids = chosen_ids N c chosen k

  abbrev later : List (List ℕ)
  later = map (ids_of N) (drop (suc k) c)

  inside : k < length c
  inside = rw e R.place

  own_below : Q.own < size N rel
  own_below = rw e R.own

  seeker-is : seeker Q ≡ first + Q.own
  seeker-is = ap (λ (j : ℕ). first_id N (get_or c j 0) + Q.own) (sym e)

  -- ---- The tuple chosen

  goes_on : (resumes && eqb Q.own (get_or Q.low k 0)) ≡ resumes
  goes_on =
      let l : get_or Q.low k 0 ≡ Q.own = ap (λ (j : ℕ). get_or Q.low j 0) e ∙ R.low-own in
      ap (λ (b : Bool). resumes && b) (eq-eqb Q.own (get_or Q.low k 0) (sym l)) ∙ and-true resumes

  own-prefix : Prefix Q (k + 1) resumes (set chosen k Q.own)
  own-prefix =
      rw add-one
      (subst (λ (on : Bool). Prefix Q (suc k) on (set chosen k Q.own)) goes_on
      (prefix-next R B inside sized low-sized Q.own
      (record {
        below = own_below;
        own = λ _. refl;
        lives = ap (has (live_of Q)) (sym seeker-is) ∙ lively;
        agrees = λ y m. ap (agree N y) (sym seeker-is) ∙ agree-sym N y (seeker Q) ∙ all-at (agree N (seeker Q)) ids (B.seeker (omega arith)) m;
        agrees-seeker = λ l. absurd (omega arith);
        low = λ q. let l : get_or Q.low k 0 ≡ Q.own = ap (λ (j : ℕ). get_or Q.low j 0) e ∙ R.low-own in omega arith;
      })))

  -- ---- What there is to find

  -- another tuple of the member leads to nothing
  nowhere-other : (x : ℕ) → first ≤ x → x < first + size N rel → (x ≡ seeker Q → ⊥) → completion N (live_of Q) (seeker Q) Q.low (ids ++ (x ∷ [])) later ≡ none
  nowhere-other x l h d =
      let i : x ≡ first + (x - first) = omega arith in
      let rx : relation_of N x ≡ rel = ap (relation_of N) i ∙ relation_of-at N rel (x - first) (omega arith) in
      let rg : relation_of N (seeker Q) ≡ rel = relation_of-at N (get_or c Q.place 0) Q.own R.own ∙ ap (λ (j : ℕ). get_or c j 0) (sym e) in
      let p = picks-append (chosen-picks N c chosen k B.depth B.within) (pick (mem-from first (size N rel) x l h) done) in
      completion-other N (live_of Q) (seeker Q) Q.low (take (suc k) c) (drop (suc k) c) (ids ++ (x ∷ []))
      (ap (pairwise ltb) (take-append-drop (suc k) c) ∙ rises Q R)
      (rw (take-suc c k 0 inside, map-append (ids_of N) (take k c) (rel ∷ [])) p)
      (Memᴰ.append_right ids here) (rx ∙ sym rg) d

  own-sought : sought Q (k + 1) (set chosen k Q.own) ≡ sought Q k chosen
  own-sought =
      let own = first + Q.own in
      let end = first + size N rel in
      let n : end - first ≡ size N rel = omega arith in
      let b = own_below in
      let s = seeker-is in
      sym
      (rw (drop-cons c k 0 inside)
      (ap (λ (m : ℕ). completion N (live_of Q) (seeker Q) Q.low ids (from first m ∷ later)) (sym n)
      ∙ reach-cut N (live_of Q) (seeker Q) Q.low ids later first (suc own) end (omega arith) (omega arith)
      (λ x h. nowhere-other x (omega (arith, h.0)) h.1 (λ d. omega (arith, h.0)))
      ∙ reach-skip N (live_of Q) (seeker Q) Q.low ids later first own (suc own) (omega arith) (omega arith)
      (λ x h. nowhere-other x h.0 (omega (arith, h.1)) (λ d. omega (arith, h.1)))
      ∙ reach_step N (live_of Q) (seeker Q) Q.low ids later own (suc own) (omega arith)
      ∙ ap (or_else (completion N (live_of Q) (seeker Q) Q.low (ids ++ (own ∷ [])) later)) (reach-none N (live_of Q) (seeker Q) Q.low ids later (suc own) (suc own) (omega arith))
      ∙ or_else_none (completion N (live_of Q) (seeker Q) Q.low (ids ++ (own ∷ [])) later)
      ∙ sym (rw (add-one, ids_more R B inside sized low-sized Q.own) refl)))

-- ---- The next stage

pub past-forth : (place own k : ℕ) (chosen : List ℕ) → k ≤ (past_own place own k chosen).k
past-forth place own k chosen = go (eqb k place) refl
  where
    go : (b : Bool) → eqb k place ≡ b → k ≤ (past_own place own k chosen).k
    go true q = rw q (omega arith)
    go false q = rw q (omega arith)

pub past-place : (place own k : ℕ) (chosen : List ℕ) → (past_own place own (k + 1) chosen).k ≡ place_behind place k
past-place place own k chosen = go (eqb (k + 1) place) refl
  where
    go : (b : Bool) → eqb (k + 1) place ≡ b → (past_own place own (k + 1) chosen).k ≡ place_behind place k
    go true q = rw q (omega arith)
    go false q = rw q refl

pub past-kept : (place own k : ℕ) (chosen : List ℕ) (j : ℕ) → j < k → get_or (past_own place own k chosen).chosen j 0 ≡ get_or chosen j 0
past-kept place own k chosen j l = go (eqb k place) refl
  where
    go : (b : Bool) → eqb k place ≡ b → get_or (past_own place own k chosen).chosen j 0 ≡ get_or chosen j 0
    go true q = rw q (get_or-set_other chosen k j own 0 (λ e. omega arith))
    go false q = rw q refl

-- a place behind one of so many is one too, or their number
pub behind-within : (place k n : ℕ) → k < n → place < n → place_behind place k ≤ n
behind-within place k n h l = go (eqb (k + 1) place) refl
  where
    go : (b : Bool) → eqb (k + 1) place ≡ b → place_behind place k ≤ n
    go true q = let e = eqb-true (k + 1) place q in rw q (omega (arith, e))
    go false q = rw q (omega arith)

-- Stage s follows from the tuples chosen for the members before k: it is another member's turn, or all have their tuples.
pub record NextStage (Q : Search) (resumes : Bool) (k : ℕ) (chosen : List ℕ) (s : Stage) : Type 0 where
  pub prefix : Prefix Q s.k resumes s.chosen
  pub same : sought Q s.k s.chosen ≡ sought Q k chosen
  pub other : s.k ≡ Q.place → ⊥
  pub forth : k ≤ s.k
  pub sized : length s.chosen ≡ 4
  pub kept : (j : ℕ) → j < k → get_or s.chosen j 0 ≡ get_or chosen j 0

pub next-stage : (Q : Search) → SoundSearch Q → (resumes : Bool) (k : ℕ) (chosen : List ℕ) → length chosen ≡ 4 → length Q.low ≡ 4 → has (live_of Q) (seeker Q) ≡ true → Prefix Q k resumes chosen → (s : Stage) → s ≡ past_own Q.place Q.own k chosen → NextStage Q resumes k chosen s
next-stage Q R resumes k chosen sized low-sized lively B s e = go (eqb k Q.place) refl
  where
    go : (b : Bool) → eqb k Q.place ≡ b → NextStage Q resumes k chosen s
    go true q =
        let p = eqb-true k Q.place q in
        let is : s ≡ record { k = k + 1; chosen = set chosen k Q.own } = rw q at e in
        rw is
        (record {
          prefix = own-prefix Q R resumes chosen sized low-sized lively k p B;
          same = own-sought Q R resumes chosen sized low-sized lively k p B;
          other = λ f. omega arith;
          forth = omega arith;
          sized = length-set chosen k Q.own ∙ sized;
          kept = λ j l. get_or-set_other chosen k j Q.own 0 (λ e. omega arith);
        })
    go false q =
        let is : s ≡ record { k = k; chosen = chosen } = rw q at e in
        rw is (record { prefix = B; same = refl; other = eqb-false k Q.place q; forth = omega arith; sized = sized; kept = λ j l. refl })
