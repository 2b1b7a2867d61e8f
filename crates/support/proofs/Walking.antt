-- Laws of a member's walk: which ids it goes over, and that every id of the member before it leads to no support.
-- From what a search asks and what is known of the tuples chosen, and the laws of starts, ids and the search.
use mathlib.Core.Path.{◌≡◌, refl, sym, ◌∙◌, ap, ap₂, subst}
use mathlib.Core.Bool.{Bool, true, false, cond}
use mathlib.Core.Option.{Option, none}
use mathlib.Core.List.{List, [], ◌∷◌, ◌++◌, map, map-append}
use Prim.Native.Nat.{ℕ, suc, ◌+◌, ◌-◌, ◌≤◌, ◌<◌}
use native.Mathlib.Omega.{arith}
use lib.Dec.{ltb}
use lib.ListN.{length, get_or, drop}
use lib.Seq.{drop-cons}
use borrow.Author.Tests.{ltb-true, ltb-false}
use Rattle.model.specs.Lists.{from, all, pairwise, earlier}
use Rattle.model.specs.Network.{size, total, first_id, ids_of, index_of, tuples_in}
use Rattle.model.specs.Support.{completion}
use Rattle.model.proofs.Bools.{and_left, and_right}
use Rattle.model.proofs.Lists.{all_get_d, pairwise-get_d, earlier-below}
use Rattle.model.proofs.Network.{index_of-at, before-within}
use Rattle.model.proofs.Search.{reach, reach-skip, completion-early}
use Rattle.layout.specs.Starts.{tuple_start}
use Rattle.layout.proofs.SoundStarts.{relations-few, tuples-few, tuple-start, tuple-end}
use Rattle.support.specs.declared.Span.{Span}
use Rattle.support.specs.Search.{Search, net_of, live_of, seeker, SoundSearch, chosen_ids, Prefix, span_at, span, sought}
use Rattle.support.proofs.Chosen.{chosen-indices}

-- ---- Members

module _ (Q : Search) (R : SoundSearch Q) where
  pub rises : pairwise ltb Q.members ≡ true
  rises = and_right (all (λ (r : ℕ). ltb r (length (net_of Q).relations)) Q.members) (pairwise ltb Q.members) R.members

  rising-differ : (i j : ℕ) → i < j → j < length Q.members → get_or Q.members i 0 ≡ get_or Q.members j 0 → ⊥
  rising-differ i j h l e = let b = ltb-true (get_or Q.members i 0) (get_or Q.members j 0) (pairwise-get_d ltb Q.members i j 0 rises h l) in omega arith

  -- one place to a relation
  pub members-apart : (i j : ℕ) → i < length Q.members → j < length Q.members → (i ≡ j → ⊥) → get_or Q.members i 0 ≡ get_or Q.members j 0 → ⊥
  members-apart i j hi hj d e = go (ltb i j) refl
    where
      go : (b : Bool) → ltb i j ≡ b → ⊥
      go true q = rising-differ i j (ltb-true i j q) hj e
      go false q = let l = ltb-false i j q in rising-differ j i (omega arith) hi (sym e)

  pub few-tuples : total (net_of Q) ≤ 4096
  few-tuples = tuples-few R.laid.framed

  module _ (j : ℕ) (inside : j < length Q.members) where
    abbrev rel : ℕ
    rel = get_or Q.members j 0

    pub exists : rel < length (net_of Q).relations
    exists =
        ltb-true rel (length (net_of Q).relations)
        (all_get_d (λ (r : ℕ). ltb r (length (net_of Q).relations)) Q.members j 0
        (and_left (all (λ (r : ℕ). ltb r (length (net_of Q).relations)) Q.members) (pairwise ltb Q.members) R.members) inside)

    pub member_below : rel < 64
    member_below = omega (arith, exists, relations-few R.laid.framed)

    pub member-start : tuple_start Q.lists.starts rel ≡ first_id (net_of Q) rel
    member-start = tuple-start R.laid.framed rel (omega (arith, member_below))

    pub member-end : tuple_start Q.lists.starts (rel + 1) ≡ first_id (net_of Q) rel + size (net_of Q) rel
    member-end = tuple-end R.laid.framed rel member_below

    pub member-within : first_id (net_of Q) rel + size (net_of Q) rel ≤ total (net_of Q)
    member-within = before-within tuples_in (net_of Q).relations rel exists

-- ---- The walk

-- The walk lies within the relation's ids, which begin at first and are `size` many, and ends with them.
pub record Inside (first size : ℕ) (s : Span) : Type 0 where
  pub first-is : s.first ≡ first
  pub from_first : first ≤ s.start
  pub forward : s.start ≤ s.end
  pub end_is : s.end ≡ first + size

inside-span : (xs : List ℕ) (r from size : ℕ) (resumes : Bool) → tuple_start xs (r + 1) ≡ tuple_start xs r + size → from ≤ size → Inside (tuple_start xs r) size (span_at xs r resumes from)
inside-span xs r from size true e l = record { first-is = refl; from_first = omega arith; forward = omega arith; end_is = e }
inside-span xs r from size false e l = record { first-is = refl; from_first = omega arith; forward = omega arith; end_is = e }

module _ (Q : Search) (k : ℕ) (R : SoundSearch Q) (inside : k < length Q.members) where
  abbrev rel-at : ℕ
  rel-at = get_or Q.members k 0

  pub span-inside : (resumes : Bool) → Inside (first_id (net_of Q) rel-at) (size (net_of Q) rel-at) (span Q k resumes)
  span-inside resumes =
      subst (λ (n : ℕ). Inside n (size (net_of Q) rel-at) (span Q k resumes)) (member-start Q R k inside)
      (inside-span Q.lists.starts rel-at (get_or Q.low k 0) (size (net_of Q) rel-at) resumes
      (member-end Q R k inside ∙ ap (λ (n : ℕ). n + size (net_of Q) rel-at) (sym (member-start Q R k inside))) (R.low-within k inside))

  -- ---- What the walk leaves out

  module _ (resumes : Bool) (chosen : List ℕ) (B : Prefix Q k resumes chosen) (sized : length chosen ≡ 4) (low-sized : length Q.low ≡ 4) where
    abbrev ids : List ℕ
    ids = chosen_ids (net_of Q) Q.members chosen k

    abbrev later : List (List ℕ)
    later = map (ids_of (net_of Q)) (drop (suc k) Q.members)

    abbrev first : ℕ
    first = first_id (net_of Q) rel-at

    -- an id before the bound, where the search resumes, leads to nothing
    nowhere-early : (x : ℕ) → resumes ≡ true → first ≤ x → x < first + get_or Q.low k 0 → completion (net_of Q) (live_of Q) (seeker Q) Q.low (ids ++ (x ∷ [])) later ≡ none
    nowhere-early x e l h =
        let N = net_of Q in
        let i : x ≡ first + (x - first) = omega arith in
        let b : x - first < get_or Q.low k 0 = omega arith in
        let s : k < 4 = omega (arith, R.few) in
        completion-early N (live_of Q) (seeker Q) Q.low (ids ++ (x ∷ [])) later
        (ap (λ (is : List ℕ). earlier is Q.low)
        (map-append (index_of N) ids (x ∷ [])
        ∙ ap₂ (λ (is : List ℕ) (j : ℕ). is ++ (j ∷ []))
        (chosen-indices N Q.members chosen k (omega arith) B.within ∙ B.at_low e)
        (ap (index_of N) i ∙ index_of-at N rel-at (x - first) (omega (arith, R.low-within k inside))))
        ∙ earlier-below k (x - first) Q.low (omega arith) b)

    before-walk : (x : ℕ) → first ≤ x → (resumed : Bool) → resumes ≡ resumed → x < cond resumed (first + get_or Q.low k 0) first → completion (net_of Q) (live_of Q) (seeker Q) Q.low (ids ++ (x ∷ [])) later ≡ none
    before-walk x l true q h = nowhere-early x q l h
    before-walk x l false q h = absurd (omega arith)

    abbrev pub remains : ℕ → ℕ → Option (List ℕ)
    remains = reach (net_of Q) (live_of Q) (seeker Q) Q.low ids later

    -- the walk finds what there is to find
    pub walk-whole : remains (span Q k resumes).start (span Q k resumes).end ≡ sought Q k chosen
    walk-whole =
        let N = net_of Q in
        let s = span Q k resumes in
        let i = span-inside resumes in
        let start_is : s.start ≡ cond resumes (first + get_or Q.low k 0) first = ap (λ (f : ℕ). cond resumes (f + get_or Q.low k 0) f) (member-start Q R k inside) in
        let n : s.end - first ≡ size N rel-at = omega (arith, i.end_is) in
        sym
        (rw (drop-cons Q.members k 0 inside)
        (ap (λ (m : ℕ). completion N (live_of Q) (seeker Q) Q.low ids (from first m ∷ later)) (sym n)
        ∙ reach-skip N (live_of Q) (seeker Q) Q.low ids later first s.start s.end i.from_first i.forward
        (λ x b. before-walk x b.0 resumes refl (subst (λ (y : ℕ). x < y) start_is b.1))))
