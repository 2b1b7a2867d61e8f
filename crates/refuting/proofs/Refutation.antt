-- Laws of refutation: a tuple of one member that leads to nothing, all of them, and the seeking tuple.
-- From the parts of a candidate, and what a narrowing keeps.
use mathlib.Core.Path.{◌≡◌, refl, sym, ◌∙◌, ap, ap₂, subst}
use mathlib.Core.Bool.{Bool, true, false}
use mathlib.Core.List.{List, map}
use Prim.Native.Nat.{ℕ, ◌+◌, ◌≤◌, ◌<◌}
use native.Mathlib.Decide.{ℕ_discrete}
use native.Mathlib.Omega.{arith}
use lib.ListN.{length, get_or}
use Rattle.model.specs.Network.{Network, size, total, first_id, index_of}
use Rattle.model.specs.Agreement.{agree}
use Rattle.model.specs.Combination.{Combination}
use Rattle.model.specs.LiveWords.{is_set, is_live}
use Rattle.model.proofs.Bools.{not-both}
use Rattle.model.proofs.Lists.{from-mem}
use Rattle.model.proofs.LiveWords.{living-has}
use Rattle.model.proofs.Network.{ids-below}
use Rattle.model.proofs.Support.{candidates-at, candidates-index, candidates-id}
use Rattle.layout.specs.Setting.{Lists, network_in, SoundLists}
use Rattle.narrowing.specs.Narrows.{Narrowed}
use Rattle.spreading.specs.Spread.{Members}
use Rattle.spreading.proofs.Kept.{member_below, agree-two, differ}
use Rattle.refuting.specs.Refuted.{Without, Left, OthersLeft, BareLeft, Unmet, Completes, Refuted, RefutedWith, Alone, Taken}

-- ---- Places

-- a place in a set is not one that is not
apart : (left i j : ℕ) → is_set left i ≡ true → is_set left j ≡ false → i ≡ j → ⊥
apart left i j h d e = not-both h (ap (is_set left) e ∙ d)

-- a place that is not in the set is not in it without another
pub without-out : {left j rest : ℕ} → Without left j rest → (i : ℕ) → is_set left i ≡ false → is_set rest i ≡ false
without-out {left} {j} {rest} D i d = go (is_set rest i) refl
  where
    go : (b : Bool) → is_set rest i ≡ b → is_set rest i ≡ false
    go true e = absurd (not-both (D.inside i e) d)
    go false e = e

-- the members left are other relations than that of the tuple taken
pub others-left : {L : Lists} → SoundLists L → {c : Combination} → Members (network_in L) c → {place left i x : ℕ} → Taken (network_in L) c place left i x → OthersLeft c left (get_or c i 0)
others-left {L} laid {c} M {place} {left} {i} T =
    record {
      few = λ j l. member_below laid M j l.inside;
      other = λ j l. differ (network_in L) c M j i l.inside T.inside (apart left j i l.in-set T.gone);
    }

module _ (N : Network) (c : Combination) (place own : ℕ) (words : List ℕ) where
  -- the tuple at place j, by its index
  abbrev at : List ℕ → ℕ → ℕ
  at t j = get_or (map (index_of N) t) j 0

  -- ---- With one tuple

  module _ (left i x : ℕ) (inside : place < length c) (T : Taken N c place left i x) where
    -- it clashes with the seeking tuple
    pub with-clash : agree N (first_id N (get_or c place 0) + own) (first_id N (get_or c i 0) + x) ≡ false → RefutedWith N c place own words left i x
    with-clash clash t C e =
        not-both (ap₂ (agree N) (sym C.seeking) (sym e) ∙ agree-two N c C.candidate C.agrees place i inside T.inside (λ q. T.other (sym q))) clash

    -- no live tuple of the member at j agrees with both
    pub with-unmet : (j : ℕ) → Left c left j → Unmet N (get_or c i 0) x (get_or c j 0) (get_or c place 0) own words → RefutedWith N c place own words left i x
    with-unmet j l none t C e =
        let is-j = candidates-id N c C.candidate j l.inside in
        none (at t j) (candidates-index N c C.candidate j l.inside)
        (ap (is_live words) is-j ∙ C.lives j l)
        (ap₂ (agree N) (sym e) is-j ∙ agree-two N c C.candidate C.agrees i j T.inside l.inside (λ q. apart left j i l.in-set T.gone (sym q)))
        (ap₂ (agree N) (sym C.seeking) is-j ∙ agree-two N c C.candidate C.agrees place j inside l.inside (λ q. apart left j place l.in-set T.not_own (sym q)))

    module _ (fewer : List ℕ) (W : Narrowed N (first_id N (get_or c i 0) + x) words fewer) where
      -- what completes it lives in the words narrowed for it
      narrowed : (t : List ℕ) → Completes N c place own words left t → get_or t i 0 ≡ first_id N (get_or c i 0) + x → Completes N c place own fewer left t
      narrowed t C e =
          record {
            candidate = C.candidate;
            agrees = C.agrees;
            seeking = C.seeking;
            lives = λ j l.
                let is-j = candidates-id N c C.candidate j l.inside in
                subst (λ (g : ℕ). is_live fewer g ≡ true) is-j
                (W.keeps (get_or c j 0) (at t j) (candidates-index N c C.candidate j l.inside)
                (ap₂ (agree N) (sym e) is-j ∙ agree-two N c C.candidate C.agrees i j T.inside l.inside (λ q. apart left j i l.in-set T.gone (sym q)))
                (ap (is_live words) is-j ∙ C.lives j l));
          }

      pub with-bare : BareLeft N c left fewer → RefutedWith N c place own words left i x
      with-bare B t C e =
          let m = C.candidate in
          let l = B.at in
          not-both (ap (is_live fewer) (candidates-id N c m B.j l.inside) ∙ (narrowed t C e).lives B.j l)
          (B.dead (at t B.j) (candidates-index N c m B.j l.inside))

      pub with-refuted : Refuted N c place own fewer left → RefutedWith N c place own words left i x
      with-refuted R t C e = R t (narrowed t C e)

  -- ---- All tuples of a member

  -- those of the member at `best` before id g lead to nothing
  abbrev pub Past : ℕ → ℕ → ℕ → Type 0
  Past left best g = (t : List ℕ) → Completes N c place own words left t → g ≤ get_or t best 0

  module _ (left best : ℕ) (l : Left c left best) where
    abbrev first : ℕ
    first = first_id N (get_or c best 0)

    bounds : (t : List ℕ) → Completes N c place own words left t → (first ≤ get_or t best 0) × (get_or t best 0 < first + size N (get_or c best 0))
    bounds t C = from-mem first (size N (get_or c best 0)) (get_or t best 0) (candidates-at N c C.candidate best l.inside).1

    pub past-none : Past left best first
    past-none t C = (bounds t C).0

    -- no live one is from i to g
    pub past_on : {i g : ℕ} → Past left best i → ((j : ℕ) → i ≤ j → j < g → is_live words j ≡ false) → Past left best g
    past_on {g = g} P none t C = let late : get_or t best 0 < g → ⊥ = λ h. not-both (C.lives best l) (none (get_or t best 0) (P t C) h) in omega (arith, late)

    -- one more
    pub past_one : (rest x g : ℕ) → Without left best rest → first + x ≡ g → RefutedWith N c place own words rest best x → Past left best g → Past left best (g + 1)
    past_one rest x g D is R P t C = go (ℕ_discrete (get_or t best 0) g)
      where
        fewer : Completes N c place own words rest t
        fewer = record { candidate = C.candidate; agrees = C.agrees; seeking = C.seeking; lives = λ j k. C.lives j (record { inside = k.inside; in-set = D.inside j k.in-set }) }

        go : Dec (get_or t best 0 ≡ g) → g + 1 ≤ get_or t best 0
        go (yes e) = absurd (R t fewer (e ∙ sym is))
        go (no d) = omega (arith, P t C, d)

    pub past_all : (g : ℕ) → first + size N (get_or c best 0) ≤ g → Past left best g → Refuted N c place own words left
    past_all g h P t C = omega (arith, (bounds t C).1, P t C, h)

  -- ---- The seeking tuple

  pub alone : (left : ℕ) → is_set left place ≡ false → Refuted N c place own words left → Alone N c place own words
  alone left d R P =
      R P.tuples
      (record {
        candidate = P.candidate;
        agrees = P.agreeing;
        seeking = P.own;
        lives = λ j l.
            sym (living-has (total N) words (get_or P.tuples j 0) (ids-below N (get_or c j 0) (candidates-at N c P.candidate j l.inside).1))
            ∙ P.living j l.inside (apart left j place l.in-set d);
      })
