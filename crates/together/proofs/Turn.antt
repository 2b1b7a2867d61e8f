-- Laws of the two walks: over the tuples of a member, each chosen in turn, and over the seeking tuples at the last member.
-- From the laws of one tuple more chosen, of steps one after the other, and of the order.
use mathlib.Core.Path.{◌≡◌, sym, ◌∙◌, ap, subst}
use mathlib.Core.Bool.{true, false}
use mathlib.Core.List.{List}
use Prim.Native.Nat.{ℕ, ◌≤◌, ◌<◌}
use native.Mathlib.Decide.{ℕ_discrete, dec_lt}
use native.Mathlib.Omega.{arith}
use lib.ListN.{length, get_or, set}
use Rattle.model.specs.Lists.{earlier}
use Rattle.model.specs.LiveWords.{is_live}
use Rattle.model.proofs.Bools.{not-both}
use Rattle.live.proofs.Ahead.{NextLive}
use Rattle.narrowing.specs.Narrows.{Long}
use Rattle.support.specs.Search.{place_behind}
use Rattle.together.specs.Together.{Joint, tuple_at, size_at, own_size, own_at, SoundJoint, SeekAt, Completes, Taken, Takes, TakesOne, Seeks, SeeksWith}
use Rattle.together.proofs.Places.{earlier-past, completes-own, completes-less, completes-more}
use Rattle.together.proofs.Frames.{takes_none, takes-on}

module _ (Q : Joint) (start k : ℕ) (chosen words pending₀ numbers₀ : List ℕ) where
  -- The walk has come to id `at`: if steps are left, the tuples that still seek have no support with a tuple before.
  pub record Reached (left at : ℕ) (pending numbers : List ℕ) : Type 0 where
    pub takes : Takes Q start k chosen words pending₀ pending numbers₀ numbers
    pub none : (left ≡ 0 → ⊥) → (x : ℕ) (is : List ℕ) → x < own_size Q → is_live words (own_at Q x) ≡ true → is_live pending (own_at Q x) ≡ true → Completes Q k chosen words x is → tuple_at Q k (get_or is k 0) < at → ⊥

  -- The walk has come to id `at`: the tuples before that still seek have no support.
  pub record Passed (at : ℕ) (pending numbers : List ℕ) : Type 0 where
    pub takes : Takes Q start k chosen words pending₀ pending numbers₀ numbers
    pub none : (x : ℕ) (is : List ℕ) → x < own_size Q → is_live words (own_at Q x) ≡ true → is_live pending (own_at Q x) ≡ true → Completes Q k chosen words x is → own_at Q x < at → ⊥

module _ {Q : Joint} {index : List ℕ} {k : ℕ} {chosen : List ℕ} (T : SeekAt Q index k chosen) (start : ℕ) (words pending₀ numbers₀ : List ℕ) where
  abbrev S : SoundJoint Q index
  S = T.sound

  -- ---- Over the tuples of member k

  -- the tuple of member k is live
  living : (x : ℕ) (is : List ℕ) → Completes Q k chosen words x is → is_live words (tuple_at Q k (get_or is k 0)) ≡ true
  living x is C = C.behind k (omega arith) T.inside T.other

  pub reached-first : (left at : ℕ) → Long pending₀ → at ≡ tuple_at Q k 0 → Reached Q start k chosen words pending₀ numbers₀ left at pending₀ numbers₀
  reached-first left at long e =
      record { takes = takes_none Q start k chosen words pending₀ numbers₀ long; none = λ n x is h l p C b. absurd (omega (arith, e, b)) }

  -- ids that are not live are passed over
  reached_on : {left at : ℕ} {pending numbers : List ℕ} → Reached Q start k chosen words pending₀ numbers₀ left at pending numbers → (g : ℕ) → ((i : ℕ) → at ≤ i → i < g → is_live words i ≡ false) → Reached Q start k chosen words pending₀ numbers₀ left g pending numbers
  reached_on {left} {at} {pending} {numbers} R g dead =
      record { takes = R.takes; none = λ n x is h l p C b. go n x is h l p C b (dec_lt (tuple_at Q k (get_or is k 0)) at) }
    where
      go : (left ≡ 0 → ⊥) → (x : ℕ) (is : List ℕ) → x < own_size Q → is_live words (own_at Q x) ≡ true → is_live pending (own_at Q x) ≡ true → Completes Q k chosen words x is → tuple_at Q k (get_or is k 0) < g → Dec (tuple_at Q k (get_or is k 0) < at) → ⊥
      go n x is h l p C b (yes a) = R.none n x is h l p C a
      go n x is h l p C b (no a) = not-both (living x is C) (dead (tuple_at Q k (get_or is k 0)) (omega arith) b)

  module _ (sized : length chosen ≡ 4) {left at g at' end : ℕ} {pending numbers : List ℕ} (R : Reached Q start k chosen words pending₀ numbers₀ left at pending numbers) (more-steps : left ≡ 0 → ⊥) (N : NextLive words end at g at') (y : ℕ) (id-y : tuple_at Q k y ≡ g) {left' : ℕ} {pending' numbers' : List ℕ} (W : SeeksWith Q start k chosen y words pending pending' numbers numbers' left') where
    abbrev on : ℕ
    on = place_behind Q.place k

    abbrev more : List ℕ
    more = set chosen k y

    k-in : k < length chosen
    k-in = omega (arith, sized, T.inside, S.members.few)

    up-to : Reached Q start k chosen words pending₀ numbers₀ left g pending numbers
    up-to = reached_on R g N.none_before

    -- what a tuple takes with y is the first of all
    module _ (x : ℕ) (h : x < own_size Q) (seeks : is_live pending (own_at Q x) ≡ true) (t : Taken Q start on more words x numbers') where
      own_is : get_or t.support k 0 ≡ y
      own_is = completes-own Q k chosen y k-in T.other words x t.support t.completes

      y-lives : is_live words (tuple_at Q k y) ≡ true
      y-lives = ap (is_live words) id-y ∙ N.live

      less : Completes Q k chosen words x t.support
      less = completes-less Q k chosen y k-in T.other words x t.support y-lives t.completes

      module _ (us : List ℕ) (C : Completes Q k chosen words x us) where
        -- the same before k
        same : (j : ℕ) → j < k → get_or us j 0 ≡ get_or t.support j 0
        same j l = go (ℕ_discrete j Q.place)
          where
            go : Dec (j ≡ Q.place) → get_or us j 0 ≡ get_or t.support j 0
            go (yes q) = ap (λ (i : ℕ). get_or us i 0) q ∙ C.own ∙ sym less.own ∙ ap (λ (i : ℕ). get_or t.support i 0) (sym q)
            go (no d) = C.before j (record { below = l; other = d }) ∙ sym (less.before j (record { below = l; other = d }))

        lowest : Dec (get_or us k 0 < y) → Dec (get_or us k 0 ≡ y) → earlier us t.support ≡ false
        lowest (yes l) d = absurd (up-to.none more-steps x us h t.lives seeks C (omega (arith, id-y)))
        lowest (no l) (yes q) = t.lowest us (completes-more Q k chosen y k-in T.other words x us q C)
        lowest (no l) (no d) = earlier-past us t.support k (omega (arith, C.long, T.inside)) (omega (arith, less.long, T.inside)) same (omega (arith, own_is))

      taken : Taken Q start k chosen words x numbers'
      taken =
          record {
            lives = t.lives;
            support = t.support;
            completes = less;
            lowest = λ us C. lowest us C (dec_lt (get_or us k 0) y) (ℕ_discrete (get_or us k 0) y);
            held = t.held;
          }

    step : Takes Q start k chosen words pending pending' numbers numbers'
    step = record { frames = W.takes.frames; taken = λ x h b a. taken x h b (W.takes.taken x h b a) }

    pub reached-next : Reached Q start k chosen words pending₀ numbers₀ left' at' pending' numbers'
    reached-next =
        record {
          takes = takes-on Q start k chosen words R.takes step;
          none = λ n x is h l p C b. go n x is h l p C b (dec_lt (get_or is k 0) y) (ℕ_discrete (get_or is k 0) y);
        }
      where
        go : (left' ≡ 0 → ⊥) → (x : ℕ) (is : List ℕ) → x < own_size Q → is_live words (own_at Q x) ≡ true → is_live pending' (own_at Q x) ≡ true → Completes Q k chosen words x is → tuple_at Q k (get_or is k 0) < at' → Dec (get_or is k 0 < y) → Dec (get_or is k 0 ≡ y) → ⊥
        go n x is h l p C b (yes a) d = up-to.none more-steps x is h l (W.takes.frames.inside (own_at Q x) p) C (omega (arith, id-y))
        go n x is h l p C b (no a) (yes q) = W.none n x is h l p (completes-more Q k chosen y k-in T.other words x is q C)
        go n x is h l p C b (no a) (no d) = omega (arith, id-y, N.behind, b)

  pub reached-end : {left at : ℕ} {pending numbers : List ℕ} → Reached Q start k chosen words pending₀ numbers₀ left at pending numbers → (end : ℕ) → end ≡ tuple_at Q k (size_at Q k) → ((i : ℕ) → at ≤ i → i < end → is_live words i ≡ false) → Seeks Q start k chosen words pending₀ pending numbers₀ numbers left
  reached-end R end e dead =
      record { takes = R.takes; none = λ n x is h i p C. (reached_on R end dead).none n x is h i p C (omega (arith, e, C.within k T.inside)) }

  -- ---- Over the seeking tuples, at the last member

  pub passed-first : (at : ℕ) → Long pending₀ → at ≡ own_at Q 0 → Passed Q start k chosen words pending₀ numbers₀ at pending₀ numbers₀
  passed-first at long e =
      record { takes = takes_none Q start k chosen words pending₀ numbers₀ long; none = λ x is h l p C b. absurd (omega (arith, e, b)) }

  -- ids that are not live are passed over
  passed_on : {at : ℕ} {pending numbers : List ℕ} → Passed Q start k chosen words pending₀ numbers₀ at pending numbers → (g : ℕ) → ((i : ℕ) → at ≤ i → i < g → is_live words i ≡ false) → Passed Q start k chosen words pending₀ numbers₀ g pending numbers
  passed_on {at} {pending} {numbers} R g dead =
      record { takes = R.takes; none = λ x is h l p C b. go x is h l p C b (dec_lt (own_at Q x) at) }
    where
      go : (x : ℕ) (is : List ℕ) → x < own_size Q → is_live words (own_at Q x) ≡ true → is_live pending (own_at Q x) ≡ true → Completes Q k chosen words x is → own_at Q x < g → Dec (own_at Q x < at) → ⊥
      go x is h l p C b (yes a) = R.none x is h l p C a
      go x is h l p C b (no a) = not-both l (dead (own_at Q x) (omega arith) b)

  module _ {at g at' end : ℕ} {pending numbers : List ℕ} (R : Passed Q start k chosen words pending₀ numbers₀ at pending numbers) (N : NextLive words end at g at') (y : ℕ) (id-y : own_at Q y ≡ g) {pending' numbers' : List ℕ} (W : TakesOne Q start k chosen words y pending pending' numbers numbers') where
    pub passed-next : Passed Q start k chosen words pending₀ numbers₀ at' pending' numbers'
    passed-next =
        record {
          takes = takes-on Q start k chosen words R.takes W.takes;
          none = λ x is h l p C b. go x is h l p C b (dec_lt x y) (ℕ_discrete y x);
        }
      where
        go : (x : ℕ) (is : List ℕ) → x < own_size Q → is_live words (own_at Q x) ≡ true → is_live pending' (own_at Q x) ≡ true → Completes Q k chosen words x is → own_at Q x < at' → Dec (x < y) → Dec (y ≡ x) → ⊥
        go x is h l p C b (yes a) d = (passed_on R g N.none_before).none x is h l (W.takes.frames.inside (own_at Q x) p) C (omega (arith, id-y))
        go x is h l p C b (no a) (yes q) =
            W.none (subst (λ (z : ℕ). is_live pending' (own_at Q z) ≡ true) (sym q) p) is (subst (λ (z : ℕ). Completes Q k chosen words z is) (sym q) C)
        go x is h l p C b (no a) (no d) = omega (arith, id-y, N.behind, b)

  pub passed-end : (left : ℕ) {at : ℕ} {pending numbers : List ℕ} → Passed Q start k chosen words pending₀ numbers₀ at pending numbers → (end : ℕ) → end ≡ own_at Q (own_size Q) → ((i : ℕ) → at ≤ i → i < end → is_live words i ≡ false) → Seeks Q start k chosen words pending₀ pending numbers₀ numbers left
  passed-end left R end e dead =
      record { takes = R.takes; none = λ n x is h i p C. (passed_on R end dead).none x is h i p C (omega (arith, e, h)) }
